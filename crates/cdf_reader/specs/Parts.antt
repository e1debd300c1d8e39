-- The parts of a header as the code keeps them.
use Rattle.xr_files.specs.Classic.{Header}
use Rattle.cdf_reader.specs.declared.variables.HeaderParts.{HeaderParts}

abbrev pub header_of : HeaderParts → Header
header_of p = record { numrecs = p.numrecs; dims = p.dims; attrs = p.attrs; vars = p.vars }
