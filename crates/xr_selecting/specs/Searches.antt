-- What a search of the program stands for.
use Rattle.xr_operations.specs.Selection as of
use Rattle.xr_selecting.specs.declared.options.Search.{Search}

abbrev pub search_in : Search → of.Search
search_in s = record { method = s.method; tolerance = s.tolerance }
