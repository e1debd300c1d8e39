use Rattle.std.proofs.Common.{◌≡◌, drop, map}
use Rattle.xr_files.specs.declared.file.CdfDim.{CdfDim}
use Rattle.xr_types.specs.Names.{among}
use Rattle.xr_decode.proofs.role.is_dimension.Given as goal

abbrev pub invariant-loop-dim : goal.invariant-loop-dim
invariant-loop-dim l = among (map (λ (d : CdfDim). d.name) (drop l.dim-index l.dims)) l.name ≡ among (map (λ (d : CdfDim). d.name) l.dims) l.name
