use Rattle.std.proofs.Common.{◌++◌, ℕ, List, take, flat_map}
use Rattle.xr_files.specs.declared.file.CdfVar.{CdfVar}
use Rattle.xr_defs.specs.Decoding.{listed_in}
use Rattle.xr_decode.specs.Listed.{Lists}
use Rattle.xr_decode.proofs.role.add_all_listed.Given as goal

abbrev pub invariant-loop-var : goal.invariant-loop-var
invariant-loop-var l = (names : List (List ℕ)) → Lists l.fn.listed names → Lists l.listed (names ++ flat_map (λ (v : CdfVar). listed_in v.attrs) (take l.var-index l.vars))
