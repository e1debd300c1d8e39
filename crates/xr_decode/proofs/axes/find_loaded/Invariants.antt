use Rattle.std.proofs.Common.{◌≡◌, drop}
use Rattle.std.specs.Prelude.{find}
use Rattle.std.specs.Str.{bytes_eq}
use Rattle.xr_files.specs.declared.file.CdfVar.{CdfVar}
use Rattle.xr_defs.specs.Decoding.{loaded_in}
use Rattle.xr_decode.proofs.axes.find_loaded.Given as goal

abbrev pub invariant-loop-var : goal.invariant-loop-var
invariant-loop-var l = find (λ (v : CdfVar). bytes_eq v.name l.name) (loaded_in l.source (drop l.var-index l.vars)) ≡ find (λ (v : CdfVar). bytes_eq v.name l.name) (loaded_in l.source l.vars)
