use Rattle.std.proofs.Common.{◌≡◌, ◌++◌, length, take}
use Rattle.std.specs.List.{flat_map}
use Rattle.xr_files.specs.Canonical.{placed, var_text}
use Rattle.cdf_writer.specs.Sizes.{list_front}
use Rattle.cdf_writer.proofs.text.put_vars.Given as goal

abbrev pub invariant-loop-i : goal.invariant-loop-i
invariant-loop-i l = l.out.items ≡ l.fn.out.items ++ (list_front l.file.version 11 (length l.file.vars) ++ flat_map (var_text l.file.version l.file.dims) (take l.i (placed l.file)))
