use Rattle.std.proofs.Common.{◌≡◌, ◌++◌, take}
use Rattle.std.specs.List.{flat_map}
use Rattle.xr_files.specs.Canonical.{count_text}
use Rattle.cdf_writer.proofs.text.put_dim_numbers.Given as goal

abbrev pub invariant-loop-number : goal.invariant-loop-number
invariant-loop-number l = l.out.items ≡ l.fn.out.items ++ flat_map (count_text l.version) (take l.number-index l.numbers)
