use Rattle.std.proofs.Common.{◌≡◌, ◌++◌, length, take}
use Rattle.std.specs.List.{flat_map}
use Rattle.xr_files.specs.Canonical.{attr_text}
use Rattle.cdf_writer.specs.Sizes.{list_front}
use Rattle.cdf_writer.proofs.text.put_attrs.Given as goal

abbrev pub invariant-loop-attr : goal.invariant-loop-attr
invariant-loop-attr l = l.out.items ≡ l.fn.out.items ++ (list_front l.version 12 (length l.attrs) ++ flat_map (attr_text l.version) (take l.attr-index l.attrs))
