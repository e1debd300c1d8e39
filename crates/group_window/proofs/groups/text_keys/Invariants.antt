use Rattle.std.proofs.Common.{◌≡◌, ◌++◌, drop, map, option_map}
use Rattle.xr_groups.specs.Groups as of
use Rattle.group_window.proofs.groups.text_keys.Given as goal

abbrev pub invariant-loop-text : goal.invariant-loop-text
invariant-loop-text l = map (option_map (λ k. k.now)) l.keys.items ++ of.each_key (drop l.text-index l.texts) ≡ of.each_key l.texts
