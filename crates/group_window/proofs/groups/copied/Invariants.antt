use Rattle.std.proofs.Common.{◌≡◌, ◌++◌, drop, map}
use Rattle.group_window.proofs.groups.copied.Given as goal

abbrev pub invariant-loop-text : goal.invariant-loop-text
invariant-loop-text l = l.out ++ map (λ k. k.now) (drop l.text-index l.texts) ≡ map (λ k. k.now) l.texts
