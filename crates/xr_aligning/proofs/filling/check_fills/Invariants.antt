use Rattle.xr_aligning.proofs.Common.{Coming, List, Node, all_of, check_fill_by, drop, meaning, option_map, stands_for, ◌≡◌}
use Rattle.xr_aligning.proofs.filling.check_fills.Given as goal

abbrev pub invariant-loop-one : goal.invariant-loop-one
invariant-loop-one l = (nodes others : List Node)
    → all_of (λ (m : Coming). check_fill_by m.joined (option_map (λ v. meaning nodes v.now) l.fill) (stands_for others m)) (drop l.one-index l.coming) ≡ all_of (λ (m : Coming). check_fill_by m.joined (option_map (λ v. meaning nodes v.now) l.fill) (stands_for others m)) l.coming
