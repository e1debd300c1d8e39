use Rattle.xr_values.proofs.Common.{drop, hidden, map, option_map, pointwise, same_cell, ◌≡◌}
use Rattle.xr_values.proofs.coords.same_typed.Given as goal

abbrev pub invariant-loop-i : goal.invariant-loop-i
invariant-loop-i g l =
    pointwise same_cell (drop l.i (hidden (map g.A.Elem.number l.a) (option_map (λ m. m.now) l.a_mask))) (drop l.i (hidden (map g.B.Elem.number l.b) (option_map (λ m. m.now) l.b_mask)))
    ≡ pointwise same_cell (hidden (map g.A.Elem.number l.a) (option_map (λ m. m.now) l.a_mask)) (hidden (map g.B.Elem.number l.b) (option_map (λ m. m.now) l.b_mask))
