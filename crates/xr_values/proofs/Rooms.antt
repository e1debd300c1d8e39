-- What a call's operands and its result leave room for.
use Rattle.xr_values.proofs.Common.{List, Node, Pushes, [], ap, append-nil, are_distinct, arith, axis_names, shape_over, sum_by, true, value, ℕ, ◌*◌, ◌++◌, ◌+◌, ◌∷◌, ◌≡◌, ◌≤◌}
use Rattle.std.proofs.lemmas.Nat.{mul-le}
use Rattle.xr_types.specs.Points.{size}
use Rattle.xr_arrays.specs.Added.{AddsAtMost}
use Rattle.xr_defs.specs.Values.{DataArray}
use Rattle.xr_defs.specs.Room.{AddsForAny, Portion, count, of_array, room, span}
use Rattle.xr_defs.proofs.Spans.{back_among, greatest_both, points_above}
use Rattle.plan_core.proofs.Added.{adds_one, adds_up}

-- so many spans
pub in_room : (old new : List Node) (p q : Portion) (m : ℕ) → m ≤ 256 * (count p + count q) → AddsAtMost old new (m * span (p.axes ++ q.axes)) → AddsAtMost old new (room (p ∷ q ∷ []))
unfolding room
in_room old new p q m le adds =
    let k = sum_by count (p ∷ q ∷ []) in
    let s = span (p.axes ++ q.axes) in
    adds_up old new (m * s) (256 * k * span (p.axes ++ (q.axes ++ []))) (rw append-nil (mul-le m s (256 * k) s (omega arith) (omega arith))) adds

-- one node that is the array's
pub array_added : (old new : List Node) (node : Node) (place : ℕ) (b : DataArray) → Pushes old new node place → (value new place).shape ≡ shape_over b.axes → are_distinct (axis_names b.axes) ≡ true → AddsForAny old new b
array_added old new node place b pushes shape d p =
    let le = points_above b.axes (p.axes ++ b.axes) d (back_among p.axes b.axes) (λ n. let both = greatest_both p.axes b.axes n in omega arith) in
    let cells : size (value new place).shape ≡ size (shape_over b.axes) = ap size shape in
    in_room old new p (of_array b) 1 (omega arith) (adds_one old new node place (1 * span (p.axes ++ b.axes)) pushes (omega arith))
