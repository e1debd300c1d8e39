-- What stands at positions of an axis is the value of a node that takes them.
use Rattle.std.proofs.Common.{◌≡◌, ◌<◌, ℕ, ℤ, Bool, true, false, List, length, set, get_or, Option, Some, None, refl, ap}
use Rattle.std.specs.List.{All}
use Rattle.std.specs.Option.{option_map}
use Rattle.xr_arrays.specs.Arrays.{Array}
use Rattle.xr_arrays.specs.Nodes.{IsBelow, along, with_axis, without, from_source, taken_or_picked}
use Rattle.plan_core.specs.Arrangements.{cell_from, rearranged, LieInside}
use Rattle.plan_core.specs.Takes.{taking_sizes, taking_point, taken_point, picked_point}
use Rattle.plan_core.proofs.Tabs.{tab_same}
use Rattle.plan_core.proofs.Takes.{taking_inside}

cell_is : (a : Array) (fill : Option ℤ) (point : ℕ → List ℕ) (o : Option ℕ) → cell_from a fill (option_map point o) ≡ from_source a fill point o
cell_is a fill point None = refl
cell_is a fill point (Some i) = refl

pub takes : (drops : Bool) (a : Array) (axis : ℕ) (from : List (Option ℕ)) (fill : Option ℤ) → rearranged a (taking_sizes drops a.shape axis from) (taking_point drops axis from) fill ≡ taken_or_picked drops a axis from fill
takes true a axis from fill =
    ap (λ cells. record { kind = a.kind; shape = without axis a.shape; cells = cells })
    (tab_same (without axis a.shape) (λ p. cell_from a fill (picked_point axis (get_or from 0 None) p)) (λ p. from_source a fill (λ i. with_axis axis i p) (get_or from 0 None)) (λ p here. cell_is a fill (λ i. with_axis axis i p) (get_or from 0 None)))
takes false a axis from fill =
    ap (λ cells. record { kind = a.kind; shape = set a.shape axis (length from); cells = cells })
    (tab_same (set a.shape axis (length from)) (λ p. cell_from a fill (taken_point axis from p)) (λ p. from_source a fill (λ i. along axis i p) (get_or from (get_or p axis 0) None)) (λ p here. cell_is a fill (λ i. along axis i p) (get_or from (get_or p axis 0) None)))

pub inside : (drops : Bool) (s : List ℕ) (axis : ℕ) (from : List (Option ℕ)) → axis < length s → All (IsBelow (get_or s axis 0)) from → (drops ≡ true → length from ≡ 1) → LieInside s (taking_sizes drops s axis from) (taking_point drops axis from)
inside = taking_inside
