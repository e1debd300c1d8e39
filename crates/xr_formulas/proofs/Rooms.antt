-- What a call makes, as a value of the plan.
use Rattle.xr_formulas.proofs.Common.{AddsAtMost, AddsBeside, AddsForAny, DataArray, IsArrayOf, List, Node, Portion, StandsFor, Value, [], adds_up, ap, arith, array_in, back_among, count, greatest_both, meaning, mul-le, of_array, portions, room, span, span_up, subst, sym, ◌*◌, ◌++◌, ◌+◌, ◌∙◌, ◌∷◌, ◌≡◌, ◌≤◌}
use Rattle.std.proofs.lemmas.Grind.{flat_map-append}
use Rattle.std.proofs.lemmas.List.Sums.{sum_by-append}
use Rattle.std.specs.List.{flat_map, sum_by}
use Rattle.std.specs.declared.alloc.Global.{Global}
use Rattle.std.specs.declared.rc.Rc.{Rc}
use Rattle.xr_defs.specs.Meanings as of
use Rattle.xr_defs.specs.Values as values
use Rattle.xr_arguments.proofs.Inside.{array_inside}
use Rattle.xr_arguments.proofs.Variants.{is_array}
use Rattle.xr_values.specs.declared.value.Value.TheVariants as variants

-- ---- room beside any operands

abbrev none : Portion
none = record { variables = 0; axes = []; coords = [] }

pub room_beside : (old new : List Node) (b : values.DataArray) → AddsForAny old new b → (ps : List Portion) → AddsAtMost old new (room (ps ++ of_array b ∷ []))
unfolding room
room_beside old new b adds ps =
    let axes = λ (qs : List Portion). flat_map (λ (p : Portion). p.axes) qs in
    let q : List Portion = of_array b ∷ [] in
    let split : axes (ps ++ q) ≡ axes ps ++ axes (none ∷ q) = flat_map-append (λ (p : Portion). p.axes) ps q in
    let up : span (axes (none ∷ q)) ≤ span (axes ps ++ axes (none ∷ q)) = span_up (axes (none ∷ q)) (axes ps ++ axes (none ∷ q)) (back_among (axes ps) (axes (none ∷ q))) (λ k. let both = greatest_both (axes ps) (axes (none ∷ q)) k in omega arith) in
    let same = ap span split in
    let counts : sum_by count (ps ++ q) ≡ sum_by count ps + sum_by count q = sum_by-append count ps q in
    let le = mul-le (256 * sum_by count (none ∷ q)) (span (axes (none ∷ q))) (256 * sum_by count (ps ++ q)) (span (axes (ps ++ q))) (omega arith) (omega arith) in
    adds_up old new (256 * sum_by count (none ∷ q) * span (axes (none ∷ q))) (256 * sum_by count (ps ++ q) * span (axes (ps ++ q))) le (adds none)

-- ---- an array as a value

module _ (new : List Node) (v : Value) (r : Rc DataArray Global) (is : v ≡ variants.Array r) where
  pub array_placed : (means : values.DataArray) → IsArrayOf new means r.value → StandsFor new (of.Array means) v
  array_placed means made = record { is = is_array new v r is ∙ ap of.Array made.is; inside = array_inside new v r is made.inside }

  pub array_room : (old : List Node) → AddsForAny old new (array_in new r.value) → AddsBeside old new (meaning new v)
  array_room old adds ps = subst (λ qs. AddsAtMost old new (room (ps ++ qs))) (sym (ap portions (is_array new v r is))) (room_beside old new (array_in new r.value) adds ps)
