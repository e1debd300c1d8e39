-- The steps by which an array is spread are within what the axes leave room for.
use Rattle.std.proofs.Common.{◌≡◌, ◌≤◌, ◌+◌, ◌*◌, ℕ, true, cond, max, List, [], ◌∷◌, ◌++◌, length, map, refl, sym, ap, subst, ◌∙◌, arith, length-append}
use Rattle.std.specs.List.{AllByRecursion}
use Rattle.std.proofs.lemmas.List.{length-map, map-append}
use Rattle.std.proofs.lemmas.Nat.{mul-le}
use Rattle.xr_types.specs.declared.axis.Axis.{Axis}
use Rattle.xr_arrays.specs.Arrays.{Array}
use Rattle.xr_types.specs.Names.{are_distinct}
use Rattle.xr_types.specs.Names.{among}
use Rattle.xr_arrays.specs.Nodes.{IsOrder}
use Rattle.xr_types.specs.Points.{size}
use Rattle.xr_defs.specs.Room.{once}
use Rattle.xr_defs.specs.Selecting.{axis_called}
use Rattle.xr_types.specs.Names.{axis_names, shape_over}
use Rattle.xr_defs.proofs.Spans.{product_among}
use Rattle.xr_formulas.specs.declared.chain.Step.{Step}
use Rattle.xr_formulas.specs.declared.chain.Step.TheVariants.{Widen, Reorder}
use Rattle.xr_formulas.specs.Chains.{step_value, steps_cells, steps_value, StepsFit}
use Rattle.xr_parts.specs.Frames.{IsThere}
use Rattle.xr_joining.specs.Spreads.{new_axes, order_in, spread, spreading, widens, AreSizedIn}
use Rattle.xr_parts.proofs.Axes.{called_holds, own_axes}
use Rattle.xr_joining.proofs.Spreads.{all_differ, all_sized, front_one, front_shape, fronted, long, ordered, spread_is, steps_both}
use Rattle.xr_parts.proofs.Words.{distinct_parts}

-- ---- steps one after the other

pub fit_both : (ss ts : List Step) (a : Array) → StepsFit ss a → StepsFit ts (steps_value ss a) → StepsFit (ss ++ ts) a
fit_both [] ts a first second = second
fit_both (s ∷ ss) ts a first second = (first.0, fit_both ss ts (step_value s a) first.1 second)

pub cells_both : (ss ts : List Step) (a : Array) → steps_cells (ss ++ ts) a ≡ steps_cells ss a + steps_cells ts (steps_value ss a)
cells_both [] ts a = omega arith
cells_both (s ∷ ss) ts a = let rest = cells_both ss ts (step_value s a) in omega arith

-- ---- axes that are there have no more points than all of them

only_once : (ns : List (List ℕ)) → are_distinct ns ≡ true → once ns ≡ ns
only_once [] d = refl
only_once (n ∷ ns) d = let parts = distinct_parts n ns d in ap (λ b. cond b (once ns) (n ∷ once ns)) parts.0 ∙ ap (λ ms. n ∷ ms) (only_once ns parts.1)

module _ (axes : List Axis) (d : are_distinct (axis_names axes) ≡ true) (some : AllByRecursion (λ (x : Axis). 1 ≤ x.size) axes) where
  abbrev f : List ℕ → ℕ
  f n = max 1 (axis_called axes n).size

  own_sizes : (xs : List Axis) → AllByRecursion (IsThere axes) xs → AllByRecursion (λ (x : Axis). 1 ≤ x.size) xs → size (map f (axis_names xs)) ≡ size (shape_over xs)
  own_sizes [] all pos = refl
  own_sizes (x ∷ xs) all pos =
      let here : f x.name ≡ x.size = ap (λ (y : Axis). max 1 y.size) all.0.1 ∙ (let p = pos.0 in omega arith) in
      ap (λ n. n * size (map f (axis_names xs))) here ∙ ap (λ n. x.size * n) (own_sizes xs all.1 pos.1)

  their_sizes : (xs : List Axis) → AreSizedIn axes xs → size (shape_over xs) ≤ size (map f (axis_names xs))
  their_sizes [] all = omega arith
  their_sizes (x ∷ xs) all = let s = all.0.1 in mul-le x.size (size (shape_over xs)) (f x.name) (size (map f (axis_names xs))) (omega arith) (their_sizes xs all.1)

  pub within : (xs : List Axis) → AreSizedIn axes xs → are_distinct (axis_names xs) ≡ true → size (shape_over xs) ≤ size (shape_over axes)
  within xs all differ =
      let up = their_sizes xs all in
      let over = product_among f (axis_names xs) (axis_names axes) (λ n. omega arith) differ (λ n has. (let one = called_holds (λ (x : Axis). (among (axis_names axes) x.name ≡ true) × ((axis_called axes x.name).size ≡ x.size)) n xs all has in ap (among (axis_names axes)) (sym one.1) ∙ one.0.0)) in
      let all_of = ap (λ ns. size (map f ns)) (only_once (axis_names axes) d) ∙ own_sizes axes (own_axes axes d) some in
      omega arith

  module _ (own : List Axis) (a : Array) (shape : a.shape ≡ shape_over own) (few : size (shape_over axes) ≤ 33554432) where
    front_size : (xs : List Axis) → AreSizedIn axes (xs ++ own) → are_distinct (axis_names (xs ++ own)) ≡ true → size (fronted xs a).shape ≤ size (shape_over axes)
    front_size xs all differ =
        let is : (fronted xs a).shape ≡ shape_over (xs ++ own) = front_shape xs a ∙ ap (λ s. shape_over xs ++ s) shape ∙ sym (map-append (λ (x : Axis). x.size) xs own) in
        let same = ap size is in
        let below = within (xs ++ own) all differ in
        omega arith

    front_rank : (xs : List Axis) → length (fronted xs a).shape ≡ length (xs ++ own)
    front_rank xs =
        let is : (fronted xs a).shape ≡ shape_over (xs ++ own) = front_shape xs a ∙ ap (λ s. shape_over xs ++ s) shape ∙ sym (map-append (λ (x : Axis). x.size) xs own) in
        ap length is ∙ length-map (xs ++ own) (λ (x : Axis). x.size)

    front_fits : (xs : List Axis) → AreSizedIn axes (xs ++ own) → are_distinct (axis_names (xs ++ own)) ≡ true → length (xs ++ own) ≤ 16 → StepsFit (widens xs) a × (steps_cells (widens xs) a ≤ length xs * size (shape_over axes))
    front_fits [] all differ low = (tt, omega arith)
    front_fits (x ∷ xs) all differ low =
        let parts = distinct_parts x.name (axis_names (xs ++ own)) differ in
        let rest = front_fits xs all.1 parts.1 (omega arith) in
        let below = front_size (x ∷ xs) all differ in
        let same = ap (λ (v : Array). size v.shape) (front_one x xs a) in
        let rank = ap (λ (v : Array). length v.shape) (front_one x xs a) in
        let many = front_rank (x ∷ xs) in
        let cells = cells_both (widens xs) (Widen 0 x.size ∷ []) a in
        let so_far = rest.1 in
        (fit_both (widens xs) (Widen 0 x.size ∷ []) a rest.0 (record { fits = (omega arith, omega arith); small = omega arith; low_rank = omega arith }, tt), grind (arith, cells, so_far, same, below))

    -- all steps
    pub spreading_fits : (o : are_distinct (axis_names own) ≡ true) (sized : AreSizedIn axes own) → length axes ≤ 16
        → StepsFit (spreading axes own) a × (steps_cells (spreading axes own) a ≤ 17 * size (shape_over axes))
    spreading_fits o sized low =
        let new = new_axes own axes in
        let all = all_sized axes own d o sized in
        let differ = all_differ axes own d o sized in
        let many = long axes own d o sized in
        let front = front_fits new all differ (omega arith) in
        let places = order_in (axis_names (new ++ own)) axes in
        let last : step_value (Reorder places) (fronted new a) ≡ spread axes own a = sym (steps_both (widens new) (Reorder places ∷ []) a) ∙ spread_is axes own d o sized a shape in
        let points = ap (λ (v : Array). size v.shape) last in
        let is : (fronted new a).shape ≡ shape_over (new ++ own) = front_shape new a ∙ ap (λ s. shape_over new ++ s) shape ∙ sym (map-append (λ (x : Axis). x.size) new own) in
        let rank : length (new ++ own) ≡ length (fronted new a).shape = sym (length-map (new ++ own) (λ (x : Axis). x.size)) ∙ sym (ap length is) in
        let cells = cells_both (widens new) (Reorder places ∷ []) a in
        let lasts = ap (λ (v : Array). length v.shape) last in
        let ranks = length-map axes (λ (x : Axis). x.size) in
        let parts = length-append new own in
        let most = mul-le (length new) (size (shape_over axes)) 16 (size (shape_over axes)) (omega arith) (omega arith) in
        let so_far = front.1 in
        (fit_both (widens new) (Reorder places ∷ []) a front.0 (record { fits = (omega arith, subst (λ n. IsOrder n places) rank (ordered axes own d o sized)); small = omega arith; low_rank = omega (arith, lasts, ranks, low) }, tt), omega (arith, cells, most, so_far, points))
