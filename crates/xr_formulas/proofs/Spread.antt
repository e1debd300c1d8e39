-- A number at all points of some axes.
use Rattle.xr_formulas.proofs.Common.{Array, Axis, Chain, ChainFits, DType, InRange, IsPoint, List, Node, Some, Step, StepFits, StepsFit, Widen, [], ap, arith, at, chain_cells, chain_value, cond_both, false, has_none, inl, inr, length, length-map, lit<, literal, made, most_cells, most_dimensions, mul-le, nil_from_length, one_cell, or_cases, or_parts, refl, shape_over, size, step_value, steps_cells, steps_value, subst, suc_times, sym, tab, tab-length, tab_same, true, widened, widens, without, zero_times, ℕ, ℤ, ◌*◌, ◌++◌, ◌+◌, ◌==◌, ◌∙◌, ◌∷◌, ◌≡◌, ◌≤◌}
use Rattle.std.proofs.lemmas.Bool.Decides.{nat_tests}
use Rattle.xr_formulas.specs.declared.chain.Start.TheVariants as starts
use Rattle.xr_formulas.proofs.Points.{made_at}

-- ---- steps one after the other

pub steps_both : (ss ts : List Step) (a : Array) → steps_value (ss ++ ts) a ≡ steps_value ts (steps_value ss a)
steps_both [] ts a = refl
steps_both (s ∷ ss) ts a = steps_both ss ts (step_value s a)

pub fit_both : (ss ts : List Step) (a : Array) → StepsFit ss a → StepsFit ts (steps_value ss a) → StepsFit (ss ++ ts) a
fit_both [] ts a first second = second
fit_both (s ∷ ss) ts a first second = (first.0, fit_both ss ts (step_value s a) first.1 second)

pub cells_both : (ss ts : List Step) (a : Array) → steps_cells (ss ++ ts) a ≡ steps_cells ss a + steps_cells ts (steps_value ss a)
cells_both [] ts a = omega arith
cells_both (s ∷ ss) ts a = let rest = cells_both ss ts (step_value s a) in omega arith

-- ---- no axis without positions

some_here : (x : Axis) (xs : List Axis) → has_none (x ∷ xs) ≡ false → (1 ≤ x.size) × (has_none xs ≡ false)
some_here x xs some = let parts = or_parts (x.size == 0) (has_none xs) some in (grind (arith, nat_tests, parts.0), parts.1)

rest_below : (x : Axis) (xs : List Axis) → has_none (x ∷ xs) ≡ false → size (shape_over xs) ≤ size (shape_over (x ∷ xs))
rest_below x xs some = let up = mul-le 1 (size (shape_over xs)) x.size (size (shape_over xs)) (some_here x xs some).0 (omega arith) in omega arith

no_points : (axes : List Axis) → has_none axes ≡ true → size (shape_over axes) ≡ 0
no_points [] none = absurd cc
no_points (x ∷ xs) none = elim (or_cases (x.size == 0) (has_none xs) none) [ inl e ↦ first (grind (arith, nat_tests, e)) | inr e ↦ (let rest = no_points xs e in rw rest (omega arith)) ]
  where
    first : x.size ≡ 0 → x.size * size (shape_over xs) ≡ 0
    first e = rw (e, zero_times) refl

-- ---- the chain

module _ (kind : DType) (n : ℤ) where
  abbrev pub spread : List ℕ → Array
  spread s = made kind s (λ p. Some n)

  one_more : (m : ℕ) (s : List ℕ) → widened (spread s) 0 m ≡ spread (m ∷ s)
  one_more m s = ap (λ cells. record { kind = kind; shape = m ∷ s; cells = cells }) (tab_same (m ∷ s) (λ p. at (spread s) (without 0 p)) (λ p. Some n) each)
    where
      each : (p : List ℕ) → IsPoint (m ∷ s) p → at (spread s) (without 0 p) ≡ Some n
      each [] here = absurd here
      each (i ∷ p) here = made_at kind s (λ q. Some n) p here.1

  spread_is : (axes : List Axis) → steps_value (widens axes) (one_cell kind n) ≡ spread (shape_over axes)
  spread_is [] = refl
  spread_is (x ∷ xs) = steps_both (widens xs) (Widen 0 x.size ∷ []) (one_cell kind n) ∙ ap (λ a. widened a 0 x.size) (spread_is xs) ∙ one_more x.size (shape_over xs)

  spread_fits : (axes : List Axis) → has_none axes ≡ false → size (shape_over axes) ≤ most_cells → length axes ≤ most_dimensions → StepsFit (widens axes) (one_cell kind n)
  spread_fits [] some few low = tt
  spread_fits (x ∷ xs) some few low =
      let up = rest_below x xs some in
      let long = length-map xs (λ (y : Axis). y.size) in
      fit_both (widens xs) (Widen 0 x.size ∷ []) (one_cell kind n) (spread_fits xs (some_here x xs some).1 (omega arith) (omega arith))
      (subst (StepFits (Widen 0 x.size)) (sym (spread_is xs)) (record { fits = (lit< tt, omega arith); small = omega arith; low_rank = omega arith }), tt)

  spread_cells : (axes : List Axis) → has_none axes ≡ false → steps_cells (widens axes) (one_cell kind n) ≤ length axes * size (shape_over axes)
  spread_cells [] some = omega arith
  spread_cells (x ∷ xs) some =
      let up = rest_below x xs some in
      let rest = spread_cells xs (some_here x xs some).1 in
      let both = cells_both (widens xs) (Widen 0 x.size ∷ []) (one_cell kind n) in
      let last : size (widened (steps_value (widens xs) (one_cell kind n)) 0 x.size).shape ≡ size (shape_over (x ∷ xs)) = ap (λ a. size (widened a 0 x.size).shape) (spread_is xs) in
      let most = mul-le (length xs) (size (shape_over xs)) (length xs) (size (shape_over (x ∷ xs))) (omega arith) up in
      let all = suc_times (length xs) (size (shape_over (x ∷ xs))) in
      omega arith

  -- ---- with and without points

  abbrev empty : List Axis → Chain
  empty axes = record { start = starts.Empty kind (shape_over axes); steps = [] }

  abbrev widened_cell : List Axis → Chain
  widened_cell axes = record { start = starts.Cell kind n; steps = widens axes }

  pub literal_is : (nodes : List Node) (axes : List Axis) → chain_value nodes (literal axes kind n) ≡ spread (shape_over axes)
  literal_is nodes axes =
      cond_both (has_none axes) (empty axes) (widened_cell axes) (λ c. chain_value nodes c ≡ spread (shape_over axes))
      (λ e. ap (λ cells. record { kind = kind; shape = shape_over axes; cells = cells }) (sym (nil_from_length (tab (shape_over axes) (λ p. Some n)) (tab-length (shape_over axes) (λ p. Some n) ∙ no_points axes e)))) (λ e. spread_is axes)

  pub literal_fits : (nodes : List Node) (axes : List Axis) → InRange kind n → size (shape_over axes) ≤ most_cells → length axes ≤ most_dimensions → ChainFits nodes (literal axes kind n)
  literal_fits nodes axes range few low =
      let long = length-map axes (λ (y : Axis). y.size) in
      cond_both (has_none axes) (empty axes) (widened_cell axes) (ChainFits nodes) (λ e. record { start = (no_points axes e, omega arith); steps = tt }) (λ e. record { start = range; steps = spread_fits axes e few low })

  pub literal_cells : (nodes : List Node) (axes : List Axis) → length axes ≤ most_dimensions → chain_cells nodes (literal axes kind n) ≤ 1 + 16 * size (shape_over axes)
  literal_cells nodes axes low =
      let most = mul-le (length axes) (size (shape_over axes)) 16 (size (shape_over axes)) (omega arith) (omega arith) in
      cond_both (has_none axes) (empty axes) (widened_cell axes) (λ c. chain_cells nodes c ≤ 1 + 16 * size (shape_over axes)) (λ e. omega arith) (λ e. let all = spread_cells axes e in omega arith)
