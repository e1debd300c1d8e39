-- A cell, which may be missing, at all points of some axes.
use Rattle.std.proofs.Common.{◌≡◌, ◌<◌, ◌≤◌, ◌+◌, ◌*◌, ◌==◌, ◌||◌, cond, ℕ, ℤ, pos, suc, Bool, true, false, List, [], ◌∷◌, length, Option, None, refl, sym, ap, subst, ◌∙◌, arith, lit<}
use Rattle.std.proofs.lemmas.Bool.{or_parts}
use Rattle.std.proofs.lemmas.Bool.Decides.{nat_tests}
use Rattle.std.proofs.lemmas.List.{length-map, nil_from_length}
use Rattle.std.proofs.lemmas.List.Elements.{All-cons, All-nil}
use Rattle.std.proofs.lemmas.Nat.{mul-le}
use Rattle.xr_types.specs.Names.{shape_over}
use Rattle.xr_types.specs.Points.{size, tab, IsPoint}
use Rattle.xr_types.specs.declared.axis.Axis.{Axis}
use Rattle.xr_types.specs.declared.kind.DType.{DType}
use Rattle.xr_arrays.specs.declared.node.Node.{Node}
use Rattle.xr_arrays.specs.Arrays.{Array, at, made, IsCell}
use Rattle.xr_arrays.specs.Nodes.{widened, without, IsBelow}
use Rattle.plan_core.proofs.Arrangements.{zero_in}
use Rattle.plan_core.proofs.Tabs.{tab-length, tab_same}
use Rattle.xr_formulas.specs.declared.chain.Start.TheVariants as starts
use Rattle.xr_formulas.specs.declared.chain.Step.{Step}
use Rattle.xr_formulas.specs.declared.chain.Step.TheVariants.{Take, Widen}
use Rattle.xr_formulas.specs.Chains.{chain_cells, chain_value, step_value, steps_cells, steps_value, ChainFits, StepFits, StepsFit}
use Rattle.xr_formulas.specs.Spread.{has_none, widens}
use Rattle.xr_formulas.proofs.Points.{made_at}
use Rattle.xr_formulas.proofs.Spread.{cells_both, fit_both, steps_both}
use Rattle.xr_grouping.specs.Windowed.{nowhere, spread}

some_here : (x : Axis) (xs : List Axis) → has_none (x ∷ xs) ≡ false → (1 ≤ x.size) × (has_none xs ≡ false)
some_here x xs some = let parts = or_parts (x.size == 0) (has_none xs) some in (grind (arith, nat_tests, parts.0), parts.1)

rest_below : (x : Axis) (xs : List Axis) → has_none (x ∷ xs) ≡ false → size (shape_over xs) ≤ size (shape_over (x ∷ xs))
rest_below x xs some = let up = mul-le 1 (size (shape_over xs)) x.size (size (shape_over xs)) (some_here x xs some).0 (omega arith) in omega arith

no_points : (axes : List Axis) → has_none axes ≡ true → size (shape_over axes) ≡ 0
no_points [] none = absurd cc
no_points (x ∷ xs) none = by (x.size == 0) refl none (no_points xs)
  where
    zero_first : (m n : ℕ) → m ≡ 0 → m * n ≡ 0
    zero_first m n e = grind (arith, e)

    zero_last : (m n : ℕ) → n ≡ 0 → m * n ≡ 0
    zero_last m n e = grind (arith, e)

    by : (b : Bool) → (x.size == 0) ≡ b → (b || has_none xs) ≡ true → (has_none xs ≡ true → size (shape_over xs) ≡ 0) → x.size * size (shape_over xs) ≡ 0
    by true is e rest = zero_first x.size (size (shape_over xs)) (grind (arith, nat_tests, is))
    by false is e rest = zero_last x.size (size (shape_over xs)) (rest e)

module _ (kind : DType) (fill : Option ℤ) where
  abbrev pub all_of_it : List ℕ → Array
  all_of_it s = made kind s (λ p. fill)

  one_more : (m : ℕ) (s : List ℕ) → widened (all_of_it s) 0 m ≡ all_of_it (m ∷ s)
  one_more m s = ap (λ cells. record { kind = kind; shape = m ∷ s; cells = cells }) (tab_same (m ∷ s) (λ p. at (all_of_it s) (without 0 p)) (λ p. fill) each)
    where
      each : (p : List ℕ) → IsPoint (m ∷ s) p → at (all_of_it s) (without 0 p) ≡ fill
      each [] here = absurd here
      each (i ∷ p) here = made_at kind s (λ q. fill) p here.1

  widens_is : (axes : List Axis) → steps_value (widens axes) (all_of_it []) ≡ all_of_it (shape_over axes)
  widens_is [] = refl
  widens_is (x ∷ xs) = steps_both (widens xs) (Widen 0 x.size ∷ []) (all_of_it []) ∙ ap (λ a. widened a 0 x.size) (widens_is xs) ∙ one_more x.size (shape_over xs)

  widen_fits : (m : ℕ) (s : List ℕ) → m * size s ≤ 33554432 → length s < 16 → StepFits (Widen 0 m) (all_of_it s)
  widen_fits m s few low = record { fits = (lit< tt, omega arith); small = omega (arith, few); low_rank = omega (arith, low) }

  widens_fit : (axes : List Axis) → has_none axes ≡ false → size (shape_over axes) ≤ 33554432 → length axes ≤ 16 → StepsFit (widens axes) (all_of_it [])
  widens_fit [] some few low = tt
  widens_fit (x ∷ xs) some few low =
      let up = rest_below x xs some in
      let long = length-map xs (λ (y : Axis). y.size) in
      fit_both (widens xs) (Widen 0 x.size ∷ []) (all_of_it []) (widens_fit xs (some_here x xs some).1 (omega (arith, up, few)) (omega (arith, low)))
      (subst (StepFits (Widen 0 x.size)) (sym (widens_is xs)) (widen_fits x.size (shape_over xs) few (omega (arith, long, low))), tt)

  widens_cells : (axes : List Axis) → has_none axes ≡ false → steps_cells (widens axes) (all_of_it []) ≤ length axes * size (shape_over axes)
  widens_cells [] some = omega arith
  widens_cells (x ∷ xs) some =
      let up = rest_below x xs some in
      let rest = widens_cells xs (some_here x xs some).1 in
      let both = cells_both (widens xs) (Widen 0 x.size ∷ []) (all_of_it []) in
      let last : size (widened (steps_value (widens xs) (all_of_it [])) 0 x.size).shape ≡ size (shape_over (x ∷ xs)) = ap (λ a. size (widened a 0 x.size).shape) (widens_is xs) in
      let most = mul-le (length xs) (size (shape_over xs)) (length xs) (size (shape_over (x ∷ xs))) (omega arith) up in
      let all : suc (length xs) * size (shape_over (x ∷ xs)) ≡ length xs * size (shape_over (x ∷ xs)) + size (shape_over (x ∷ xs)) = more (length xs) (size (shape_over (x ∷ xs))) in
      omega (arith, rest, both, last, most, all)
    where
      more : (a b : ℕ) → suc a * b ≡ a * b + b
      more a b = grind arith

  abbrev steps : List Axis → List Step
  steps axes = Widen 0 1 ∷ Take 0 nowhere fill true ∷ widens axes

  pub spread_is : (nodes : List Node) (axes : List Axis) → chain_value nodes (spread axes kind fill) ≡ all_of_it (shape_over axes)
  spread_is nodes axes = by (has_none axes) refl
    where
      none : has_none axes ≡ true → tab (shape_over axes) (λ p. fill) ≡ []
      none e = nil_from_length (tab (shape_over axes) (λ p. fill)) (tab-length (shape_over axes) (λ p. fill) ∙ no_points axes e)

      by : (b : Bool) → has_none axes ≡ b
          → chain_value nodes (cond b (record { start = starts.Empty kind (shape_over axes); steps = [] }) (record { start = starts.Cell kind (pos 0); steps = steps axes })) ≡ all_of_it (shape_over axes)
      by true e = ap (λ cells. record { kind = kind; shape = shape_over axes; cells = cells }) (sym (none e))
      by false e = widens_is axes

  pub spread_fits : (nodes : List Node) (axes : List Axis) → IsCell kind fill → size (shape_over axes) ≤ 33554432 → length axes ≤ 16 → ChainFits nodes (spread axes kind fill)
  spread_fits nodes axes suits few low = by (has_none axes) refl
    where
      by : (b : Bool) → has_none axes ≡ b
          → ChainFits nodes (cond b (record { start = starts.Empty kind (shape_over axes); steps = [] }) (record { start = starts.Cell kind (pos 0); steps = steps axes }))
      by true e = record { start = (no_points axes e, let long = length-map axes (λ (y : Axis). y.size) in omega (arith, long, low)); steps = tt }
      by false e = record {
        start = zero_in kind;
        steps = (
          record { fits = (lit< tt, omega arith); small = omega arith; low_rank = omega arith },
          (
            record { fits = (lit< tt, lit< tt, All-cons (IsBelow 1) None [] tt (All-nil (IsBelow 1)), suits, λ e. refl); small = omega arith; low_rank = omega arith },
            widens_fit axes e few low,
          ),
        );
      }

  pub spread_cells : (nodes : List Node) (axes : List Axis) → length axes ≤ 16 → chain_cells nodes (spread axes kind fill) ≤ 3 + 16 * size (shape_over axes)
  spread_cells nodes axes low = by (has_none axes) refl
    where
      by : (b : Bool) → has_none axes ≡ b
          → chain_cells nodes (cond b (record { start = starts.Empty kind (shape_over axes); steps = [] }) (record { start = starts.Cell kind (pos 0); steps = steps axes })) ≤ 3 + 16 * size (shape_over axes)
      by true e = omega arith
      by false e =
          let all : steps_cells (widens axes) (step_value (Take 0 nowhere fill true) (step_value (Widen 0 1) (chain_value nodes (record { start = starts.Cell kind (pos 0); steps = [] })))) ≤ length axes * size (shape_over axes) = widens_cells axes e in
          let most = mul-le (length axes) (size (shape_over axes)) 16 (size (shape_over axes)) low (omega arith) in
          omega (arith, all, most)
