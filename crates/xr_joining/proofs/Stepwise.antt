-- The steps by which an array comes over joined axes, without those that change nothing.
use Rattle.std.proofs.Common.{◌≡◌, ◌<◌, ◌≤◌, ◌+◌, ◌*◌, ℕ, zero, suc, Bool, true, false, List, [], ◌∷◌, ◌++◌, length, set, get_or, None, refl, sym, ap, subst, ◌∙◌, arith, append_assoc, length-append}
use Rattle.std.specs.List.{AllByRecursion}
use Rattle.std.proofs.lemmas.List.{set-get_or}
use Rattle.std.proofs.lemmas.Nat.{mul-le}
use Rattle.std.proofs.Math.Seq.{get_or-append_seam}
use Rattle.xr_types.specs.Names.{shape_over}
use Rattle.xr_types.specs.Points.{IsPoint, size}
use Rattle.xr_types.specs.declared.axis.Axis.{Axis}
use Rattle.xr_arrays.specs.Arrays.{Array, at, made}
use Rattle.xr_arrays.specs.Nodes.{along, from_source, taken_from, IsBelow}
use Rattle.xr_operations.specs.Alignment.{all_sources, each_position, joined_in, sources}
use Rattle.align_join.specs.Joined.{stays}
use Rattle.align_join.proofs.Told.{stays_each}
use Rattle.plan_core.proofs.Tabs.{tab-length}
use Rattle.xr_formulas.specs.declared.chain.Step.{Step}
use Rattle.xr_formulas.specs.Chains.{steps_cells, steps_value, StepsFit}
use Rattle.xr_joining.specs.Fitted.{take_unless, taken_each, takes, Arrives, Comes}
use Rattle.xr_joining.proofs.Arriving.{in_comes}
use Rattle.xr_joining.proofs.Cells.{made_by}
use Rattle.xr_joining.proofs.MeetLaws.{each_at, each_long}
use Rattle.xr_joining.proofs.Spreads.{steps_both}
use Rattle.xr_joining.proofs.Takes.{next, next_axis, taken_shape}
use Rattle.xr_joining.proofs.Within.{cells_both, fit_both}

-- ---- positions that stay

module _ (a : Array) (k n : ℕ) (within : k < length a.shape) (sized : get_or a.shape k 0 ≡ n) where
  same_shape : set a.shape k (length (each_position n)) ≡ a.shape
  same_shape = ap (set a.shape k) (each_long n ∙ sym sized) ∙ set-get_or a.shape k 0

  point_below : (s p : List ℕ) (k : ℕ) → IsPoint s p → k < length s → get_or p k 0 < get_or s k 0
  point_below [] p k here lt = absurd (omega arith)
  point_below (m ∷ s) [] k here lt = absurd here
  point_below (m ∷ s) (i ∷ p) zero here lt = here.0
  point_below (m ∷ s) (i ∷ p) (suc k) here lt = point_below s p k here.1 (omega arith)

  shown_same : (p : List ℕ) → IsPoint a.shape p → from_source a None (λ i. along k i p) (get_or (each_position n) (get_or p k 0) None) ≡ at a p
  shown_same p here =
      let below = point_below a.shape p k here within in
      ap (from_source a None (λ i. along k i p)) (each_at n (get_or p k 0) (omega arith)) ∙ ap (at a) (set-get_or p k 0)

  pub each_taken : length a.cells ≡ size a.shape → taken_from a k (each_position n) None ≡ a
  each_taken whole =
      ap (λ s. made a.kind s (λ p. from_source a None (λ i. along k i p) (get_or (each_position n) (get_or p k 0) None))) same_shape
      ∙ sym (made_by a a.kind a.shape (λ p. from_source a None (λ i. along k i p) (get_or (each_position n) (get_or p k 0) None)) whole refl refl (λ p here. sym (shown_same p here)))

-- ---- one axis

smaller_shape : (s1 ns : List ℕ) (m n : ℕ) → m ≤ n → size (s1 ++ m ∷ ns) ≤ size (s1 ++ n ∷ ns)
smaller_shape [] ns m n le = mul-le m (size ns) n (size ns) le (omega arith)
smaller_shape (s ∷ s1) ns m n le = mul-le s (size (s1 ++ m ∷ ns)) s (size (s1 ++ n ∷ ns)) (omega arith) (smaller_shape s1 ns m n le)

seam_length : (s1 ns : List ℕ) (n : ℕ) → length s1 < length (s1 ++ n ∷ ns)
seam_length s1 ns n = let long = length-append s1 (n ∷ ns) in omega arith

sum_up : (all a b n most : ℕ) → all ≡ a + b → a ≤ most → b ≤ n * most → all ≤ suc n * most
sum_up all a b n most e f g = grind arith

module _ (axes : List Axis) where
  abbrev one : Axis → ℕ → List Step
  one x k = take_unless (stays x.labels (joined_in axes x).labels) k (sources x (joined_in axes x))

  abbrev now : List ℕ → Axis → Array → Array
  now s1 x a = next s1 (sources x (joined_in axes x)) a

  module _ (s1 ns : List ℕ) (x : Axis) (a : Array) (there : Arrives axes x) (shape : a.shape ≡ s1 ++ x.size ∷ ns) (whole : length a.cells ≡ size a.shape) where
    abbrev comes : Comes x (joined_in axes x)
    comes = in_comes axes x there

    abbrev k : ℕ
    k = length s1

    within : k < length a.shape
    within = subst (λ s. k < length s) (sym shape) (seam_length s1 ns x.size)

    sized : get_or a.shape k 0 ≡ x.size
    sized = ap (λ s. get_or s k 0) shape ∙ get_or-append_seam s1 x.size ns 0

    one_value : steps_value (one x k) a ≡ now s1 x a
    one_value = by (stays x.labels (joined_in axes x).labels) refl
      where
        by : (b : Bool) → stays x.labels (joined_in axes x).labels ≡ b → steps_value (take_unless b k (sources x (joined_in axes x))) a ≡ now s1 x a
        by true e =
            let size_is = comes.kept e in
            sym (ap (λ s. taken_from a k s None) (stays_each x (joined_in axes x) e) ∙ each_taken a k (joined_in axes x).size within (sized ∙ size_is) whole)
        by false e = refl

    now_shape : (now s1 x a).shape ≡ s1 ++ (joined_in axes x).size ∷ ns
    now_shape = taken_shape a s1 ns x.size (sources x (joined_in axes x)) shape ∙ ap (λ n. s1 ++ n ∷ ns) comes.long

    now_size : size (now s1 x a).shape ≤ size a.shape
    now_size =
        let less = smaller_shape s1 ns (joined_in axes x).size x.size comes.fewer in
        let front = ap size now_shape in
        let behind = ap size shape in
        omega arith

    now_rank : length (now s1 x a).shape ≡ length a.shape
    now_rank = ap length now_shape ∙ length-append s1 ((joined_in axes x).size ∷ ns) ∙ sym (length-append s1 (x.size ∷ ns)) ∙ sym (ap length shape)

    now_whole : length (now s1 x a).cells ≡ size (now s1 x a).shape
    now_whole = tab-length (now s1 x a).shape (λ p. from_source a None (λ i. along k i p) (get_or (sources x (joined_in axes x)) (get_or p k 0) None))

    one_fits : size a.shape ≤ 33554432 → length a.shape ≤ 16 → StepsFit (one x k) a × (steps_cells (one x k) a ≤ size a.shape)
    one_fits few low = by (stays x.labels (joined_in axes x).labels)
      where
        by : (b : Bool) → StepsFit (take_unless b k (sources x (joined_in axes x))) a × (steps_cells (take_unless b k (sources x (joined_in axes x))) a ≤ size a.shape)
        by true = (tt, omega arith)
        by false =
            let less = now_size in
            let same = now_rank in (
              (
                record {
                  fits = (omega arith, within, subst (λ n. Rattle.std.specs.List.All (IsBelow n) (sources x (joined_in axes x))) (sym sized) comes.below, tt, λ e. absurd cc);
                  small = omega arith;
                  low_rank = omega arith;
                },
                tt,
              ),
              omega arith,
            )

  -- ---- all axes

  pub takes_value : (s1 : List ℕ) (k : ℕ) (xs : List Axis) (a : Array) → AllByRecursion (Arrives axes) xs → k ≡ length s1 → a.shape ≡ s1 ++ shape_over xs → length a.cells ≡ size a.shape
      → steps_value (takes axes k xs) a ≡ taken_each k (all_sources axes xs) a
  takes_value s1 k [] a all e shape whole = refl
  takes_value s1 k (x ∷ xs) a all e shape whole =
      let j = joined_in axes x in
      let more : k + 1 ≡ length (s1 ++ j.size ∷ []) = (let n = next_axis s1 j.size in omega arith) in
      let long : (now s1 x a).shape ≡ (s1 ++ j.size ∷ []) ++ shape_over xs = now_shape s1 (shape_over xs) x a all.0 shape whole ∙ sym (append_assoc s1 (j.size ∷ []) (shape_over xs)) in
      steps_both (one x k) (takes axes (k + 1) xs) a
      ∙ ap (λ m. steps_value (takes axes (k + 1) xs) (steps_value (one x m) a)) e
      ∙ ap (steps_value (takes axes (k + 1) xs)) (one_value s1 (shape_over xs) x a all.0 shape whole)
      ∙ takes_value (s1 ++ j.size ∷ []) (k + 1) xs (now s1 x a) all.1 more long (now_whole s1 (shape_over xs) x a all.0 shape whole)
      ∙ ap (λ m. taken_each (k + 1) (all_sources axes xs) (taken_from a m (sources x j) None)) (sym e)

  pub takes_fit : (s1 : List ℕ) (k most : ℕ) (xs : List Axis) (a : Array) → AllByRecursion (Arrives axes) xs → k ≡ length s1 → a.shape ≡ s1 ++ shape_over xs → length a.cells ≡ size a.shape → size a.shape ≤ most → most ≤ 33554432 → length a.shape ≤ 16
      → StepsFit (takes axes k xs) a × (steps_cells (takes axes k xs) a ≤ length xs * most)
  takes_fit s1 k most [] a all e shape whole up few low = (tt, omega arith)
  takes_fit s1 k most (x ∷ xs) a all e shape whole up few low =
      let j = joined_in axes x in
      let ns = shape_over xs in
      let more : k + 1 ≡ length (s1 ++ j.size ∷ []) = (let n = next_axis s1 j.size in omega arith) in
      let long : (now s1 x a).shape ≡ (s1 ++ j.size ∷ []) ++ ns = now_shape s1 ns x a all.0 shape whole ∙ sym (append_assoc s1 (j.size ∷ []) ns) in
      let less = now_size s1 ns x a all.0 shape whole in
      let rank = now_rank s1 ns x a all.0 shape whole in
      let value : steps_value (one x k) a ≡ now s1 x a = ap (λ m. steps_value (one x m) a) e ∙ one_value s1 ns x a all.0 shape whole in
      let first = subst (λ m. StepsFit (one x m) a × (steps_cells (one x m) a ≤ size a.shape)) (sym e) (one_fits s1 ns x a all.0 shape whole (omega arith) low) in
      let rest = takes_fit (s1 ++ j.size ∷ []) (k + 1) most xs (now s1 x a) all.1 more long (now_whole s1 ns x a all.0 shape whole) (omega arith) few (omega arith) in
      let cells = cells_both (one x k) (takes axes (k + 1) xs) a in
      let behind = ap (steps_cells (takes axes (k + 1) xs)) value in
      let one_cells = first.1 in
      let rest_cells = rest.1 in (
        fit_both (one x k) (takes axes (k + 1) xs) a first.0 (subst (StepsFit (takes axes (k + 1) xs)) (sym value) rest.0),
        sum_up (steps_cells (takes axes k (x ∷ xs)) a) (steps_cells (one x k) a) (steps_cells (takes axes (k + 1) xs) (steps_value (one x k) a)) (length xs) most cells (omega arith) (omega arith),
      )
