-- What views show, whose cells are counted in steps.
use Rattle.std.proofs.Common.{◌≡◌, ◌<◌, ◌≤◌, ◌+◌, ◌-◌, ◌*◌, ◌%◌, ℕ, ℤ, zero, suc, List, [], ◌∷◌, length, map, drop, get_or, insert, refl, sym, ap, subst, ◌∙◌, arith}
use Rattle.std.specs.Prelude.{Option, Some, None, slice_set, leb, ◌||◌, bytes_eq}
use Rattle.std.proofs.Math.Nat.{mod-eq_of_lt}
use Rattle.std.proofs.lemmas.List.{length-map}
use Rattle.xr_types.specs.Points.{place, IsPoint}
use Rattle.xr_arrays.specs.Nodes.{IsOrder, without, moved as in_order}
use Rattle.strided_block.specs.Boxes.{zeros, moved}
use Rattle.strided_block.specs.Steps.{dot, spot, row_steps, stepped, StepsWithin, IsRound, AreMoved}
use Rattle.strided_block.specs.Views.{Seen, shown, together, sight, stepped_sight, IsClear, IsFull, IsThere}
use Rattle.strided_block.proofs.Boxes.{point_long, place_below}
use Rattle.strided_block.proofs.Holdings.{all_there}
use Rattle.strided_block.proofs.Leads.{zeros_place}
use Rattle.strided_block.proofs.CellLaws.{moved_inside}
use Rattle.strided_block.proofs.Orders.{order_inside}
use Rattle.strided_block.proofs.Steps.{round_start, row_place, row_long, dot_moved, step_inside, step_spot, without_inside, dot_without, added_long}

set_long : (xs : List ℕ) (k n : ℕ) → length (slice_set xs k n) ≡ length xs
set_long xs k n = grind (arith, Rattle.std.proofs.Math.ListN.length-set xs k n)

set_at : (xs : List ℕ) (k n : ℕ) → k < length xs → get_or (slice_set xs k n) k 0 ≡ n
set_at [] k n lt = absurd (omega arith)
set_at (x ∷ xs) zero n lt = refl
set_at (x ∷ xs) (suc k) n lt = set_at xs k n (omega arith)

-- sizes and steps in another order, by what they are made of
pub same_sizes : (o p s t ss : List ℕ) → ss ≡ map (λ k. get_or s k 0) o → o ≡ p → s ≡ t → ss ≡ map (λ k. get_or t k 0) p
same_sizes o p s t ss e a b = e ∙ (λ i. map (λ k. get_or (b i) k 0) (a i))

pub same_moved : (o p s t ts : List ℕ) → AreMoved o s ts → o ≡ p → s ≡ t → AreMoved p t ts
same_moved o p s t ts are a b = subst (λ l. AreMoved l t ts) a (subst (λ l. AreMoved o l ts) b are)

module _ {X : Type 0} (cells : List (Option X)) (start : ℕ) (steps shape : List ℕ) (w : Seen X) (e : stepped_sight cells start steps shape ≡ w) (clear : IsClear cells start steps shape) where
  shapes : shape ≡ w.shape
  shapes = ap (λ u. u.shape) e

  pub seen_ranks : length steps ≡ length w.shape
  seen_ranks = clear.ranks ∙ ap length shapes

  pub same_rank : (k : ℕ) → k < length w.shape → k < length steps
  same_rank k lt = let r = seen_ranks in omega arith

  module _ (ps : List ℕ) (i : IsPoint w.shape ps) where
    now_point : IsPoint shape ps
    now_point = subst (λ s. IsPoint s ps) (sym shapes) i

    pub seen_long : length ps ≤ length steps
    seen_long = let l = point_long shape ps now_point in let r = clear.ranks in omega arith

    pub seen_there : (at : ℕ) → at ≡ spot start steps ps → IsThere cells at
    seen_there at is = subst (IsThere cells) (sym is) (clear.inside ps now_point)

    pub seen_cell : (at : ℕ) → at ≡ spot start steps ps → shown w ps ≡ get_or cells at None
    seen_cell at is = ap (λ u. shown u ps) (sym e) ∙ ap (λ k. get_or cells k None) (sym is)

  -- a view whose points show what the view shows at other points
  module _ (start2 : ℕ) (steps2 shape2 : List ℕ) (f : List ℕ → List ℕ) (ranks : length steps2 ≡ length shape2) (inside : (ps : List ℕ) → IsPoint shape2 ps → IsPoint shape (f ps))
      (same : (ps : List ℕ) → IsPoint shape2 ps → spot start2 steps2 ps ≡ spot start steps (f ps)) where
    read_clear : IsClear cells start2 steps2 shape2
    read_clear = record { small = clear.small; ranks = ranks; inside = λ ps i. subst (IsThere cells) (sym (same ps i)) (clear.inside (f ps) (inside ps i)) }

    read_shown : (ps : List ℕ) → IsPoint shape2 ps → shown (stepped_sight cells start2 steps2 shape2) ps ≡ shown w (f ps)
    read_shown ps i = ap (λ k. get_or cells k None) (same ps i) ∙ ap (λ u. shown u (f ps)) e

  pub together_is : (st own : List ℕ) (k : ℕ) → st ≡ steps → own ≡ row_steps shape → leb (length own) k || bytes_eq (drop k st) (drop k own) ≡ together w k
  together_is st own k is_st is_own =
      (λ i. leb (length (is_own i)) k || bytes_eq (drop k (is_st i)) (drop k (is_own i)))
      ∙ ap (λ n. leb n k || bytes_eq (drop k steps) (drop k (row_steps shape))) (row_long shape) ∙ ap (λ u. together u k) e

  -- ---- a part along an axis

  module _ (k from to : ℕ) (axis : k < length w.shape) (range : (from ≤ to) × (to ≤ get_or w.shape k 0)) (step : ℕ) (is : step ≡ get_or steps k 0) (ss : List ℕ) (sizes : ss ≡ slice_set shape k (to - from)) where
    abbrev pub cut_start : ℕ
    cut_start = (start + (from * step) % 18446744073709551616) % 18446744073709551616

    cut_ranks : length steps ≡ length ss
    cut_ranks = clear.ranks ∙ sym (ap length sizes ∙ set_long shape k (to - from))

    cut_inside : (ps : List ℕ) → IsPoint ss ps → IsPoint shape (moved ps k from)
    cut_inside ps i = moved_inside shape ps k from to range.0 (subst (λ s. to ≤ get_or s k 0) (sym shapes) range.1) (subst (λ s. IsPoint s ps) sizes i)

    cut_same : (ps : List ℕ) → IsPoint ss ps → spot cut_start steps ps ≡ spot start steps (moved ps k from)
    cut_same ps i =
        let l = point_long ss ps i in let r = cut_ranks in let here = same_rank k axis in
        round_start start (from * step) (dot ps steps) 18446744073709551616
        ∙ ap (λ n. (start + n) % 18446744073709551616) (ap (λ t. from * t + dot ps steps) is ∙ sym (dot_moved ps steps k from (omega arith) here))

    pub cut_clear : IsClear cells cut_start steps ss
    cut_clear = read_clear cut_start steps ss (λ ps. moved ps k from) cut_ranks cut_inside cut_same

    pub cut_shown : (ps : List ℕ) → IsPoint ss ps → shown (stepped_sight cells cut_start steps ss) ps ≡ shown w (moved ps k from)
    cut_shown = read_shown cut_start steps ss (λ ps. moved ps k from) cut_ranks cut_inside cut_same

  -- ---- every so many positions

  module _ (k from : ℕ) (step : ℤ) (count : ℕ) (axis : k < length w.shape) (range : StepsWithin (get_or w.shape k 0) from step count) (old : ℕ) (is : old ≡ get_or steps k 0) (n : ℕ) (round : IsRound step n)
      (ts : List ℕ) (news : ts ≡ slice_set steps k ((old * n) % 18446744073709551616)) (ss : List ℕ) (sizes : ss ≡ slice_set shape k count) where
    abbrev pub step_start : ℕ
    step_start = (start + (from * old) % 18446744073709551616) % 18446744073709551616

    here : k < length shape
    here = subst (λ s. k < length s) (sym shapes) axis

    within : StepsWithin (get_or shape k 0) from step count
    within = subst (λ s. StepsWithin (get_or s k 0) from step count) (sym shapes) range

    step_ranks : length ts ≡ length ss
    step_ranks = ap length news ∙ set_long steps k ((old * n) % 18446744073709551616) ∙ clear.ranks ∙ sym (ap length sizes ∙ set_long shape k count)

    abbrev step_point : List ℕ → List ℕ
    step_point ps = slice_set ps k (stepped from step (get_or ps k 0))

    now_sized : (ps : List ℕ) → IsPoint ss ps → IsPoint (slice_set shape k count) ps
    now_sized ps i = subst (λ s. IsPoint s ps) sizes i

    step_points : (ps : List ℕ) → IsPoint ss ps → IsPoint shape (step_point ps)
    step_points ps i = step_inside shape ps k from step count here within (now_sized ps i)

    step_same : (ps : List ℕ) → IsPoint ss ps → spot step_start ts ps ≡ spot start steps (step_point ps)
    step_same ps i =
        let m : ℕ = 18446744073709551616 in
        let l = point_long (slice_set shape k count) ps (now_sized ps i) in let sl = set_long shape k count in let h = here in let r = clear.ranks in
        let below : get_or ps k 0 < count = let b = Rattle.strided_block.proofs.Boxes.point_at (slice_set shape k count) ps k (now_sized ps i) (omega arith) in let s = set_at shape k count h in omega arith in
        (λ j. ((start + (from * is j) % m) % m + dot ps (news j)) % m)
        ∙ ap (λ x. ((start + (from * get_or steps k 0) % m) % m + dot ps (slice_set steps k ((x * n) % m))) % m) is
        ∙ step_spot ps steps k start from n count (get_or shape k 0) step (omega arith) (omega arith) round within below

    pub step_clear : IsClear cells step_start ts ss
    step_clear = read_clear step_start ts ss step_point step_ranks step_points step_same

    pub step_shown : (ps : List ℕ) → IsPoint ss ps → shown (stepped_sight cells step_start ts ss) ps ≡ shown w (slice_set ps k (stepped from step (get_or ps k 0)))
    step_shown = read_shown step_start ts ss step_point step_ranks step_points step_same

  -- ---- axes in another order

  module _ (order : List ℕ) (each : IsOrder (length w.shape) order) (ss : List ℕ) (sizes : ss ≡ map (λ k. get_or shape k 0) order) (ts : List ℕ) (are : AreMoved order steps ts) where
    now_each : IsOrder (length shape) order
    now_each = subst (λ s. IsOrder (length s) order) (sym shapes) each

    pub step_order : IsOrder (length steps) order
    step_order = subst (λ n. IsOrder n order) (sym clear.ranks) now_each

    order_long : length ss ≡ length order
    order_long = ap length sizes ∙ length-map order (λ k. get_or shape k 0)

    order_ranks : length ts ≡ length ss
    order_ranks = are.long ∙ sym order_long

    order_points : (ps : List ℕ) → IsPoint ss ps → IsPoint shape (in_order order ps)
    order_points ps i = order_inside shape order ps now_each (subst (λ s. IsPoint s ps) sizes i)

    order_same : (ps : List ℕ) → IsPoint ss ps → spot start ts ps ≡ spot start steps (in_order order ps)
    order_same ps i = are.sums start ps (sym (point_long ss ps i) ∙ order_long)

    pub order_clear : IsClear cells start ts ss
    order_clear = read_clear start ts ss (in_order order) order_ranks order_points order_same

    pub order_shown : (ps : List ℕ) → IsPoint ss ps → shown (stepped_sight cells start ts ss) ps ≡ shown w (in_order order ps)
    order_shown = read_shown start ts ss (in_order order) order_ranks order_points order_same

  -- ---- an axis more

  module _ (k n : ℕ) (axis : k ≤ length w.shape) (ss ts : List ℕ) (sizes : ss ≡ insert shape k n) (news : ts ≡ insert steps k 0) where
    before : k ≤ length shape
    before = subst (λ s. k ≤ length s) (sym shapes) axis

    before_steps : k ≤ length steps
    before_steps = let b = before in let r = clear.ranks in omega arith

    wide_ranks : length ts ≡ length ss
    wide_ranks = ap length news ∙ added_long steps k 0 before_steps ∙ ap suc clear.ranks ∙ sym (ap length sizes ∙ added_long shape k n before)

    wide_points : (ps : List ℕ) → IsPoint ss ps → IsPoint shape (without k ps)
    wide_points ps i = without_inside shape ps k n before (subst (λ s. IsPoint s ps) sizes i)

    wide_same : (ps : List ℕ) → IsPoint ss ps → spot start ts ps ≡ spot start steps (without k ps)
    wide_same ps i = ap (λ t. (start + dot ps t) % 18446744073709551616) news ∙ ap (λ d. (start + d) % 18446744073709551616) (dot_without ps steps k before_steps)

    pub wide_clear : IsClear cells start ts ss
    wide_clear = read_clear start ts ss (without k) wide_ranks wide_points wide_same

    pub wide_shown : (ps : List ℕ) → IsPoint ss ps → shown (stepped_sight cells start ts ss) ps ≡ shown w (without k ps)
    wide_shown = read_shown start ts ss (without k) wide_ranks wide_points wide_same

-- ---- a whole block

module _ {X : Type 0} (cells : List X) (shape : List ℕ) (full : IsFull shape cells) where
  -- a point's cell in row order
  pub row_spot : (ps : List ℕ) → IsPoint shape ps → spot 0 (row_steps shape) ps ≡ place shape ps
  row_spot ps i =
      let b = place_below shape ps i in let c = full.count in let s = full.small in
      row_place shape ps 0 ∙ mod-eq_of_lt {n = 0 + place shape ps} {m = 18446744073709551616} (omega arith) ∙ (let z : 0 + place shape ps ≡ place shape ps = omega arith in z)

  row_there : (ps : List ℕ) → IsPoint shape ps → IsThere (map Some cells) (place shape ps)
  row_there ps i = let b = place_below shape ps i in all_there cells (place shape ps) (omega (arith, full.count))

  first_clear : IsClear (map Some cells) 0 (row_steps shape) shape
  first_clear = record {
    small = omega (arith, full.small, length-map cells Some);
    ranks = row_long shape;
    inside = λ ps i. subst (IsThere (map Some cells)) (sym (row_spot ps i)) (row_there ps i);
  }

  module _ (seen : List (Option X)) (steps sizes : List ℕ) (a : seen ≡ map Some cells) (b : steps ≡ row_steps shape) (c : sizes ≡ shape) where
    pub block_clear : IsClear seen 0 steps sizes
    block_clear = subst (λ x. IsClear x 0 steps sizes) (sym a) (subst (λ t. IsClear (map Some cells) 0 t sizes) (sym b) (subst (λ s. IsClear (map Some cells) 0 (row_steps shape) s) (sym c) first_clear))

    pub block_sight : stepped_sight seen 0 steps sizes ≡ sight cells shape (zeros shape) shape
    block_sight = let z = zeros_place shape in λ i. stepped_sight (a i) (sym z i) (b i) (c i)

    pub block_shown : (ps : List ℕ) → IsPoint shape ps → shown (stepped_sight seen 0 steps sizes) ps ≡ get_or (map Some cells) (place shape ps) None
    block_shown ps i = (λ j. get_or (a j) (spot 0 (b j) ps) None) ∙ ap (λ k. get_or (map Some cells) k None) (row_spot ps i)
