-- What the steps make of cells over axes.
use Rattle.xr_moving.proofs.Common.{AreAll, AreCells, Array, Axis, Bool, DType, IsCell, IsNodeOf, Moves, Node, None, Option, Some, StepFits, [], ap, arith, axis_called, distance, false, get_or, hides, is_moved, is_some, length, lit<, moved_along, moved_at, moved_cells, mul-le, or_parts, positions_by, refl, set, size, sizes, subst, suc, sym, taken_all, taken_from, true, value, ℕ, ℤ, ◌&&◌, ◌*◌, ◌++◌, ◌+◌, ◌<◌, ◌||◌, ◌∙◌, ◌∷◌, ◌≡◌, ◌≤◌}
use Rattle.std.proofs.Common.{List}
use Rattle.xr_arrays.specs.Nodes.{most_axes, most_node_cells}
use Rattle.xr_formulas.specs.declared.chain.Step.{Step}
use Rattle.xr_formulas.specs.declared.chain.Step.TheVariants.{Take}
use Rattle.xr_formulas.specs.Chains.{steps_cells, steps_value, StepsFit}
use Rattle.xr_moving.specs.Steps.{step_at, steps_along}
use Rattle.std.proofs.lemmas.List.{set-get_or}
use Rattle.xr_moving.proofs.Sources.{below_by, covers_by, long_by}
use Rattle.xr_moving.proofs.Made.{cells_in, node_value, AreMade}

-- from axis number k on, those of these names have these sizes
abbrev pub AreAt : List Axis → List ℕ → ℕ → List (List ℕ) → Type 0
AreAt axes s k [] = Unit {0}
AreAt axes s k (d ∷ dims) = (k < length s) × (get_or s k 0 ≡ (axis_called axes d).size) × AreAt axes s (suc k) dims

at_next : (axes : List Axis) (n : ℕ) (s : List ℕ) (k : ℕ) (dims : List (List ℕ)) → AreAt axes s k dims → AreAt axes (n ∷ s) (suc k) dims
at_next axes n s k [] at = tt
at_next axes n s k (d ∷ dims) at = (let lt = at.0 in omega arith, at.1, at_next axes n s (suc k) dims at.2)

pub all_at : (axes : List Axis) (dims : List (List ℕ)) → AreAt axes (sizes axes dims) 0 dims
all_at axes [] = tt
all_at axes (d ∷ dims) = (omega arith, refl, at_next axes (axis_called axes d).size (sizes axes dims) 0 dims (all_at axes dims))

-- the steps make the array of these cells, which a plan takes
record IsMoved (s : List ℕ) (kind : DType) (masked : Bool) (steps : List Step) (count : ℕ) (a to : Array) : Type 0 where
  value : steps_value steps a ≡ to
  shape : to.shape ≡ s
  kind_is : to.kind ≡ kind
  fits : StepsFit steps a
  cells : AreCells s kind masked to.cells
  room : steps_cells steps a ≤ count * size s

mask_none : (masked hiding : Bool) → masked ≡ (masked || hiding && false)
mask_none true hiding = refl
mask_none false true = refl
mask_none false false = refl

mask_both : (masked hiding r : Bool) → ((masked || hiding) || hiding && r) ≡ (masked || hiding && (true || r))
mask_both true hiding r = refl
mask_both false true r = refl
mask_both false false r = refl

module _ (m : Moves) (axes : List Axis) (s : List ℕ) (kind : DType) where
  abbrev hiding : Bool
  hiding = hides m.how m.fill

  -- the array of these cells
  abbrev own : List (Option ℤ) → Array
  own cells = record { kind = kind; shape = s; cells = cells }

  abbrev moved_from : ℕ → List (List ℕ) → Array → Array
  moved_from k dims a = moved_along (positions_by m.how) m.fill m.by k dims a

  -- from axis number k on
  abbrev AreMoved : ℕ → List (List ℕ) → Bool → List (Option ℤ) → Type 0
  AreMoved k dims masked cells = IsMoved s kind (masked || hiding && is_moved m.by dims) (steps_along m axes k dims) (length dims) (own cells) (moved_from k dims (own cells))

  -- one step, and then the others
  module _ (k : ℕ) (dims : List (List ℕ)) (masked : Bool) (cells : List (Option ℤ)) (lt : k < length s) (is : AreCells s kind masked cells) (by : ℤ) (fits : IsCell kind m.fill) where
    abbrev from : List (Option ℕ)
    from = positions_by m.how by (get_or s k 0)

    abbrev then : Array
    then = taken_from (own cells) k from m.fill

    then_shape : then.shape ≡ s
    then_shape = ap (set s k) (long_by m.how by (get_or s k 0)) ∙ set-get_or s k 0

    taken : AreAll (masked || hiding) then
    taken =
        taken_all (own cells) (masked || hiding) (record { whole = is.whole; range = is.range; seen = λ plain. is.seen (or_parts masked hiding plain).0 }) k from m.fill lt (below_by m.how by (get_or s k 0)) fits
        (λ plain. covers_by m.how m.fill by (get_or s k 0) (or_parts masked hiding plain).1)

    then_cells : AreCells s kind (masked || hiding) then.cells
    then_cells = record { whole = taken.whole ∙ ap size then_shape; range = taken.range; seen = taken.seen; low_rank = is.low_rank; few = is.few }

    step_fits : StepFits (Take k from m.fill false) (own cells)
    step_fits = record {
      fits = (lit< tt, lt, below_by m.how by (get_or s k 0), fits, λ e. absurd cc);
      small = subst (λ t. size t ≤ most_node_cells) (sym then_shape) (let few = is.few in omega arith);
      low_rank = subst (λ t. length t ≤ most_axes) (sym then_shape) is.low_rank;
    }

    one_more : AreMoved (suc k) dims (masked || hiding) then.cells
        → IsMoved s kind (masked || hiding && (true || is_moved m.by dims)) (Take k from m.fill false ∷ steps_along m axes (suc k) dims) (suc (length dims)) (own cells) (moved_from (suc k) dims then)
    one_more others =
        let same : own then.cells ≡ then = ap (λ t. record { kind = kind; shape = t; cells = then.cells }) (sym then_shape) in
        let rest = subst (λ a. IsMoved s kind ((masked || hiding) || hiding && is_moved m.by dims) (steps_along m axes (suc k) dims) (length dims) a (moved_from (suc k) dims a)) same others in
        let few = rest.room in
        let points = ap size then_shape in
        let more : size s + length dims * size s ≡ suc (length dims) * size s = grind arith in
        record {
          value = rest.value;
          shape = rest.shape;
          kind_is = rest.kind_is;
          fits = (step_fits, rest.fits);
          cells = subst (λ b. AreCells s kind b (moved_from (suc k) dims then).cells) (mask_both masked hiding (is_moved m.by dims)) rest.cells;
          room = omega arith;
        }

  steps_move : (dims : List (List ℕ)) (k : ℕ) (masked : Bool) (cells : List (Option ℤ)) → AreAt axes s k dims → (is_moved m.by dims ≡ true → IsCell kind m.fill) → AreCells s kind masked cells → AreMoved k dims masked cells
  steps_move [] k masked cells at fits is = record { value = refl; shape = refl; kind_is = refl; fits = tt; cells = subst (λ b. AreCells s kind b cells) (mask_none masked hiding) is; room = omega arith }
  steps_move (d ∷ dims) k masked cells at fits is = by (distance m.by d) fits (λ masked cells fits is. steps_move dims (suc k) masked cells at.2 fits is)
    where
      by : (o : Option ℤ) → ((is_some o || is_moved m.by dims) ≡ true → IsCell kind m.fill) → ((masked : Bool) (cells : List (Option ℤ)) → (is_moved m.by dims ≡ true → IsCell kind m.fill) → AreCells s kind masked cells → AreMoved (suc k) dims masked cells)
          → IsMoved s kind (masked || hiding && (is_some o || is_moved m.by dims)) (step_at m.how m.fill k (axis_called axes d).size o ++ steps_along m axes (suc k) dims) (suc (length dims)) (own cells) (moved_from (suc k) dims (moved_at (positions_by m.how) m.fill (own cells) k o))
      by None fits rest =
          let all = rest masked cells fits is in
          record { value = all.value; shape = all.shape; kind_is = all.kind_is; fits = all.fits; cells = all.cells; room = let few = all.room in let more : length dims * size s ≤ suc (length dims) * size s = grind arith in omega arith }
      by (Some n) fits rest =
          subst (λ c. IsMoved s kind (masked || hiding && (true || is_moved m.by dims)) (Take k (positions_by m.how n c) m.fill false ∷ steps_along m axes (suc k) dims) (suc (length dims)) (own cells) (moved_from (suc k) dims (then k dims masked cells at.0 is n (fits refl)))) at.1
          (one_more k dims masked cells at.0 is n (fits refl) (rest (masked || hiding) (then k dims masked cells at.0 is n (fits refl)).cells (λ e. fits refl) (then_cells k dims masked cells at.0 is n (fits refl))))

-- the cells of a node, moved
module _ (nodes : List Node) (n : ℕ) (m : Moves) (axes : List Axis) (dims : List (List ℕ)) (s : List ℕ) (kind : DType) (masked : Bool) where
  pub moves_made : IsNodeOf nodes n s kind → AreCells s kind masked (value nodes n).cells → AreAt axes s 0 dims → length dims ≡ length s → (is_moved m.by dims ≡ true → IsCell kind m.fill)
      → AreMade nodes (moved_cells m axes n dims) s kind (masked || hides m.how m.fill && is_moved m.by dims) (moved_along (positions_by m.how) m.fill m.by 0 dims (cells_in nodes n s kind))
  moves_made node is at rank fits =
      let held = node_value nodes n s kind node in
      let all = steps_move m axes s kind dims 0 masked (value nodes n).cells at fits is in
      let few = all.room in
      let same = ap (steps_cells (steps_along m axes 0 dims)) held in
      let low = is.low_rank in
      let most = mul-le (length dims) (size s) 16 (size s) (omega (arith, rank, low)) (omega arith) in
      record {
        value = ap (steps_value (steps_along m axes 0 dims)) held ∙ all.value;
        shape = all.shape;
        kind_is = all.kind_is;
        fits = record { start = node.placed; steps = subst (StepsFit (steps_along m axes 0 dims)) (sym held) all.fits };
        are = all.cells;
        room = omega (arith, few, same, most);
      }
