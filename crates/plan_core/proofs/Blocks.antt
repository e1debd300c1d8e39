-- A run of positions whose cells lie together.
use Rattle.std.proofs.Common.{◌≡◌, ◌<◌, ◌≤◌, ◌+◌, ◌-◌, ◌*◌, ◌^◌, ℕ, ℤ, zero, suc, Bool, List, length, take, drop, get_or, min, Option, Some, None, refl, sym, ap, subst, ◌∙◌, arith, add-one}
use Rattle.std.specs.Prelude.{IfSome}
use Rattle.std.proofs.lemmas.List.{get_or_default}
use Rattle.xr_types.specs.declared.kind.DType.{DType}
use Rattle.xr_types.specs.Points.{size, place, IsPoint}
use Rattle.xr_arrays.specs.Arrays.{Array}
use Rattle.xr_arrays.specs.Nodes.{IsBelow, taken_or_picked}
use Rattle.plan_core.specs.Arrangements.{shown, arranged, cell_from}
use Rattle.plan_core.specs.Takes.{parts, each_block, taking_sizes, taking_point, IsRun, IsTaking}
use Rattle.plan_core.proofs.Tabs.{tab_same, place_below}
use Rattle.plan_core.proofs.TakenValues.{takes, inside}
use Rattle.plan_core.proofs.Takes.{size_split, one_block, run_is, run_inside, taking_is, taking_size}

shown_is : (a : Array) (fill : Option ℤ) (o : Option (List ℕ)) → length a.cells ≡ size a.shape → IfSome o (IsPoint a.shape) → shown a.shape a.cells fill o ≡ cell_from a fill o
shown_is a fill None long here = refl
shown_is a fill (Some q) long here = let below = place_below a.shape q here in get_or_default a.cells (place a.shape q) fill None (omega arith)

-- the axis stands behind axes of size 1
whole_rows : (s : List ℕ) (axis : ℕ) → axis < length s → size (take axis s) ≡ 1 → size s ≡ get_or s axis 0 * size (drop (suc axis) s)
whole_rows s axis lt outer =
    let rows = get_or s axis 0 * size (drop (suc axis) s) in
    let one : 1 * rows ≡ rows = omega arith in
    size_split s axis lt ∙ ap (λ k. k * rows) outer ∙ one

abbrev pub array : DType → List ℕ → List (Option ℤ) → Array
array kind shape cells = record { kind = kind; shape = shape; cells = cells }

-- the cells at a run of positions
pub block_is : (drops : Bool) (a : Array) (axis q row : ℕ) (from : List (Option ℕ)) (fill : Option ℤ) → IsTaking drops a.shape axis from → IsRun q from → size (take axis a.shape) ≡ 1 → row ≡ size (drop (suc axis) a.shape) → length a.cells ≡ size a.shape
    → array a.kind (taking_sizes drops a.shape axis from) (take (length from * row) (drop (q * row) a.cells)) ≡ taken_or_picked drops a axis from fill
block_is drops a axis q row from fill t run outer is_row long =
    let s : List ℕ = a.shape in
    let b = size (drop (suc axis) s) in
    let n = get_or s axis 0 in
    let to = taking_sizes drops s axis from in
    let point = λ (p : List ℕ). taking_point drops axis from p in
    let cells : take (length from * row) (drop (q * row) a.cells) ≡ arranged s to point fill a.cells =
    ap (λ r. take (length from * r) (drop (q * r) a.cells)) is_row
    ∙ sym (run_is b q from fill a.cells run.1)
    ∙ sym (one_block (parts b from fill) (n * b) a.cells (long ∙ whole_rows s axis t.axis_is outer))
    ∙ ap (λ k. each_block (parts b from fill) (n * b) k a.cells) (sym outer)
    ∙ taking_is drops s axis from fill a.cells t.axis_is t.inside t.one long in
    ap (array a.kind to) (cells ∙ tab_same to (λ p. shown s a.cells fill (point p)) (λ p. cell_from a fill (point p)) (λ p here. shown_is a fill (point p) long (inside drops s axis from t.axis_is t.inside t.one p here)))
    ∙ takes drops a axis from fill

-- where the cells lie
pub record IsBlock (drops : Bool) (s : List ℕ) (axis q row : ℕ) (from : List (Option ℕ)) : Type 0 where
  pub row_is : row ≡ size (drop (suc axis) s)
  pub inside : q * row + length from * row ≤ size s
  pub few : size s ≤ 2 ^ 50
  pub whole : size (taking_sizes drops s axis from) ≡ length from * row

some_rows : (n b : ℕ) → 0 < n → b ≤ n * b
some_rows zero b some = absurd (omega arith)
some_rows (suc n) b some = let e : suc n * b ≡ b + n * b = grind arith in omega arith

pub block_of : (drops : Bool) (s behind : List ℕ) (axis q row : ℕ) (from : List (Option ℕ)) → IsTaking drops s axis from → IsRun q from → size (take axis s) ≡ 1 → behind ≡ drop (axis + 1) s → row ≡ min (size behind) (2 ^ 64 - 1) → IsBlock drops s axis q row from
block_of drops s behind axis q row from t run outer is_behind is_row =
    let n = get_or s axis 0 in
    let b = size (drop (suc axis) s) in
    let all : size s ≡ n * b = whole_rows s axis t.axis_is outer in
    let few = t.few in
    let here : get_or from 0 None ≡ Some (q + 0) = run.1 0 run.0 in
    let below : q + 0 < n = subst (IsBelow n) here (t.inside 0 None run.0) in
    let thin : b ≤ n * b = some_rows n b (omega arith) in
    let e : row ≡ min b (2 ^ 64 - 1) = is_row ∙ ap (λ x. min (size x) (2 ^ 64 - 1)) (is_behind ∙ ap (λ j. drop j s) (add-one axis)) in
    let r : row ≡ b = omega arith in
    let fits : q * b + length from * b ≤ n * b = run_inside q n b from run t.inside in
    let one : 1 * (length from * b) ≡ length from * b = omega arith in
    record {
      row_is = r;
      inside = subst (λ k. q * k + length from * k ≤ size s) (sym r) (omega (arith, fits, all));
      few = few;
      whole = taking_size drops s axis from t.axis_is t.one ∙ ap (λ k. k * (length from * b)) outer ∙ one ∙ ap (λ k. length from * k) (sym r);
    }
