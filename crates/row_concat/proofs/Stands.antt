-- Bytes that spell cells, one after the other.
use Rattle.std.proofs.Common.{◌≡◌, ◌<◌, ◌≤◌, ◌+◌, ◌-◌, ◌*◌, ◌/◌, ℕ, ℤ, true, List, [], ◌++◌, length, take, drop, Option, sym, ap, ◌∙◌, arith, length-append, length-drop}
use Rattle.std.proofs.lemmas.List.{length-map, take_at, drop_at, take_all, take-append-drop, length-take-le, nil_from_length}
use Rattle.xr_types.specs.declared.attr.NcType.{NcType}
use Rattle.xr_types.specs.Widths.{width}
use Rattle.xr_arrays.specs.Numbers.{is_whole, numbers_of}
use Rattle.xr_arrays.specs.Stored.{unless_fill, stored_cells}
use Rattle.stored_cells.proofs.Lengths.{numbers-length}
use Rattle.stored_cells.proofs.Blocks.{cells_in_run}
use Rattle.plan_core.proofs.Tabs.{within}
use Rattle.row_concat.specs.Blocks.{block}
use Rattle.row_concat.proofs.Turns.{quotient}

-- bytes of so many values that spell cells
pub record Stands (kind : NcType) (fills : List ℤ) (raw : List ℕ) (cells : List (Option ℤ)) : Type 0 where
  pub times : ℕ
  pub long : length raw ≡ times * width kind
  pub are : stored_cells kind raw fills ≡ cells

pub cells-length : (kind : NcType) (fills : List ℤ) (raw : List ℕ) (n : ℕ) → is_whole kind ≡ true → length raw ≡ n * width kind → length (stored_cells kind raw fills) ≡ n
cells-length kind fills raw n is long = length-map (numbers_of kind raw) (unless_fill fills) ∙ numbers-length kind raw n is long

pub none : (kind : NcType) (fills : List ℤ) → is_whole kind ≡ true → Stands kind fills [] []
none kind fills is =
    let long : 0 ≡ 0 * width kind = grind arith in
    record { times = 0; long = long; are = nil_from_length (stored_cells kind [] fills) (cells-length kind fills [] 0 is long) }

appended : (kind : NcType) (fills : List ℤ) (a b : List ℕ) (m n : ℕ) → is_whole kind ≡ true → length a ≡ m * width kind → length b ≡ n * width kind → length (a ++ b) ≡ (m + n) * width kind
    → stored_cells kind (a ++ b) fills ≡ stored_cells kind a fills ++ stored_cells kind b fills
appended kind fills a b m n is a_long b_long long =
    let w = width kind in
    let all = stored_cells kind (a ++ b) fills in
    let none : 0 * w ≡ 0 = grind arith in
    let first : take m all ≡ stored_cells kind a fills =
    sym (cells_in_run kind (a ++ b) fills (m + n) 0 m is long (omega arith)) ∙ ap (λ (raw : List ℕ). stored_cells kind raw fills) (ap (λ k. take (m * w) (drop k (a ++ b))) none ∙ take_at a b (m * w) a_long) in
    let second : take n (drop m all) ≡ stored_cells kind b fills =
    sym (cells_in_run kind (a ++ b) fills (m + n) m n is long (omega arith)) ∙ ap (λ (raw : List ℕ). stored_cells kind raw fills) (ap (take (n * w)) (drop_at a b (m * w) a_long) ∙ take_all (n * w) b (omega (arith, b_long))) in
    let left : length (drop m all) ≤ n = let e = length-drop m all in let f = cells-length kind fills (a ++ b) (m + n) is long in omega (arith, e, f) in
    sym (take-append-drop m all) ∙ ap (λ t. t ++ drop m all) first ∙ ap (λ t. stored_cells kind a fills ++ t) (sym (take_all n (drop m all) left) ∙ second)

pub both : (kind : NcType) (fills : List ℤ) (a b : List ℕ) (x y : List (Option ℤ)) → is_whole kind ≡ true → Stands kind fills a x → Stands kind fills b y → Stands kind fills (a ++ b) (x ++ y)
both kind fills a b x y is s t =
    let w = width kind in
    let e : (s.times + t.times) * w ≡ s.times * w + t.times * w = grind arith in
    let f = s.long in
    let g = t.long in
    let long : length (a ++ b) ≡ (s.times + t.times) * w = length-append a b ∙ omega (arith, e, f, g) in
    record {
      times = s.times + t.times;
      long = long;
      are = appended kind fills a b s.times t.times is s.long t.long long ∙ ap (λ k. k ++ stored_cells kind b fills) s.are ∙ ap (λ k. x ++ k) t.are;
    }

-- a block of bytes spells a block of cells
pub block_stands : (kind : NcType) (fills : List ℤ) (raw : List ℕ) (cells : List (Option ℤ)) (outer k o : ℕ) → is_whole kind ≡ true → length raw ≡ (outer * k) * width kind → stored_cells kind raw fills ≡ cells → o < outer
    → Stands kind fills (block outer o raw) (block outer o cells)
block_stands kind fills raw cells outer k o is long are below =
    let w = width kind in
    let all = stored_cells kind raw fills in
    let some : 0 < outer = omega (arith, below) in
    let by_blocks : (outer * k) * w ≡ outer * (k * w) = grind arith in
    let place : o * (k * w) ≡ (o * k) * w = grind arith in
    let wide : length raw / outer ≡ k * w = quotient (length raw) outer (k * w) some (long ∙ by_blocks) in
    let thin : length all / outer ≡ k = quotient (length all) outer k some (cells-length kind fills raw (outer * k) is long) in
    let here : block outer o raw ≡ take (k * w) (drop ((o * k) * w) raw) = ap (λ m. take m (drop (o * m) raw)) wide ∙ ap (λ m. take (k * w) (drop m raw)) place in
    let fits : o * k + k ≤ outer * k = within o outer k below in
    let room : o * (k * w) + k * w ≤ outer * (k * w) = within o outer (k * w) below in
    let left : length (drop ((o * k) * w) raw) ≡ length raw - (o * k) * w = length-drop ((o * k) * w) raw in
    record {
      times = k;
      long = ap length here ∙ length-take-le (k * w) (drop ((o * k) * w) raw) (omega (arith, room, left, long, by_blocks, place));
      are = ap (λ (b : List ℕ). stored_cells kind b fills) here ∙ cells_in_run kind raw fills (outer * k) (o * k) k is long fits ∙ sym (ap (λ m. take m (drop (o * m) all)) thin) ∙ ap (block outer o) are;
    }
