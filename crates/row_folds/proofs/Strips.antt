-- Where the cells of strips and the folds at hand lie.
use Rattle.std.proofs.Common.{◌≡◌, ◌<◌, ◌≤◌, ◌+◌, ◌-◌, ◌*◌, ◌/◌, ℕ, suc, List, [], ◌∷◌, ap, arith}
use Rattle.std.proofs.lemmas.List.Elements.{All-cons}
use Rattle.std.specs.List.{All, range_with_len}
use Rattle.std.proofs.lemmas.List.FromFn.{length-range_with_len, get_or-range_with_len}
use Rattle.std.proofs.lemmas.Nat.{mul-le, div-add-mod'}
use Rattle.xr_arrays.specs.Nodes.{most_node_cells, ArePositions}
use Rattle.plan_core.proofs.Tabs.{within}
use Rattle.row_folds.specs.declared.strip.Strip.{Strip}
use Rattle.row_folds.specs.Windows.{IsStrip}

pub strip_few : (s : Strip) (total k : ℕ) → IsStrip s total → k < s.size → (s.start + k * s.stride ≤ most_node_cells) × (k ≤ most_node_cells)
strip_few s total k h lt =
    let inside = h.inside k lt in
    let few = h.few in
    let near = h.near in
    (omega arith, omega arith)

pub strip_row : (s : Strip) (total k begin : ℕ) → IsStrip s total → k < s.size → begin ≡ s.start + k * s.stride → begin + s.count ≤ total
strip_row s total k begin h lt e =
    let inside = h.inside k lt in
    omega arith

pub two_rows : (x count room : ℕ) → (x + 2) * count ≤ room → 2 * count ≤ room
two_rows x count room fits = let up = mul-le 2 count (x + 2) count (omega arith) (omega arith) in omega arith

pub rows_inside : (d x count room : ℕ) → d < x → (x + 2) * count ≤ room → (d + 1) * count + count + count ≤ room
rows_inside d x count room lt fits =
    let up = mul-le (d + 3) count (x + 2) count (omega arith) (omega arith) in
    let three : (d + 3) * count ≡ (d + 1) * count + count + count = grind arith in
    omega arith

pub room_enough : (n count room most : ℕ) → most ≡ room / count → n + 2 ≤ most → (n + 2) * count ≤ room
room_enough n count room most e le =
    let up = mul-le (n + 2) count most count le (omega arith) in
    let split = div-add-mod' room count in
    let same : most * count ≡ room / count * count = ap (λ k. k * count) e in
    omega arith

pub last_below : (from to n : ℕ) → from < to → All (λ k. k < n) (range_with_len from (to - from)) → to ≤ n
last_below from to n lt all =
    let long = length-range_with_len from (to - from) in
    let i : ℕ = to - from - 1 in
    let below : i < to - from = omega arith in
    let h = all i 0 (omega arith) in
    let e = get_or-range_with_len from (to - from) i 0 below in
    omega arith

pub row_ends : (i many at stride count rows : ℕ) → i < many → count ≤ stride → at + many * stride ≤ rows → at + i * stride + count ≤ rows
row_ends i many at stride count rows lt le inside = let near = within i many stride lt in omega arith

pub positions_all : (n from : ℕ) (ps : List ℕ) → ArePositions n from ps → All (λ k. k < n) ps
positions_all n from [] is = λ k d lt. absurd (omega arith)
positions_all n from (p ∷ ps) is = All-cons (λ k. k < n) p ps is.1 (positions_all n (suc p) ps is.2)

-- fewer columns of a strip
pub strip_part : (s part : Strip) (total done : ℕ) → IsStrip s total → part.size ≡ s.size → part.stride ≡ s.stride → part.start ≡ s.start + done → done + part.count ≤ s.count → 0 < part.count → IsStrip part total
strip_part s part total done h is_size is_stride is_start inside some =
    let near = h.near in
    let count_near = h.count_near in
    record {
      inside = λ k lt.
          let whole = h.inside k (omega arith) in
          let there : part.start + k * part.stride + part.count ≡ s.start + done + k * s.stride + part.count = (λ i. is_start i + k * is_stride i + part.count) in
          omega arith;
      few = h.few;
      near = omega arith;
      count_near = omega arith;
    }
