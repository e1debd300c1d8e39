-- The positions that one position of a result uses.
use Rattle.std.proofs.Common.{◌≡◌, ◌<◌, ◌≤◌, ◌+◌, ◌-◌, ◌*◌, ℕ, zero, suc, List, [], ◌∷◌, length, map, take, drop, get_or, refl, ap, arith, mul-le-mul_right}
use Rattle.std.specs.List.{range_with_len}
use Rattle.std.proofs.lemmas.List.FromFn.{length-map-range_with_len, get_or-map-range_with_len}
use Rattle.xr_arrays.specs.FeedPositions.{window, block, runs, cut, AreEnds}

pub windows_length : (size before after : ℕ) → length (map (window size before after) (range_with_len 0 size)) ≡ size
windows_length size before after = length-map-range_with_len (window size before after) 0 size

pub blocks_length : (count width : ℕ) → length (map (block width) (range_with_len 0 count)) ≡ count
blocks_length count width = length-map-range_with_len (block width) 0 count

pub window_at : (size before after i : ℕ) → i < size → get_or (map (window size before after) (range_with_len 0 size)) i [] ≡ window size before after i
window_at size before after i lt = get_or-map-range_with_len (window size before after) 0 size i i [] lt (omega arith)

pub block_at : (count width i : ℕ) → i < count → get_or (map (block width) (range_with_len 0 count)) i [] ≡ block width i
block_at count width i lt = get_or-map-range_with_len (block width) 0 count i i [] lt (omega arith)

-- the end of a block is at most that of the last
pub block_ends : (count width i : ℕ) → i < count → i * width + width ≤ count * width
block_ends count width i lt = let more : suc i * width ≤ count * width = mul-le-mul_right width (omega arith) in let e : suc i * width ≡ i * width + width = grind arith in omega (arith, more, e)

pub runs_length : (from : ℕ) (ends : List ℕ) → length (runs from ends) ≡ length ends
runs_length from [] = refl
runs_length from (to ∷ ends) = ap suc (runs_length to ends)

pub cut_length : (ps : List ℕ) (from : ℕ) (ends : List ℕ) → length (cut ps from ends) ≡ length ends
cut_length ps from [] = refl
cut_length ps from (to ∷ ends) = ap suc (cut_length ps to ends)

pub run_at : (from : ℕ) (ends : List ℕ) (i : ℕ) → i < length ends → get_or (runs from ends) i [] ≡ range_with_len (get_or (from ∷ ends) i 0) (get_or ends i 0 - get_or (from ∷ ends) i 0)
run_at from [] i lt = absurd (omega arith)
run_at from (to ∷ ends) zero lt = refl
run_at from (to ∷ ends) (suc i) lt = run_at to ends i (omega arith)

pub cut_at : (ps : List ℕ) (from : ℕ) (ends : List ℕ) (i : ℕ) → i < length ends → get_or (cut ps from ends) i [] ≡ take (get_or ends i 0 - get_or (from ∷ ends) i 0) (drop (get_or (from ∷ ends) i 0) ps)
cut_at ps from [] i lt = absurd (omega arith)
cut_at ps from (to ∷ ends) zero lt = refl
cut_at ps from (to ∷ ends) (suc i) lt = cut_at ps to ends i (omega arith)

pub ends_at : (long from : ℕ) (ends : List ℕ) (i : ℕ) → AreEnds long from ends → i < length ends → (get_or (from ∷ ends) i 0 ≤ get_or ends i 0) × (get_or ends i 0 ≤ long)
ends_at long from [] i h lt = absurd (omega arith)
ends_at long from (to ∷ ends) zero h lt = (h.0, h.1)
ends_at long from (to ∷ ends) (suc i) h lt = ends_at long to ends i h.2 (omega arith)
