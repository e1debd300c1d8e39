-- Groups of positions with equal keys, and bins of times (xarray user guide, "GroupBy: Group and Bin Data", "Time Series Data").
use Rattle.std.specs.Prelude.{◌==◌, ℕ, ℤ, pos, Bool, false, List, [], ◌∷◌, length, map, get_or, fold, Option, Some, None}
use Rattle.std.specs.List.{filter, range_with_len}
use Rattle.std.specs.declared.cmp.Ordering.{Ordering}
use Rattle.std.specs.Ordering.{is_eq, match_ordering}
use Rattle.xr_times.specs.declared.time.Field.{Field}
use Rattle.xr_types.specs.declared.axis.Calendar.{Calendar}
use Rattle.xr_times.specs.Times.{field_of}

-- ---- groups

-- a key among ascending ones, each once
abbrev pub put : {K : Type 0} → (K → K → Ordering) → List K → K → List K
put cmp [] k = k ∷ []
put cmp (x ∷ xs) k = match_ordering (cmp k x) (k ∷ x ∷ xs) (x ∷ xs) (x ∷ put cmp xs k)

abbrev pub put_key : {K : Type 0} → (K → K → Ordering) → List K → Option K → List K
put_key cmp xs None = xs
put_key cmp xs (Some k) = put cmp xs k

-- the distinct keys, ascending; a missing one makes no group
unfoldable pub distinct : {K : Type 0} → (K → K → Ordering) → List (Option K) → List K
distinct cmp keys = fold (put_key cmp) [] keys

abbrev pub is_key : {K : Type 0} → (K → K → Ordering) → K → Option K → Bool
is_key cmp k None = false
is_key cmp k (Some x) = is_eq (cmp k x)

-- the positions that have a key
unfoldable pub holders : {K : Type 0} → (K → K → Ordering) → List (Option K) → K → List ℕ
holders cmp keys k = filter (λ p. is_key cmp k (get_or keys p None)) (range_with_len 0 (length keys))

-- for each group its positions
abbrev pub group_lists : {K : Type 0} → (K → K → Ordering) → List (Option K) → List (List ℕ)
group_lists cmp keys = map (holders cmp keys) (distinct cmp keys)

-- ---- bins

-- the positions of which the list of places has this one
unfoldable pub places_of : List ℕ → ℕ → List ℕ
places_of places j = filter (λ p. get_or places p 0 == j) (range_with_len 0 (length places))

unfoldable pub bin_lists : ℕ → List ℕ → List (List ℕ)
bin_lists count places = map (places_of places) (range_with_len 0 count)

-- ---- keys

abbrev pub field_keys : Calendar → Field → List ℤ → List (Option ℤ)
field_keys c field ts = map (λ t. Some (pos (field_of c t field))) ts

abbrev pub each_key : {K : Type 0} → List K → List (Option K)
each_key xs = map Some xs
