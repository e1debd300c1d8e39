-- The number of records of a streamed file is the greatest whose records all lie in the file.
use Rattle.std.proofs.Common.{◌≡◌, ◌==◌, ◌≤◌, ◌<◌, ◌+◌, ◌-◌, ◌*◌, ◌/◌, ◌∙◌, ℕ, zero, suc, true, false, cond, List, [], ◌∷◌, length, map, None, refl, arith, inl, inr, ltb}
use Rattle.std.specs.List.{sum, fold, All, AllByRecursion}
use Rattle.std.proofs.lemmas.List.Elements.{recursion_from_All, All-from_recursion}
use Rattle.std.proofs.Math.Nat.{le-div_iff_mul-le}
use Rattle.std.proofs.lemmas.Bool.Decides.{eqb_tells}
use Rattle.std.proofs.lemmas.Bool.{cases_lt, lt-ltb, le-ltb}
use Rattle.xr_types.specs.declared.attr.NcType.{NcType}
use Rattle.xr_types.specs.declared.attr.NcType.TheVariants.{Byte, Char, Short, Int, Float, Double, UByte, UShort, UInt, Int64, UInt64}
use Rattle.xr_files.specs.declared.file.CdfDim.{CdfDim}
use Rattle.xr_files.specs.declared.file.VarHead.{VarHead}
use Rattle.xr_types.specs.Points.{size}
use Rattle.xr_types.specs.Widths.{width}
use Rattle.xr_files.specs.Classic.{Header, dim_at}
use Rattle.xr_files.specs.Files.{shape_of, padded, head_size, record_vars, sizes_together, recsize, RecordsLie, records_in, least, records_of}

-- ---- each variable has a cell in each record, and so takes some bytes

width_some : (kind : NcType) → 0 < width kind
width_some Byte = omega arith
width_some Char = omega arith
width_some Short = omega arith
width_some Int = omega arith
width_some Float = omega arith
width_some Double = omega arith
width_some UByte = omega arith
width_some UShort = omega arith
width_some UInt = omega arith
width_some Int64 = omega arith
width_some UInt64 = omega arith

some_times : (a b : ℕ) → 0 < a → 0 < b → 0 < a * b
some_times a b x y = grind arith

some_positions : (len : ℕ) → 0 < (cond (len == 0) 1 len)
some_positions len =
    elim (eqb_tells len 0) [
      | inl y ↦ rw y.0 (omega arith)
      | inr n ↦ let some : 0 < len = omega (arith, n.1) in rw n.0 some
    ]

cells_some : (dims : List CdfDim) (ids : List ℕ) → 0 < size (shape_of dims 1 ids)
cells_some dims [] = omega arith
cells_some dims (i ∷ ids) = some_times _ _ (some_positions (dim_at dims i).len) (cells_some dims ids)

head_some : (dims : List CdfDim) (v : VarHead) → 0 < head_size dims v
head_some dims v = some_times _ _ (cells_some dims v.dims) (width_some v.kind)

grows : (a n : ℕ) (ns : List ℕ) → n ≤ a → n ≤ fold (λ t x. t + x) a ns
grows a n [] le = le
grows a n (x ∷ xs) le = grows (a + x) n xs (omega arith)

sum_first : (n : ℕ) (ns : List ℕ) → n ≤ sum (n ∷ ns)
sum_first n ns = grows (0 + n) n ns (omega arith)

distance_some : (dims : List CdfDim) (v : VarHead) (vs : List VarHead) → 0 < sizes_together (map (head_size dims) (v ∷ vs))
distance_some dims v [] = head_some dims v
distance_some dims v (w ∷ ws) = let a = sum_first (padded (head_size dims v)) (map padded (map (head_size dims) (w ∷ ws))) in let b = head_some dims v in omega (arith, a, b)

-- ---- one variable

abbrev count_with : ℕ → ℕ → ℕ → ℕ
count_with bytes first step = cond (ltb bytes first) 0 ((bytes - first) / step + 1)

lies_with : (begin head step bytes r : ℕ) → 0 < step → (0 < r → begin + (r - 1) * step + head ≤ bytes) → r ≤ count_with bytes (begin + head) step
lies_with begin head step bytes zero some h = omega arith
lies_with begin head step bytes (suc k) some h =
    let e : suc k - 1 ≡ k = omega arith in
    let last : begin + k * step + head ≤ bytes = rw e at (h (omega arith)) in
    let inside : ltb bytes (begin + head) ≡ false = le-ltb _ _ (omega (arith, last)) in
    let few : k ≤ (bytes - (begin + head)) / step = (le-div_iff_mul-le some).1 (omega (arith, last)) in
    rw inside (omega (arith, few))

with_lies : (begin head step bytes r : ℕ) → 0 < step → r ≤ count_with bytes (begin + head) step → 0 < r → begin + (r - 1) * step + head ≤ bytes
with_lies begin head step bytes zero some le pos_r = absurd (omega (arith, pos_r))
with_lies begin head step bytes (suc k) some le pos_r =
    let e : suc k - 1 ≡ k = omega arith in
    elim (cases_lt bytes (begin + head)) [
      | inl lt ↦ let out : ltb bytes (begin + head) ≡ true = lt-ltb _ _ lt in absurd (omega (arith, rw out at le))
      | inr ge ↦
          let inside : ltb bytes (begin + head) ≡ false = le-ltb _ _ ge in
          let few : k ≤ (bytes - (begin + head)) / step = omega (arith, rw inside at le) in
          let product : k * step ≤ bytes - (begin + head) = (le-div_iff_mul-le some).0 few in
          rw e (omega (arith, product, ge))
    ]

-- ---- all variables

under_both : (r n m : ℕ) → r ≤ n → r ≤ m → r ≤ cond (ltb n m) n m
under_both r n m a b =
    elim (cases_lt n m) [
      | inl lt ↦ let e : ltb n m ≡ true = lt-ltb _ _ lt in rw e a
      | inr ge ↦ let e : ltb n m ≡ false = le-ltb _ _ ge in rw e b
    ]

both_under : (r n m : ℕ) → r ≤ cond (ltb n m) n m → (r ≤ n) × (r ≤ m)
both_under r n m h =
    elim (cases_lt n m) [
      | inl lt ↦ let e : ltb n m ≡ true = lt-ltb _ _ lt in let a = rw e at h in (omega (arith, a), omega (arith, a, lt))
      | inr ge ↦ let e : ltb n m ≡ false = le-ltb _ _ ge in let b = rw e at h in (omega (arith, b, ge), omega (arith, b))
    ]

pub all_lie : (h : Header) (bytes r : ℕ) → 0 < recsize h → (vs : List VarHead) → r ≤ least (map (records_in h bytes) vs) → AllByRecursion (RecordsLie h bytes r) vs
all_lie h bytes r some [] le = tt
all_lie h bytes r some (v ∷ []) le = (with_lies v.begin (head_size h.dims v) (recsize h) bytes r some le, tt)
all_lie h bytes r some (v ∷ w ∷ vs) le =
    let p = both_under r _ _ le in
    (with_lies v.begin (head_size h.dims v) (recsize h) bytes r some p.0, all_lie h bytes r some (w ∷ vs) p.1)

pub lie_most : (h : Header) (bytes r : ℕ) → 0 < recsize h → (v : VarHead) (vs : List VarHead) → AllByRecursion (RecordsLie h bytes r) (v ∷ vs) → r ≤ least (map (records_in h bytes) (v ∷ vs))
lie_most h bytes r some v [] all = lies_with v.begin (head_size h.dims v) (recsize h) bytes r some all.0
lie_most h bytes r some v (w ∷ vs) all = under_both r _ _ (lies_with v.begin (head_size h.dims v) (recsize h) bytes r some all.0) (lie_most h bytes r some w vs all.1)

-- ---- the number of records

some_record : (h : Header) (vs : List VarHead) → record_vars h.dims h.vars ≡ vs → 0 < length vs → 0 < recsize h
some_record h [] e some = absurd (omega (arith, some))
some_record h (v ∷ vs) e some = rw e (distance_some h.dims v vs)

counted : (h : Header) (bytes : ℕ) → h.numrecs ≡ None → records_of h bytes ≡ least (map (records_in h bytes) (record_vars h.dims h.vars))
counted h bytes e = rw e refl

none_least : (h : Header) (bytes : ℕ) (vs : List VarHead) → vs ≡ [] → least (map (records_in h bytes) vs) ≡ 0
none_least h bytes vs e = rw e refl

pub no_records : (h : Header) (bytes : ℕ) → h.numrecs ≡ None → record_vars h.dims h.vars ≡ [] → records_of h bytes ≡ 0
no_records h bytes streamed e = counted h bytes streamed ∙ none_least h bytes (record_vars h.dims h.vars) e

lie_among : (h : Header) (bytes r : ℕ) (vs : List VarHead) → record_vars h.dims h.vars ≡ vs → r ≤ least (map (records_in h bytes) vs) → AllByRecursion (RecordsLie h bytes r) vs
lie_among h bytes r [] e le = tt
lie_among h bytes r (v ∷ vs) e le = all_lie h bytes r (some_record h (v ∷ vs) e (omega arith)) (v ∷ vs) le

-- the first r records lie in the file
pub records_lie : (h : Header) (bytes r : ℕ) → h.numrecs ≡ None → r ≤ records_of h bytes → All (RecordsLie h bytes r) (record_vars h.dims h.vars)
records_lie h bytes r streamed le =
    let vs = record_vars h.dims h.vars in
    All-from_recursion (RecordsLie h bytes r) vs (lie_among h bytes r vs refl (rw (counted h bytes streamed) at le))

most_among : (h : Header) (bytes r : ℕ) (vs : List VarHead) → record_vars h.dims h.vars ≡ vs → 0 < length vs → AllByRecursion (RecordsLie h bytes r) vs → r ≤ least (map (records_in h bytes) vs)
most_among h bytes r [] e some all = absurd (omega (arith, some))
most_among h bytes r (v ∷ vs) e some all = lie_most h bytes r (some_record h (v ∷ vs) e some) v vs all

-- and no more of them do
pub records_most : (h : Header) (bytes r : ℕ) → h.numrecs ≡ None → 0 < length (record_vars h.dims h.vars) → All (RecordsLie h bytes r) (record_vars h.dims h.vars) → r ≤ records_of h bytes
records_most h bytes r streamed some all =
    let vs = record_vars h.dims h.vars in
    rw (counted h bytes streamed) (most_among h bytes r vs refl some (recursion_from_All (RecordsLie h bytes r) vs all))
