-- Each variable's values are read where they were written.
use Rattle.std.proofs.Common.{◌≡◌, ℕ, ◌+◌, ◌*◌, ◌-◌, ◌<◌, ◌≤◌, Bool, true, false, not, cond, eqb, leb, ◌||◌, List, [], ◌∷◌, ◌++◌, length, take, drop, map, sum, refl, subst, sym, ap, ◌∙◌, append_assoc, inl, inr, arith}
use Rattle.std.proofs.lemmas.Bool.{cases_Bool, cases_lt, eq-eqb, le-leb, ne_eqb}
use Rattle.std.proofs.lemmas.List.{length-append}
use Rattle.std.specs.List.{AllByRecursion, filter, flat_map, range_with_len}
use Rattle.xr_files.specs.declared.file.CdfDim.{CdfDim}
use Rattle.xr_files.specs.declared.file.CdfVar.{CdfVar}
use Rattle.xr_files.specs.declared.file.CdfFile.{CdfFile}
use Rattle.xr_types.specs.Points.{size}
use Rattle.xr_files.specs.Files.{end_of, head_size, is_inside, is_record_var, padded, raw_of, shape_of, sizes_together, var_of}
use Rattle.xr_files.specs.Files.{recsize as head_recsize, record_vars as head_record_vars}
use Rattle.xr_files.specs.Canonical.{fixed_size, header_size, is_record, placed, placed_from, record_text, record_vars, recsize, room, slab, with_filling, filling}
use Rattle.cdf_writer.proofs.Fillings.{filled, filled_length, gap}
use Rattle.cdf_writer.proofs.Heads.{head_of, header_of}
use Rattle.cdf_writer.proofs.Held.{IsHeld, fixed_length, record_length, record_points}
use Rattle.cdf_writer.proofs.Places.{placed_vars}
use Rattle.cdf_writer.proofs.Standing.{Stands, flat_same, pieces, stands_first, stands_next, stands_within}
use Rattle.cdf_writer.proofs.Whole.{piece_length}

-- ---- bytes from one record to the next

kept_sizes : (dims : List CdfDim) (ps : List (CdfVar × ℕ)) → map (head_size dims) (head_record_vars dims (map head_of ps)) ≡ map (slab dims) (filter (λ (v : CdfVar). is_record_var dims v.dims) (map (λ x. x.0) ps))
kept_sizes dims [] = refl
kept_sizes dims (x ∷ xs) =
    let rest = kept_sizes dims xs in
    elim (is_record_var dims x.0.dims) as (λ b. map (head_size dims) (cond b (head_of x ∷ head_record_vars dims (map head_of xs)) (head_record_vars dims (map head_of xs)))
    ≡ map (slab dims) (cond b (x.0 ∷ filter (λ (v : CdfVar). is_record_var dims v.dims) (map (λ y. y.0) xs)) (filter (λ (v : CdfVar). is_record_var dims v.dims) (map (λ y. y.0) xs))))
    [ true ↦ ap (λ l. slab dims x.0 ∷ l) rest | false ↦ rest ]

room_of : (f : CdfFile) (v : CdfVar) (b : Bool) → eqb (length (record_vars f)) 1 ≡ b → is_record f v ≡ true → room f v ≡ cond b (slab f.dims v) (padded (slab f.dims v))
room_of f v b e is = rw (is, e) refl

rooms_padded : (f : CdfFile) (vs : List CdfVar) → eqb (length (record_vars f)) 1 ≡ false → AllByRecursion (λ v. is_record f v ≡ true) vs → map padded (map (slab f.dims) vs) ≡ map (room f) vs
rooms_padded f [] e all = refl
rooms_padded f (v ∷ vs) e all = ap (λ s. s ∷ map padded (map (slab f.dims) vs)) (sym (room_of f v false e all.0)) ∙ ap (λ l. room f v ∷ l) (rooms_padded f vs e all.1)

together : (f : CdfFile) (vs : List CdfVar) → length (record_vars f) ≡ length vs → AllByRecursion (λ v. is_record f v ≡ true) vs → sizes_together (map (slab f.dims) vs) ≡ sum (map (room f) vs)
together f [] count all = refl
together f (v ∷ []) count all = sym (let one : eqb (length (record_vars f)) 1 ≡ true = eq-eqb _ _ count in room_of f v true one all.0) ∙ omega arith
together f (v ∷ w ∷ vs) count all =
    let many : eqb (length (record_vars f)) 1 ≡ false = ne_eqb (length (record_vars f)) 1 (λ e. omega arith) in
    ap sum (rooms_padded f (v ∷ w ∷ vs) many all)

all_pass : {X : Type 0} (p : X → Bool) (xs : List X) → AllByRecursion (λ x. p x ≡ true) (filter p xs)
all_pass p [] = tt
all_pass p (x ∷ xs) =
    elim (cases_Bool (p x)) [
      | inl e ↦ rw e (e, all_pass p xs)
      | inr e ↦ rw e (all_pass p xs)
    ]

pub recsize_is : (f : CdfFile) → head_recsize (header_of f) ≡ recsize f
recsize_is f =
    ap sizes_together (kept_sizes f.dims (placed f))
    ∙ ap (λ l. sizes_together (map (slab f.dims) (filter (is_record f) l))) (placed_vars f f.vars (header_size f) (header_size f + fixed_size f))
    ∙ together f (record_vars f) refl (all_pass (is_record f) f.vars)

-- ---- one variable

pub record There (bytes : List ℕ) (f : CdfFile) (x : CdfVar × ℕ) : Type 0 where
  pub same : var_of bytes (header_of f) f.numrecs (head_of x) ≡ x.0
  pub inside : is_inside (header_of f) f.numrecs (length bytes) (head_of x) ≡ true

or_true : (b : Bool) → (b || true) ≡ true
or_true true = refl
or_true false = refl

var_with : CdfVar → List ℕ → CdfVar
var_with v raw = record { name = v.name; dims = v.dims; attrs = v.attrs; kind = v.kind; raw = raw }

fixed_there : (f : CdfFile) (bytes : List ℕ) (v : CdfVar) (a : ℕ) (others : List ℕ) → IsHeld f v → is_record f v ≡ false → Stands bytes (with_filling f v v.raw ++ others) a → There bytes f (v, a)
unfolding var_with
fixed_there f bytes v a others h e s =
    let len = fixed_length f v h e in
    let text : with_filling f v v.raw ++ others ≡ v.raw ++ (filling v (gap f v) ++ others) = ap (λ l. l ++ others) (filled f v v.raw len) ∙ append_assoc v.raw (filling v (gap f v)) others in
    let there = subst (λ t. Stands bytes t a) text s in
    let values : take (slab f.dims v) (drop a bytes) ≡ v.raw = stands_first bytes v.raw (filling v (gap f v) ++ others) a (slab f.dims v) there len in
    let raw : raw_of bytes (header_of f) f.numrecs (head_of (v, a)) ≡ v.raw = ap (λ b. cond b (flat_map (λ r. take (slab f.dims v) (drop (a + r * head_recsize (header_of f)) bytes)) (range_with_len 0 f.numrecs)) (take (slab f.dims v) (drop a bytes))) e ∙ values in
    let end : end_of (header_of f) f.numrecs (head_of (v, a)) ≡ a + slab f.dims v = ap (λ b. cond b (a + (f.numrecs - 1) * head_recsize (header_of f)) a + slab f.dims v) e in
    let within : leb (end_of (header_of f) f.numrecs (head_of (v, a))) (length bytes) ≡ true = le-leb _ _ (omega (arith, end, len, stands_within bytes (v.raw ++ (filling v (gap f v) ++ others)) a there, length-append v.raw (filling v (gap f v) ++ others))) in
    record { same = ap (var_with v) raw; inside = ap (λ b. eqb (size (shape_of f.dims f.numrecs v.dims)) 0 || b) within ∙ or_true _ }

-- a variable with no records has no cells, and the last record of another ends within the bytes
record_inside : (f : CdfFile) (bytes : List ℕ) (v : CdfVar) (b : ℕ) → IsHeld f v → is_record f v ≡ true → ((r : ℕ) → r < f.numrecs → b + r * recsize f + slab f.dims v ≤ length bytes)
    → is_inside (header_of f) f.numrecs (length bytes) (head_of (v, b)) ≡ true
record_inside f bytes v b h e ends =
    let n = f.numrecs in
    elim (cases_lt 0 n) [
      | inr none ↦
          let zeroed : n ≡ 0 = omega arith in
          let empty : size (shape_of f.dims n v.dims) ≡ 0 = record_points f.dims v.dims n e h.place ∙ ap (λ k. k * size (shape_of f.dims 1 v.dims)) zeroed ∙ (let z : 0 * size (shape_of f.dims 1 v.dims) ≡ 0 = omega arith in z) in
          ap (λ c. c || leb (end_of (header_of f) n (head_of (v, b))) (length bytes)) (eq-eqb _ 0 empty)
      | inl some ↦
          let end : end_of (header_of f) n (head_of (v, b)) ≡ b + (n - 1) * recsize f + slab f.dims v = ap (λ c. cond c (b + (n - 1) * head_recsize (header_of f)) b + slab f.dims v) e ∙ ap (λ k. b + (n - 1) * k + slab f.dims v) (recsize_is f) in
          let within : leb (end_of (header_of f) n (head_of (v, b))) (length bytes) ≡ true = le-leb _ _ (omega (arith, end, ends (n - 1) (omega arith))) in
          ap (λ c. eqb (size (shape_of f.dims n v.dims)) 0 || c) within ∙ or_true _
    ]

record_there : (f : CdfFile) (bytes : List ℕ) (v : CdfVar) (b : ℕ) (others : ℕ → List ℕ) → IsHeld f v → is_record f v ≡ true → ((r : ℕ) → r < f.numrecs → Stands bytes (record_text f r v ++ others r) (b + r * recsize f)) → There bytes f (v, b)
unfolding var_with
record_there f bytes v b others h e s =
    let n = f.numrecs in
    let z = slab f.dims v in
    let len = record_length f v h e in
    let piece : ℕ → List ℕ = λ r. take z (drop (r * z) v.raw) in
    let sized : (r : ℕ) → r < n → length (piece r) ≡ z = λ r lt. piece_length n r z v.raw len lt in
    let text : (r : ℕ) → r < n → record_text f r v ++ others r ≡ piece r ++ (filling v (gap f v) ++ others r) = λ r lt. ap (λ l. l ++ others r) (filled f v (piece r) (sized r lt)) ∙ append_assoc (piece r) (filling v (gap f v)) (others r) in
    let there : (r : ℕ) → r < n → Stands bytes (piece r ++ (filling v (gap f v) ++ others r)) (b + r * recsize f) = λ r lt. subst (λ t. Stands bytes t (b + r * recsize f)) (text r lt) (s r lt) in
    let values : (r : ℕ) → r < 0 + n → take z (drop (b + r * recsize f) bytes) ≡ piece r = λ r lt. stands_first bytes (piece r) (filling v (gap f v) ++ others r) (b + r * recsize f) z (there r (omega (arith, lt))) (sized r (omega (arith, lt))) in
    let raw : raw_of bytes (header_of f) n (head_of (v, b)) ≡ v.raw =
    ap (λ c. cond c (flat_map (λ r. take z (drop (b + r * head_recsize (header_of f)) bytes)) (range_with_len 0 n)) (take z (drop b bytes))) e
    ∙ ap (λ k. flat_map (λ r. take z (drop (b + r * k) bytes)) (range_with_len 0 n)) (recsize_is f)
    ∙ flat_same (λ r. take z (drop (b + r * recsize f) bytes)) piece 0 n values
    ∙ pieces z 0 n v.raw (len ∙ ap (λ k. k * z) (let k : n ≡ 0 + n = omega arith in k))
    ∙ ap (λ k. drop k v.raw) (let k : 0 * z ≡ 0 = omega arith in k) in
    record { same = ap (var_with v) raw; inside = record_inside f bytes v b h e (λ r lt. omega (arith, sized r lt, stands_within bytes (piece r ++ (filling v (gap f v) ++ others r)) (b + r * recsize f) (there r lt), length-append (piece r) (filling v (gap f v) ++ others r))) }

-- ---- all of them

abbrev fixed_text : CdfFile → CdfVar → List ℕ
fixed_text f v = with_filling f v v.raw

pub all_there : (f : CdfFile) (bytes : List ℕ) (vs : List CdfVar) (a b : ℕ) → AllByRecursion (IsHeld f) vs → Stands bytes (flat_map (fixed_text f) (filter (λ v. not (is_record f v)) vs)) a
    → ((r : ℕ) → r < f.numrecs → Stands bytes (flat_map (record_text f r) (filter (is_record f) vs)) (b + r * recsize f)) → AllByRecursion (There bytes f) (placed_from f vs a b)
all_there f bytes [] a b all fixed records = tt
all_there f bytes (v ∷ vs) a b all fixed records =
    let others = flat_map (fixed_text f) (filter (λ w. not (is_record f w)) vs) in
    let behind : ℕ → List ℕ = λ r. flat_map (record_text f r) (filter (is_record f) vs) in
    let chosen : Bool → Type 0 = λ c. AllByRecursion (There bytes f) (cond c ((v, b) ∷ placed_from f vs a (b + room f v)) ((v, a) ∷ placed_from f vs (a + room f v) b)) in
    elim (cases_Bool (is_record f v)) [
      | inl e ↦
          let here : (r : ℕ) → r < f.numrecs → Stands bytes (record_text f r v ++ behind r) (b + r * recsize f) = λ r lt. rw e at (records r lt) in
          let on : Stands bytes others a = rw e at fixed in
          let size : (r : ℕ) → r < f.numrecs → length (record_text f r v) ≡ room f v = λ r lt. filled_length f v (take (slab f.dims v) (drop (r * slab f.dims v) v.raw)) (piece_length f.numrecs r (slab f.dims v) v.raw (record_length f v all.0 e) lt) in
          subst chosen (sym e) (
            record_there f bytes v b behind all.0 e here,
            all_there f bytes vs a (b + room f v) all.1 on (λ r lt. stands_next bytes (record_text f r v) (behind r) (b + r * recsize f) (b + room f v + r * recsize f) (here r lt) (omega (arith, size r lt))),
          )
      | inr e ↦
          let here : Stands bytes (fixed_text f v ++ others) a = rw e at fixed in
          let on : (r : ℕ) → r < f.numrecs → Stands bytes (behind r) (b + r * recsize f) = λ r lt. rw e at (records r lt) in
          let size = filled_length f v v.raw (fixed_length f v all.0 e) in
          subst chosen (sym e) (fixed_there f bytes v a others all.0 e here, all_there f bytes vs (a + room f v) b all.1 (stands_next bytes (fixed_text f v) others a (a + room f v) here (omega (arith, size))) on)
    ]
