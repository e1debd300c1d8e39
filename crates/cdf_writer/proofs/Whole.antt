-- The length of the canonical bytes.
use Rattle.std.proofs.Common.{◌≡◌, ℕ, zero, suc, ◌+◌, ◌*◌, ◌<◌, ◌≤◌, Bool, true, false, not, cond, List, [], ◌∷◌, ◌++◌, length, take, drop, map, sum, refl, sym, ap, ◌∙◌, inl, inr, arith}
use Rattle.std.proofs.lemmas.Bool.{cases_Bool}
use Rattle.std.proofs.lemmas.List.{length-append, length-take-le, length-drop}
use Rattle.std.proofs.lemmas.List.Sums.{sum_by-cons}
use Rattle.std.proofs.lemmas.Nat.{mul-le}
use Rattle.std.specs.List.{AllByRecursion, filter, flat_map, range_with_len}
use Rattle.xr_files.specs.declared.file.CdfVar.{CdfVar}
use Rattle.xr_files.specs.declared.file.CdfFile.{CdfFile}
use Rattle.xr_files.specs.Canonical.{IsFile, attr_text, can_hold, canonical, canonical_size, count_text, dim_text, fixed_size, fixed_vars, header_size, header_text, is_record, list_text, placed, placed_from, recsize, record_text, record_vars, room, slab, var_text, with_filling}
use Rattle.xr_files.specs.Files.{magic}
use Rattle.cdf_writer.specs.Sizes.{count_bytes}
use Rattle.cdf_writer.proofs.Lengths.{list_length, var_length}
use Rattle.cdf_writer.proofs.Held.{IsHeld, held, fixed_length, not_true, record_length}
use Rattle.cdf_writer.proofs.Fillings.{filled_length}

-- ---- the header: places don't change its length

placed_length : (f : CdfFile) (version : ℕ) (vs : List CdfVar) (a b : ℕ)
    → length (flat_map (var_text version f.dims) (placed_from f vs a b)) ≡ length (flat_map (var_text version f.dims) (map (λ v. (v, 0)) vs))
placed_length f version [] a b = refl
placed_length f version (v ∷ vs) a b =
    let T = var_text version f.dims in
    let here : (p : ℕ) → length (T (v, p)) ≡ length (T (v, 0)) = λ p. var_length version f.dims v p ∙ sym (var_length version f.dims v 0) in
    let both : (p : ℕ) (rest : List (CdfVar × ℕ)) → length (flat_map T rest) ≡ length (flat_map T (map (λ w. (w, 0)) vs)) → length (T (v, p) ++ flat_map T rest) ≡ length (T (v, 0) ++ flat_map T (map (λ w. (w, 0)) vs)) = λ p rest e.
    length-append (T (v, p)) (flat_map T rest) ∙ omega (arith, here p, e) ∙ sym (length-append (T (v, 0)) (flat_map T (map (λ w. (w, 0)) vs))) in
    elim (is_record f v) as (λ r. length (flat_map T (cond r ((v, b) ∷ placed_from f vs a (b + room f v)) ((v, a) ∷ placed_from f vs (a + room f v) b))) ≡ length (flat_map T (map (λ w. (w, 0)) (v ∷ vs)))) [
      | true ↦ both b (placed_from f vs a (b + room f v)) (placed_length f version vs a (b + room f v))
      | false ↦ both a (placed_from f vs (a + room f v) b) (placed_length f version vs (a + room f v) b)
    ]

abbrev front : CdfFile → List ℕ
front f = magic f.version ++ (count_text f.version f.numrecs ++ (list_text f.version 10 (dim_text f.version) f.dims ++ list_text f.version 12 (attr_text f.version) f.attrs))

header_parts : (f : CdfFile) (ps : List (CdfVar × ℕ)) → length (header_text f ps) ≡ length (front f) + length (list_text f.version 11 (var_text f.version f.dims) ps)
header_parts f ps = simp length-append (omega arith)

pub header_length : (f : CdfFile) → length (header_text f (placed f)) ≡ header_size f
header_length f =
    let T = var_text f.version f.dims in
    let zero_places = map (λ (v : CdfVar). (v, 0)) f.vars in
    let vars : length (list_text f.version 11 T (placed f)) ≡ length (list_text f.version 11 T zero_places) = list_length f.version 11 T (placed f) ∙ ap (λ n. 4 + count_bytes f.version + n) (placed_length f f.version f.vars (header_size f) (header_size f + fixed_size f)) ∙ sym (list_length f.version 11 T zero_places) in
    header_parts f (placed f) ∙ ap (λ n. length (front f) + n) vars ∙ sym (header_parts f zero_places)

-- ---- the values

-- the variables that pass a test, each as many bytes as its room
pub passed_length : {X : Type 0} (p : X → Bool) (T : X → List ℕ) (R : X → ℕ) (P : X → Type 0) (xs : List X) → AllByRecursion P xs
    → ((x : X) → P x → p x ≡ true → length (T x) ≡ R x) → length (flat_map T (filter p xs)) ≡ sum (map R (filter p xs))
passed_length p T R P [] all each = refl
passed_length p T R P (x ∷ xs) all each =
    let rest = passed_length p T R P xs all.1 each in
    elim (cases_Bool (p x)) [
      | inl e ↦ rw e (length-append (T x) (flat_map T (filter p xs)) ∙ omega (arith, each x all.0 e, rest, sum_by-cons (λ n. n) (R x) (map R (filter p xs))))
      | inr e ↦ rw e rest
    ]

pub fixed_text_length : (f : CdfFile) → AllByRecursion (IsHeld f) f.vars → length (flat_map (λ v. with_filling f v v.raw) (fixed_vars f)) ≡ fixed_size f
fixed_text_length f all = passed_length (λ v. not (is_record f v)) (λ v. with_filling f v v.raw) (room f) (IsHeld f) f.vars all
    (λ v h e. filled_length f v v.raw (fixed_length f v h (not_true (is_record f v) e)))

pub piece_length : (n r s : ℕ) (raw : List ℕ) → length raw ≡ n * s → r < n → length (take s (drop (r * s) raw)) ≡ s
piece_length n r s raw e lt =
    let room_left : (r + 1) * s ≤ n * s = mul-le (r + 1) s n s (omega arith) (omega arith) in
    length-take-le s (drop (r * s) raw) (omega (arith, length-drop (r * s) raw, e, room_left))

pub record_text_length : (f : CdfFile) (r : ℕ) → AllByRecursion (IsHeld f) f.vars → r < f.numrecs → length (flat_map (record_text f r) (record_vars f)) ≡ recsize f
record_text_length f r all lt = passed_length (is_record f) (record_text f r) (room f) (IsHeld f) f.vars all
    (λ v h e. filled_length f v (take (slab f.dims v) (drop (r * slab f.dims v) v.raw)) (piece_length f.numrecs r (slab f.dims v) v.raw (record_length f v h e) lt))

records_length : (f : CdfFile) (from n : ℕ) → AllByRecursion (IsHeld f) f.vars → from + n ≤ f.numrecs
    → length (flat_map (λ r. flat_map (record_text f r) (record_vars f)) (range_with_len from n)) ≡ n * recsize f
records_length f from zero all le = omega arith
records_length f from (suc n) all le =
    let here = record_text_length f from all (omega arith) in
    let rest = records_length f (from + 1) n all (omega arith) in
    length-append (flat_map (record_text f from) (record_vars f)) (flat_map (λ r. flat_map (record_text f r) (record_vars f)) (range_with_len (from + 1) n))
    ∙ omega (arith, here, rest)

pub canonical_length : (f : CdfFile) → IsFile f → can_hold f ≡ true → length (canonical f) ≡ canonical_size f
unfolding canonical
canonical_length f file can =
    let all = held f file can in
    let fixed = flat_map (λ (v : CdfVar). with_filling f v v.raw) (fixed_vars f) in
    let records = flat_map (λ r. flat_map (record_text f r) (record_vars f)) (range_with_len 0 f.numrecs) in
    length-append (header_text f (placed f)) (fixed ++ records)
    ∙ omega (arith, length-append fixed records, header_length f, fixed_text_length f all, records_length f 0 f.numrecs all (omega arith))
