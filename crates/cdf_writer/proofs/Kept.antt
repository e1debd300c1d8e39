-- The record variables by their references.
use Rattle.std.proofs.Common.{◌≡◌, ℕ, zero, suc, ◌+◌, ◌*◌, ◌<◌, Bool, true, cond, List, [], ◌∷◌, ◌++◌, length, take, drop, get_or, map, refl, subst, sym, ap, ◌∙◌, inl, inr, arith}
use Rattle.std.proofs.lemmas.Bool.{cases_Bool}
use Rattle.std.proofs.lemmas.List.{append-nil, nil_from_length}
use Rattle.std.specs.List.{AllByRecursion, filter, flat_map, range_with_len}
use Rattle.xr_files.specs.declared.file.CdfVar.{CdfVar}
use Rattle.xr_files.specs.declared.file.CdfFile.{CdfFile}
use Rattle.xr_files.specs.Canonical.{IsFile, can_hold, filling, is_record, record_text, record_vars, slab}
use Rattle.cdf_writer.proofs.Each.{each_at, map_count}
use Rattle.cdf_writer.proofs.Fillings.{filled, lone_gap}
use Rattle.cdf_writer.proofs.Held.{IsHeld, held, record_length}
use Rattle.cdf_writer.proofs.Standing.{flat_same, pieces}
use Rattle.cdf_writer.proofs.Whole.{piece_length}

pub mapped_count : {X Y : Type 0} (g : X → Y) (xs : List X) (ys : List Y) → map g xs ≡ ys → length xs ≡ length ys
mapped_count g xs ys e = sym (map_count g xs) ∙ ap length e

map_at : {X Y : Type 0} (g : X → Y) (xs : List X) (i : ℕ) (x : X) → i < length xs → get_or (map g xs) i (g x) ≡ g (get_or xs i x)
map_at g [] i x lt = refl
map_at g (y ∷ ys) zero x lt = refl
map_at g (y ∷ ys) (suc i) x lt = map_at g ys i x (omega arith)

pub mapped_at : {X Y : Type 0} (g : X → Y) (xs : List X) (ys : List Y) (i : ℕ) (x : X) → map g xs ≡ ys → i < length xs → x ≡ get_or xs i x → get_or ys i (g x) ≡ g x
mapped_at g xs ys i x e lt is = ap (λ l. get_or l i (g x)) (sym e) ∙ map_at g xs i x lt ∙ ap g (sym is)

-- a record variable of a file that its version can hold
pub record HasRecords (f : CdfFile) (v : CdfVar) : Type 0 where
  pub held : IsHeld f v
  pub is : is_record f v ≡ true

keep : (f : CdfFile) (vs : List CdfVar) → AllByRecursion (IsHeld f) vs → AllByRecursion (HasRecords f) (filter (is_record f) vs)
keep f [] all = tt
keep f (v ∷ vs) all =
    let rest = keep f vs all.1 in
    let chosen : Bool → Type 0 = λ b. AllByRecursion (HasRecords f) (cond b (v ∷ filter (is_record f) vs) (filter (is_record f) vs)) in
    elim (cases_Bool (is_record f v)) [
      | inl e ↦ subst chosen (sym e) (record { held = all.0; is = e }, rest)
      | inr e ↦ subst chosen (sym e) rest
    ]

pub records_kept : (f : CdfFile) → IsFile f → can_hold f ≡ true → AllByRecursion (HasRecords f) (record_vars f)
records_kept f file can = keep f f.vars (held f file can)

pub kept_at : (f : CdfFile) (i : ℕ) (v : CdfVar) → IsFile f → can_hold f ≡ true → i < length (record_vars f) → get_or (record_vars f) i v ≡ v → HasRecords f v
kept_at f i v file can lt at = subst (HasRecords f) at (each_at (HasRecords f) (record_vars f) i v (records_kept f file can) lt)

-- ---- records of no variable and of one

nothing_in : (from n : ℕ) → flat_map (λ (r : ℕ). let none : List ℕ = [] in none) (range_with_len from n) ≡ []
nothing_in from zero = refl
nothing_in from (suc n) = nothing_in (from + 1) n

pub no_records : (f : CdfFile) → length (record_vars f) ≡ 0 → flat_map (λ r. flat_map (record_text f r) (record_vars f)) (range_with_len 0 f.numrecs) ≡ []
no_records f none = ap (λ vs. flat_map (λ r. flat_map (record_text f r) vs) (range_with_len 0 f.numrecs)) (nil_from_length (record_vars f) none) ∙ nothing_in 0 f.numrecs

pub lone_records : (f : CdfFile) (v : CdfVar) → HasRecords f v → record_vars f ≡ v ∷ [] → flat_map (λ r. flat_map (record_text f r) (record_vars f)) (range_with_len 0 f.numrecs) ≡ v.raw
lone_records f v h e =
    let n = f.numrecs in
    let z = slab f.dims v in
    let len = record_length f v h.held h.is in
    let piece : ℕ → List ℕ = λ r. take z (drop (r * z) v.raw) in
    let one : (r : ℕ) → r < 0 + n → flat_map (record_text f r) (v ∷ []) ≡ piece r = λ r lt.
    append-nil (record_text f r v) ∙ filled f v (piece r) (piece_length n r z v.raw len (omega (arith, lt))) ∙ ap (λ k. piece r ++ filling v k) (lone_gap f v h.is (ap length e)) ∙ append-nil (piece r) in
    ap (λ vs. flat_map (λ r. flat_map (record_text f r) vs) (range_with_len 0 n)) e
    ∙ flat_same (λ r. flat_map (record_text f r) (v ∷ [])) piece 0 n one
    ∙ pieces z 0 n v.raw (len ∙ ap (λ k. k * z) (let k : n ≡ 0 + n = omega arith in k))
    ∙ ap (λ k. drop k v.raw) (let k : 0 * z ≡ 0 = omega arith in k)

pub single : {X : Type 0} (xs : List X) (x : X) → length xs ≡ 1 → get_or xs 0 x ≡ x → xs ≡ x ∷ []
single [] x one at = absurd (omega arith)
single (y ∷ ys) x one at = ap (λ l. y ∷ l) (nil_from_length ys (omega arith)) ∙ ap (λ z. z ∷ []) at
