-- Each byte string spells one file or meets one fault, and the function `file_in` gives it.
use Rattle.std.proofs.Common.{◌≡◌, ◌≢◌, ◌⊎◌, ℕ, ◌≤◌, ◌==◌, ◌||◌, Bool, true, false, List, ◌++◌, length, take, drop, Option, Some, None, Result, Ok, Err, refl, sym, ap, subst, ◌∙◌, inl, inr, ltb, if◌then◌else◌}
use Rattle.std.proofs.lemmas.Bool.{ltb-false, ltb-true, le-ltb, lt-ltb}
use Rattle.std.proofs.lemmas.Bool.Decides.{eqb_tells}
use Rattle.std.specs.Bool.{Decides}
use Rattle.std.proofs.lemmas.Slice.Eq.{bytes_eq-Decides}
use Rattle.std.proofs.lemmas.List.{take-append-drop}
use Rattle.xr_types.specs.declared.fault.CdfKind.{CdfKind}
use Rattle.xr_types.specs.declared.fault.CdfKind.TheVariants.{TooLarge, CutData}
use Rattle.xr_files.specs.declared.stop.Stop.{Stop}
use Rattle.xr_files.specs.declared.file.CdfFile.{CdfFile}
use Rattle.xr_files.specs.Classic.{Header, header}
use Rattle.xr_files.specs.Files.{most_bytes, magic, is_version, all_inside, file_of, version_in, filed, file_behind, file_in, Spells, Meets}
use Rattle.xr_files.specs.Files.Meets.{too_large, bad_magic, stops, cut_data}
use Rattle.xr_files.proofs.FormatLaws.{IsBytes, IsBytes-drop}
use Rattle.xr_files.proofs.HeaderLaws.{header-sound}

-- ---- versions

neither : (a b c : Bool) → a ≡ false → b ≡ false → c ≡ false → (a || b || c) ≡ true → ⊥
neither true b c p q r h = absurd cc
neither false true c p q r h = absurd cc
neither false false true p q r h = absurd cc
neither false false false p q r h = absurd cc

pub version_cases : (v : ℕ) → is_version v ≡ true → (v ≡ 1) ⊎ (v ≡ 2) ⊎ (v ≡ 5)
version_cases v h =
    elim (eqb_tells v 1) [
      | inl y ↦ inl y.1
      | inr n ↦ elim (eqb_tells v 2) [
        | inl y ↦ inr (inl y.1)
        | inr m ↦ elim (eqb_tells v 5) [
          | inl y ↦ inr (inr y.1)
          | inr k ↦ absurd (neither (v == 1) (v == 2) (v == 5) n.0 m.0 k.0 h)
        ]
      ]
    ]

version_at : (v : ℕ) (rest : List ℕ) → is_version v ≡ true → version_in (magic v ++ rest) ≡ Some v
version_at v rest h =
    elim (version_cases v h) [
      | inl e ↦ rw e refl
      | inr (inl e) ↦ rw e refl
      | inr (inr e) ↦ rw e refl
    ]

-- the version that stands in the bytes' magic
pub record HasMagic (bytes : List ℕ) (v : ℕ) : Type 0 where
  pub known : is_version v ≡ true
  pub parts : bytes ≡ magic v ++ drop 4 bytes

abbrev has_magic : List ℕ → Option ℕ → Type 0
has_magic bytes None = (v : ℕ) → is_version v ≡ true → take 4 bytes ≢ magic v
has_magic bytes (Some v) = HasMagic bytes v

magic_with : (bytes : List ℕ) (v : ℕ) → is_version v ≡ true → take 4 bytes ≡ magic v → HasMagic bytes v
magic_with bytes v known e = record { known = known; parts = sym (take-append-drop 4 bytes) ∙ ap (λ (t : List ℕ). t ++ drop 4 bytes) e }

tells : (bytes : List ℕ) (a b c : Bool) → Decides a (take 4 bytes ≡ magic 1) → Decides b (take 4 bytes ≡ magic 2) → Decides c (take 4 bytes ≡ magic 5) → has_magic bytes (if a then Some 1 else if b then Some 2 else if c then Some 5 else None)
tells bytes true b c da db dc = magic_with bytes 1 refl (da.0 refl)
tells bytes false true c da db dc = magic_with bytes 2 refl (db.0 refl)
tells bytes false false true da db dc = magic_with bytes 5 refl (dc.0 refl)
tells bytes false false false da db dc = λ v known e.
    elim (version_cases v known) [
      | inl one ↦ let h : take 4 bytes ≡ magic 1 = e ∙ ap magic one in let f = da.1 h in absurd cc
      | inr (inl two) ↦ let h : take 4 bytes ≡ magic 2 = e ∙ ap magic two in let f = db.1 h in absurd cc
      | inr (inr five) ↦ let h : take 4 bytes ≡ magic 5 = e ∙ ap magic five in let f = dc.1 h in absurd cc
    ]

pub magic_told : (bytes : List ℕ) → has_magic bytes (version_in bytes)
magic_told bytes = tells bytes _ _ _ (bytes_eq-Decides (take 4 bytes) (magic 1)) (bytes_eq-Decides (take 4 bytes) (magic 2)) (bytes_eq-Decides (take 4 bytes) (magic 5))

none_told : (bytes : List ℕ) (o : Option ℕ) → has_magic bytes o → ((v : ℕ) → is_version v ≡ true → take 4 bytes ≢ magic v) → o ≡ None
none_told bytes None h none = refl
none_told bytes (Some v) h none = absurd (none v h.known (ap (take 4) h.parts))

no_version : (bytes : List ℕ) → ((v : ℕ) → is_version v ≡ true → take 4 bytes ≢ magic v) → version_in bytes ≡ None
no_version bytes none = none_told bytes (version_in bytes) (magic_told bytes) none

-- ---- what the relations say, the function gives

behind_at : (bytes : List ℕ) (v : ℕ) (rest : List ℕ) → length bytes ≤ most_bytes → is_version v ≡ true → bytes ≡ magic v ++ rest → file_in bytes ≡ filed v bytes ((header v).reads rest)
unfolding file_in
behind_at bytes v rest short known parts =
    let small : ltb most_bytes (length bytes) ≡ false = le-ltb _ _ short in
    let version : version_in bytes ≡ Some v = ap version_in parts ∙ version_at v rest known in
    let behind : drop 4 bytes ≡ rest = ap (drop 4) parts in
    rw (small, version, behind) refl

header_at : (v : ℕ) (h : Header) (text rest : List ℕ) → (header v).spells h text → (header v).reads (text ++ rest) ≡ Ok (h, rest)
header_at v h text rest spelled = (header-sound v).again h text rest spelled

pub spelled_is_given : (bytes : List ℕ) (f : CdfFile) → Spells bytes f → file_in bytes ≡ Ok f
spelled_is_given bytes f s =
    behind_at bytes f.version (s.text ++ s.rest) s.short s.known s.parts
    ∙ ap (filed f.version bytes) (header_at f.version s.head s.text s.rest s.spelled)
    ∙ rw (s.inside, s.file) refl

pub met_is_given : (bytes : List ℕ) (kind : CdfKind) (offset : ℕ) → Meets bytes kind offset → file_in bytes ≡ Err (kind, offset)
unfolding file_in
met_is_given bytes _ _ (too_large long) = let large : ltb most_bytes (length bytes) ≡ true = lt-ltb _ _ long in rw large refl
met_is_given bytes _ _ (bad_magic short none) =
    let small : ltb most_bytes (length bytes) ≡ false = le-ltb _ _ short in
    rw (small, no_version bytes none) refl
met_is_given bytes _ _ (stops v behind s short known parts breaks) =
    behind_at bytes v behind short known parts ∙ ap (filed v bytes) ((header-sound v).broken behind s breaks)
met_is_given bytes _ _ (cut_data v h text rest short known parts spelled cut) =
    behind_at bytes v (text ++ rest) short known parts ∙ ap (filed v bytes) (header_at v h text rest spelled) ∙ rw cut refl

-- ---- what the function gives, the relations say

abbrev pub Told : List ℕ → Result CdfFile (CdfKind × ℕ) → Type 0
Told bytes (Ok f) = Spells bytes f
Told bytes (Err x) = Meets bytes x.0 x.1

whole : (bytes : List ℕ) (v : ℕ) (h : Header) (text rest : List ℕ) (inside : Bool) → length bytes ≤ most_bytes → is_version v ≡ true → bytes ≡ magic v ++ (text ++ rest) → (header v).spells h text → all_inside h (length bytes) ≡ inside
    → Told bytes (if inside then Ok (file_of v bytes h) else Err (CutData, length bytes))
whole bytes v h text rest true short known parts spelled inside = record { short = short; known = known; head = h; text = text; rest = rest; parts = parts; spelled = spelled; inside = inside; file = refl }
whole bytes v h text rest false short known parts spelled inside = cut_data v h text rest short known parts spelled inside

walked : (bytes : List ℕ) (v : ℕ) (r : Result (Header × List ℕ) Stop) → IsBytes bytes → length bytes ≤ most_bytes → HasMagic bytes v → (header v).reads (drop 4 bytes) ≡ r → Told bytes (filed v bytes r)
walked bytes v (Err s) fits short m e = stops v (drop 4 bytes) s short m.known m.parts ((header-sound v).stops (drop 4 bytes) s (IsBytes-drop 4 bytes fits) e)
walked bytes v (Ok x) fits short m e =
    let t = (header-sound v).takes (drop 4 bytes) x (IsBytes-drop 4 bytes fits) e in
    whole bytes v x.0 t.text x.1 (all_inside x.0 (length bytes)) short m.known (m.parts ∙ ap (λ (w : List ℕ). magic v ++ w) t.parts) t.spelled refl

behind_magic : (bytes : List ℕ) (o : Option ℕ) → IsBytes bytes → length bytes ≤ most_bytes → has_magic bytes o → Told bytes (file_behind o bytes)
behind_magic bytes None fits short none = bad_magic short none
behind_magic bytes (Some v) fits short m = walked bytes v ((header v).reads (drop 4 bytes)) fits short m refl

sized : (bytes : List ℕ) (large : Bool) → IsBytes bytes → ltb most_bytes (length bytes) ≡ large → Told bytes (if large then Err (TooLarge, 0) else file_behind (version_in bytes) bytes)
sized bytes true fits e = too_large (ltb-true _ _ e)
sized bytes false fits e = behind_magic bytes (version_in bytes) fits (ltb-false _ _ e) (magic_told bytes)

pub told : (bytes : List ℕ) → IsBytes bytes → Told bytes (file_in bytes)
unfolding file_in
told bytes fits = sized bytes (ltb most_bytes (length bytes)) fits refl

pub given_is_spelled : (bytes : List ℕ) (f : CdfFile) → IsBytes bytes → file_in bytes ≡ Ok f → Spells bytes f
given_is_spelled bytes f fits e = subst (Told bytes) e (told bytes fits)

pub given_is_met : (bytes : List ℕ) (kind : CdfKind) (offset : ℕ) → IsBytes bytes → file_in bytes ≡ Err (kind, offset) → Meets bytes kind offset
given_is_met bytes kind offset fits e = subst (Told bytes) e (told bytes fits)

either : (bytes : List ℕ) (r : Result CdfFile (CdfKind × ℕ)) → Told bytes r → ((f : CdfFile) × Spells bytes f) ⊎ ((kind : CdfKind) × (offset : ℕ) × Meets bytes kind offset)
either bytes (Ok f) h = inl (f, h)
either bytes (Err x) h = inr (x.0, x.1, h)

pub some_answer : (bytes : List ℕ) → IsBytes bytes → ((f : CdfFile) × Spells bytes f) ⊎ ((kind : CdfKind) × (offset : ℕ) × Meets bytes kind offset)
some_answer bytes fits = either bytes (file_in bytes) (told bytes fits)
