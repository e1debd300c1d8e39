-- The canonical bytes of a file spell it.
use Rattle.std.proofs.Common.{◌≡◌, ℕ, ◌+◌, ◌*◌, ◌<◌, true, leb, ◌&&◌, List, [], ◌∷◌, ◌++◌, length, map, refl, subst, sym, ap, ◌∙◌, arith}
use Rattle.std.proofs.lemmas.Bool.{and_parts, leb-true}
use Rattle.std.proofs.lemmas.List.{append-nil}
use Rattle.std.specs.List.{AllByRecursion, flat_map, list_all, range_with_len}
use Rattle.xr_files.specs.declared.file.CdfVar.{CdfVar}
use Rattle.xr_files.specs.declared.file.CdfFile.{CdfFile}
use Rattle.xr_files.specs.Files.{Spells, is_inside, most_bytes, var_of}
use Rattle.xr_files.specs.Canonical.{IsFile, can_hold, canonical, canonical_size, fixed_size, fixed_vars, header_size, header_text, is_small, placed, record_text, record_vars, recsize, values_text, with_filling}
use Rattle.cdf_writer.proofs.Heads.{behind_magic, head_of, header_of, header_spelled}
use Rattle.cdf_writer.proofs.Held.{IsHeld, held}
use Rattle.cdf_writer.proofs.Places.{placed_vars}
use Rattle.cdf_writer.proofs.Reread.{There, all_there}
use Rattle.cdf_writer.proofs.Standing.{Stands, row_stands, stands_next}
use Rattle.cdf_writer.proofs.Whole.{canonical_length, fixed_text_length, header_length, record_text_length}

-- ---- where the values stand

abbrev fixed_part : CdfFile → List ℕ
fixed_part f = flat_map (λ (v : CdfVar). with_filling f v v.raw) (fixed_vars f)

abbrev record_part : CdfFile → ℕ → List ℕ
record_part f r = flat_map (record_text f r) (record_vars f)

fixed_stand : (f : CdfFile) → Stands (canonical f) (fixed_part f) (header_size f)
unfolding canonical
fixed_stand f = record { front = header_text f (placed f); rest = flat_map (record_part f) (range_with_len 0 f.numrecs); parts = refl; place = header_length f }

records_stand : (f : CdfFile) → AllByRecursion (IsHeld f) f.vars → Stands (canonical f) (flat_map (record_part f) (range_with_len 0 f.numrecs)) (header_size f + fixed_size f)
unfolding canonical
records_stand f all =
    let values : Stands (canonical f) (values_text f) (header_size f) = record { front = header_text f (placed f); rest = []; parts = ap (λ l. header_text f (placed f) ++ l) (sym (append-nil (values_text f))); place = header_length f } in
    stands_next (canonical f) (fixed_part f) (flat_map (record_part f) (range_with_len 0 f.numrecs)) (header_size f) (header_size f + fixed_size f) values (omega (arith, fixed_text_length f all))

record_stands : (f : CdfFile) → AllByRecursion (IsHeld f) f.vars → (r : ℕ) → r < f.numrecs → Stands (canonical f) (record_part f r) (header_size f + fixed_size f + r * recsize f)
record_stands f all r lt =
    let there = row_stands (record_part f) (recsize f) 0 f.numrecs r (canonical f) (header_size f + fixed_size f) lt (λ k less. record_text_length f k all (omega (arith, less))) (records_stand f all) in
    subst (λ k. Stands (canonical f) (record_part f k) (header_size f + fixed_size f + r * recsize f)) (let e : 0 + r ≡ r = omega arith in e) there

-- ---- the file that they are read as

vars_same : (f : CdfFile) (bytes : List ℕ) (ps : List (CdfVar × ℕ)) → AllByRecursion (There bytes f) ps → map (var_of bytes (header_of f) f.numrecs) (map head_of ps) ≡ map (λ x. x.0) ps
vars_same f bytes [] all = refl
vars_same f bytes (x ∷ xs) all = ap (λ v. v ∷ map (var_of bytes (header_of f) f.numrecs) (map head_of xs)) all.0.same ∙ ap (λ l. x.0 ∷ l) (vars_same f bytes xs all.1)

vars_inside : (f : CdfFile) (bytes : List ℕ) (ps : List (CdfVar × ℕ)) → AllByRecursion (There bytes f) ps → list_all (is_inside (header_of f) f.numrecs (length bytes)) (map head_of ps) ≡ true
vars_inside f bytes [] all = refl
vars_inside f bytes (x ∷ xs) all = ap (λ b. b && list_all (is_inside (header_of f) f.numrecs (length bytes)) (map head_of xs)) all.0.inside ∙ vars_inside f bytes xs all.1

file_with : CdfFile → List CdfVar → CdfFile
file_with f vs = record { version = f.version; numrecs = f.numrecs; dims = f.dims; attrs = f.attrs; vars = vs }

pub spelled : (f : CdfFile) → IsFile f → can_hold f ≡ true → is_small f ≡ true → Spells (canonical f) f
unfolding canonical file_with
spelled f file can small =
    let bytes = canonical f in
    let all = held f file can in
    let there = all_there f bytes f.vars (header_size f) (header_size f + fixed_size f) all (fixed_stand f) (record_stands f all) in
    let vars = vars_same f bytes (placed f) there ∙ placed_vars f f.vars (header_size f) (header_size f + fixed_size f) in
    let size = leb-true (canonical_size f) most_bytes (and_parts (leb (canonical_size f) most_bytes) (leb (recsize f) most_bytes) small).0 in
    record {
      short = omega (arith, canonical_length f file can, size);
      known = file.known;
      head = header_of f;
      text = behind_magic f;
      rest = values_text f;
      parts = refl;
      spelled = header_spelled f file can small;
      inside = vars_inside f bytes (placed f) there;
      file = sym (ap (file_with f) vars);
    }
