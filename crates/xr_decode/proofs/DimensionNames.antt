-- Different dimensions have different names.
use Rattle.std.proofs.Common.{◌≡◌, ◌<◌, ◌≤◌, ℕ, zero, suc, true, false, not, List, [], ◌∷◌, length, map, refl, sym, ap, subst, ◌∙◌, arith, nat_lt}
use Rattle.std.specs.Prelude.{◌==◌, All}
use Rattle.std.specs.List.{list_any, AllByRecursion}
use Rattle.std.proofs.lemmas.Bool.{and_parts, and_from, not-true, not_from_false, true≢false, eq-eqb, false_from_ne_true, ltb-false}
use Rattle.std.proofs.lemmas.List.Elements.{recursion_from_All}
use Rattle.xr_files.specs.declared.file.CdfDim.{CdfDim}
use Rattle.xr_files.specs.declared.file.CdfFile.{CdfFile}
use Rattle.xr_types.specs.Names.{among}
use Rattle.xr_files.specs.Classic.{dim_at, dim_names, no_dim}
use Rattle.xr_types.specs.Names.{are_distinct}
use Rattle.xr_defs.specs.Limits.{are_different, most_cells}
use Rattle.xr_types.specs.Names.{axis_names}
use Rattle.xr_defs.specs.Decoding.{axis_in}
use Rattle.xr_decode.proofs.Members.{Has, has_map, has_mapped, has_at, has_any, at_member, absent, not_among}

abbrev named : CdfDim → List ℕ
named d = d.name

apart : (ds : List CdfDim) (i j : ℕ) → are_distinct (dim_names ds) ≡ true → i < length ds → j < length ds → (dim_at ds i).name ≡ (dim_at ds j).name → i ≡ j
apart [] i j e li lj is = absurd (omega arith)
apart (d ∷ ds) zero zero e li lj is = refl
apart (d ∷ ds) zero (suc j) e li lj is =
    let gone = not-true (among (dim_names ds) d.name) (and_parts (not (among (dim_names ds) d.name)) (are_distinct (dim_names ds)) e).0 in
    absurd (absent (dim_names ds) d.name gone (subst (Has (dim_names ds)) (sym is) (has_map named ds (dim_at ds j) (has_at ds j no_dim (omega arith)))))
apart (d ∷ ds) (suc i) zero e li lj is =
    let gone = not-true (among (dim_names ds) d.name) (and_parts (not (among (dim_names ds) d.name)) (are_distinct (dim_names ds)) e).0 in
    absurd (absent (dim_names ds) d.name gone (subst (Has (dim_names ds)) is (has_map named ds (dim_at ds i) (has_at ds i no_dim (omega arith)))))
apart (d ∷ ds) (suc i) (suc j) e li lj is =
    ap suc (apart ds i j (and_parts (not (among (dim_names ds) d.name)) (are_distinct (dim_names ds)) e).1 (omega arith) (omega arith) is)

distinct_by : (ds : List CdfDim) (ids : List ℕ) → are_distinct (dim_names ds) ≡ true → AllByRecursion (λ i. i < length ds) ids → are_different ids ≡ true → are_distinct (map (λ i. (dim_at ds i).name) ids) ≡ true
distinct_by ds [] e below different = refl
distinct_by ds (i ∷ ids) e below different =
    let parts = and_parts (not (list_any (λ j. j == i) ids)) (are_different ids) different in
    and_from (not (among (map (λ k. (dim_at ds k).name) ids) (dim_at ds i).name)) (are_distinct (map (λ k. (dim_at ds k).name) ids))
    (not_from_false (among (map (λ k. (dim_at ds k).name) ids) (dim_at ds i).name) (not_among (map (λ k. (dim_at ds k).name) ids) (dim_at ds i).name (λ h.
    let w = has_mapped (λ k. (dim_at ds k).name) ids (dim_at ds i).name h in
    let same : w.0 ≡ i = apart ds w.0 i e (at_member (λ k. k < length ds) ids w.0 below.1 w.1) below.0 w.2 in
    true≢false (sym (has_any (λ j. j == i) ids w.0 w.1 (eq-eqb w.0 i same)) ∙ not-true (list_any (λ j. j == i) ids) parts.0))))
    (distinct_by ds ids e below.1 parts.1)

pub distinct_at : (ds : List CdfDim) (ids : List ℕ) → are_distinct (dim_names ds) ≡ true → All (λ i. i < length ds) ids → are_different ids ≡ true → are_distinct (map (λ i. (dim_at ds i).name) ids) ≡ true
distinct_at ds ids e below different = distinct_by ds ids e (recursion_from_All (λ i. i < length ds) ids below) different

-- the axes of all dimensions have their names
pub names_of_axes : (f : CdfFile) (ds : List CdfDim) → axis_names (map (axis_in f) ds) ≡ dim_names ds
names_of_axes f [] = refl
names_of_axes f (d ∷ ds) = ap (λ ns. d.name ∷ ns) (names_of_axes f ds)

pub names_at : (f : CdfFile) (ids : List ℕ) → axis_names (map (λ i. axis_in f (dim_at f.dims i)) ids) ≡ map (λ i. (dim_at f.dims i).name) ids
names_at f [] = refl
names_at f (i ∷ ids) = ap (λ ns. (dim_at f.dims i).name ∷ ns) (names_at f ids)

-- none of these sizes is too large
pub short_at : (shape : List ℕ) (n : ℕ) → list_any (nat_lt most_cells) shape ≡ false → Has shape n → n ≤ most_cells
short_at shape n e h = ltb-false most_cells n (false_from_ne_true (nat_lt most_cells n) (λ long. true≢false (sym (has_any (nat_lt most_cells) shape n h long) ∙ e)))
