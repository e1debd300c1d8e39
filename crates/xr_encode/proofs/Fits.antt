-- Of a file that is small all counts and lengths fit their fields.
use Rattle.std.proofs.Common.{◌≡◌, ◌≤◌, ◌+◌, ◌*◌, ◌/◌, ℕ, suc, Bool, true, false, cond, List, [], ◌∷◌, length, map, sum, refl, ap, arith, length-append}
use Rattle.std.specs.Prelude.{not, ◌&&◌, ◌==◌, filter, flat_map, nat_le, if◌then◌else◌}
use Rattle.std.specs.List.{AllByRecursion}
use Rattle.std.proofs.lemmas.Bool.{and_parts}
use Rattle.std.proofs.lemmas.List.Sums.{sum_by-cons}
use Rattle.std.proofs.lemmas.Bool.{leb-true}
use Rattle.xr_types.specs.declared.attr.Attr.{Attr}
use Rattle.xr_types.specs.declared.attr.NcType.{NcType}
use Rattle.xr_types.specs.declared.attr.NcType.TheVariants.{Byte, Char, Short, Int, Float, Double, UByte, UShort, UInt, Int64, UInt64}
use Rattle.xr_files.specs.declared.file.CdfDim.{CdfDim}
use Rattle.xr_files.specs.declared.file.CdfVar.{CdfVar}
use Rattle.xr_files.specs.declared.file.CdfFile.{CdfFile}
use Rattle.xr_types.specs.Widths.{width}
use Rattle.xr_files.specs.Classic.{attr_names}
use Rattle.xr_files.specs.Files.{most_bytes, padded}
use Rattle.xr_types.specs.Names.{are_distinct}
use Rattle.xr_files.specs.Canonical.{count_text, name_text, dim_text, attr_text, var_text, list_text, header_size, is_record, record_vars, room, slab, recsize, canonical_size, is_small, Fits, IsAttr, AreAttrs}
use Rattle.xr_defs.specs.WellFormed.{IsAttribute}
use Rattle.xr_files.proofs.Counts.{small_fits}
use Rattle.cdf_writer.specs.Sizes.{count_bytes}
use Rattle.cdf_writer.proofs.Lengths.{name_length, list_length, var_length, count_length}
use Rattle.std.proofs.lemmas.Nat.{mul-le}
use Rattle.xr_encode.proofs.Distinct.{weaken, all_with}

-- no field counts more than this
abbrev pub most : ℕ
most = 268435456

-- ---- entries of a list in the header

pub entries_fit : {X : Type 0} (entry : X → List ℕ) (xs : List X) → length (flat_map entry xs) ≤ most → AllByRecursion (λ x. length (entry x) ≤ most) xs
entries_fit entry [] le = tt
entries_fit entry (x ∷ xs) le =
    let both : length (flat_map entry (x ∷ xs)) ≡ length (entry x) + length (flat_map entry xs) = length-append (entry x) (flat_map entry xs) in
    (omega (arith, both), entries_fit entry xs (omega (arith, both)))

pub count_fits : {X : Type 0} (entry : X → List ℕ) → ((x : X) → 1 ≤ length (entry x)) → (xs : List X) → length xs ≤ length (flat_map entry xs)
count_fits entry some [] = omega arith
count_fits entry some (x ∷ xs) =
    let both : length (flat_map entry (x ∷ xs)) ≡ length (entry x) + length (flat_map entry xs) = length-append (entry x) (flat_map entry xs) in
    let one = some x in
    let rest = count_fits entry some xs in
    omega arith

-- what is no more than the most fits each version
fits : (version n : ℕ) → n ≤ most → Fits version n
fits version n le = small_fits version n (omega arith)

some_by : (b : Bool) → 4 ≤ (if b then 8 else 4)
some_by true = omega arith
some_by false = omega arith

some_count : (version : ℕ) → 4 ≤ count_bytes version
some_count version = some_by (version == 5)

name_fits : (version : ℕ) (t : List ℕ) → length t ≤ length (name_text version t)
name_fits version t = let long = name_length version t in omega arith

dim_length : (version : ℕ) (d : CdfDim) → length (dim_text version d) ≡ length (name_text version d.name) + length (count_text version d.len)
dim_length version d = length-append (name_text version d.name) (count_text version d.len)

pub dim_some : (version : ℕ) (d : CdfDim) → 1 ≤ length (dim_text version d)
dim_some version d = let long = dim_length version d in let count = count_length version d.len in let some = some_count version in omega arith

pub dim_name : (version : ℕ) (d : CdfDim) → length (dim_text version d) ≤ most → Fits version (length d.name)
dim_name version d le = let long = dim_length version d in let name = name_fits version d.name in fits version (length d.name) (omega arith)

attr_length : (version : ℕ) (a : Attr) → length (name_text version a.name) + (4 + length a.raw) ≤ length (attr_text version a)
attr_length version a = simp (length-append) (omega arith)

pub attr_some : (version : ℕ) (a : Attr) → 1 ≤ length (attr_text version a)
attr_some version a = let long = attr_length version a in omega arith

fewer : (kind : NcType) (n : ℕ) → n / width kind ≤ n
fewer Byte n = omega arith
fewer Char n = omega arith
fewer Short n = omega arith
fewer Int n = omega arith
fewer Float n = omega arith
fewer Double n = omega arith
fewer UByte n = omega arith
fewer UShort n = omega arith
fewer UInt n = omega arith
fewer Int64 n = omega arith
fewer UInt64 n = omega arith

pub attr_good : (version : ℕ) (a : Attr) → IsAttribute a → length (attr_text version a) ≤ most → IsAttr version a
attr_good version a is le =
    let long = attr_length version a in
    let name = name_fits version a.name in
    let few = fewer a.kind (length a.raw) in
    record { name = record { name = is.name; fits = fits version (length a.name) (omega arith) }; whole = is.whole; fits = fits version (length a.raw / width a.kind) (omega arith) }

-- attributes of which the list fits
pub attrs_good : (version : ℕ) (attrs : List Attr) → AllByRecursion IsAttribute attrs → are_distinct (attr_names attrs) ≡ true → length (list_text version 12 (attr_text version) attrs) ≤ most → AreAttrs version attrs
attrs_good version attrs each distinct le =
    let long = list_length version 12 (attr_text version) attrs in
    let count = count_fits (attr_text version) (attr_some version) attrs in
    record {
      each = all_with IsAttribute (λ a. length (attr_text version a) ≤ most) (IsAttr version) (attr_good version) attrs each (entries_fit (attr_text version) attrs (omega arith));
      distinct = distinct;
      fits = fits version (length attrs) (omega arith);
    }

-- ---- the header

pub small_header : (f : CdfFile) → is_small f ≡ true → header_size f ≤ most
small_header f e = let le = leb-true (canonical_size f) most_bytes (and_parts (nat_le (canonical_size f) most_bytes) (nat_le (recsize f) most_bytes) e).0 in omega arith

header_parts : (f : CdfFile)
    → header_size f ≡ 4 + (length (count_text f.version f.numrecs) + (length (list_text f.version 10 (dim_text f.version) f.dims) + (length (list_text f.version 12 (attr_text f.version) f.attrs) + length (list_text f.version 11 (var_text f.version f.dims) (map (λ (v : CdfVar). (v, 0)) f.vars)))))
header_parts f = simp (length-append) (omega arith)

pub small_dims : (f : CdfFile) → is_small f ≡ true → length (list_text f.version 10 (dim_text f.version) f.dims) ≤ most
small_dims f e = let h = small_header f e in let p = header_parts f in omega arith

pub small_attrs : (f : CdfFile) → is_small f ≡ true → length (list_text f.version 12 (attr_text f.version) f.attrs) ≤ most
small_attrs f e = let h = small_header f e in let p = header_parts f in omega arith

pub small_vars : (f : CdfFile) → is_small f ≡ true → length (list_text f.version 11 (var_text f.version f.dims) (map (λ (v : CdfVar). (v, 0)) f.vars)) ≤ most
small_vars f e = let h = small_header f e in let p = header_parts f in omega arith

pub dims_few : (f : CdfFile) → is_small f ≡ true → Fits f.version (length f.dims)
dims_few f e =
    let le = small_dims f e in
    let long = list_length f.version 10 (dim_text f.version) f.dims in
    let count = count_fits (dim_text f.version) (dim_some f.version) f.dims in
    fits f.version (length f.dims) (omega arith)

pub dims_fit : (f : CdfFile) → is_small f ≡ true → AllByRecursion (λ d. length (dim_text f.version d) ≤ most) f.dims
dims_fit f e = let le = small_dims f e in let long = list_length f.version 10 (dim_text f.version) f.dims in entries_fit (dim_text f.version) f.dims (omega arith)

unplaced : (version : ℕ) (dims : List CdfDim) (vs : List CdfVar) → AllByRecursion (λ (x : CdfVar × ℕ). length (var_text version dims x) ≤ most) (map (λ (v : CdfVar). (v, 0)) vs) → AllByRecursion (λ (v : CdfVar). length (var_text version dims (v, 0)) ≤ most) vs
unplaced version dims [] all = tt
unplaced version dims (v ∷ vs) all = (all.0, unplaced version dims vs all.1)

pub vars_fit : (f : CdfFile) → is_small f ≡ true → AllByRecursion (λ (v : CdfVar). length (var_text f.version f.dims (v, 0)) ≤ most) f.vars
vars_fit f e =
    let le = small_vars f e in
    let long = list_length f.version 11 (var_text f.version f.dims) (map (λ (v : CdfVar). (v, 0)) f.vars) in
    unplaced f.version f.dims f.vars (entries_fit (var_text f.version f.dims) (map (λ (v : CdfVar). (v, 0)) f.vars) (omega arith))

placed_count : (vs : List CdfVar) → length {A = CdfVar × ℕ} (map (λ (v : CdfVar). (v, 0)) vs) ≡ length vs
placed_count [] = refl
placed_count (v ∷ vs) = ap suc (placed_count vs)

var_some : (version : ℕ) (dims : List CdfDim) (x : CdfVar × ℕ) → 1 ≤ length (var_text version dims x)
var_some version dims x = let long = var_length version dims x.0 x.1 in omega arith

pub vars_few : (f : CdfFile) → is_small f ≡ true → Fits f.version (length f.vars)
vars_few f e =
    let le = small_vars f e in
    let long = list_length f.version 11 (var_text f.version f.dims) (map (λ (v : CdfVar). (v, 0)) f.vars) in
    let count = count_fits (var_text f.version f.dims) (var_some f.version f.dims) (map (λ (v : CdfVar). (v, 0)) f.vars) in
    let same = placed_count f.vars in
    fits f.version (length f.vars) (omega arith)

-- what the header holds of a variable
pub var_name : (version : ℕ) (dims : List CdfDim) (v : CdfVar) → length (var_text version dims (v, 0)) ≤ most → Fits version (length v.name)
var_name version dims v le = let long = var_length version dims v 0 in let name = name_fits version v.name in fits version (length v.name) (omega arith)

pub var_rank : (version : ℕ) (dims : List CdfDim) (v : CdfVar) → length (var_text version dims (v, 0)) ≤ most → Fits version (length v.dims)
var_rank version dims v le =
    let long = var_length version dims v 0 in
    let some = some_count version in
    let each : length v.dims * 1 ≤ length v.dims * count_bytes version = mul-le (length v.dims) 1 (length v.dims) (count_bytes version) (omega arith) (omega arith) in
    fits version (length v.dims) (omega arith)

pub var_attrs : (version : ℕ) (dims : List CdfDim) (v : CdfVar) → length (var_text version dims (v, 0)) ≤ most → length (list_text version 12 (attr_text version) v.attrs) ≤ most
var_attrs version dims v le = let long = var_length version dims v 0 in omega arith

-- ---- values

split_rooms : (g : CdfVar → ℕ) (t : CdfVar → Bool) (v : CdfVar) (vs : List CdfVar) (b : Bool)
    → sum (map g (cond (not b) (v ∷ filter (λ w. not (t w)) vs) (filter (λ w. not (t w)) vs))) + sum (map g (cond b (v ∷ filter t vs) (filter t vs))) ≡ g v + (sum (map g (filter (λ w. not (t w)) vs)) + sum (map g (filter t vs)))
split_rooms g t v vs true = let e = sum_by-cons (λ n. n) (g v) (map g (filter t vs)) in omega (arith, e)
split_rooms g t v vs false = let e = sum_by-cons (λ n. n) (g v) (map g (filter (λ w. not (t w)) vs)) in omega (arith, e)

each_room : (g : CdfVar → ℕ) (t : CdfVar → Bool) (n : ℕ) (vs : List CdfVar) → sum (map g (filter (λ w. not (t w)) vs)) + sum (map g (filter t vs)) ≤ n → AllByRecursion (λ v. g v ≤ n) vs
each_room g t n [] le = tt
each_room g t n (v ∷ vs) le = let both = split_rooms g t v vs (t v) in (omega arith, each_room g t n vs (omega arith))

slab_in : (f : CdfFile) (v : CdfVar) (b : Bool) → slab f.dims v ≤ (if b then slab f.dims v else padded (slab f.dims v))
slab_in f v true = omega arith
slab_in f v false = omega arith

pub slabs_fit : (f : CdfFile) → is_small f ≡ true → AllByRecursion (λ v. slab f.dims v ≤ 2 * most) f.vars
slabs_fit f e =
    let both = and_parts (nat_le (canonical_size f) most_bytes) (nat_le (recsize f) most_bytes) e in
    let whole = leb-true (canonical_size f) most_bytes both.0 in
    let records = leb-true (recsize f) most_bytes both.1 in
    weaken (λ v. room f v ≤ 2 * most) (λ v. slab f.dims v ≤ 2 * most) (λ v le. let s = slab_in f v (is_record f v && length (record_vars f) == 1) in omega arith) f.vars
    (each_room (room f) (is_record f) (2 * most) f.vars (omega arith))
