-- Whether a version has the types of attributes as they are written.
use Rattle.std.proofs.Common.{◌≡◌, ℕ, ℤ, Bool, true, false, cond, List, [], ◌∷◌, ◌++◌, map, Option, Some, None, pos, refl, sym, ap, ◌∙◌}
use Rattle.std.specs.Prelude.{◌&&◌, ◌||◌, ◌==◌, nat_lt, if◌then◌else◌, unwrap_or, codes}
use Rattle.std.specs.List.{list_all}
use Rattle.std.proofs.lemmas.List.Folds.{list_all-append}
use Rattle.xr_types.specs.declared.attr.Attr.{Attr}
use Rattle.xr_types.specs.declared.kind.DType.{DType}
use Rattle.xr_types.specs.declared.kind.DType.TheVariants as kinds
use Rattle.xr_types.specs.declared.attr.NcType.TheVariants.{Char}
use Rattle.xr_files.specs.Classic.{number_of, has_type}
use Rattle.xr_files.specs.Canonical.{has_types}
use Rattle.xr_defs.specs.declared.write_options.WriteOptions.{WriteOptions}
use Rattle.xr_defs.specs.Decoding.{is_attr}
use Rattle.xr_defs.specs.Encoding.{Stored, classic_type, own_type, type_of, own_attr, dtype_added, fill_attr, fill_added, uses_option, coordinates_added}
use Rattle.xr_encode.specs.declared.outline.Outline.{Outline}
use Rattle.xr_encode.specs.Outlines.{without_cells}
use Rattle.xr_encode.specs.Attributes.{fill_in_use, fill_of_type, written_anew, is_typed}
use Rattle.xr_encode.specs.Checks.{are_typed}
use Rattle.xr_encode.proofs.Attributes.{own_is}

-- a version has the type in which it writes a kind
abbrev is_there : ℕ → Bool → Bool
is_there n long = nat_lt 0 n && nat_lt n (if long then 12 else 7)

classic_by : (kind : DType) (long : Bool) → is_there (number_of (classic_type kind)) long ≡ true
classic_by kinds.Bool true = refl
classic_by kinds.Bool false = refl
classic_by kinds.Char true = refl
classic_by kinds.Char false = refl
classic_by kinds.Int8 true = refl
classic_by kinds.Int8 false = refl
classic_by kinds.Int16 true = refl
classic_by kinds.Int16 false = refl
classic_by kinds.Int32 true = refl
classic_by kinds.Int32 false = refl
classic_by kinds.Int64 true = refl
classic_by kinds.Int64 false = refl
classic_by kinds.UInt8 true = refl
classic_by kinds.UInt8 false = refl
classic_by kinds.UInt16 true = refl
classic_by kinds.UInt16 false = refl
classic_by kinds.UInt32 true = refl
classic_by kinds.UInt32 false = refl
classic_by kinds.UInt64 true = refl
classic_by kinds.UInt64 false = refl

classic_there : (version : ℕ) (kind : DType) → has_type version (classic_type kind) ≡ true
classic_there version kind = classic_by kind (version == 5)

own_by : (kind : DType) → is_there (number_of (own_type kind)) true ≡ true
own_by kinds.Bool = refl
own_by kinds.Char = refl
own_by kinds.Int8 = refl
own_by kinds.Int16 = refl
own_by kinds.Int32 = refl
own_by kinds.Int64 = refl
own_by kinds.UInt8 = refl
own_by kinds.UInt16 = refl
own_by kinds.UInt32 = refl
own_by kinds.UInt64 = refl

own_there : (version : ℕ) (kind : DType) → (version == 5) ≡ true → has_type version (own_type kind) ≡ true
own_there version kind e = ap (is_there (number_of (own_type kind))) e ∙ own_by kind

char_there : (version : ℕ) → has_type version Char ≡ true
char_there version = classic_there version kinds.Char

by_version : (version : ℕ) (kind : DType) (b : Bool) → (version == 5) ≡ b → has_type version (cond b (own_type kind) (classic_type kind)) ≡ true
by_version version kind true e = own_there version kind e
by_version version kind false e = classic_there version kind

pub type_there : (version : ℕ) (kind : DType) → has_type version (type_of version kind) ≡ true
type_there version kind = by_version version kind (version == 5) refl

-- ---- the attributes of a variable

anew_by : (version : ℕ) (kind : DType) (n : ℤ) (a : Attr) (b : Bool) → has_type version (cond b (fill_of_type (type_of version kind) n) a).kind ≡ (b || has_type version a.kind)
anew_by version kind n a true = type_there version kind
anew_by version kind n a false = refl

anew : (version : ℕ) (kind : DType) (fill : Option ℤ) (a : Attr) → has_type version (written_anew (type_of version kind) fill a).kind ≡ is_typed version fill a
anew version kind None a = refl
anew version kind (Some n) a = anew_by version kind n a (is_attr (codes "_FillValue") a)

own : (options : WriteOptions) (o : Outline) (attrs : List Attr) → has_types options.version (map (own_attr options (without_cells o)) attrs) ≡ list_all (is_typed options.version (fill_in_use o)) attrs
own options o [] = refl
own options o (a ∷ attrs) =
    ap (λ (b : Attr). has_type options.version b.kind && has_types options.version (map (own_attr options (without_cells o)) attrs)) (own_is options o a)
    ∙ ap (λ b. b && has_types options.version (map (own_attr options (without_cells o)) attrs)) (anew options.version o.kind (fill_in_use o) a) ∙ ap (λ b. is_typed options.version (fill_in_use o) a && b) (own options o attrs)

and_true : (b : Bool) → (b && true) ≡ b
and_true true = refl
and_true false = refl

dtype_there : (version : ℕ) (kind : DType) (rest : List Attr) → has_types version (dtype_added kind ++ rest) ≡ has_types version rest
dtype_there version kinds.Bool rest = ap (λ b. b && has_types version rest) (char_there version)
dtype_there version kinds.Char rest = refl
dtype_there version kinds.Int8 rest = refl
dtype_there version kinds.Int16 rest = refl
dtype_there version kinds.Int32 rest = refl
dtype_there version kinds.Int64 rest = refl
dtype_there version kinds.UInt8 rest = refl
dtype_there version kinds.UInt16 rest = refl
dtype_there version kinds.UInt32 rest = refl
dtype_there version kinds.UInt64 rest = refl

fill_there : (options : WriteOptions) (o : Stored) (n : ℤ) (b : Bool) (rest : List Attr) → has_types options.version (cond b (fill_attr options o n ∷ []) [] ++ rest) ≡ has_types options.version rest
fill_there options o n true rest = ap (λ b. b && has_types options.version rest) (type_there options.version o.kind)
fill_there options o n false rest = refl

pub coordinates_there : (version : ℕ) (names : List (List ℕ)) → has_types version (coordinates_added names) ≡ true
coordinates_there version [] = refl
coordinates_there version (n ∷ names) = ap (λ b. b && true) (char_there version)

pub typed_are : (options : WriteOptions) (o : Outline) → (list_all (is_typed options.version (fill_in_use o)) o.attrs && list_all (is_typed options.version None) o.coding) ≡ are_typed options o
typed_are options o =
    let v = options.version in
    let mine : List Attr = map (own_attr options (without_cells o)) o.attrs in
    let more : List Attr = fill_added options (without_cells o) ++ coordinates_added o.lists in
    let added_there : has_types v (dtype_added o.kind ++ more) ≡ true = dtype_there v o.kind more ∙ fill_there options (without_cells o) (unwrap_or options.fill (pos 0)) (uses_option options (without_cells o)) (coordinates_added o.lists) ∙ coordinates_there v o.lists in
    sym (list_all-append (λ (a : Attr). has_type v a.kind) mine (o.coding ++ (dtype_added o.kind ++ more))
    ∙ ap (λ b. has_types v mine && b) (list_all-append (λ (a : Attr). has_type v a.kind) o.coding (dtype_added o.kind ++ more) ∙ ap (λ b. has_types v o.coding && b) added_there ∙ and_true (has_types v o.coding))
    ∙ ap (λ b. b && has_types v o.coding) (own options o o.attrs))

-- where no number is in use, each attribute stays
pub given_none : (version : ℕ) (attrs : List Attr) → list_all (is_typed version None) attrs ≡ has_types version attrs
given_none version attrs = refl
