-- What the type of a kind holds.
use Rattle.std.proofs.Common.{◌≡◌, ◌==◌, ℕ, ℤ, pos, ◌≤ℤ◌, Bool, true, false, cond, List, [], ◌∷◌, Option, Some, None, refl, sym, ap, ◌∙◌, All, arith}
use Rattle.std.specs.Prelude.{◌&&◌, ◌||◌, int_le, is_some, unwrap_or, Ok}
use Rattle.std.specs.List.{list_any, list_all}
use Rattle.std.specs.Ordering.{int_eq}
use Rattle.std.proofs.lemmas.Bool.{and_parts}
use Rattle.std.proofs.lemmas.Int.{ints}
use Rattle.std.proofs.lemmas.List.Elements.{All-head, All-tail}
use Rattle.xr_types.specs.Kinds.{low, high, InRange, in_range}
use Rattle.xr_types.specs.declared.attr.NcType.{NcType}
use Rattle.xr_types.specs.declared.kind.DType.{DType}
use Rattle.xr_types.specs.declared.kind.DType.TheVariants as kinds
use Rattle.xr_arrays.specs.Arrays.{IsCell}
use Rattle.xr_defs.specs.Encoding.{Stored, classic_type, own_type, holds, holds_cell, may_fill, type_of, is_fill_cell, fill_for, check_fit, check_cells}
use Rattle.xr_defs.specs.declared.write_options.WriteOptions.{WriteOptions}
use Rattle.xr_types.specs.Results.{◌>>=◌, unless}
use Rattle.xr_defs.specs.WellFormed.{AreSeen}
use Rattle.xr_encode.specs.declared.outline.Outline.{Outline}
use Rattle.xr_encode.specs.Outlines.{filled_with, without_cells}
use Rattle.xr_encode.proofs.Attributes.{fits_type, where_masked}
use Rattle.xr_encode.specs.Rows.{number_or, are_held, is_number, has_any, holds_all}

pub and_both : (a b : Bool) → a ≡ true → b ≡ true → (a && b) ≡ true
and_both true true e f = refl
and_both true false e f = f
and_both false b e f = e

below : (a b : ℤ) → a ≤ℤ b → int_le a b ≡ true
below a b le = grind (arith, ints)

-- a number of a kind's range
pub in_range_is : (kind : DType) (n : ℤ) → InRange kind n → in_range kind n ≡ true
in_range_is kind n r = and_both (int_le (low kind) n) (int_le n (high kind)) (below (low kind) n r.0) (below n (high kind) r.1)

-- the types of version 5 have all numbers of their kinds
own_fits : (kind : DType) (n : ℤ) → InRange kind n → holds (own_type kind) n ≡ true
own_fits kinds.Bool n r = in_range_is kinds.Int8 n (omega (arith, ints, r.0), omega (arith, ints, r.1))
own_fits kinds.Char n r = in_range_is kinds.Char n r
own_fits kinds.Int8 n r = in_range_is kinds.Int8 n r
own_fits kinds.Int16 n r = in_range_is kinds.Int16 n r
own_fits kinds.Int32 n r = in_range_is kinds.Int32 n r
own_fits kinds.Int64 n r = in_range_is kinds.Int64 n r
own_fits kinds.UInt8 n r = in_range_is kinds.UInt8 n r
own_fits kinds.UInt16 n r = in_range_is kinds.UInt16 n r
own_fits kinds.UInt32 n r = in_range_is kinds.UInt32 n r
own_fits kinds.UInt64 n r = in_range_is kinds.UInt64 n r

-- those of the other versions, of the kinds that these read
classic_fits : (version : ℕ) (kind : DType) (n : ℤ) → (version == 5) ≡ false → holds_all version kind ≡ true → InRange kind n → holds (classic_type kind) n ≡ true
classic_fits version kinds.Bool n e all r = in_range_is kinds.Int8 n (omega (arith, ints, r.0), omega (arith, ints, r.1))
classic_fits version kinds.Char n e all r = in_range_is kinds.Char n r
classic_fits version kinds.Int8 n e all r = in_range_is kinds.Int8 n r
classic_fits version kinds.Int16 n e all r = in_range_is kinds.Int16 n r
classic_fits version kinds.Int32 n e all r = in_range_is kinds.Int32 n r
classic_fits version kinds.Int64 n e all r = cc
classic_fits version kinds.UInt8 n e all r = cc
classic_fits version kinds.UInt16 n e all r = cc
classic_fits version kinds.UInt32 n e all r = cc
classic_fits version kinds.UInt64 n e all r = cc

fits_by : (version : ℕ) (kind : DType) (n : ℤ) (b : Bool) → (version == 5) ≡ b → holds_all version kind ≡ true → InRange kind n → holds (cond b (own_type kind) (classic_type kind)) n ≡ true
fits_by version kind n true e all r = own_fits kind n r
fits_by version kind n false e all r = classic_fits version kind n e all r

one_holds : (version : ℕ) (kind : DType) (c : Option ℤ) → holds_all version kind ≡ true → IsCell kind c → holds_cell (type_of version kind) c ≡ true
one_holds version kind None all is = refl
one_holds version kind (Some n) all is = fits_by version kind n (version == 5) refl all is

pub cells_hold : (version : ℕ) (kind : DType) (cells : List (Option ℤ)) → holds_all version kind ≡ true → All (IsCell kind) cells → list_all (holds_cell (type_of version kind)) cells ≡ true
cells_hold version kind [] every all = refl
cells_hold version kind (c ∷ cells) every all = and_both _ _ (one_holds version kind c every (All-head (IsCell kind) c cells all)) (cells_hold version kind cells every (All-tail (IsCell kind) c cells all))

-- the numbers that may stand for missing cells of a kind are those of its type in version 5
pub may_fill_is : (kind : DType) (n : ℤ) → holds (own_type kind) n ≡ may_fill kind n
may_fill_is kinds.Bool n = refl
may_fill_is kinds.Char n = refl
may_fill_is kinds.Int8 n = refl
may_fill_is kinds.Int16 n = refl
may_fill_is kinds.Int32 n = refl
may_fill_is kinds.Int64 n = refl
may_fill_is kinds.UInt8 n = refl
may_fill_is kinds.UInt16 n = refl
may_fill_is kinds.UInt32 n = refl
may_fill_is kinds.UInt64 n = refl

-- ---- what is written is held

none_missing : (t : NcType) (fill : ℤ) (c : Option ℤ) → holds_cell t c ≡ true → is_some c ≡ true → holds t (number_or fill c) ≡ true
none_missing t fill None h s = cc
none_missing t fill (Some n) h s = h

pub held_unmasked : (t : NcType) (fill : ℤ) (cells : List (Option ℤ)) → list_all (holds_cell t) cells ≡ true → All (λ c. is_some c ≡ true) cells → are_held t fill cells ≡ true
held_unmasked t fill [] h all = refl
held_unmasked t fill (c ∷ cells) h all =
    let both = and_parts (holds_cell t c) (list_all (holds_cell t) cells) h in
    and_both _ _ (none_missing t fill c both.0 (All-head (λ c. is_some c ≡ true) c cells all)) (held_unmasked t fill cells both.1 (All-tail (λ c. is_some c ≡ true) c cells all))

or_fill : (t : NcType) (fill : ℤ) (c : Option ℤ) → holds_cell t c ≡ true → holds t fill ≡ true → holds t (number_or fill c) ≡ true
or_fill t fill None h f = f
or_fill t fill (Some n) h f = h

pub held_masked : (t : NcType) (fill : ℤ) (cells : List (Option ℤ)) → list_all (holds_cell t) cells ≡ true → holds t fill ≡ true → are_held t fill cells ≡ true
held_masked t fill [] h f = refl
held_masked t fill (c ∷ cells) h f =
    let both = and_parts (holds_cell t c) (list_all (holds_cell t) cells) h in
    and_both _ _ (or_fill t fill c both.0 f) (held_masked t fill cells both.1 f)

-- ---- which cells read as missing again

or_none : (a : Bool) → (a || false) ≡ a
or_none true = refl
or_none false = refl

one_fill : (n : ℤ) (c : Option ℤ) → is_fill_cell (n ∷ []) c ≡ is_number n c
one_fill n None = refl
one_fill n (Some m) = or_none (int_eq m n)

pub lone_fill : (n : ℤ) (cells : List (Option ℤ)) → list_any (is_fill_cell (n ∷ [])) cells ≡ list_any (is_number n) cells
lone_fill n [] = refl
lone_fill n (c ∷ cells) = ap (λ b. b || list_any (is_fill_cell (n ∷ [])) cells) (one_fill n c) ∙ ap (λ b. is_number n c || b) (lone_fill n cells)

none_of : (cells : List (Option ℤ)) → list_any (is_fill_cell []) cells ≡ false
none_of [] = refl
none_of (None ∷ cells) = none_of cells
none_of (Some n ∷ cells) = none_of cells

split_cell : (n : ℤ) (fills : List ℤ) (c : Option ℤ) → is_fill_cell (n ∷ fills) c ≡ (is_number n c || is_fill_cell fills c)
split_cell n fills None = refl
split_cell n fills (Some m) = refl

mixed : (a b c d : Bool) → ((a || b) || (c || d)) ≡ ((a || c) || (b || d))
mixed true b c d = refl
mixed false true true d = refl
mixed false true false d = refl
mixed false false c d = refl

split_all : (n : ℤ) (fills : List ℤ) (cells : List (Option ℤ)) → list_any (is_fill_cell (n ∷ fills)) cells ≡ (list_any (is_number n) cells || list_any (is_fill_cell fills) cells)
split_all n fills [] = refl
split_all n fills (c ∷ cells) =
    ap (λ b. b || list_any (is_fill_cell (n ∷ fills)) cells) (split_cell n fills c) ∙ ap (λ b. (is_number n c || is_fill_cell fills c) || b) (split_all n fills cells)
    ∙ mixed (is_number n c) (is_fill_cell fills c) (list_any (is_number n) cells) (list_any (is_fill_cell fills) cells)

-- the cells are asked for one number after the other
pub fills_found : (fills : List ℤ) (cells : List (Option ℤ)) → has_any fills cells ≡ list_any (is_fill_cell fills) cells
fills_found [] cells = sym (none_of cells)
fills_found (n ∷ fills) cells = ap (λ b. list_any (is_number n) cells || b) (fills_found fills cells) ∙ sym (split_all n fills cells)

-- ---- what the checks tell of the cells that are written

all_held : {E : Type 0} (a b : Bool) (e f : E) → (unless a e >>= λ u. unless b f) ≡ Ok tt → a ≡ true
unfolding unless
all_held true b e f is = refl
all_held false b e f is = cc

pub cells_checked : (options : WriteOptions) (o : Stored) → check_cells options o ≡ Ok tt → list_all (holds_cell (type_of options.version o.kind)) o.cells ≡ true
unfolding check_cells
cells_checked options o ok = all_held _ _ _ _ ok

by_mask : (options : WriteOptions) (o : Outline) (cells : List (Option ℤ)) (masked : Bool) → o.masked ≡ masked → AreSeen o.masked cells → check_fit options (without_cells o) ≡ Ok tt → list_all (holds_cell (type_of options.version o.kind)) cells ≡ true
    → are_held (type_of options.version o.kind) (unwrap_or (fill_for options (without_cells o)) (pos 0)) cells ≡ true
by_mask options o cells true m seen fit all = held_masked (type_of options.version o.kind) (unwrap_or (fill_for options (without_cells o)) (pos 0)) cells all (where_masked o.masked _ (fits_type options (without_cells o) fit) m)
by_mask options o cells false m seen fit all = held_unmasked (type_of options.version o.kind) (unwrap_or (fill_for options (without_cells o)) (pos 0)) cells all (seen m)

pub held_written : (options : WriteOptions) (o : Outline) (cells : List (Option ℤ)) (t : NcType) (fill : ℤ) → t ≡ type_of options.version o.kind → AreSeen o.masked cells → check_fit options (without_cells o) ≡ Ok tt → check_cells options (filled_with cells o) ≡ Ok tt
    → fill ≡ unwrap_or (fill_for options (without_cells o)) (pos 0) → are_held t fill cells ≡ true
held_written options o cells t fill k seen fit checked is =
    ap (λ u. are_held u fill cells) k ∙ ap (λ f. are_held (type_of options.version o.kind) f cells) is ∙ by_mask options o cells o.masked refl seen fit (cells_checked options (filled_with cells o) checked)
