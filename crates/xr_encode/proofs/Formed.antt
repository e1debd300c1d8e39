-- The file of a dataset fits together.
use Rattle.std.proofs.Common.{◌≡◌, ◌<◌, ◌≤◌, ◌+◌, ◌-◌, ◌*◌, ◌/◌, ◌^◌, ℕ, ℤ, pos, zero, suc, max, Bool, true, false, cond, List, [], ◌∷◌, ◌++◌, length, map, drop, Option, Some, None, Ok, refl, sym, ap, subst, ◌∙◌, arith, le-leb, length-append}
use Rattle.std.specs.Prelude.{not, ◌&&◌, ◌||◌, ◌==◌, if◌then◌else◌, filter, flat_map, fold, replicate, is_none, is_some, nat_le, option_map, unwrap_or, MatchOption, ⊤, codes}
use Rattle.std.specs.List.{AllByRecursion, list_any, list_all, filter_map, cons_option}
use Rattle.std.specs.Str.{bytes_eq, is_utf8, chars}
use lib.Utf8
use Rattle.std.specs.Fmt.{decimal}
use Rattle.std.proofs.Math.Dec.{eqb-suc-zero}
use Rattle.std.proofs.lemmas.Nat.{mul-le}
use Rattle.std.proofs.lemmas.Bool.{and_parts, eqb-true, eq-eqb}
use Rattle.std.proofs.lemmas.Fmt.{IsAscii-decimal}
use Rattle.std.proofs.lemmas.List.{map-append, length-map, length-replicate}
use Rattle.std.proofs.lemmas.Str.{IsUtf8-append, IsUtf8-from_ascii, is_utf8-from_IsUtf8, IsUtf8-from_is_utf8}
use Rattle.plan_core.proofs.Tabs.{suc_times}
use Rattle.xr_types.specs.declared.attr.Attr.{Attr}
use Rattle.xr_types.specs.declared.attr.NcType.{NcType}
use Rattle.xr_types.specs.declared.attr.NcType.TheVariants.{Byte, Char, Short, Int}
use Rattle.xr_types.specs.declared.axis.Axis.{Axis}
use Rattle.xr_types.specs.declared.axis.Labels.{Labels}
use Rattle.xr_types.specs.declared.axis.TimeCoding.{TimeCoding}
use Rattle.xr_types.specs.declared.axis.TimeUnit.{TimeUnit}
use Rattle.xr_types.specs.declared.axis.LabelList.{LabelList}
use Rattle.xr_types.specs.declared.axis.LabelList.TheVariants.{Numbers, Times, Texts}
use Rattle.xr_types.specs.declared.fault.Fault.TheVariants.{DuplicateName, CannotHold}
use Rattle.xr_types.specs.declared.kind.DType.{DType}
use Rattle.xr_types.specs.declared.kind.DType.TheVariants as kinds
use Rattle.xr_files.specs.declared.file.CdfDim.{CdfDim}
use Rattle.xr_files.specs.declared.file.CdfVar.{CdfVar}
use Rattle.xr_files.specs.declared.file.CdfFile.{CdfFile}
use Rattle.xr_defs.specs.declared.value.Content.{Content}
use Rattle.xr_defs.specs.declared.value.Content.TheVariants as contents
use Rattle.xr_defs.specs.declared.value.Coord.{Coord}
use Rattle.xr_defs.specs.declared.write_options.WriteOptions.{WriteOptions}
use Rattle.xr_types.specs.Results.{◌>>=◌, unless, all_of}
use Rattle.xr_types.specs.Points.{size}
use Rattle.xr_types.specs.Names.{among}
use Rattle.xr_types.specs.Widths.{width}
use Rattle.xr_files.specs.Classic.{has_type, most_count, attr_names, dim_names, is_name}
use Rattle.xr_files.specs.Files.{is_version, positions, shape_of}
use Rattle.xr_types.specs.Names.{are_distinct}
use Rattle.xr_files.specs.Canonical.{can_hold, count_record_dims, is_small, slab, dim_text, var_text, has_types, can_hold_var, Fits, IsDim, IsVar, IsFile}
use Rattle.xr_types.specs.Names.{axis_names, shape_over}
use Rattle.xr_defs.specs.Values.{Dataset, Variable, label_count}
use Rattle.xr_defs.specs.Selecting.{axis_called}
use Rattle.xr_defs.specs.Printing.{by_name}
use Rattle.xr_defs.specs.Decoding.{is_attr, is_blank, string_name}
use Rattle.xr_defs.specs.Encoding.{Stored, classic_type, own_type, type_of, value_bytes, text_width, filled_up, text_cells, stored, stored_index, stored_labels, stored_content, stored_coord, stored_variable, coord_names, index_width, labels_width, content_width, coord_width, each_once, text_widths, attrs_of, records_of, own_attr, fill_attr, attr_fill, is_fill_in_use, added, dtype_added, fill_added, uses_option, coordinates_added, text_attr, calendar_attr, coding_attrs, units_written, count_of, stored_times, listed_by_none, empty_axes, record_dim, is_that, axis_named, dim_of_axis, string_dim, dims_of, number_of_dim, number_for, var_of, encoded, has_width, are_new, stands_first, check_unlimited, check_names, check_records, check_fill, check_fit}
use Rattle.xr_defs.specs.WellFormed.{IsAttribute, AreAttributes, IsIndex, IsDimension, IsContent, IsCoordinate, IsVariable, IsDataset, labelled, variable_names}
use Rattle.xr_files.proofs.Counts.{small_fits}
use Rattle.xr_times.specs.Counts.{written_unit}
use Rattle.xr_encode.specs.Dimensions.{is_axisless}
use Rattle.xr_encode.specs.Encoded.{check_outlines}
use Rattle.std.proofs.lemmas.List.Folds.{list_all-append}
use Rattle.xr_encode.proofs.Typed.{type_there, coordinates_there}
use Rattle.xr_encode.proofs.Told.{sorted_kept}
use Rattle.xr_encode.proofs.Nodes.{first_ok}
use Rattle.xr_encode.proofs.Distinct.{weaken, all_with, all_join, all_parts, all_mapped, all_unmapped, all_filtered, distinct_join, distinct_any_order, both_true, both_false, neither, true_not, not_true, eq_same, eq_swap, AreApart}
use Rattle.xr_encode.proofs.Looked.{looked, IsKnown, AreKnown, axis_known, strings_known, shape_is, numbers_inside, placed_first, few_records, each_found, called_found, found_all, strings_found, same_width}
use Rattle.xr_encode.proofs.Fits.{most, attrs_good, small_attrs, dims_few, dims_fit, dim_name, vars_fit, vars_few, var_name, var_rank, var_attrs, slabs_fit}

-- ---- attributes

attr_name : (options : WriteOptions) (o : Stored) (a : Attr) (b : Bool) → is_fill_in_use o a ≡ b → (own_attr options o a).name ≡ a.name
attr_name options o a false e = ap (λ c. (cond c (fill_attr options o (unwrap_or (attr_fill o) (pos 0))) a).name) e
attr_name options o a true e =
    let first = and_parts (o.masked && is_attr (codes "_FillValue") a) _ e in
    let named = and_parts o.masked (is_attr (codes "_FillValue") a) first.0 in
    ap (λ c. (cond c (fill_attr options o (unwrap_or (attr_fill o) (pos 0))) a).name) e ∙ sym (eq_same a.name (codes "_FillValue") named.1)

own_names : (options : WriteOptions) (o : Stored) (attrs : List Attr) → attr_names (map (own_attr options o) attrs) ≡ attr_names attrs
own_names options o [] = refl
own_names options o (a ∷ attrs) = ap (λ n. n ∷ attr_names (map (own_attr options o) attrs)) (attr_name options o a (is_fill_in_use o a) refl) ∙ ap (λ l. a.name ∷ l) (own_names options o attrs)

-- a type in which kinds are written has values of its width
abbrev HasWidth : NcType → Type 0
HasWidth t = ((n : ℤ) → length (value_bytes t n) ≡ width t) × ((k : ℕ) → k ≡ width t → k ≡ (k / width t) * width t)

has_byte : HasWidth Byte
has_byte = ((λ n. refl), λ k e. rw e refl)

has_char : HasWidth Char
has_char = ((λ n. refl), λ k e. rw e refl)

has_short : HasWidth Short
has_short = ((λ n. refl), λ k e. rw e refl)

has_int : HasWidth Int
has_int = ((λ n. refl), λ k e. rw e refl)

classic_width : (kind : DType) → HasWidth (classic_type kind)
classic_width kinds.Bool = has_byte
classic_width kinds.Char = has_char
classic_width kinds.Int8 = has_byte
classic_width kinds.Int16 = has_short
classic_width kinds.Int32 = has_int
classic_width kinds.Int64 = has_int
classic_width kinds.UInt8 = has_byte
classic_width kinds.UInt16 = has_short
classic_width kinds.UInt32 = has_int
classic_width kinds.UInt64 = has_int

own_width : (kind : DType) → HasWidth (own_type kind)
own_width kinds.Bool = has_byte
own_width kinds.Char = has_char
own_width kinds.Int8 = has_byte
own_width kinds.Int16 = has_short
own_width kinds.Int32 = has_int
own_width kinds.Int64 = ((λ n. refl), λ k e. rw e refl)
own_width kinds.UInt8 = ((λ n. refl), λ k e. rw e refl)
own_width kinds.UInt16 = ((λ n. refl), λ k e. rw e refl)
own_width kinds.UInt32 = ((λ n. refl), λ k e. rw e refl)
own_width kinds.UInt64 = ((λ n. refl), λ k e. rw e refl)

width_by : (kind : DType) (b : Bool) → HasWidth (cond b (own_type kind) (classic_type kind))
width_by kind true = own_width kind
width_by kind false = classic_width kind

type_width : (version : ℕ) (kind : DType) → HasWidth (type_of version kind)
type_width version kind = width_by kind (version == 5)

value_length : (version : ℕ) (kind : DType) (n : ℤ) → length (value_bytes (type_of version kind) n) ≡ width (type_of version kind)
value_length version kind n = (type_width version kind).0 n

whole_value : (version : ℕ) (kind : DType) (k : ℕ) → k ≡ width (type_of version kind) → k ≡ (k / width (type_of version kind)) * width (type_of version kind)
whole_value version kind k e = (type_width version kind).1 k e

fill_formed : (options : WriteOptions) (o : Stored) (n : ℤ) → IsAttribute (fill_attr options o n)
unfolding is_utf8 chars Utf8.encode
fill_formed options o n = record { name = refl; whole = whole_value options.version o.kind (length (value_bytes (type_of options.version o.kind) n)) (value_length options.version o.kind n) }

own_by : (options : WriteOptions) (o : Stored) (a : Attr) (b : Bool) → IsAttribute a → IsAttribute (cond b (fill_attr options o (unwrap_or (attr_fill o) (pos 0))) a)
own_by options o a true is = fill_formed options o (unwrap_or (attr_fill o) (pos 0))
own_by options o a false is = is

own_formed : (options : WriteOptions) (o : Stored) (attrs : List Attr) → AllByRecursion IsAttribute attrs → AllByRecursion IsAttribute (map (own_attr options o) attrs)
own_formed options o [] all = tt
own_formed options o (a ∷ attrs) all = (own_by options o a (is_fill_in_use o a) all.0, own_formed options o attrs all.1)

text_formed : (name text : List ℕ) → is_name name ≡ true → IsAttribute (text_attr name text)
text_formed name text is = record { name = is; whole = omega arith }

dtype_formed : (kind : DType) → AllByRecursion IsAttribute (dtype_added kind)
unfolding is_utf8 chars Utf8.encode
dtype_formed kinds.Bool = (text_formed (codes "dtype") (codes "bool") refl, tt)
dtype_formed kinds.Char = tt
dtype_formed kinds.Int8 = tt
dtype_formed kinds.Int16 = tt
dtype_formed kinds.Int32 = tt
dtype_formed kinds.Int64 = tt
dtype_formed kinds.UInt8 = tt
dtype_formed kinds.UInt16 = tt
dtype_formed kinds.UInt32 = tt
dtype_formed kinds.UInt64 = tt

fill_by : (options : WriteOptions) (o : Stored) (n : ℤ) (b : Bool) → AllByRecursion IsAttribute (cond b (fill_attr options o n ∷ []) [])
fill_by options o n true = (fill_formed options o n, tt)
fill_by options o n false = tt

coordinates_formed : (names : List (List ℕ)) → AllByRecursion IsAttribute (coordinates_added names)
unfolding is_utf8 chars Utf8.encode
coordinates_formed [] = tt
coordinates_formed (n ∷ ns) = (text_formed (codes "coordinates") _ refl, tt)

added_formed : (options : WriteOptions) (o : Stored) → AllByRecursion IsAttribute o.coding → AllByRecursion IsAttribute (added options o)
added_formed options o coding =
    all_join IsAttribute o.coding (dtype_added o.kind ++ (fill_added options o ++ coordinates_added o.lists)) coding
    (all_join IsAttribute (dtype_added o.kind) (fill_added options o ++ coordinates_added o.lists) (dtype_formed o.kind)
    (all_join IsAttribute (fill_added options o) (coordinates_added o.lists) (fill_by options o (unwrap_or options.fill (pos 0)) (uses_option options o)) (coordinates_formed o.lists)))

calendar_formed : (text : Option (List ℕ)) → AllByRecursion IsAttribute (calendar_attr text)
unfolding is_utf8 chars Utf8.encode
calendar_formed None = tt
calendar_formed (Some text) = (text_formed (codes "calendar") text refl, tt)

coding_formed : (coding : TimeCoding) (u : TimeUnit) → AllByRecursion IsAttribute (coding_attrs coding u)
unfolding is_utf8 chars Utf8.encode
coding_formed coding u = (text_formed (codes "units") (units_written coding u) refl, calendar_formed coding.calendar_text)

-- the names of those that are added
abbrev dtype_names : DType → List (List ℕ)
dtype_names kind = attr_names (dtype_added kind)

three_distinct : (kind : DType) (b : Bool) (options : WriteOptions) (o : Stored) (n : ℤ) (names : List (List ℕ)) → are_distinct (attr_names (dtype_added kind ++ (cond b (fill_attr options o n ∷ []) [] ++ coordinates_added names))) ≡ true
three_distinct kinds.Bool true options o n [] = refl
three_distinct kinds.Bool true options o n (c ∷ cs) = refl
three_distinct kinds.Bool false options o n [] = refl
three_distinct kinds.Bool false options o n (c ∷ cs) = refl
three_distinct kinds.Char true options o n [] = refl
three_distinct kinds.Char true options o n (c ∷ cs) = refl
three_distinct kinds.Char false options o n [] = refl
three_distinct kinds.Char false options o n (c ∷ cs) = refl
three_distinct kinds.Int8 true options o n [] = refl
three_distinct kinds.Int8 true options o n (c ∷ cs) = refl
three_distinct kinds.Int8 false options o n [] = refl
three_distinct kinds.Int8 false options o n (c ∷ cs) = refl
three_distinct kinds.Int16 true options o n [] = refl
three_distinct kinds.Int16 true options o n (c ∷ cs) = refl
three_distinct kinds.Int16 false options o n [] = refl
three_distinct kinds.Int16 false options o n (c ∷ cs) = refl
three_distinct kinds.Int32 true options o n [] = refl
three_distinct kinds.Int32 true options o n (c ∷ cs) = refl
three_distinct kinds.Int32 false options o n [] = refl
three_distinct kinds.Int32 false options o n (c ∷ cs) = refl
three_distinct kinds.Int64 true options o n [] = refl
three_distinct kinds.Int64 true options o n (c ∷ cs) = refl
three_distinct kinds.Int64 false options o n [] = refl
three_distinct kinds.Int64 false options o n (c ∷ cs) = refl
three_distinct kinds.UInt8 true options o n [] = refl
three_distinct kinds.UInt8 true options o n (c ∷ cs) = refl
three_distinct kinds.UInt8 false options o n [] = refl
three_distinct kinds.UInt8 false options o n (c ∷ cs) = refl
three_distinct kinds.UInt16 true options o n [] = refl
three_distinct kinds.UInt16 true options o n (c ∷ cs) = refl
three_distinct kinds.UInt16 false options o n [] = refl
three_distinct kinds.UInt16 false options o n (c ∷ cs) = refl
three_distinct kinds.UInt32 true options o n [] = refl
three_distinct kinds.UInt32 true options o n (c ∷ cs) = refl
three_distinct kinds.UInt32 false options o n [] = refl
three_distinct kinds.UInt32 false options o n (c ∷ cs) = refl
three_distinct kinds.UInt64 true options o n [] = refl
three_distinct kinds.UInt64 true options o n (c ∷ cs) = refl
three_distinct kinds.UInt64 false options o n [] = refl
three_distinct kinds.UInt64 false options o n (c ∷ cs) = refl

times_by : (b : Bool) (options : WriteOptions) (o : Stored) (n : ℤ) (units : List ℕ) (calendar : Option (List ℕ)) (names : List (List ℕ))
    → are_distinct (attr_names ((text_attr (codes "units") units ∷ calendar_attr calendar) ++ (dtype_added kinds.Int64 ++ (cond b (fill_attr options o n ∷ []) [] ++ coordinates_added names)))) ≡ true
times_by true options o n units None [] = refl
times_by true options o n units None (c ∷ cs) = refl
times_by true options o n units (Some text) [] = refl
times_by true options o n units (Some text) (c ∷ cs) = refl
times_by false options o n units None [] = refl
times_by false options o n units None (c ∷ cs) = refl
times_by false options o n units (Some text) [] = refl
times_by false options o n units (Some text) (c ∷ cs) = refl

-- those that are added to cells, to texts, and to times
plain_added : (options : WriteOptions) (o : Stored) → o.coding ≡ [] → are_distinct (attr_names (added options o)) ≡ true
plain_added options o none =
    ap (λ l. are_distinct (attr_names (l ++ (dtype_added o.kind ++ (fill_added options o ++ coordinates_added o.lists))))) none ∙ three_distinct o.kind (uses_option options o) options o (unwrap_or options.fill (pos 0)) o.lists

times_added : (options : WriteOptions) (name : List ℕ) (dims : List (List ℕ)) (attrs : List Attr) (coding : TimeCoding) (ts : List ℤ) (u : TimeUnit) → are_distinct (attr_names (added options (stored_times name dims attrs coding ts u))) ≡ true
times_added options name dims attrs coding ts u =
    let o : Stored = stored_times name dims attrs coding ts u in
    times_by (uses_option options o) options o (unwrap_or options.fill (pos 0)) (units_written coding u) coding.calendar_text []

-- names of which no attribute is there
among_is : (own : List Attr) (name : List ℕ) → list_any (is_attr name) own ≡ among (attr_names own) name
among_is [] name = refl
among_is (a ∷ own) name = ap (λ b. b || list_any (is_attr name) own) (eq_swap a.name name) ∙ ap (λ b. bytes_eq name a.name || b) (among_is own name)

apart_from : (own more : List Attr) → list_any (λ (a : Attr). list_any (is_attr a.name) own) more ≡ false → AllByRecursion (λ n. among (attr_names own) n ≡ false) (attr_names more)
apart_from own [] e = tt
apart_from own (a ∷ more) e =
    let both = neither (list_any (is_attr a.name) own) (list_any (λ (b : Attr). list_any (is_attr b.name) own) more) e in
    (sym (among_is own a.name) ∙ both.0, apart_from own more both.1)

apart_one : (x : List ℕ) (ys : List (List ℕ)) (xs : List (List ℕ)) → AllByRecursion (λ n. among (x ∷ xs) n ≡ false) ys → among ys x ≡ false
apart_one x [] xs all = refl
apart_one x (y ∷ ys) xs all = both_false (bytes_eq x y) (among ys x) (eq_swap x y ∙ (neither (bytes_eq y x) (among xs y) all.0).0) (apart_one x ys xs all.1)

apart_swap : (xs ys : List (List ℕ)) → AllByRecursion (λ n. among xs n ≡ false) ys → AreApart xs ys
apart_swap [] ys all = tt
apart_swap (x ∷ xs) ys all =
    (apart_one x ys xs all, apart_swap xs ys (weaken (λ n. among (x ∷ xs) n ≡ false) (λ n. among xs n ≡ false) (λ n e. (neither (bytes_eq n x) (among xs n) e).1) ys all))

distinct_added : (own more : List Attr) → are_distinct (attr_names own) ≡ true → are_distinct (attr_names more) ≡ true → are_new own more ≡ true → are_distinct (attr_names (own ++ more)) ≡ true
distinct_added own more e f new =
    ap are_distinct (map-append (λ (a : Attr). a.name) own more)
    ∙ distinct_join (attr_names own) (attr_names more) e f (apart_swap (attr_names own) (attr_names more) (apart_from own more (not_true (list_any (λ (a : Attr). list_any (is_attr a.name) own) more) new)))

one_distinct : (names : List (List ℕ)) → are_distinct (attr_names (coordinates_added names)) ≡ true
one_distinct [] = refl
one_distinct (n ∷ ns) = refl

all_distinct : (options : WriteOptions) (o : Stored) → AreAttributes o.attrs → are_distinct (attr_names (added options o)) ≡ true → are_new o.attrs (added options o) ≡ true → are_distinct (attr_names (attrs_of options o)) ≡ true
all_distinct options o is once new =
    ap are_distinct (map-append (λ (a : Attr). a.name) (map (own_attr options o) o.attrs) (added options o) ∙ ap (λ ns. ns ++ attr_names (added options o)) (own_names options o o.attrs))
    ∙ distinct_join (attr_names o.attrs) (attr_names (added options o)) is.distinct once
    (apart_swap (attr_names o.attrs) (attr_names (added options o)) (apart_from o.attrs (added options o) (not_true (list_any (λ (a : Attr). list_any (is_attr a.name) o.attrs) (added options o)) new)))

-- ---- a variable that fits together

pub record IsFormed (set : Dataset) (options : WriteOptions) (o : Stored) : Type 0 where
  pub name : is_name o.name ≡ true
  pub attrs : AreAttributes o.attrs
  pub coding : AllByRecursion IsAttribute o.coding
  pub once : are_distinct (attr_names (added options o)) ≡ true
  pub sizes : List ℕ
  pub known : AreKnown set options o.dims sizes
  pub whole : length o.cells ≡ size sizes

raw_length : (options : WriteOptions) (o : Stored) (cells : List (Option ℤ)) → length (flat_map (λ c. value_bytes (type_of options.version o.kind) (number_for options o c)) cells) ≡ length cells * width (type_of options.version o.kind)
raw_length options o [] = let none : 0 ≡ 0 * width (type_of options.version o.kind) = omega arith in none
raw_length options o (c ∷ cells) =
    let both = length-append (value_bytes (type_of options.version o.kind) (number_for options o c)) (flat_map (λ c. value_bytes (type_of options.version o.kind) (number_for options o c)) cells) in
    let one = value_length options.version o.kind (number_for options o c) in
    let rest = raw_length options o cells in
    both ∙ ap (λ n. n + length (flat_map (λ c. value_bytes (type_of options.version o.kind) (number_for options o c)) cells)) one ∙ ap (λ n. width (type_of options.version o.kind) + n) rest ∙ sym (suc_times (length cells) (width (type_of options.version o.kind)))

var_good : (set : Dataset) (options : WriteOptions) (o : Stored) → IsFormed set options o → are_new o.attrs (added options o) ≡ true → length (var_text options.version (dims_of set options) (var_of (dims_of set options) options o, 0)) ≤ most
    → IsVar (encoded set options) (var_of (dims_of set options) options o)
var_good set options o is new le =
    let dims = dims_of set options in
    let v = var_of dims options o in
    record {
      name = record { name = is.name; fits = var_name options.version dims v le };
      dims = numbers_inside set options o.dims is.sizes is.known;
      rank_fits = var_rank options.version dims v le;
      attrs = attrs_good options.version (attrs_of options o) (all_join IsAttribute (map (own_attr options o) o.attrs) (added options o) (own_formed options o o.attrs is.attrs.each) (added_formed options o is.coding)) (all_distinct options o is.attrs is.once new) (var_attrs options.version dims v le);
      raw = raw_length options o o.cells ∙ ap (λ n. n * width (type_of options.version o.kind)) (is.whole ∙ ap size (sym (shape_is set options o.dims is.sizes is.known)));
    }

-- ---- texts

wide_at_least : (w : ℕ) (texts : List (List ℕ)) → w ≤ fold max w (map length texts)
wide_at_least w [] = omega arith
wide_at_least w (t ∷ texts) = let rest = wide_at_least (max w (length t)) texts in omega arith

wide_each : (w : ℕ) (texts : List (List ℕ)) → AllByRecursion (λ t. length t ≤ fold max w (map length texts)) texts
wide_each w [] = tt
wide_each w (t ∷ texts) = (let rest = wide_at_least (max w (length t)) texts in omega arith, wide_each (max w (length t)) texts)

row_length : (w : ℕ) (t : List ℕ) → length t ≤ w → length (filled_up w t) ≡ w
row_length w t le = let both = length-append t (replicate (w - length t) 0) in let nuls = length-replicate {A = ℕ} (w - length t) 0 in omega arith

rows_length : (w : ℕ) (texts : List (List ℕ)) → AllByRecursion (λ t. length t ≤ w) texts → length (flat_map (filled_up w) texts) ≡ length texts * w
rows_length w [] all = let none : 0 ≡ 0 * w = omega arith in none
rows_length w (t ∷ texts) all =
    let both = length-append (filled_up w t) (flat_map (filled_up w) texts) in
    let one = row_length w t all.0 in
    let rest = rows_length w texts all.1 in
    both ∙ ap (λ n. n + length (flat_map (filled_up w) texts)) one ∙ ap (λ n. w + n) rest ∙ sym (suc_times (length texts) w)

cells_length : (texts : List (List ℕ)) → length (text_cells texts) ≡ length texts * text_width texts
cells_length texts = length-map (flat_map (filled_up (text_width texts)) texts) (λ b. Some (pos b)) ∙ rows_length (text_width texts) texts (wide_each 1 texts)

-- ---- the widths of texts, each once

once_by : (P : ℕ → Type 0) (seen : List ℕ) (n : ℕ) (ns : List ℕ) (b : Bool) → list_any (λ m. m == n) seen ≡ b → ((k : ℕ) → list_any (λ m. m == k) seen ≡ true → P k)
    → AllByRecursion P (cond b (each_once seen ns) (n ∷ each_once (n ∷ seen) ns)) → (AllByRecursion P (each_once seen ns) → ((k : ℕ) → list_any (λ m. m == k) seen ≡ true → P k) → AllByRecursion P ns)
    → (AllByRecursion P (each_once (n ∷ seen) ns) → ((k : ℕ) → list_any (λ m. m == k) (n ∷ seen) ≡ true → P k) → AllByRecursion P ns) → AllByRecursion P (n ∷ ns)
once_by P seen n ns true e known all old new = (known n e, old all known)
once_by P seen n ns false e known all old new = (all.0, new all.1 (λ k found. by k (n == k) refl found))
  where
    by : (k : ℕ) (c : Bool) → (n == k) ≡ c → (c || list_any (λ m. m == k) seen) ≡ true → P k
    by k true f found = subst P (eqb-true n k f) all.0
    by k false f found = known k found

from_once : (P : ℕ → Type 0) (ns seen : List ℕ) → AllByRecursion P (each_once seen ns) → ((k : ℕ) → list_any (λ m. m == k) seen ≡ true → P k) → AllByRecursion P ns
from_once P [] seen all known = tt
from_once P (n ∷ ns) seen all known = once_by P seen n ns (list_any (λ m. m == n) seen) refl known all (from_once P ns seen) (from_once P ns (n ∷ seen))

kept_by : (P : ℕ → Type 0) (seen : List ℕ) (n : ℕ) (ns : List ℕ) (b : Bool) → P n → AllByRecursion P (each_once seen ns) → AllByRecursion P (each_once (n ∷ seen) ns) → AllByRecursion P (cond b (each_once seen ns) (n ∷ each_once (n ∷ seen) ns))
kept_by P seen n ns true here old new = old
kept_by P seen n ns false here old new = (here, new)

to_once : (P : ℕ → Type 0) (ns seen : List ℕ) → AllByRecursion P ns → AllByRecursion P (each_once seen ns)
to_once P [] seen all = tt
to_once P (n ∷ ns) seen all = kept_by P seen n ns (list_any (λ m. m == n) seen) all.0 (to_once P ns seen all.1) (to_once P ns (n ∷ seen) all.1)

-- what holds of the widths of all axes, one by one
one_width : {X : Type 0} (f : X → Option ℕ) (P : ℕ → Type 0) (xs : List X) (o : Option ℕ) → AllByRecursion P (cons_option o (filter_map f xs)) → MatchOption o ⊤ P × AllByRecursion P (filter_map f xs)
one_width f P xs None all = (tt, all)
one_width f P xs (Some w) all = (all.0, all.1)

of_widths : {X : Type 0} (f : X → Option ℕ) (P : ℕ → Type 0) (xs : List X) → AllByRecursion P (filter_map f xs) → AllByRecursion (λ x. MatchOption (f x) ⊤ P) xs
of_widths f P [] all = tt
of_widths f P (x ∷ xs) all = let both = one_width f P xs (f x) all in (both.0, of_widths f P xs both.1)

add_width : {X : Type 0} (f : X → Option ℕ) (P : ℕ → Type 0) (xs : List X) (o : Option ℕ) → MatchOption o ⊤ P → AllByRecursion P (filter_map f xs) → AllByRecursion P (cons_option o (filter_map f xs))
add_width f P xs None here all = all
add_width f P xs (Some w) here all = (here, all)

to_widths : {X : Type 0} (f : X → Option ℕ) (P : ℕ → Type 0) (xs : List X) → AllByRecursion (λ x. MatchOption (f x) ⊤ P) xs → AllByRecursion P (filter_map f xs)
to_widths f P [] all = tt
to_widths f P (x ∷ xs) all = add_width f P xs (f x) all.0 (to_widths f P xs all.1)

each_width : (set : Dataset) (P : ℕ → Type 0) → AllByRecursion P (text_widths set) → AllByRecursion (λ x. MatchOption (index_width x) ⊤ P) set.axes × AllByRecursion (λ c. MatchOption (coord_width c) ⊤ P) (by_name set.coords)
each_width set P all =
    let both = all_parts P (filter_map index_width set.axes) (filter_map coord_width (by_name set.coords)) (from_once P (filter_map index_width set.axes ++ filter_map coord_width (by_name set.coords)) [] all (λ k found. absurd cc)) in
    (of_widths index_width P set.axes both.0, of_widths coord_width P (by_name set.coords) both.1)

all_widths : (set : Dataset) (P : ℕ → Type 0) → AllByRecursion (λ x. MatchOption (index_width x) ⊤ P) set.axes → AllByRecursion (λ c. MatchOption (coord_width c) ⊤ P) (by_name set.coords) → AllByRecursion P (text_widths set)
all_widths set P axes coords =
    to_once P (filter_map index_width set.axes ++ filter_map coord_width (by_name set.coords)) [] (all_join P (filter_map index_width set.axes) (filter_map coord_width (by_name set.coords)) (to_widths index_width P set.axes axes) (to_widths coord_width P (by_name set.coords) coords))

index_some : (o : Option Labels) → MatchOption (elim o [ None ↦ None | Some l ↦ labels_width l.list ]) ⊤ (λ n. 1 ≤ n)
index_some None = tt
index_some (Some l) = by l.list
  where
    by : (list : LabelList) → MatchOption (labels_width list) ⊤ (λ n. 1 ≤ n)
    by (Numbers kind ns) = tt
    by (Times coding ts) = tt
    by (Texts texts) = wide_at_least 1 texts

content_some : (c : Content) → MatchOption (content_width c) ⊤ (λ n. 1 ≤ n)
content_some (contents.Cells a masked) = tt
content_some (contents.Text text) = wide_at_least 1 (text ∷ [])
content_some (contents.Time coding t) = tt

axes_some : (axes : List Axis) → AllByRecursion (λ x. MatchOption (index_width x) ⊤ (λ n. 1 ≤ n)) axes
axes_some [] = tt
axes_some (x ∷ axes) = (index_some x.labels, axes_some axes)

coords_some : (cs : List Coord) → AllByRecursion (λ c. MatchOption (coord_width c) ⊤ (λ n. 1 ≤ n)) cs
coords_some [] = tt
coords_some (c ∷ cs) = (content_some c.content, coords_some cs)

widths_some : (set : Dataset) → AllByRecursion (λ n. 1 ≤ n) (text_widths set)
widths_some set = all_widths set (λ n. 1 ≤ n) (axes_some set.axes) (coords_some (by_name set.coords))

-- ---- the variables of a dataset fit together

-- a dimension of texts of a width
abbrev IsWidth : Dataset → WriteOptions → ℕ → Type 0
IsWidth set options n = IsKnown set options (string_name n) n

list_formed : (set : Dataset) (options : WriteOptions) (name : List ℕ) (n : ℕ) (attrs : List Attr) (list : LabelList) → is_name name ≡ true → AreAttributes attrs → label_count list ≡ n → IsKnown set options name n
    → MatchOption (labels_width list) ⊤ (IsWidth set options) → IsFormed set options (stored_labels name attrs list)
list_formed set options name n attrs (Numbers kind ns) is_n is_a count known width =
    record { name = is_n; attrs = is_a; coding = tt; once = plain_added options (stored_labels name attrs (Numbers kind ns)) refl; sizes = n ∷ []; known = (known, tt); whole = length-map ns Some ∙ count ∙ omega arith }
list_formed set options name n attrs (Times coding ts) is_n is_a count known width =
    let u : TimeUnit = written_unit coding.units ts in
    record {
      name = is_n;
      attrs = is_a;
      coding = coding_formed coding u;
      once = times_added options name (name ∷ []) attrs coding ts u;
      sizes = n ∷ [];
      known = (known, tt);
      whole = length-map ts (λ t. Some (count_of u coding.units.reference t)) ∙ count ∙ omega arith;
    }
list_formed set options name n attrs (Texts texts) is_n is_a count known width =
    let w : ℕ = text_width texts in
    let one : w ≡ w * 1 = omega arith in
    record { name = is_n; attrs = is_a; coding = tt; once = plain_added options (stored_labels name attrs (Texts texts)) refl; sizes = n ∷ w ∷ []; known = (known, (width, tt)); whole = cells_length texts ∙ ap (λ k. k * w) count ∙ ap (λ k. n * k) one }

index_formed : (set : Dataset) (options : WriteOptions) (x : Axis) (o : Option Labels) (rest : List Axis) → is_name x.name ≡ true → MatchOption o ⊤ (IsIndex x.size) → IsKnown set options x.name x.size
    → MatchOption (elim o [ None ↦ None | Some l ↦ labels_width l.list ]) ⊤ (IsWidth set options) → AllByRecursion (IsFormed set options) (filter_map stored_index rest)
    → AllByRecursion (IsFormed set options) (cons_option (option_map (λ (l : Labels). stored_labels x.name l.attrs l.list) o) (filter_map stored_index rest))
index_formed set options x None rest is_n index known width all = all
index_formed set options x (Some l) rest is_n index known width all = (list_formed set options x.name x.size l.attrs l.list is_n index.attrs index.whole known width, all)

indexes_formed : (set : Dataset) (options : WriteOptions) (axes : List Axis) → AllByRecursion IsDimension axes → AllByRecursion (λ (x : Axis). IsKnown set options x.name x.size) axes
    → AllByRecursion (λ x. MatchOption (index_width x) ⊤ (IsWidth set options)) axes → AllByRecursion (IsFormed set options) (filter_map stored_index axes)
indexes_formed set options [] is known widths = tt
indexes_formed set options (x ∷ axes) is known widths = index_formed set options x x.labels axes is.0.name is.0.index known.0 widths.0 (indexes_formed set options axes is.1 known.1 widths.1)

over_known : (set : Dataset) (options : WriteOptions) (xs : List Axis) → list_all (is_that (record_dim set options)) (empty_axes set) ≡ true → AllByRecursion (λ (x : Axis). (among (axis_names set.axes) x.name ≡ true) × (axis_called set.axes x.name ≡ x)) xs
    → AreKnown set options (axis_names xs) (shape_over xs)
over_known set options [] full all = tt
over_known set options (x ∷ xs) full all = (axis_known set options x.name x full (called_found set.axes x.name all.0.0 ∙ ap Some all.0.1), over_known set options xs full all.1)

content_formed : (set : Dataset) (options : WriteOptions) (c : Coord) (content : Content) → list_all (is_that (record_dim set options)) (empty_axes set) ≡ true → IsCoordinate set.axes c → IsContent (shape_over c.axes) content → MatchOption (content_width content) ⊤ (IsWidth set options)
    → IsFormed set options (stored_content c content)
content_formed set options c (contents.Cells a masked) full is cells width =
    record { name = is.name; attrs = is.attrs; coding = tt; once = plain_added options (stored_content c (contents.Cells a masked)) refl; sizes = shape_over c.axes; known = over_known set options c.axes full is.over; whole = cells.1.whole }
content_formed set options c (contents.Text text) full is cells width =
    let w : ℕ = text_width (text ∷ []) in
    record { name = is.name; attrs = is.attrs; coding = tt; once = plain_added options (stored_content c (contents.Text text)) refl; sizes = w ∷ []; known = (width, tt); whole = cells_length (text ∷ []) ∙ omega arith }
content_formed set options c (contents.Time coding t) full is cells width =
    let u : TimeUnit = written_unit coding.units (t ∷ []) in
    record { name = is.name; attrs = is.attrs; coding = coding_formed coding u; once = times_added options c.name [] c.attrs coding (t ∷ []) u; sizes = []; known = tt; whole = refl }

coords_formed : (set : Dataset) (options : WriteOptions) (cs : List Coord) → list_all (is_that (record_dim set options)) (empty_axes set) ≡ true → AllByRecursion (IsCoordinate set.axes) cs → AllByRecursion (λ c. MatchOption (coord_width c) ⊤ (IsWidth set options)) cs
    → AllByRecursion (IsFormed set options) (map stored_coord cs)
coords_formed set options [] full is widths = tt
coords_formed set options (c ∷ cs) full is widths = (content_formed set options c c.content full is.0 is.0.content widths.0, coords_formed set options cs full is.1 widths.1)

dims_known : (set : Dataset) (options : WriteOptions) (ds : List (List ℕ)) → list_all (is_that (record_dim set options)) (empty_axes set) ≡ true → AllByRecursion (λ d. among (axis_names set.axes) d ≡ true) ds → AreKnown set options ds (map (λ d. (axis_called set.axes d).size) ds)
dims_known set options [] full all = tt
dims_known set options (d ∷ ds) full all = (axis_known set options d (axis_called set.axes d) full (called_found set.axes d all.0), dims_known set options ds full all.1)

variables_formed : (set : Dataset) (options : WriteOptions) (vs : List Variable) → list_all (is_that (record_dim set options)) (empty_axes set) ≡ true → AllByRecursion (IsVariable set.axes) vs → AllByRecursion (IsFormed set options) (map (stored_variable set) vs)
variables_formed set options [] full is = tt
variables_formed set options (v ∷ vs) full is = (
  record {
    name = is.0.name;
    attrs = is.0.attrs;
    coding = tt;
    once = plain_added options (stored_variable set v) refl;
    sizes = map (λ d. (axis_called set.axes d).size) v.dims;
    known = dims_known set options v.dims full is.0.over;
    whole = is.0.cells.whole;
  },
  variables_formed set options vs full is.1,
)

axes_known : (set : Dataset) (options : WriteOptions) → list_all (is_that (record_dim set options)) (empty_axes set) ≡ true → (xs : List Axis) → AllByRecursion (λ (x : Axis). axis_named x.name set.axes ≡ Some x) xs → AllByRecursion (λ (x : Axis). IsKnown set options x.name x.size) xs
axes_known set options full [] all = tt
axes_known set options full (x ∷ xs) all = (axis_known set options x.name x full all.0, axes_known set options full xs all.1)

all_formed : (set : Dataset) (options : WriteOptions) → IsDataset set → list_all (is_that (record_dim set options)) (empty_axes set) ≡ true → list_all (has_width set) (text_widths set) ≡ true → AllByRecursion (λ n. n < 2 ^ 64) (text_widths set)
    → AllByRecursion (IsFormed set options) (stored set)
all_formed set options is full widths fits =
    let each = each_width set (IsWidth set options) (strings_known set options full widths (widths_some set) fits) in
    all_join (IsFormed set options) (filter_map stored_index set.axes) (map stored_coord (by_name set.coords) ++ map (stored_variable set) set.vars)
    (indexes_formed set options set.axes is.axes.each (axes_known set options full set.axes (each_found set.axes is.axes.distinct)) each.0)
    (all_join (IsFormed set options) (map stored_coord (by_name set.coords)) (map (stored_variable set) set.vars)
    (coords_formed set options (by_name set.coords) full (sorted_kept (IsCoordinate set.axes) set.coords is.coords) each.1) (variables_formed set options set.vars full is.vars))

-- ---- the names of the variables

label_names : (x : Axis) (o : Option Labels) (rest : List Axis) → map (λ (s : Stored). s.name) (filter_map stored_index rest) ≡ axis_names (labelled rest)
    → map (λ (s : Stored). s.name) (cons_option (option_map (λ (l : Labels). stored_labels x.name l.attrs l.list) o) (filter_map stored_index rest)) ≡ axis_names (cond (is_some o) (x ∷ labelled rest) (labelled rest))
label_names x None rest e = e
label_names x (Some l) rest e = named x l.attrs l.list
  where
    named : (y : Axis) (attrs : List Attr) (list : LabelList) → map (λ (s : Stored). s.name) (stored_labels x.name attrs list ∷ filter_map stored_index rest) ≡ x.name ∷ axis_names (labelled rest)
    named y attrs (Numbers kind ns) = ap (λ l. x.name ∷ l) e
    named y attrs (Times coding ts) = ap (λ l. x.name ∷ l) e
    named y attrs (Texts ts) = ap (λ l. x.name ∷ l) e

index_names : (axes : List Axis) → map (λ (s : Stored). s.name) (filter_map stored_index axes) ≡ axis_names (labelled axes)
index_names [] = refl
index_names (x ∷ axes) = label_names x x.labels axes (index_names axes)

content_name : (c : Coord) (content : Content) → (stored_content c content).name ≡ c.name
content_name c (contents.Cells a masked) = refl
content_name c (contents.Text text) = refl
content_name c (contents.Time coding t) = refl

stored_coord_names : (cs : List Coord) → map (λ (s : Stored). s.name) (map stored_coord cs) ≡ coord_names cs
stored_coord_names [] = refl
stored_coord_names (c ∷ cs) = ap (λ n. n ∷ map (λ (s : Stored). s.name) (map stored_coord cs)) (content_name c c.content) ∙ ap (λ l. c.name ∷ l) (stored_coord_names cs)

stored_variable_names : (set : Dataset) (vs : List Variable) → map (λ (s : Stored). s.name) (map (stored_variable set) vs) ≡ variable_names vs
stored_variable_names set [] = refl
stored_variable_names set (v ∷ vs) = ap (λ l. v.name ∷ l) (stored_variable_names set vs)

stored_names : (set : Dataset) → map (λ (s : Stored). s.name) (stored set) ≡ axis_names (labelled set.axes) ++ (coord_names (by_name set.coords) ++ variable_names set.vars)
stored_names set =
    let name : Stored → List ℕ = λ s. s.name in
    map-append name (filter_map stored_index set.axes) (map stored_coord (by_name set.coords) ++ map (stored_variable set) set.vars)
    ∙ ap (λ l. l ++ map name (map stored_coord (by_name set.coords) ++ map (stored_variable set) set.vars)) (index_names set.axes)
    ∙ ap (λ l. axis_names (labelled set.axes) ++ l)
    (map-append name (map stored_coord (by_name set.coords)) (map (stored_variable set) set.vars) ∙ ap (λ l. l ++ map name (map (stored_variable set) set.vars)) (stored_coord_names (by_name set.coords))
    ∙ ap (λ l. coord_names (by_name set.coords) ++ l) (stored_variable_names set set.vars))

var_names : (dims : List CdfDim) (options : WriteOptions) (os : List Stored) → map (λ (v : CdfVar). v.name) (map (var_of dims options) os) ≡ map (λ (s : Stored). s.name) os
var_names dims options [] = refl
var_names dims options (o ∷ os) = ap (λ l. o.name ∷ l) (var_names dims options os)

-- ---- dimensions

axis_dim_names : (r : Option (List ℕ)) (axes : List Axis) → dim_names (map (dim_of_axis r) axes) ≡ axis_names axes
axis_dim_names r [] = refl
axis_dim_names r (x ∷ axes) = ap (λ l. x.name ∷ l) (axis_dim_names r axes)

string_dim_names : (ws : List ℕ) → dim_names (map string_dim ws) ≡ map string_name ws
string_dim_names [] = refl
string_dim_names (w ∷ ws) = ap (λ l. string_name w ∷ l) (string_dim_names ws)

-- numbers that stand once have different names
new_number : (seen : List ℕ) (ns : List ℕ) → AllByRecursion (λ n. list_any (λ m. m == n) seen ≡ false) (each_once seen ns)
new_number seen [] = tt
new_number seen (n ∷ ns) = by (list_any (λ m. m == n) seen) refl (new_number seen ns) (new_number (n ∷ seen) ns)
  where
    later : (m : ℕ) → list_any (λ k. k == m) (n ∷ seen) ≡ false → list_any (λ k. k == m) seen ≡ false
    later m e = (neither (n == m) (list_any (λ k. k == m) seen) e).1

    by : (b : Bool) → list_any (λ m. m == n) seen ≡ b → AllByRecursion (λ m. list_any (λ k. k == m) seen ≡ false) (each_once seen ns) → AllByRecursion (λ m. list_any (λ k. k == m) (n ∷ seen) ≡ false) (each_once (n ∷ seen) ns)
        → AllByRecursion (λ m. list_any (λ k. k == m) seen ≡ false) (cond b (each_once seen ns) (n ∷ each_once (n ∷ seen) ns))
    by true e old new = old
    by false e old new = (e, weaken (λ m. list_any (λ k. k == m) (n ∷ seen) ≡ false) (λ m. list_any (λ k. k == m) seen ≡ false) later (each_once (n ∷ seen) ns) new)

-- each differs from those behind it
abbrev AreOnce : List ℕ → Type 0
AreOnce [] = ⊤
AreOnce (n ∷ ns) = AllByRecursion (λ m. (n == m) ≡ false) ns × AreOnce ns

once_each : (ns seen : List ℕ) → AreOnce (each_once seen ns)
once_each [] seen = tt
once_each (n ∷ ns) seen = by (list_any (λ m. m == n) seen) (once_each ns seen) (once_each ns (n ∷ seen))
  where
    by : (b : Bool) → AreOnce (each_once seen ns) → AreOnce (each_once (n ∷ seen) ns) → AreOnce (cond b (each_once seen ns) (n ∷ each_once (n ∷ seen) ns))
    by true old new = old
    by false old new = (weaken (λ m. list_any (λ k. k == m) (n ∷ seen) ≡ false) (λ m. (n == m) ≡ false) (λ m e. (neither (n == m) (list_any (λ k. k == m) seen) e).0) (each_once (n ∷ seen) ns) (new_number (n ∷ seen) ns), new)

kept_once : (t : ℕ → Bool) (ns : List ℕ) → AreOnce ns → AreOnce (filter t ns)
kept_once t [] once = tt
kept_once t (n ∷ ns) once = by (t n) (kept_once t ns once.1)
  where
    by : (b : Bool) → AreOnce (filter t ns) → AreOnce (cond b (n ∷ filter t ns) (filter t ns))
    by true rest = (all_filtered (λ m. (n == m) ≡ false) t ns once.0, rest)
    by false rest = rest

not_named : (n m : ℕ) (b : Bool) → n < 2 ^ 64 → m < 2 ^ 64 → bytes_eq (string_name n) (string_name m) ≡ b → (n == m) ≡ false → b ≡ false
not_named n m true a c e f = let same : n ≡ m = same_width n m a c (eq_same (string_name n) (string_name m) e) in let yes : (n == m) ≡ true = eq-eqb n m same in let clash : true ≡ false = sym yes ∙ f in clash
not_named n m false a c e f = refl

names_apart : (n : ℕ) (ns : List ℕ) → n < 2 ^ 64 → AllByRecursion (λ m. m < 2 ^ 64) ns → AllByRecursion (λ m. (n == m) ≡ false) ns → among (map string_name ns) (string_name n) ≡ false
names_apart n [] small fits all = refl
names_apart n (m ∷ ns) small fits all =
    both_false (bytes_eq (string_name n) (string_name m)) (among (map string_name ns) (string_name n)) (not_named n m (bytes_eq (string_name n) (string_name m)) small fits.0 refl all.0) (names_apart n ns small fits.1 all.1)

strings_distinct : (ns : List ℕ) → AllByRecursion (λ n. n < 2 ^ 64) ns → AreOnce ns → are_distinct (map string_name ns) ≡ true
strings_distinct [] fits once = refl
strings_distinct (n ∷ ns) fits once = both_true _ _ (true_not (among (map string_name ns) (string_name n)) (names_apart n ns fits.0 fits.1 once.0)) (strings_distinct ns fits.1 once.1)

-- a dimension that no axis is has a name that no axis has
not_axis : (axes : List Axis) (name : List ℕ) → is_none (axis_named name axes) ≡ true → among (axis_names axes) name ≡ false
not_axis [] name e = refl
not_axis (x ∷ axes) name e = by (bytes_eq x.name name) refl e (λ f. not_axis axes name f)
  where
    by : (b : Bool) → bytes_eq x.name name ≡ b → is_none (cond b (Some x) (axis_named name axes)) ≡ true → (is_none (axis_named name axes) ≡ true → among (axis_names axes) name ≡ false) → among (axis_names (x ∷ axes)) name ≡ false
    by true t f goes = absurd cc
    by false t f goes = both_false (bytes_eq name x.name) (among (axis_names axes) name) (eq_swap name x.name ∙ t) (goes f)

axisless : (axes : List Axis) (ns : List ℕ) → AllByRecursion (λ n. is_axisless axes n ≡ true) (filter (is_axisless axes) ns)
axisless axes [] = tt
axisless axes (n ∷ ns) = by (is_axisless axes n) refl (axisless axes ns)
  where
    by : (b : Bool) → is_axisless axes n ≡ b → AllByRecursion (λ m. is_axisless axes m ≡ true) (filter (is_axisless axes) ns) → AllByRecursion (λ m. is_axisless axes m ≡ true) (cond b (n ∷ filter (is_axisless axes) ns) (filter (is_axisless axes) ns))
    by true e rest = (e, rest)
    by false e rest = rest

dims_distinct : (set : Dataset) (options : WriteOptions) → are_distinct (axis_names set.axes) ≡ true → AllByRecursion (λ n. n < 2 ^ 64) (text_widths set) → are_distinct (dim_names (dims_of set options)) ≡ true
dims_distinct set options e fits =
    let r : Option (List ℕ) = record_dim set options in
    let ws : List ℕ = filter (is_axisless set.axes) (text_widths set) in
    let once : AreOnce ws = kept_once (is_axisless set.axes) (text_widths set) (once_each (filter_map index_width set.axes ++ filter_map coord_width (by_name set.coords)) []) in
    let apart : AllByRecursion (λ n. among (axis_names set.axes) n ≡ false) (map string_name ws) = all_mapped (λ n. among (axis_names set.axes) n ≡ false) string_name ws
    (weaken (λ n. is_axisless set.axes n ≡ true) (λ n. among (axis_names set.axes) (string_name n) ≡ false) (λ n f. not_axis set.axes (string_name n) f) ws (axisless set.axes (text_widths set))) in
    ap are_distinct (map-append (λ (d : CdfDim). d.name) (map (dim_of_axis r) set.axes) (map string_dim ws) ∙ ap (λ l. l ++ dim_names (map string_dim ws)) (axis_dim_names r set.axes) ∙ ap (λ l. axis_names set.axes ++ l) (string_dim_names ws))
    ∙ distinct_join (axis_names set.axes) (map string_name ws) e (strings_distinct ws (all_filtered (λ n. n < 2 ^ 64) (is_axisless set.axes) (text_widths set) fits) once) (apart_swap (axis_names set.axes) (map string_name ws) apart)

string_utf8 : is_utf8 (codes "string") ≡ true
unfolding is_utf8 chars Utf8.encode
string_utf8 = refl

some_bytes : (b : ℕ) (bs : List ℕ) → not (length (b ∷ bs) == 0) ≡ true
some_bytes b bs = ap not (eqb-suc-zero (length bs))

string_is_name : (n : ℕ) → n < 2 ^ 64 → is_name (string_name n) ≡ true
string_is_name n lt =
    both_true (not (length (string_name n) == 0)) (is_utf8 (string_name n)) (some_bytes 115 (116 ∷ 114 ∷ 105 ∷ 110 ∷ 103 ∷ decimal n))
    (is_utf8-from_IsUtf8 (string_name n) (IsUtf8-append (codes "string") (decimal n) (IsUtf8-from_is_utf8 (codes "string") string_utf8) (IsUtf8-from_ascii (decimal n) (IsAscii-decimal n lt))))

axis_dim : (version : ℕ) (r : Option (List ℕ)) (x : Axis) → IsDimension x → length (dim_text version (dim_of_axis r x)) ≤ most → IsDim version (dim_of_axis r x)
axis_dim version r x is le = record { name = record { name = is.name; fits = dim_name version (dim_of_axis r x) le }; fits = few (is_that r x.name) }
  where
    few : (b : Bool) → Fits version (if b then 0 else x.size)
    few true = small_fits version 0 (omega arith)
    few false = let f = is.few in small_fits version x.size (omega arith)

axis_dims : (version : ℕ) (r : Option (List ℕ)) (axes : List Axis) → AllByRecursion IsDimension axes → AllByRecursion (λ d. length (dim_text version d) ≤ most) (map (dim_of_axis r) axes) → AllByRecursion (IsDim version) (map (dim_of_axis r) axes)
axis_dims version r [] is fits = tt
axis_dims version r (x ∷ axes) is fits = (axis_dim version r x is.0 fits.0, axis_dims version r axes is.1 fits.1)

string_dims : (version : ℕ) (ws : List ℕ) → AllByRecursion (λ n. n < 2 ^ 64) ws → AllByRecursion (λ n. n < 2 ^ 32) ws → AllByRecursion (λ d. length (dim_text version d) ≤ most) (map string_dim ws) → AllByRecursion (IsDim version) (map string_dim ws)
string_dims version [] small few fits = tt
string_dims version (w ∷ ws) small few fits =
    (record { name = record { name = string_is_name w small.0; fits = dim_name version (string_dim w) fits.0 }; fits = small_fits version w few.0 }, string_dims version ws small.1 few.1 fits.1)

-- ---- the widths fit, since the texts are written

at_least_one : (n : ℕ) → 1 ≤ (if n == 0 then 1 else n)
at_least_one zero = omega arith
at_least_one (suc n) = subst (λ b. 1 ≤ (if b then 1 else suc n)) (sym (eqb-suc-zero n)) (omega arith)

all_of_it : (n : ℕ) → 1 ≤ n → (if n == 0 then 1 else n) ≡ n
all_of_it zero some = absurd (omega arith)
all_of_it (suc n) some = ap (λ b. if b then 1 else suc n) (eqb-suc-zero n)

last_size : (dims : List CdfDim) (names : List (List ℕ)) (s : List ℕ) → positions 1 (looked dims s) ≤ size (shape_of dims 1 (map (number_of_dim dims) (names ++ s ∷ [])))
last_size dims [] s = let one : positions 1 (looked dims s) * 1 ≡ positions 1 (looked dims s) = omega arith in omega arith
last_size dims (n ∷ names) s =
    let rest : ℕ = size (shape_of dims 1 (map (number_of_dim dims) (names ++ s ∷ []))) in
    let goes = last_size dims names s in
    let more : 1 * rest ≤ positions 1 (looked dims n) * rest = mul-le 1 rest (positions 1 (looked dims n)) rest (at_least_one (looked dims n).len) (omega arith) in
    omega arith

-- the width of texts that are written
abbrev IsWritten : Dataset → WriteOptions → ℕ → Type 0
IsWritten set options n = looked (dims_of set options) (string_name n) ≡ string_dim n → n ≤ 2 * most

texts_written : (set : Dataset) (options : WriteOptions) (names : List (List ℕ)) (n : ℕ) → 1 ≤ n → size (shape_of (dims_of set options) 1 (map (number_of_dim (dims_of set options)) (names ++ string_name n ∷ []))) * 1 ≤ 2 * most → IsWritten set options n
texts_written set options names n some le is =
    let last = last_size (dims_of set options) names (string_name n) in
    let here : positions 1 (looked (dims_of set options) (string_name n)) ≡ n = ap (positions 1) is ∙ all_of_it n some in
    omega arith

abbrev IsSlab : Dataset → WriteOptions → Stored → Type 0
IsSlab set options o = slab (dims_of set options) (var_of (dims_of set options) options o) ≤ 2 * most

-- each version writes texts with a byte for each char
chars_wide : (long : Bool) → width (cond long (own_type kinds.Char) (classic_type kinds.Char)) ≡ 1
chars_wide true = refl
chars_wide false = refl

in_bytes : (set : Dataset) (options : WriteOptions) (names : List (List ℕ)) → size (shape_of (dims_of set options) 1 (map (number_of_dim (dims_of set options)) names)) * width (type_of options.version kinds.Char) ≤ 2 * most
    → size (shape_of (dims_of set options) 1 (map (number_of_dim (dims_of set options)) names)) * 1 ≤ 2 * most
in_bytes set options names le = subst (λ w. size (shape_of (dims_of set options) 1 (map (number_of_dim (dims_of set options)) names)) * w ≤ 2 * most) (chars_wide (options.version == 5)) le

list_written : (set : Dataset) (options : WriteOptions) (name : List ℕ) (attrs : List Attr) (list : LabelList) → IsSlab set options (stored_labels name attrs list) → MatchOption (labels_width list) ⊤ (IsWritten set options)
list_written set options name attrs (Numbers kind ns) le = tt
list_written set options name attrs (Times coding ts) le = tt
list_written set options name attrs (Texts texts) le = texts_written set options (name ∷ []) (text_width texts) (wide_at_least 1 texts) (in_bytes set options (name ∷ string_name (text_width texts) ∷ []) le)

index_written : (set : Dataset) (options : WriteOptions) (name : List ℕ) (o : Option Labels) (rest : List Axis) → AllByRecursion (IsSlab set options) (cons_option (option_map (λ (l : Labels). stored_labels name l.attrs l.list) o) (filter_map stored_index rest))
    → MatchOption (elim o [ None ↦ None | Some l ↦ labels_width l.list ]) ⊤ (IsWritten set options) × AllByRecursion (IsSlab set options) (filter_map stored_index rest)
index_written set options name None rest all = (tt, all)
index_written set options name (Some l) rest all = (list_written set options name l.attrs l.list all.0, all.1)

indexes_written : (set : Dataset) (options : WriteOptions) (axes : List Axis) → AllByRecursion (IsSlab set options) (filter_map stored_index axes) → AllByRecursion (λ x. MatchOption (index_width x) ⊤ (IsWritten set options)) axes
indexes_written set options [] all = tt
indexes_written set options (x ∷ axes) all = let both = index_written set options x.name x.labels axes all in (both.0, indexes_written set options axes both.1)

content_written : (set : Dataset) (options : WriteOptions) (c : Coord) (content : Content) → IsSlab set options (stored_content c content) → MatchOption (content_width content) ⊤ (IsWritten set options)
content_written set options c (contents.Cells a masked) le = tt
content_written set options c (contents.Text text) le = texts_written set options [] (text_width (text ∷ [])) (wide_at_least 1 (text ∷ [])) (in_bytes set options (string_name (text_width (text ∷ [])) ∷ []) le)
content_written set options c (contents.Time coding t) le = tt

coords_written : (set : Dataset) (options : WriteOptions) (cs : List Coord) → AllByRecursion (IsSlab set options) (map stored_coord cs) → AllByRecursion (λ c. MatchOption (coord_width c) ⊤ (IsWritten set options)) cs
coords_written set options [] all = tt
coords_written set options (c ∷ cs) all = (content_written set options c c.content all.0, coords_written set options cs all.1)

widths_few : (set : Dataset) (options : WriteOptions) → is_small (encoded set options) ≡ true → AllByRecursion (λ n. n < 2 ^ 64) (text_widths set) → AllByRecursion (λ n. n < 2 ^ 32) (filter (is_axisless set.axes) (text_widths set))
widths_few set options small fits =
    let slabs = all_unmapped (λ v. slab (dims_of set options) v ≤ 2 * most) (var_of (dims_of set options) options) (stored set) (slabs_fit (encoded set options) small) in
    let first = all_parts (IsSlab set options) (filter_map stored_index set.axes) (map stored_coord (by_name set.coords) ++ map (stored_variable set) set.vars) slabs in
    let second = all_parts (IsSlab set options) (map stored_coord (by_name set.coords)) (map (stored_variable set) set.vars) first.1 in
    let written : AllByRecursion (IsWritten set options) (text_widths set) = all_widths set (IsWritten set options) (indexes_written set options set.axes first.0) (coords_written set options (by_name set.coords) second.0) in
    let few : AllByRecursion (λ n. is_axisless set.axes n ≡ true → n < 2 ^ 32) (text_widths set) =
    all_with (IsWritten set options) (λ n. is_axisless set.axes n ≡ true → looked (dims_of set options) (string_name n) ≡ string_dim n) (λ n. is_axisless set.axes n ≡ true → n < 2 ^ 32)
    (λ n w found e. let le = w (found e) in omega arith) (text_widths set) written (strings_found set options fits) in
    all_with (λ n. is_axisless set.axes n ≡ true → n < 2 ^ 32) (λ n. is_axisless set.axes n ≡ true) (λ n. n < 2 ^ 32) (λ n goes e. goes e) (filter (is_axisless set.axes) (text_widths set))
    (all_filtered (λ n. is_axisless set.axes n ≡ true → n < 2 ^ 32) (is_axisless set.axes) (text_widths set) few) (axisless set.axes (text_widths set))

-- ---- what the checks tell

held : {E : Type 0} (b : Bool) (e : E) → unless b e ≡ Ok tt → b ≡ true
unfolding unless
held true e is = refl
held false e is = cc

three_held : {E : Type 0} (a b c : Bool) (e : E) → (unless a e >>= λ u. unless b e >>= λ v. unless c e) ≡ Ok tt → (a ≡ true) × ((b ≡ true) × (c ≡ true))
unfolding unless
three_held true true true e is = (refl, (refl, refl))
three_held true true false e is = absurd cc
three_held true false c e is = absurd cc
three_held false b c e is = absurd cc

names_held : (set : Dataset) (options : WriteOptions) → check_names set options ≡ Ok tt
    → (list_all (has_width set) (text_widths set) ≡ true) × ((list_all (λ o. are_new o.attrs (added options o)) (stored set) ≡ true) × (are_new set.attrs (coordinates_added (listed_by_none set)) ≡ true))
unfolding check_names
names_held set options ok = three_held (list_all (has_width set) (text_widths set)) (list_all (λ o. are_new o.attrs (added options o)) (stored set)) (are_new set.attrs (coordinates_added (listed_by_none set))) DuplicateName ok

four_held : {E : Type 0} (a b c d : Bool) (e : E) → (unless a e >>= λ u. unless b e >>= λ v. unless c e >>= λ w. unless d e) ≡ Ok tt → (a ≡ true) × ((b ≡ true) × (d ≡ true))
unfolding unless
four_held true true true true e is = (refl, (refl, refl))
four_held true true true false e is = absurd cc
four_held true true false d e is = absurd cc
four_held true false c d e is = absurd cc
four_held false b c d e is = absurd cc

records_held : (set : Dataset) (options : WriteOptions) → check_records set options ≡ Ok tt
    → (list_all (is_that (record_dim set options)) (empty_axes set) ≡ true) × ((list_all (stands_first (record_dim set options)) (stored set) ≡ true) × ((has_types options.version set.attrs && list_all (λ o. has_types options.version (attrs_of options o)) (stored set)) ≡ true))
unfolding check_records
records_held set options ok =
    four_held (list_all (is_that (record_dim set options)) (empty_axes set)) (list_all (stands_first (record_dim set options)) (stored set)) (not (list_any (λ name. list_any is_blank name) (coord_names set.coords)))
    (has_types options.version set.attrs && list_all (λ o. has_types options.version (attrs_of options o)) (stored set)) CannotHold ok

checks_held : (set : Dataset) (options : WriteOptions) → check_outlines set options ≡ Ok tt → (check_names set options ≡ Ok tt) × (check_records set options ≡ Ok tt)
unfolding check_outlines
checks_held set options ok =
    let last = all_of (check_fill options) (stored set) >>= λ d. all_of (check_fit options) (stored set) in
    let one = first_ok (check_unlimited set options) (check_names set options >>= λ b. check_records set options >>= λ c. last) ok in
    let two = first_ok (check_names set options) (check_records set options >>= λ c. last) one.1 in
    (two.0, (first_ok (check_records set options) last two.1).0)

each_true : {X : Type 0} (t : X → Bool) (xs : List X) → list_all t xs ≡ true → AllByRecursion (λ x. t x ≡ true) xs
each_true t [] e = tt
each_true t (x ∷ xs) e = let both = and_parts (t x) (list_all t xs) e in (both.0, each_true t xs both.1)

-- ---- records

found_few : (axes : List Axis) (d : List ℕ) (o : Option Axis) → AllByRecursion IsDimension axes → axis_named d axes ≡ o → elim o [ None ↦ 0 | Some x ↦ x.size ] < 4294967295
found_few axes d None is e = omega arith
found_few axes d (Some x) is e = let few = (found_all IsDimension axes d x is e).few in omega arith

records_few : (axes : List Axis) (r : Option (List ℕ)) → AllByRecursion IsDimension axes → elim r [ None ↦ 0 | Some d ↦ elim (axis_named d axes) [ None ↦ 0 | Some x ↦ x.size ] ] < 4294967295
records_few axes None is = omega arith
records_few axes (Some d) is = found_few axes d (axis_named d axes) is refl

below_by : (b : Bool) (n : ℕ) → n < 4294967295 → n < (if b then 18446744073709551615 else 4294967295)
below_by true n lt = omega arith
below_by false n lt = lt

-- no count of records has all bits set
below_most : (version n : ℕ) → n < 4294967295 → n < most_count version
below_most version n lt = below_by (version == 5) n lt

-- ---- the whole

pub is_file : (set : Dataset) (options : WriteOptions) → IsDataset set → is_version options.version ≡ true → check_outlines set options ≡ Ok tt → AllByRecursion (λ n. n < 2 ^ 64) (text_widths set) → is_small (encoded set options) ≡ true → IsFile (encoded set options)
is_file set options is version ok fits small =
    let f : CdfFile = encoded set options in
    let dims : List CdfDim = dims_of set options in
    let r : Option (List ℕ) = record_dim set options in
    let ws : List ℕ = filter (is_axisless set.axes) (text_widths set) in
    let checks = checks_held set options ok in
    let names = names_held set options checks.0 in
    let full = (records_held set options checks.1).0 in
    let formed = all_formed set options is full names.0 fits in
    let parts = all_parts (λ d. length (dim_text options.version d) ≤ most) (map (dim_of_axis r) set.axes) (map string_dim ws) (dims_fit f small) in
    let lines : AllByRecursion (λ o. length (var_text options.version dims (var_of dims options o, 0)) ≤ most) (stored set) = all_unmapped (λ v. length (var_text options.version dims (v, 0)) ≤ most) (var_of dims options) (stored set) (vars_fit f small) in
    let new : AllByRecursion (λ o. are_new o.attrs (added options o) ≡ true) (stored set) = each_true (λ o. are_new o.attrs (added options o)) (stored set) names.1.0 in
    let good : AllByRecursion (λ o. IsVar f (var_of dims options o)) (stored set) =
    all_with (λ o. IsFormed set options o × (are_new o.attrs (added options o) ≡ true)) (λ o. length (var_text options.version dims (var_of dims options o, 0)) ≤ most) (λ o. IsVar f (var_of dims options o)) (λ o both le. var_good set options o both.0 both.1 le) (stored set)
    (all_with (IsFormed set options) (λ o. are_new o.attrs (added options o) ≡ true) (λ o. IsFormed set options o × (are_new o.attrs (added options o) ≡ true)) (λ o a b. (a, b)) (stored set) formed new) lines in
    record {
      known = version;
      numrecs = below_most options.version (records_of set options) (records_few set.axes r is.axes.each);
      dims = all_join (IsDim options.version) (map (dim_of_axis r) set.axes) (map string_dim ws) (axis_dims options.version r set.axes is.axes.each parts.0)
          (string_dims options.version ws (all_filtered (λ n. n < 2 ^ 64) (is_axisless set.axes) (text_widths set) fits) (widths_few set options small fits) parts.1);
      dims_distinct = dims_distinct set options is.axes.distinct fits;
      dims_fit = dims_few f small;
      attrs = attrs_good options.version (set.attrs ++ coordinates_added (listed_by_none set)) (all_join IsAttribute set.attrs (coordinates_added (listed_by_none set)) is.attrs.each (coordinates_formed (listed_by_none set)))
          (distinct_added set.attrs (coordinates_added (listed_by_none set)) is.attrs.distinct (one_distinct (listed_by_none set)) names.1.1) (small_attrs f small);
      vars = all_mapped (IsVar f) (var_of dims options) (stored set) good;
      vars_distinct = ap are_distinct (var_names dims options (stored set) ∙ stored_names set) ∙ distinct_any_order (axis_names (labelled set.axes)) set.coords (variable_names set.vars) is.vars_distinct;
      vars_fit = vars_few f small;
    }

-- ---- its version can hold it

all_placed : (set : Dataset) (options : WriteOptions) (os : List Stored) → AllByRecursion (IsFormed set options) os → AllByRecursion (λ o. stands_first (record_dim set options) o ≡ true) os
    → list_all (λ o. has_types options.version (attrs_of options o)) os ≡ true → list_all (can_hold_var (encoded set options)) (map (var_of (dims_of set options) options) os) ≡ true
all_placed set options [] formed first typed = refl
all_placed set options (o ∷ os) formed first typed =
    let both = and_parts (has_types options.version (attrs_of options o)) (list_all (λ o. has_types options.version (attrs_of options o)) os) typed in
    both_true _ _ (both_true _ _ (both_true _ _ (type_there options.version o.kind) both.0) (placed_first set options o.dims formed.0.sizes formed.0.known (not_true (list_any (is_that (record_dim set options)) (drop 1 o.dims)) first.0)))
    (all_placed set options os formed.1 first.1 both.1)

set_typed : (version : ℕ) (attrs : List Attr) (names : List (List ℕ)) → has_types version attrs ≡ true → has_types version (attrs ++ coordinates_added names) ≡ true
set_typed version attrs names typed = list_all-append (λ (a : Attr). has_type version a.kind) attrs (coordinates_added names) ∙ both_true (has_types version attrs) (has_types version (coordinates_added names)) typed (coordinates_there version names)

pub is_holdable : (set : Dataset) (options : WriteOptions) → IsDataset set → check_outlines set options ≡ Ok tt → AllByRecursion (λ n. n < 2 ^ 64) (text_widths set) → can_hold (encoded set options) ≡ true
is_holdable set options is ok fits =
    let f : CdfFile = encoded set options in
    let checks = checks_held set options ok in
    let names = names_held set options checks.0 in
    let records = records_held set options checks.1 in
    let typed = and_parts (has_types options.version set.attrs) (list_all (λ o. has_types options.version (attrs_of options o)) (stored set)) records.1.1 in
    let few = few_records set options is.axes.distinct records.0 (widths_some set) in
    both_true _ _
    (both_true (nat_le (count_record_dims (dims_of set options)) 1) (has_types options.version f.attrs) (le-leb (count_record_dims (dims_of set options)) 1 few) (set_typed options.version set.attrs (listed_by_none set) typed.0))
    (all_placed set options (stored set) (all_formed set options is records.0 names.0 fits) (each_true (stands_first (record_dim set options)) (stored set) records.1.0) typed.1)
