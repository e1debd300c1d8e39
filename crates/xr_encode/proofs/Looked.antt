-- Dimensions by their names: each has as many positions as its axis, or as its texts are wide.
use Rattle.std.proofs.Common.{◌≡◌, ◌<◌, ◌≤◌, ◌+◌, ◌^◌, ℕ, zero, suc, Bool, true, false, cond, List, [], ◌∷◌, ◌++◌, length, map, drop, get_or, Option, Some, None, refl, sym, ap, subst, ◌∙◌, arith, length-append}
use Rattle.std.specs.Prelude.{not, ◌&&◌, ◌||◌, ◌==◌, if◌then◌else◌, filter, is_none, option_map, ⊤, codes}
use Rattle.std.specs.List.{AllByRecursion, list_any, list_all}
use Rattle.std.specs.Str.{bytes_eq}
use Rattle.std.specs.Fmt.{decimal}
use Rattle.std.proofs.lemmas.Bool.{and_parts, eqb-true}
use Rattle.std.proofs.lemmas.List.{append_cancel_left}
use Rattle.std.proofs.lemmas.List.Elements.{filter-append}
use Rattle.std.proofs.lemmas.Fmt.{decimal_injective}
use Rattle.std.proofs.Math.Dec.{eqb-suc-zero}
use Rattle.xr_types.specs.declared.axis.Axis.{Axis}
use Rattle.xr_files.specs.declared.file.CdfDim.{CdfDim}
use Rattle.xr_defs.specs.declared.write_options.WriteOptions.{WriteOptions}
use Rattle.xr_types.specs.Names.{among}
use Rattle.xr_files.specs.Classic.{dim_at, dim_names, is_record_dim}
use Rattle.xr_types.specs.Names.{are_distinct}
use Rattle.xr_files.specs.Canonical.{in_place, count_record_dims}
use Rattle.xr_files.specs.Files.{positions, shape_of}
use Rattle.xr_types.specs.Names.{axis_names}
use Rattle.xr_defs.specs.Values.{Dataset, axis_position, no_axis}
use Rattle.xr_defs.specs.Selecting.{axis_called}
use Rattle.xr_defs.specs.Decoding.{string_name}
use Rattle.xr_defs.specs.Encoding.{axis_named, is_that, dim_of_axis, string_dim, number_of_dim, dims_of, record_dim, records_of, empty_axes, text_widths, has_texts_of, has_width}
use Rattle.xr_encode.specs.Dimensions.{is_axisless}
use Rattle.xr_encode.proofs.Distinct.{eq_swap, eq_itself, eq_same, neither, weaken, all_filtered, all_unfiltered, not_true, true_not, both_true}

-- ---- axes

found_under : (x : Axis) (axes ys : List Axis) → among (axis_names ys) x.name ≡ false → AllByRecursion (λ (y : Axis). axis_named y.name axes ≡ Some y) ys → AllByRecursion (λ (y : Axis). axis_named y.name (x ∷ axes) ≡ Some y) ys
found_under x axes [] apart all = tt
found_under x axes (y ∷ ys) apart all =
    let both = neither (bytes_eq x.name y.name) (among (axis_names ys) x.name) apart in
    (ap (λ b. cond b (Some x) (axis_named y.name axes)) both.0 ∙ all.0, found_under x axes ys both.1 all.1)

pub each_found : (axes : List Axis) → are_distinct (axis_names axes) ≡ true → AllByRecursion (λ (x : Axis). axis_named x.name axes ≡ Some x) axes
each_found [] e = tt
each_found (x ∷ axes) e =
    let both = and_parts (not (among (axis_names axes) x.name)) (are_distinct (axis_names axes)) e in
    (ap (λ b. cond b (Some x) (axis_named x.name axes)) (eq_itself x.name), found_under x axes axes (not_true _ both.0) (each_found axes both.1))

-- the axis at a place, if there is one
abbrev placed : List Axis → Option ℕ → Axis
placed axes o = elim o [ None ↦ no_axis | Some k ↦ get_or axes k no_axis ]

called_next : (x : Axis) (axes : List Axis) (o : Option ℕ) → placed (x ∷ axes) (option_map (λ n. n + 1) o) ≡ placed axes o
called_next x axes None = refl
called_next x axes (Some k) = let z : k + 1 ≡ suc k = omega arith in ap (λ n. get_or (x ∷ axes) n no_axis) z

found_one : (x : Axis) (axes : List Axis) (d : List ℕ) (b : Bool) → bytes_eq x.name d ≡ b → (b ≡ false → axis_named d axes ≡ Some (axis_called axes d)) → axis_named d (x ∷ axes) ≡ Some (axis_called (x ∷ axes) d)
found_one x axes d true e goes =
    ap (λ b. cond b (Some x) (axis_named d axes)) e ∙ sym (ap (λ b. Some (placed (x ∷ axes) (cond b (Some 0) (option_map (λ n. n + 1) (axis_position d axes))))) e)
found_one x axes d false e goes =
    ap (λ b. cond b (Some x) (axis_named d axes)) e ∙ goes refl
    ∙ sym (ap Some (ap (λ b. placed (x ∷ axes) (cond b (Some 0) (option_map (λ n. n + 1) (axis_position d axes)))) e ∙ called_next x axes (axis_position d axes)))

behind_first : (a b : Bool) → (a || b) ≡ true → a ≡ false → b ≡ true
behind_first true b e f = cc
behind_first false b e f = e

-- the axis of a name that is there
pub called_found : (axes : List Axis) (d : List ℕ) → among (axis_names axes) d ≡ true → axis_named d axes ≡ Some (axis_called axes d)
called_found [] d e = cc
called_found (x ∷ axes) d e = found_one x axes d (bytes_eq x.name d) refl (λ f. called_found axes d (behind_first (bytes_eq d x.name) (among (axis_names axes) d) e (eq_swap d x.name ∙ f)))

pub found_name : (axes : List Axis) (d : List ℕ) (x : Axis) → axis_named d axes ≡ Some x → x.name ≡ d
found_name [] d x e = cc
found_name (y ∷ axes) d x e = by (bytes_eq y.name d) refl e (λ f. found_name axes d x f)
  where
    by : (b : Bool) → bytes_eq y.name d ≡ b → cond b (Some y) (axis_named d axes) ≡ Some x → (axis_named d axes ≡ Some x → x.name ≡ d) → x.name ≡ d
    by true t f goes = let same : y ≡ x = cc in sym (ap (λ (a : Axis). a.name) same) ∙ eq_same y.name d t
    by false t f goes = goes f

pub found_all : (P : Axis → Type 0) (axes : List Axis) (d : List ℕ) (x : Axis) → AllByRecursion P axes → axis_named d axes ≡ Some x → P x
found_all P [] d x all e = absurd cc
found_all P (y ∷ axes) d x all e = by (bytes_eq y.name d) e (λ f. found_all P axes d x all.1 f)
  where
    by : (b : Bool) → cond b (Some y) (axis_named d axes) ≡ Some x → (axis_named d axes ≡ Some x → P x) → P x
    by true f goes = let same : y ≡ x = cc in subst P same all.0
    by false f goes = goes f

-- ---- dimensions by name

abbrev pub looked : List CdfDim → List ℕ → CdfDim
looked dims name = dim_at dims (number_of_dim dims name)

looked_first : (d : CdfDim) (dims : List CdfDim) (name : List ℕ) → bytes_eq d.name name ≡ true → looked (d ∷ dims) name ≡ d
looked_first d dims name e = ap (λ b. dim_at (d ∷ dims) (cond (not b) (1 + number_of_dim dims name) 0)) e

looked_next : (d : CdfDim) (dims : List CdfDim) (name : List ℕ) → bytes_eq d.name name ≡ false → looked (d ∷ dims) name ≡ looked dims name
looked_next d dims name e =
    let n : ℕ = number_of_dim dims name in
    let z : 1 + n ≡ suc n = omega arith in
    ap (λ b. dim_at (d ∷ dims) (cond (not b) (1 + n) 0)) e ∙ ap (λ k. dim_at (d ∷ dims) k) z

number_one : (d : CdfDim) (dims : List CdfDim) (name : List ℕ) (b : Bool) → bytes_eq d.name name ≡ b → (b ≡ false → number_of_dim dims name < length dims) → number_of_dim (d ∷ dims) name < length (d ∷ dims)
number_one d dims name true e goes = let z : number_of_dim (d ∷ dims) name ≡ 0 = ap (λ b. cond (not b) (1 + number_of_dim dims name) 0) e in omega arith
number_one d dims name false e goes =
    let z : number_of_dim (d ∷ dims) name ≡ 1 + number_of_dim dims name = ap (λ b. cond (not b) (1 + number_of_dim dims name) 0) e in
    let lt = goes refl in
    omega arith

pub number_inside : (dims : List CdfDim) (name : List ℕ) → among (dim_names dims) name ≡ true → number_of_dim dims name < length dims
number_inside [] name e = absurd cc
number_inside (d ∷ dims) name e = number_one d dims name (bytes_eq d.name name) refl (λ f. number_inside dims name (behind_first (bytes_eq name d.name) (among (dim_names dims) name) e (eq_swap name d.name ∙ f)))

axis_one : (r : Option (List ℕ)) (y : Axis) (axes : List Axis) (rest : List CdfDim) (name : List ℕ) (x : Axis) (b : Bool) → bytes_eq y.name name ≡ b → cond b (Some y) (axis_named name axes) ≡ Some x
    → (axis_named name axes ≡ Some x → looked (map (dim_of_axis r) axes ++ rest) name ≡ dim_of_axis r x) → looked (map (dim_of_axis r) (y ∷ axes) ++ rest) name ≡ dim_of_axis r x
axis_one r y axes rest name x true e is goes = let same : y ≡ x = cc in looked_first (dim_of_axis r y) (map (dim_of_axis r) axes ++ rest) name e ∙ ap (dim_of_axis r) same
axis_one r y axes rest name x false e is goes = looked_next (dim_of_axis r y) (map (dim_of_axis r) axes ++ rest) name e ∙ goes is

axis_looked : (r : Option (List ℕ)) (axes : List Axis) (rest : List CdfDim) (name : List ℕ) (x : Axis) → axis_named name axes ≡ Some x → looked (map (dim_of_axis r) axes ++ rest) name ≡ dim_of_axis r x
axis_looked r [] rest name x e = cc
axis_looked r (y ∷ axes) rest name x e = axis_one r y axes rest name x (bytes_eq y.name name) refl e (axis_looked r axes rest name x)

passed_one : (r : Option (List ℕ)) (y : Axis) (axes : List Axis) (rest : List CdfDim) (name : List ℕ) (b : Bool) → bytes_eq y.name name ≡ b → is_none (cond b (Some y) (axis_named name axes)) ≡ true
    → (is_none (axis_named name axes) ≡ true → looked (map (dim_of_axis r) axes ++ rest) name ≡ looked rest name) → looked (map (dim_of_axis r) (y ∷ axes) ++ rest) name ≡ looked rest name
passed_one r y axes rest name true e is goes = cc
passed_one r y axes rest name false e is goes = looked_next (dim_of_axis r y) (map (dim_of_axis r) axes ++ rest) name e ∙ goes is

axis_passed : (r : Option (List ℕ)) (axes : List Axis) (rest : List CdfDim) (name : List ℕ) → is_none (axis_named name axes) ≡ true → looked (map (dim_of_axis r) axes ++ rest) name ≡ looked rest name
axis_passed r [] rest name e = refl
axis_passed r (y ∷ axes) rest name e = passed_one r y axes rest name (bytes_eq y.name name) refl e (axis_passed r axes rest name)

-- ---- the dimensions of texts

pub same_width : (m n : ℕ) → m < 2 ^ 64 → n < 2 ^ 64 → string_name m ≡ string_name n → m ≡ n
same_width m n a b e = decimal_injective m n a b (append_cancel_left (codes "string") (decimal m) (decimal n) e)

string_one : (w n : ℕ) (ws : List ℕ) (b : Bool) → w < 2 ^ 64 → n < 2 ^ 64 → bytes_eq (string_name w) (string_name n) ≡ b → looked (map string_dim ws) (string_name n) ≡ string_dim n → looked (map string_dim (w ∷ ws)) (string_name n) ≡ string_dim n
string_one w n ws true small fits e goes = looked_first (string_dim w) (map string_dim ws) (string_name n) e ∙ ap string_dim (same_width w n small fits (eq_same (string_name w) (string_name n) e))
string_one w n ws false small fits e goes = looked_next (string_dim w) (map string_dim ws) (string_name n) e ∙ goes

strings_under : (w : ℕ) (ws ns : List ℕ) → w < 2 ^ 64 → AllByRecursion (λ n. n < 2 ^ 64) ns → AllByRecursion (λ n. looked (map string_dim ws) (string_name n) ≡ string_dim n) ns → AllByRecursion (λ n. looked (map string_dim (w ∷ ws)) (string_name n) ≡ string_dim n) ns
strings_under w ws [] small fits all = tt
strings_under w ws (n ∷ ns) small fits all = (string_one w n ws (bytes_eq (string_name w) (string_name n)) small fits.0 refl all.0, strings_under w ws ns small fits.1 all.1)

strings_looked : (ws : List ℕ) → AllByRecursion (λ n. n < 2 ^ 64) ws → AllByRecursion (λ n. looked (map string_dim ws) (string_name n) ≡ string_dim n) ws
strings_looked [] fits = tt
strings_looked (w ∷ ws) fits = (looked_first (string_dim w) (map string_dim ws) (string_name w) (eq_itself (string_name w)), strings_under w ws ws fits.0 fits.1 (strings_looked ws fits.1))

-- a dimension of texts that no axis is
pub strings_found : (set : Dataset) (options : WriteOptions) → AllByRecursion (λ n. n < 2 ^ 64) (text_widths set)
    → AllByRecursion (λ n. is_axisless set.axes n ≡ true → looked (dims_of set options) (string_name n) ≡ string_dim n) (text_widths set)
strings_found set options fits =
    let ws : List ℕ = filter (is_axisless set.axes) (text_widths set) in
    let r : Option (List ℕ) = record_dim set options in
    weaken (λ n. is_axisless set.axes n ≡ true → looked (map string_dim ws) (string_name n) ≡ string_dim n) (λ n. is_axisless set.axes n ≡ true → looked (dims_of set options) (string_name n) ≡ string_dim n)
    (λ n goes e. axis_passed r set.axes (map string_dim ws) (string_name n) e ∙ goes e) (text_widths set)
    (all_unfiltered (λ n. looked (map string_dim ws) (string_name n) ≡ string_dim n) (is_axisless set.axes) (text_widths set) (strings_looked ws (all_filtered (λ n. n < 2 ^ 64) (is_axisless set.axes) (text_widths set) fits)))

-- ---- how many positions a dimension has

empty_one : (t : List ℕ → Bool) (y : Axis) (axes : List Axis) (x : Axis) (d : List ℕ) (b : Bool) → y.size == 0 ≡ b → list_all t (axis_names (cond b (y ∷ filter (λ (z : Axis). z.size == 0) axes) (filter (λ (z : Axis). z.size == 0) axes))) ≡ true
    → (y ≡ x → b ≡ true → t x.name ≡ true) × (list_all t (axis_names (filter (λ (z : Axis). z.size == 0) axes)) ≡ true)
empty_one t y axes x d true e all = let both = and_parts (t y.name) (list_all t (axis_names (filter (λ (z : Axis). z.size == 0) axes))) all in ((λ same f. ap (λ (z : Axis). t z.name) (sym same) ∙ both.0), both.1)
empty_one t y axes x d false e all = ((λ same f. cc), all)

empties : (t : List ℕ → Bool) (axes : List Axis) (d : List ℕ) (x : Axis) → list_all t (axis_names (filter (λ (z : Axis). z.size == 0) axes)) ≡ true → axis_named d axes ≡ Some x → (x.size == 0) ≡ true → t x.name ≡ true
empties t [] d x all e zero_size = cc
empties t (y ∷ axes) d x all e zero_size = by (bytes_eq y.name d) e (λ f. empties t axes d x (empty_one t y axes x d (y.size == 0) refl all).1 f zero_size)
  where
    by : (b : Bool) → cond b (Some y) (axis_named d axes) ≡ Some x → (axis_named d axes ≡ Some x → t x.name ≡ true) → t x.name ≡ true
    by true f goes = let same : y ≡ x = cc in (empty_one t y axes x d (y.size == 0) refl all).0 same (ap (λ (z : Axis). z.size == 0) same ∙ zero_size)
    by false f goes = goes f

sized_by : (set : Dataset) (options : WriteOptions) (x : Axis) (b e : Bool) → is_that (record_dim set options) x.name ≡ b → (x.size == 0) ≡ e → (e ≡ true → b ≡ true) → (b ≡ true → records_of set options ≡ x.size)
    → positions (records_of set options) (dim_of_axis (record_dim set options) x) ≡ x.size
sized_by set options x true e is empty full records = ap (λ c. positions (records_of set options) (record { name = x.name; len = if c then 0 else x.size })) is ∙ records refl
sized_by set options x false true is empty full records = let clash : false ≡ true = full refl in absurd cc
sized_by set options x false false is empty full records =
    ap (λ c. positions (records_of set options) (record { name = x.name; len = if c then 0 else x.size })) is ∙ ap (λ c. if c then records_of set options else x.size) empty

records_by : (set : Dataset) (x : Axis) (r : Option (List ℕ)) → is_that r x.name ≡ true → axis_named x.name set.axes ≡ Some x → elim r [ None ↦ 0 | Some d ↦ elim (axis_named d set.axes) [ None ↦ 0 | Some y ↦ y.size ] ] ≡ x.size
records_by set x None is found = cc
records_by set x (Some d) is found =
    ap (λ n. elim (axis_named n set.axes) [ None ↦ 0 | Some y ↦ y.size ]) (eq_same d x.name is) ∙ ap (λ (o : Option Axis). elim o [ None ↦ 0 | Some y ↦ y.size ]) found

-- an axis has its size
pub axis_sized : (set : Dataset) (options : WriteOptions) (name : List ℕ) (x : Axis) → list_all (is_that (record_dim set options)) (empty_axes set) ≡ true → axis_named name set.axes ≡ Some x → positions (records_of set options) (looked (dims_of set options) name) ≡ x.size
axis_sized set options name x full found =
    let r : Option (List ℕ) = record_dim set options in
    let rest : List CdfDim = map string_dim (filter (is_axisless set.axes) (text_widths set)) in
    let mine : axis_named x.name set.axes ≡ Some x = ap (λ n. axis_named n set.axes) (found_name set.axes name x found) ∙ found in
    ap (positions (records_of set options)) (axis_looked r set.axes rest name x found)
    ∙ sized_by set options x (is_that r x.name) (x.size == 0) refl refl (λ e. empties (is_that r) set.axes name x full found e) (λ is. records_by set x r is mine)

string_by : (set : Dataset) (options : WriteOptions) (n : ℕ) (o : Option Axis) → list_all (is_that (record_dim set options)) (empty_axes set) ≡ true → 1 ≤ n → axis_named (string_name n) set.axes ≡ o → elim o [ None ↦ true | Some x ↦ x.size == n && not (has_texts_of n x) ] ≡ true
    → (is_axisless set.axes n ≡ true → looked (dims_of set options) (string_name n) ≡ string_dim n) → positions (records_of set options) (looked (dims_of set options) (string_name n)) ≡ n
string_by set options n (Some x) full some is width goes = axis_sized set options (string_name n) x full is ∙ eqb-true x.size n (and_parts (x.size == n) (not (has_texts_of n x)) width).0
string_by set options (suc n) None full some is width goes = ap (positions (records_of set options)) (goes (ap is_none is)) ∙ ap (λ c. if c then records_of set options else suc n) (eqb-suc-zero n)
string_by set options zero None full some is width goes = absurd (omega arith)

-- ---- which dimensions there are

or_first : (a b : Bool) → a ≡ true → (a || b) ≡ true
or_first true b e = refl
or_first false b e = cc

or_second : (a b : Bool) → b ≡ true → (a || b) ≡ true
or_second true b e = refl
or_second false b e = e

either : (a b : Bool) (P : Type 0) → (a || b) ≡ true → (a ≡ true → P) → (b ≡ true → P) → P
either true b P e f g = f refl
either false b P e f g = g e

in_axes : (r : Option (List ℕ)) (rest : List CdfDim) (axes : List Axis) (name : List ℕ) → among (axis_names axes) name ≡ true → among (dim_names (map (dim_of_axis r) axes ++ rest)) name ≡ true
in_axes r rest [] name e = absurd cc
in_axes r rest (x ∷ axes) name e =
    let behind : List CdfDim = map (dim_of_axis r) axes ++ rest in
    either (bytes_eq name x.name) (among (axis_names axes) name) (among (dim_names (map (dim_of_axis r) (x ∷ axes) ++ rest)) name ≡ true) e
    (λ t. or_first (bytes_eq name x.name) (among (dim_names behind) name) t) (λ f. or_second (bytes_eq name x.name) (among (dim_names behind) name) (in_axes r rest axes name f))

in_strings : (r : Option (List ℕ)) (rest : List CdfDim) (axes : List Axis) (name : List ℕ) → among (dim_names rest) name ≡ true → among (dim_names (map (dim_of_axis r) axes ++ rest)) name ≡ true
in_strings r rest [] name e = e
in_strings r rest (x ∷ axes) name e = or_second (bytes_eq name x.name) (among (dim_names (map (dim_of_axis r) axes ++ rest)) name) (in_strings r rest axes name e)

named_one : (x : Axis) (axes : List Axis) (name : List ℕ) (y : Axis) (b : Bool) → bytes_eq x.name name ≡ b → cond b (Some x) (axis_named name axes) ≡ Some y → (axis_named name axes ≡ Some y → among (axis_names axes) name ≡ true) → among (axis_names (x ∷ axes)) name ≡ true
named_one x axes name y true t e goes = or_first (bytes_eq name x.name) (among (axis_names axes) name) (eq_swap name x.name ∙ t)
named_one x axes name y false t e goes = or_second (bytes_eq name x.name) (among (axis_names axes) name) (goes e)

pub named_among : (axes : List Axis) (name : List ℕ) (y : Axis) → axis_named name axes ≡ Some y → among (axis_names axes) name ≡ true
named_among [] name y e = cc
named_among (x ∷ axes) name y e = named_one x axes name y (bytes_eq x.name name) refl e (named_among axes name y)

axis_there : (set : Dataset) (options : WriteOptions) (name : List ℕ) → among (axis_names set.axes) name ≡ true → among (dim_names (dims_of set options)) name ≡ true
axis_there set options name e = in_axes (record_dim set options) (map string_dim (filter (is_axisless set.axes) (text_widths set))) set.axes name e

strings_in : (ns : List ℕ) → AllByRecursion (λ n. among (dim_names (map string_dim ns)) (string_name n) ≡ true) ns
strings_in [] = tt
strings_in (n ∷ ns) = (
  or_first (bytes_eq (string_name n) (string_name n)) (among (dim_names (map string_dim ns)) (string_name n)) (eq_itself (string_name n)),
  weaken (λ m. among (dim_names (map string_dim ns)) (string_name m) ≡ true) (λ m. among (dim_names (map string_dim (n ∷ ns))) (string_name m) ≡ true) (λ m f. or_second (bytes_eq (string_name m) (string_name n)) (among (dim_names (map string_dim ns)) (string_name m)) f) ns (strings_in ns),
)

string_there : (set : Dataset) (options : WriteOptions) (n : ℕ) (o : Option Axis) → axis_named (string_name n) set.axes ≡ o → (is_axisless set.axes n ≡ true → among (dim_names (map string_dim (filter (is_axisless set.axes) (text_widths set)))) (string_name n) ≡ true) → among (dim_names (dims_of set options)) (string_name n) ≡ true
string_there set options n None is goes = in_strings (record_dim set options) (map string_dim (filter (is_axisless set.axes) (text_widths set))) set.axes (string_name n) (goes (ap is_none is))
string_there set options n (Some x) is goes = axis_there set options (string_name n) (named_among set.axes (string_name n) x is)

strings_there : (set : Dataset) (options : WriteOptions) → AllByRecursion (λ n. among (dim_names (dims_of set options)) (string_name n) ≡ true) (text_widths set)
strings_there set options =
    let ws : List ℕ = filter (is_axisless set.axes) (text_widths set) in
    weaken (λ n. is_axisless set.axes n ≡ true → among (dim_names (map string_dim ws)) (string_name n) ≡ true) (λ n. among (dim_names (dims_of set options)) (string_name n) ≡ true)
    (λ n goes. string_there set options n (axis_named (string_name n) set.axes) refl goes) (text_widths set)
    (all_unfiltered (λ n. among (dim_names (map string_dim ws)) (string_name n) ≡ true) (is_axisless set.axes) (text_widths set) (strings_in ws))

-- ---- which dimension is the record dimension

fixed_by : (set : Dataset) (options : WriteOptions) (x : Axis) (b e : Bool) → is_that (record_dim set options) x.name ≡ b → (x.size == 0) ≡ e → (e ≡ true → b ≡ true) → b ≡ false → is_record_dim (dim_of_axis (record_dim set options) x) ≡ false
fixed_by set options x b true is empty full other = let yes = full refl in cc
fixed_by set options x true false is empty full other = cc
fixed_by set options x false false is empty full other = ap (λ c. (if c then 0 else x.size) == 0) is ∙ empty

-- an axis that isn't the record dimension has a length
axis_fixed : (set : Dataset) (options : WriteOptions) (name : List ℕ) (x : Axis) → list_all (is_that (record_dim set options)) (empty_axes set) ≡ true → axis_named name set.axes ≡ Some x → is_that (record_dim set options) name ≡ false → is_record_dim (looked (dims_of set options) name) ≡ false
axis_fixed set options name x full found other =
    let r : Option (List ℕ) = record_dim set options in
    let rest : List CdfDim = map string_dim (filter (is_axisless set.axes) (text_widths set)) in
    let mine : is_that r x.name ≡ false = ap (is_that r) (found_name set.axes name x found) ∙ other in
    ap is_record_dim (axis_looked r set.axes rest name x found) ∙ fixed_by set options x (is_that r x.name) (x.size == 0) refl refl (λ e. empties (is_that r) set.axes name x full found e) mine

string_fixed : (set : Dataset) (options : WriteOptions) (n : ℕ) (o : Option Axis) → list_all (is_that (record_dim set options)) (empty_axes set) ≡ true → 1 ≤ n → axis_named (string_name n) set.axes ≡ o
    → (is_axisless set.axes n ≡ true → looked (dims_of set options) (string_name n) ≡ string_dim n) → is_that (record_dim set options) (string_name n) ≡ false → is_record_dim (looked (dims_of set options) (string_name n)) ≡ false
string_fixed set options n (Some x) full some is goes other = axis_fixed set options (string_name n) x full is other
string_fixed set options (suc n) None full some is goes other = ap is_record_dim (goes (ap is_none is)) ∙ eqb-suc-zero n
string_fixed set options zero None full some is goes other = absurd (omega arith)

-- ---- dimensions that are known

-- it is there, has so many positions, and a length unless it is the record dimension
pub record IsKnown (set : Dataset) (options : WriteOptions) (d : List ℕ) (k : ℕ) : Type 0 where
  pub there : among (dim_names (dims_of set options)) d ≡ true
  pub sized : positions (records_of set options) (looked (dims_of set options) d) ≡ k
  pub fixed : is_that (record_dim set options) d ≡ false → is_record_dim (looked (dims_of set options) d) ≡ false

pub axis_known : (set : Dataset) (options : WriteOptions) (name : List ℕ) (x : Axis) → list_all (is_that (record_dim set options)) (empty_axes set) ≡ true → axis_named name set.axes ≡ Some x → IsKnown set options name x.size
axis_known set options name x full found =
    record { there = axis_there set options name (named_among set.axes name x found); sized = axis_sized set options name x full found; fixed = axis_fixed set options name x full found }

widths_known : (set : Dataset) (options : WriteOptions) (ns : List ℕ) → list_all (is_that (record_dim set options)) (empty_axes set) ≡ true → list_all (has_width set) ns ≡ true → AllByRecursion (λ n. 1 ≤ n) ns
    → AllByRecursion (λ n. is_axisless set.axes n ≡ true → looked (dims_of set options) (string_name n) ≡ string_dim n) ns → AllByRecursion (λ n. among (dim_names (dims_of set options)) (string_name n) ≡ true) ns → AllByRecursion (λ n. IsKnown set options (string_name n) n) ns
widths_known set options [] full widths some found there = tt
widths_known set options (n ∷ ns) full widths some found there =
    let both = and_parts (has_width set n) (list_all (has_width set) ns) widths in (
      record {
        there = there.0;
        sized = string_by set options n (axis_named (string_name n) set.axes) full some.0 refl both.0 found.0;
        fixed = string_fixed set options n (axis_named (string_name n) set.axes) full some.0 refl found.0;
      },
      widths_known set options ns full both.1 some.1 found.1 there.1,
    )

-- a dimension of texts has their width
pub strings_known : (set : Dataset) (options : WriteOptions) → list_all (is_that (record_dim set options)) (empty_axes set) ≡ true → list_all (has_width set) (text_widths set) ≡ true → AllByRecursion (λ n. 1 ≤ n) (text_widths set) → AllByRecursion (λ n. n < 2 ^ 64) (text_widths set)
    → AllByRecursion (λ n. IsKnown set options (string_name n) n) (text_widths set)
strings_known set options full widths some fits = widths_known set options (text_widths set) full widths some (strings_found set options fits) (strings_there set options)

-- ---- shapes

abbrev pub AreKnown : Dataset → WriteOptions → List (List ℕ) → List ℕ → Type 0
AreKnown set options [] [] = ⊤
AreKnown set options [] (k ∷ ks) = ⊥
AreKnown set options (d ∷ ds) [] = ⊥
AreKnown set options (d ∷ ds) (k ∷ ks) = IsKnown set options d k × AreKnown set options ds ks

pub shape_is : (set : Dataset) (options : WriteOptions) (ds : List (List ℕ)) (ks : List ℕ) → AreKnown set options ds ks → shape_of (dims_of set options) (records_of set options) (map (number_of_dim (dims_of set options)) ds) ≡ ks
shape_is set options [] [] known = refl
shape_is set options [] (k ∷ ks) known = absurd known
shape_is set options (d ∷ ds) [] known = absurd known
shape_is set options (d ∷ ds) (k ∷ ks) known = ap (λ m. m ∷ shape_of (dims_of set options) (records_of set options) (map (number_of_dim (dims_of set options)) ds)) known.0.sized ∙ ap (λ l. k ∷ l) (shape_is set options ds ks known.1)

pub numbers_inside : (set : Dataset) (options : WriteOptions) (ds : List (List ℕ)) (ks : List ℕ) → AreKnown set options ds ks → AllByRecursion (λ i. i < length (dims_of set options)) (map (number_of_dim (dims_of set options)) ds)
numbers_inside set options [] ks known = tt
numbers_inside set options (d ∷ ds) [] known = absurd known
numbers_inside set options (d ∷ ds) (k ∷ ks) known = (number_inside (dims_of set options) d known.0.there, numbers_inside set options ds ks known.1)

all_fixed : (set : Dataset) (options : WriteOptions) (ds : List (List ℕ)) (ks : List ℕ) → AreKnown set options ds ks → list_any (is_that (record_dim set options)) ds ≡ false → list_all (λ j. not (is_record_dim (dim_at (dims_of set options) j))) (map (number_of_dim (dims_of set options)) ds) ≡ true
all_fixed set options [] ks known none = refl
all_fixed set options (d ∷ ds) [] known none = absurd known
all_fixed set options (d ∷ ds) (k ∷ ks) known none =
    let both = neither (is_that (record_dim set options) d) (list_any (is_that (record_dim set options)) ds) none in
    both_true _ _ (true_not (is_record_dim (looked (dims_of set options) d)) (known.0.fixed both.0)) (all_fixed set options ds ks known.1 both.1)

-- the record dimension stands first only
pub placed_first : (set : Dataset) (options : WriteOptions) (ds : List (List ℕ)) (ks : List ℕ) → AreKnown set options ds ks → list_any (is_that (record_dim set options)) (drop 1 ds) ≡ false → in_place (dims_of set options) (map (number_of_dim (dims_of set options)) ds) ≡ true
placed_first set options [] ks known none = refl
placed_first set options (d ∷ ds) [] known none = absurd known
placed_first set options (d ∷ ds) (k ∷ ks) known none = all_fixed set options ds ks known.1 none

-- ---- one record dimension at most

no_record_strings : (ns : List ℕ) → AllByRecursion (λ n. 1 ≤ n) ns → length (filter is_record_dim (map string_dim ns)) ≡ 0
no_record_strings [] some = refl
no_record_strings (zero ∷ ns) some = absurd (omega (arith, some.0))
no_record_strings (suc n ∷ ns) some = ap (λ b. length (cond b (string_dim (suc n) ∷ filter is_record_dim (map string_dim ns)) (filter is_record_dim (map string_dim ns)))) (eqb-suc-zero n) ∙ no_record_strings ns some.1

-- an axis is the record dimension where it has its name
record_by : (r : Option (List ℕ)) (x : Axis) (b e : Bool) → is_that r x.name ≡ b → (x.size == 0) ≡ e → (e ≡ true → b ≡ true) → is_record_dim (dim_of_axis r x) ≡ b
record_by r x true e is empty full = ap (λ c. (if c then 0 else x.size) == 0) is
record_by r x false true is empty full = let clash : false ≡ true = full refl in absurd cc
record_by r x false false is empty full = ap (λ c. (if c then 0 else x.size) == 0) is ∙ empty

either_length : {X Y : Type 0} (b : Bool) (x : X) (y : Y) (xs : List X) (ys : List Y) → length xs ≡ length ys → length (cond b (x ∷ xs) xs) ≡ length (cond b (y ∷ ys) ys)
either_length true x y xs ys e = ap suc e
either_length false x y xs ys e = e

filter_axes : (r : Option (List ℕ)) (axes : List Axis) → AllByRecursion (λ (x : Axis). (x.size == 0) ≡ true → is_that r x.name ≡ true) axes → length (filter is_record_dim (map (dim_of_axis r) axes)) ≡ length (filter (is_that r) (axis_names axes))
filter_axes r [] all = refl
filter_axes r (x ∷ axes) all =
    let rest = filter_axes r axes all.1 in
    let same = record_by r x (is_that r x.name) (x.size == 0) refl refl all.0 in
    ap (λ b. length (cond b (dim_of_axis r x ∷ filter is_record_dim (map (dim_of_axis r) axes)) (filter is_record_dim (map (dim_of_axis r) axes)))) same ∙ either_length (is_that r x.name) (dim_of_axis r x) x.name (filter is_record_dim (map (dim_of_axis r) axes)) (filter (is_that r) (axis_names axes)) rest

none_named : (d : List ℕ) (names : List (List ℕ)) → among names d ≡ false → length (filter (is_that (Some d)) names) ≡ 0
none_named d [] e = refl
none_named d (n ∷ names) e =
    let both = neither (bytes_eq d n) (among names d) e in
    ap (λ b. length (cond b (n ∷ filter (is_that (Some d)) names) (filter (is_that (Some d)) names))) both.0 ∙ none_named d names both.1

one_named : (d n : List ℕ) (names : List (List ℕ)) (b : Bool) → bytes_eq d n ≡ b → are_distinct (n ∷ names) ≡ true → length (filter (is_that (Some d)) names) ≤ 1 → length (cond b (n ∷ filter (is_that (Some d)) names) (filter (is_that (Some d)) names)) ≤ 1
one_named d n names true e distinct le =
    let both = and_parts (not (among names n)) (are_distinct names) distinct in
    let none = none_named d names (ap (among names) (eq_same d n e) ∙ not_true (among names n) both.0) in
    omega arith
one_named d n names false e distinct le = le

few_named : (r : Option (List ℕ)) (names : List (List ℕ)) → are_distinct names ≡ true → length (filter (is_that r) names) ≤ 1
few_named None [] e = omega arith
few_named None (n ∷ names) e = few_named None names (and_parts (not (among names n)) (are_distinct names) e).1
few_named (Some d) [] e = omega arith
few_named (Some d) (n ∷ names) e = one_named d n names (bytes_eq d n) refl e (few_named (Some d) names (and_parts (not (among names n)) (are_distinct names) e).1)

empties_all : (t : List ℕ → Bool) (axes : List Axis) → list_all t (axis_names (filter (λ (z : Axis). z.size == 0) axes)) ≡ true → AllByRecursion (λ (x : Axis). (x.size == 0) ≡ true → t x.name ≡ true) axes
empties_all t [] all = tt
empties_all t (y ∷ axes) all = let both = empty_one t y axes y y.name (y.size == 0) refl all in ((λ e. both.0 refl e), empties_all t axes both.1)

pub few_records : (set : Dataset) (options : WriteOptions) → are_distinct (axis_names set.axes) ≡ true → list_all (is_that (record_dim set options)) (empty_axes set) ≡ true → AllByRecursion (λ n. 1 ≤ n) (text_widths set) → count_record_dims (dims_of set options) ≤ 1
few_records set options distinct full some =
    let r : Option (List ℕ) = record_dim set options in
    let ws : List ℕ = filter (is_axisless set.axes) (text_widths set) in
    let both : filter is_record_dim (dims_of set options) ≡ filter is_record_dim (map (dim_of_axis r) set.axes) ++ filter is_record_dim (map string_dim ws) = filter-append is_record_dim (map (dim_of_axis r) set.axes) (map string_dim ws) in
    let long = ap length both ∙ length-append (filter is_record_dim (map (dim_of_axis r) set.axes)) (filter is_record_dim (map string_dim ws)) in
    let axes = filter_axes r set.axes (empties_all (is_that r) set.axes full) in
    let strings = no_record_strings ws (all_filtered (λ n. 1 ≤ n) (is_axisless set.axes) (text_widths set) some) in
    let few = few_named r (axis_names set.axes) distinct in
    omega arith
