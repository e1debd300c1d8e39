-- Attributes that are put in the place of those of their name, or behind.
use Rattle.xr_parts.proofs.Common.{AllByRecursion, AreAttributes, Bool, DataArray, Dataset, DoesNotFit, Err, Fault, IsArrayIn, IsAttribute, IsDatasetIn, List, Node, None, Ok, Option, Result, Some, TextBytes, Value, [], among, ap, are_distinct, arith, attr_given, attr_names, bytes_eq, drop, each_attr, false, get_or, holds, if◌then◌else◌, is_name, is_number, length, map, meaning, or_parts, refl, set, subst, sym, true, unless, value_bytes, with_attr, with_key, ℕ, ℤ, ◌++◌, ◌+◌, ◌/◌, ◌<◌, ◌>>=◌, ◌∙◌, ◌∷◌, ◌≡◌}
use Rattle.xr_types.specs.declared.attr.Attr.{Attr}
use Rattle.xr_types.specs.declared.attr.NcType.TheVariants.{Char, Int}
use Rattle.xr_values.specs.declared.value.Value.TheVariants as variants
use Rattle.xr_values.proofs.Places as places
use Rattle.xr_values.proofs.Places.{put_over}
use Rattle.xr_parts.specs.Numbered.{attr_place, in_four_bytes, number_attr}
use Rattle.xr_parts.proofs.Words.{distinct_cons, distinct_parts, neither, same_text}

-- ---- by its place

by_name : (attrs : List Attr) (b : Attr) → with_attr attrs b ≡ put_over (λ (a : Attr). bytes_eq a.name b.name) attrs b
by_name [] b = refl
by_name (a ∷ rest) b = ap (λ t. if bytes_eq a.name b.name then b ∷ rest else (a ∷ t)) (by_name rest b)

pub put_there : (attrs : List Attr) (b : Attr) (k : ℕ) → attr_place attrs b.name ≡ Some k → with_attr attrs b ≡ set attrs k b
unfolding attr_place
put_there attrs b k e = by_name attrs b ∙ places.put_there _ attrs b k e

pub put_behind : (attrs : List Attr) (b : Attr) → attr_place attrs b.name ≡ None → with_attr attrs b ≡ attrs ++ b ∷ []
unfolding attr_place
put_behind attrs b e = by_name attrs b ∙ places.put_behind _ attrs b e

-- ---- the attribute of a value

-- by its four bytes
pub number_attr_is : (name : List ℕ) (n : ℤ) (o : Option (List ℕ)) → o ≡ in_four_bytes n
    → number_attr name n ≡ elim o as (λ o. Result Attr Fault) [ None ↦ Err DoesNotFit | Some raw ↦ Ok (record { name = name; kind = Int; raw = raw }) ]
unfolding number_attr unless
number_attr_is name n o e = by (holds Int n) ∙ ap (λ o. elim o as (λ o. Result Attr Fault) [ None ↦ Err DoesNotFit | Some raw ↦ Ok (record { name = name; kind = Int; raw = raw }) ]) (sym e)
  where
    by : (b : Bool) → (unless b DoesNotFit >>= λ u. Ok (record { name = name; kind = Int; raw = value_bytes Int n }))
        ≡ elim (if b then Some (value_bytes Int n) else None) as (λ o. Result Attr Fault) [ None ↦ Err DoesNotFit | Some raw ↦ Ok (record { name = name; kind = Int; raw = raw }) ]
    by true = refl
    by false = refl

pub text_formed : (name text : List ℕ) → is_name name ≡ true → IsAttribute (record { name = name; kind = Char; raw = text })
text_formed name text named = record { name = named; whole = let one : length text / 1 ≡ length text = omega arith in omega (arith, one) }

pub number_formed : (name : List ℕ) (n : ℤ) (raw : List ℕ) → is_name name ≡ true → Some raw ≡ in_four_bytes n → IsAttribute (record { name = name; kind = Int; raw = raw })
number_formed name n raw named is = by (holds Int n) is
  where
    by : (b : Bool) → Some raw ≡ (if b then Some (value_bytes Int n) else None) → IsAttribute (record { name = name; kind = Int; raw = raw })
    by true e = let same : value_bytes Int n ≡ raw = cc in subst (λ r. IsAttribute (record { name = name; kind = Int; raw = r })) same (record { name = named; whole = refl })
    by false e = absurd cc

-- a number has the attribute of its four bytes
pub number_given : (nodes : List Node) (name : List ℕ) (v : Value) (n : ℤ) → v ≡ variants.Number n → attr_given (name, meaning nodes v) ≡ number_attr name n
unfolding attr_given number_attr
number_given nodes name v n is = ap (λ m. attr_given (name, m)) (is_number nodes v n is)

-- ---- well formed

each_with : (attrs : List Attr) (b : Attr) → AllByRecursion IsAttribute attrs → IsAttribute b → AllByRecursion IsAttribute (with_attr attrs b)
each_with [] b all is = (is, tt)
each_with (a ∷ rest) b all is = by (bytes_eq a.name b.name) (each_with rest b all.1 is)
  where
    by : (t : Bool) → AllByRecursion IsAttribute (with_attr rest b) → AllByRecursion IsAttribute (if t then b ∷ rest else (a ∷ with_attr rest b))
    by true more = (is, all.1)
    by false more = (all.0, more)

absent_with : (attrs : List Attr) (b : Attr) (name : List ℕ) → bytes_eq name b.name ≡ false → among (attr_names attrs) name ≡ false → among (attr_names (with_attr attrs b)) name ≡ false
absent_with [] b name other absent = neither (bytes_eq name b.name) false other refl
absent_with (a ∷ rest) b name other absent =
    let parts = or_parts (bytes_eq name a.name) (among (attr_names rest) name) absent in
    by (bytes_eq a.name b.name) parts (absent_with rest b name other parts.1)
  where
    by : (t : Bool) → (bytes_eq name a.name ≡ false) × (among (attr_names rest) name ≡ false) → among (attr_names (with_attr rest b)) name ≡ false → among (attr_names (if t then b ∷ rest else (a ∷ with_attr rest b))) name ≡ false
    by true parts more = neither (bytes_eq name b.name) (among (attr_names rest) name) other parts.1
    by false parts more = neither (bytes_eq name a.name) (among (attr_names (with_attr rest b)) name) parts.0 more

distinct_with : (attrs : List Attr) (b : Attr) → are_distinct (attr_names attrs) ≡ true → are_distinct (attr_names (with_attr attrs b)) ≡ true
distinct_with [] b d = refl
distinct_with (a ∷ rest) b d = let parts = distinct_parts a.name (attr_names rest) d in by (bytes_eq a.name b.name) refl parts (distinct_with rest b parts.1)
  where
    by : (t : Bool) → bytes_eq a.name b.name ≡ t → (among (attr_names rest) a.name ≡ false) × (are_distinct (attr_names rest) ≡ true) → are_distinct (attr_names (with_attr rest b)) ≡ true → are_distinct (attr_names (if t then b ∷ rest else (a ∷ with_attr rest b))) ≡ true
    by true e parts more = distinct_cons b.name (attr_names rest) (ap (among (attr_names rest)) (sym (same_text a.name b.name e)) ∙ parts.0) parts.1
    by false e parts more = distinct_cons a.name (attr_names (with_attr rest b)) (absent_with rest b a.name e parts.0) more

pub stay_attributes : (attrs : List Attr) (b : Attr) → AreAttributes attrs → IsAttribute b → AreAttributes (with_attr attrs b)
stay_attributes attrs b are is = record { each = each_with attrs b are.each is; distinct = distinct_with attrs b are.distinct }

-- ---- arrays and datasets with other attributes

pub array_described : (nodes : List Node) (a b : DataArray) (attrs : List Attr) → IsArrayIn nodes a → AreAttributes attrs → b ≡ record a { attrs = attrs } → IsArrayIn nodes b
array_described nodes a b attrs is are e =
    let f = is.formed in
    subst (IsArrayIn nodes) (sym e)
    (record { node = is.node; formed = record { name = f.name; axes = f.axes; coords = f.coords; distinct = f.distinct; attrs = are; cells = f.cells } })

pub set_described : (nodes : List Node) (s t : Dataset) (attrs : List Attr) → IsDatasetIn nodes s → AreAttributes attrs → t ≡ record s { attrs = attrs } → IsDatasetIn nodes t
set_described nodes s t attrs is are e =
    let f = is.formed in
    subst (IsDatasetIn nodes) (sym e)
    (record {
      nodes_of = is.nodes_of;
      formed = record { axes = f.axes; coords = f.coords; vars = f.vars; coords_distinct = f.coords_distinct; vars_distinct = f.vars_distinct; busy = f.busy; attrs = are; few = f.few };
    })

-- ---- one argument after the other

pub attr_on : (nodes : List Node) (attrs new : List Attr) (a : Attr) (ks : List (TextBytes × Value)) (i : ℕ) (k : TextBytes × Value) (total : Result (List Attr) Fault) → i < length ks → k ≡ get_or ks i k → attr_given (with_key nodes k) ≡ Ok a
    → new ≡ with_attr attrs a → each_attr attrs (map (with_key nodes) (drop i ks)) ≡ total → each_attr new (map (with_key nodes) (drop (i + 1) ks)) ≡ total
unfolding each_attr
attr_on nodes attrs new a ks i k total lt is here put so_far =
    let rest = map (with_key nodes) (drop (i + 1) ks) in
    ap (λ attrs. each_attr attrs rest) put ∙ sym (ap (λ r. r >>= λ b. each_attr (with_attr attrs b) rest) here) ∙ ap (λ t. each_attr attrs (map (with_key nodes) t)) (sym (places.from_place ks i k lt is)) ∙ so_far

pub stay_put : (attrs new : List Attr) (a : Attr) → new ≡ with_attr attrs a → AreAttributes attrs → IsAttribute a → AreAttributes new
stay_put attrs new a put are is = subst AreAttributes (sym put) (stay_attributes attrs a are is)
