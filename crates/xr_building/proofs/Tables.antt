-- The entries of the argument `coords`.
use Rattle.xr_building.proofs.Common.{All, All-head, All-nil, All-tail, AreArgsIn, Args, Axis, BadArgument, Bool, Entries, Entry, Err, Fault, Global, Held, IsEntryIn, IsLayerIn, IsValueIn, List, MatchOption, NoEntry, Node, None, Ok, Option, Result, Some, Table, TextBytes, Value, Value-F, Vec, [], all_entries, all_of, ap, append-nil, append_assoc, argument, bound, bytes_eq, check_entry, check_table_entry, codes, coords_held, drop, entries, entries_given, entries_held, entries_of, false, find, get_or, given, given_value, if◌then◌else◌, is_named_entry, is_table, keyword, keyword_held, layer, length, map, meaning, meaning_out, out-Value, parameters, refl, subst, sym, table_entries, true, unless, value_out, with_key, ℕ, ⊤, ◌++◌, ◌>>=◌, ◌∙◌, ◌∷◌, ◌≡◌, LayerAbsent, LayerTable, HeldTable, option_map, entries_listed as entries_in, first_passes, passes}

listed_on : (es : Entries) (kvs : List (List ℕ × Value)) → entries_in (entries es kvs) ≡ entries_in es ++ kvs
listed_on es [] = sym (append-nil (entries_in es))
listed_on es (kv ∷ kvs) = listed_on (Entry es kv.0 kv.1) kvs ∙ append_assoc (entries_in es) (kv ∷ []) kvs

pub listed_all : (nodes : List Node) (kvs : List (TextBytes × Held)) → entries_in (all_entries nodes kvs) ≡ map (with_key nodes) kvs
unfolding all_entries
listed_all nodes kvs = listed_on NoEntry (map (with_key nodes) kvs)

module _ (nodes : List Node) (axes : List Axis) (es : List (List ℕ × Value)) where
  table : (a : Result (Unit {0}) Fault) (xs : List (List ℕ × Value)) → (a >>= λ u. Ok xs) ≡ Ok es → es ≡ xs
  table (Ok u) xs is = cc
  table (Err e) xs is = absurd cc

  by_layer : (x : Value-F Held) → entries_given axes (given_value (Some (layer nodes x))) ≡ Ok es → es ≡ map (with_key nodes) (entries_of x)
  unfolding entries_given
  by_layer LayerAbsent is = cc
  by_layer (LayerTable t) is =
      table (all_of (check_table_entry axes) (entries_in (all_entries nodes t.items))) (entries_in (all_entries nodes t.items)) is ∙ listed_all nodes t.items
  by_layer x is = absurd cc

  -- entries that are given are those of the table
  pub entries_same : (coords : Option Held) → entries_given axes (given_value (option_map (meaning nodes) coords)) ≡ Ok es → es ≡ map (with_key nodes) (entries_held coords)
  unfolding entries_given
  entries_same None told = cc
  entries_same (Some v) told = by_layer (out-Value v) (ap (λ w. entries_given axes (given_value (Some w))) (sym (meaning_out nodes v)) ∙ told)

-- an entry that a table may have is labels or a coordinate
pub each_passes : (axes : List Axis) (es : List (List ℕ × Value)) → all_of (check_table_entry axes) es ≡ Ok (tt {0}) → all_of (check_entry axes) es ≡ Ok (tt {0})
unfolding check_table_entry
each_passes axes [] is = refl
each_passes axes (kv ∷ kvs) is =
    let p = first_passes (check_table_entry axes kv) (all_of (check_table_entry axes) kvs) tt is in
    let q = first_passes (check_entry axes kv) (unless (is_named_entry kv) BadArgument) tt p.0 in
    ap (λ r. r >>= λ u. all_of (check_entry axes) kvs) q.0 ∙ each_passes axes kvs p.1

pub entries_checked : (axes : List Axis) (o : Option Value) (es : List (List ℕ × Value)) → entries_given axes o ≡ Ok es → all_of (check_entry axes) es ≡ Ok (tt {0})
unfolding entries_given
entries_checked axes None es is = let e : [] ≡ es = cc in ap (all_of (check_entry axes)) (sym e)
entries_checked axes (Some (Table t)) es is = let p = passes (all_of (check_table_entry axes) (entries_in t)) _ es is in let e : entries_in t ≡ es = let q = p.2 in cc in subst (λ xs. all_of (check_entry axes) xs ≡ Ok tt) e (each_passes axes (entries_in t) p.1)
entries_checked axes (Some v) es is = absurd cc

pub table_means : (nodes : List Node) (axes : List Axis) (v : Held) (t : Vec (TextBytes × Held) Global) (kvs : List (TextBytes × Held)) → v ≡ HeldTable t → kvs ≡ t.items
    → entries_given axes (given_value (Some (meaning nodes v))) ≡ table_entries axes (map (with_key nodes) kvs)
unfolding entries_given
table_means nodes axes v t kvs is same =
    ap (λ w. entries_given axes (given_value (Some w))) (is_table nodes v t is) ∙ ap (table_entries axes) (listed_all nodes t.items ∙ ap (map (with_key nodes)) (sym same))

-- ---- the argument

module _ (nodes : List Node) where
  keyword_same : (name : List ℕ) (keyed : List (TextBytes × Held)) → option_map (meaning nodes) (keyword_held name keyed) ≡ keyword name (map (with_key nodes) keyed)
  keyword_same name [] = refl
  keyword_same name (kv ∷ kvs) = by (bytes_eq kv.0 name) (keyword_same name kvs)
    where
      by : (b : Bool) → option_map (meaning nodes) (keyword_held name kvs) ≡ keyword name (map (with_key nodes) kvs)
          → option_map (meaning nodes) (if b then Some kv.1 else keyword_held name kvs) ≡ option_map (λ (e : List ℕ × Value). e.1) (if b then Some (with_key nodes kv) else find (λ (e : List ℕ × Value). bytes_eq e.0 name) (map (with_key nodes) kvs))
      by true rest = refl
      by false rest = rest

  third : (plain : List Held) (keyed : List (TextBytes × Held))
      → option_map (meaning nodes) (get_or (map Some plain) 2 (keyword_held (codes "coords") keyed))
      ≡ get_or (map Some (map (meaning nodes) plain) ++ map (λ name. keyword name (map (with_key nodes) keyed)) (drop (length (map (meaning nodes) plain)) parameters)) 2 None
  third (a ∷ b ∷ c ∷ plain) keyed = refl
  third plain keyed = keyword_same (codes "coords") keyed

  met : {X : Type 0} (view : X → Held) (o : Option X) → option_map (λ x. meaning nodes (view x)) o ≡ option_map (meaning nodes) (option_map view o)
  met view None = refl
  met view (Some x) = refl

  pub met_coords : {X : Type 0} (view : X → Held) (o : Option X) (h : Option Held) → option_map view o ≡ h → option_map (λ x. meaning nodes (view x)) o ≡ option_map (meaning nodes) h
  met_coords view o h is = met view o ∙ ap (option_map (meaning nodes)) is

  pub coords_same : (args : Args) (vs : List (Option Value)) → bound parameters (given nodes args) ≡ Ok vs → option_map (meaning nodes) (coords_held args) ≡ argument vs 2
  unfolding bound given
  coords_same args vs told = third args.plain.items args.keyed.items ∙ ap (λ os. argument os 2) (by (unless _ BadArgument) _ told)
    where
      by : (r : Result (Unit {0}) Fault) (ws : List (Option Value)) → (r >>= λ u. Ok ws) ≡ Ok vs → ws ≡ vs
      by (Ok u) ws is = cc
      by (Err e) ws is = absurd cc

-- ---- of a plan

keyword_inside : (nodes : List Node) (name : List ℕ) (kvs : List (TextBytes × Held)) → All (IsEntryIn nodes) kvs → MatchOption (keyword_held name kvs) ⊤ (IsValueIn nodes)
keyword_inside nodes name [] all = tt
keyword_inside nodes name (kv ∷ kvs) all = by (bytes_eq kv.0 name) (keyword_inside nodes name kvs (All-tail (IsEntryIn nodes) kv kvs all))
  where
    by : (b : Bool) → MatchOption (keyword_held name kvs) ⊤ (IsValueIn nodes) → MatchOption (if b then Some kv.1 else keyword_held name kvs) ⊤ (IsValueIn nodes)
    by true rest = All-head (IsEntryIn nodes) kv kvs all
    by false rest = rest

coords_inside : (nodes : List Node) (args : Args) → AreArgsIn nodes args → MatchOption (coords_held args) ⊤ (IsValueIn nodes)
coords_inside nodes args are = by args.plain.items are.plain
  where
    by : (plain : List Held) → All (IsValueIn nodes) plain → MatchOption (get_or (map Some plain) 2 (keyword_held (codes "coords") args.keyed.items)) ⊤ (IsValueIn nodes)
    by (a ∷ b ∷ c ∷ plain) all = All-head (IsValueIn nodes) c plain (All-tail (IsValueIn nodes) b (c ∷ plain) (All-tail (IsValueIn nodes) a (b ∷ c ∷ plain) all))
    by plain all = keyword_inside nodes (codes "coords") args.keyed.items are.keyed

pub entries_inside : (nodes : List Node) (args : Args) → AreArgsIn nodes args → All (IsEntryIn nodes) (entries_held (coords_held args))
entries_inside nodes args are = by (coords_held args) (coords_inside nodes args are)
  where
    layered : (x : Value-F Held) → IsLayerIn nodes x → All (IsEntryIn nodes) (entries_of x)
    layered (LayerTable t) is = is
    layered x is = All-nil (IsEntryIn nodes)

    by : (o : Option Held) → MatchOption o ⊤ (IsValueIn nodes) → All (IsEntryIn nodes) (entries_held o)
    by None is = All-nil (IsEntryIn nodes)
    by (Some v) is = layered (out-Value v) (value_out nodes v is)
