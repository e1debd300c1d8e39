-- Variables by their names: what a map of them finds and puts.
use Rattle.xr_values.proofs.Common.{All, All-cons, All-head, All-nil, All-tail, AreNamed, Bool, Entry, IsNamed, List, Some, String, Variable, [], among, and_from, and_parts, ap, append-nil, append_assoc, are_distinct, bytes_eq, bytes_eq-Decides, cond, cond-false, cond_both, false, find, in_order, not, not-true, not_from_false, or_from, or_parts, refl, same_from_decides, string_bytes, sym, true, with_variable, with_variables, ℕ, ◌++◌, ◌||◌, ◌∙◌, ◌∷◌, ◌≡◌}
use Rattle.std.proofs.Common.{if◌then◌else◌}
use Rattle.std.specs.Map.{lookup}
use Rattle.std.specs.declared.alloc.Global.{Global}
use Rattle.indexmap.specs.IndexMap.{insert_entry}
use Rattle.xr_values.specs.Variables.{names_of}

pub bytes_eq_swap : (a b : List ℕ) → bytes_eq a b ≡ bytes_eq b a
bytes_eq_swap a b = same_from_decides (bytes_eq a b) (bytes_eq b a) (bytes_eq-Decides a b) ((λ e. sym ((bytes_eq-Decides b a).0 e)), (λ e. (bytes_eq-Decides b a).1 (sym e)))

-- the test of a key is the test of its variable's name
same_test : (e : Entry) (key name : List ℕ) → key ≡ name → IsNamed e → bytes_eq key (string_bytes e.0) ≡ bytes_eq e.1.name name
same_test e key name is named = ap (λ k. bytes_eq k (string_bytes e.0)) is ∙ ap (bytes_eq name) named ∙ bytes_eq_swap name e.1.name

-- ---- what is found

pub finds : (es : List Entry) (name : List ℕ) → All IsNamed es → lookup (λ k. bytes_eq name (string_bytes k)) es ≡ find (λ (v : Variable). bytes_eq v.name name) (in_order es)
finds [] name all = refl
finds (e ∷ es) name all =
    ap (λ b. cond b (Some e.1) (lookup (λ k. bytes_eq name (string_bytes k)) es)) (same_test e name name refl (All-head IsNamed e es all))
    ∙ ap (cond (bytes_eq e.1.name name) (Some e.1)) (finds es name (All-tail IsNamed e es all))

-- ---- what is put

abbrev eq : String Global → String Global → Bool
eq a b = bytes_eq (string_bytes a) (string_bytes b)

pub puts : (es : List Entry) (key : String Global) (v : Variable) → string_bytes key ≡ v.name → All IsNamed es → in_order (insert_entry eq es key v) ≡ with_variable (in_order es) v
puts [] key v is all = refl
puts (e ∷ es) key v is all =
    ap (λ b. in_order (if b then (e.0, v) ∷ es else e ∷ insert_entry eq es key v)) (same_test e (string_bytes key) v.name is (All-head IsNamed e es all))
    ∙ elim (bytes_eq e.1.name v.name) as (λ b. in_order (if b then (e.0, v) ∷ es else e ∷ insert_entry eq es key v) ≡ (if b then v ∷ in_order es else (e.1 ∷ with_variable (in_order es) v))) [
      | true ↦ refl
      | false ↦ ap (λ vs. e.1 ∷ vs) (puts es key v is (All-tail IsNamed e es all))
    ]

named_on : (es : List Entry) (key : String Global) (v : Variable) → string_bytes key ≡ v.name → All IsNamed es → All IsNamed (insert_entry eq es key v)
named_on [] key v is all = All-cons IsNamed (key, v) [] is (All-nil IsNamed)
named_on (e ∷ es) key v is all =
    let others = All-tail IsNamed e es all in
    cond_both (eq key e.0) ((e.0, v) ∷ es) (e ∷ insert_entry eq es key v) (All IsNamed)
    (λ same. All-cons IsNamed (e.0, v) es (sym ((bytes_eq-Decides (string_bytes key) (string_bytes e.0)).0 same) ∙ is) others)
    (λ other. All-cons IsNamed e (insert_entry eq es key v) (All-head IsNamed e es all) (named_on es key v is others))

-- ---- names stay distinct

among_with : (vs : List Variable) (v : Variable) (name : List ℕ) → bytes_eq name v.name ≡ false → among (names_of vs) name ≡ false → among (names_of (with_variable vs v)) name ≡ false
among_with [] v name other absent = ap (λ b. b || false) other
among_with (w ∷ vs) v name other absent =
    let parts = or_parts (bytes_eq name w.name) (among (names_of vs) name) absent in
    cond_both (bytes_eq w.name v.name) (v ∷ vs) (w ∷ with_variable vs v) (λ us. among (names_of us) name ≡ false)
    (λ e. or_from (bytes_eq name v.name) (among (names_of vs) name) other parts.1)
    (λ e. or_from (bytes_eq name w.name) (among (names_of (with_variable vs v)) name) parts.0 (among_with vs v name other parts.1))

pub stay_distinct : (vs : List Variable) (v : Variable) → are_distinct (names_of vs) ≡ true → are_distinct (names_of (with_variable vs v)) ≡ true
stay_distinct [] v all = refl
stay_distinct (w ∷ vs) v all =
    let parts = and_parts (not (among (names_of vs) w.name)) (are_distinct (names_of vs)) all in
    cond_both (bytes_eq w.name v.name) (v ∷ vs) (w ∷ with_variable vs v) (λ us. are_distinct (names_of us) ≡ true)
    (λ same. ap (λ n. are_distinct (n ∷ names_of vs)) (sym ((bytes_eq-Decides w.name v.name).0 same)) ∙ all)
    (λ other. and_from (not (among (names_of (with_variable vs v)) w.name)) (are_distinct (names_of (with_variable vs v)))
    (not_from_false (among (names_of (with_variable vs v)) w.name) (among_with vs v w.name other (not-true (among (names_of vs) w.name) parts.0)))
    (stay_distinct vs v parts.1))

pub stay_named : (es : List Entry) (key : String Global) (v : Variable) → string_bytes key ≡ v.name → AreNamed es → AreNamed (insert_entry eq es key v)
stay_named es key v is named =
    record {
      each = named_on es key v is named.each;
      distinct = ap (λ vs. are_distinct (names_of vs)) (puts es key v is named.each) ∙ stay_distinct (in_order es) v named.distinct;
    }

-- ---- variables of different names, put one after the other

apart : (vs : List Variable) (v : Variable) (more : List Variable) (name : List ℕ) → among (names_of (vs ++ v ∷ more)) name ≡ false → bytes_eq name v.name ≡ false
apart [] v more name absent = (or_parts (bytes_eq name v.name) (among (names_of more) name) absent).0
apart (w ∷ vs) v more name absent = apart vs v more name (or_parts (bytes_eq name w.name) (among (names_of (vs ++ v ∷ more)) name) absent).1

put_last : (vs : List Variable) (v : Variable) (more : List Variable) → are_distinct (names_of (vs ++ v ∷ more)) ≡ true → with_variable vs v ≡ vs ++ v ∷ []
put_last [] v more all = refl
put_last (w ∷ vs) v more all =
    let parts = and_parts (not (among (names_of (vs ++ v ∷ more)) w.name)) (are_distinct (names_of (vs ++ v ∷ more))) all in
    cond-false (bytes_eq w.name v.name) (v ∷ vs) (w ∷ with_variable vs v) (apart vs v more w.name (not-true (among (names_of (vs ++ v ∷ more)) w.name) parts.0))
    ∙ ap (λ us. w ∷ us) (put_last vs v more parts.1)

pub put_behind : (vs more : List Variable) → are_distinct (names_of (vs ++ more)) ≡ true → with_variables vs more ≡ vs ++ more
put_behind vs [] all = sym (append-nil vs)
put_behind vs (v ∷ more) all =
    let joined : (vs ++ v ∷ []) ++ more ≡ vs ++ v ∷ more = append_assoc vs (v ∷ []) more in
    ap (λ us. with_variables us more) (put_last vs v more all) ∙ put_behind (vs ++ v ∷ []) more (ap (λ us. are_distinct (names_of us)) joined ∙ all) ∙ joined
