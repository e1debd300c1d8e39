-- Names that aren't empty, and an array under another name.
use Rattle.xr_parts.proofs.Common.{DataArray, Fault, Given, IsArrayIn, IsUtf8, List, Node, None, Ok, Option, Result, Some, Value, and_from, ap, array_in, codes, cond-false, cond-true, false, is_absent, is_bare, is_name, is_utf8, length, meaning, name_given, ne_eqb, not, not_from_false, own_name, set_name, subst, sym, true, ℕ, ◌==◌, ◌>>=◌, ◌≡◌, ◌≢◌}
use Rattle.std.proofs.lemmas.Str.{is_utf8-from_IsUtf8}
use Rattle.xr_defs.specs.Arguments.{unfit}
use Rattle.xr_defs.specs.Arguments.{only}
use Rattle.xr_defs.specs.Values as of
use Rattle.xr_values.specs.declared.value.Value.TheVariants as variants

pub named_text : (t : List ℕ) → IsUtf8 t → length t ≢ 0 → is_name t ≡ true
named_text t text some = and_from (not (length t == 0)) (is_utf8 t) (not_from_false (length t == 0) (ne_eqb (length t) 0 some)) (is_utf8-from_IsUtf8 t text)

abbrev by_name : Option (List ℕ) → Result (List ℕ) Fault
by_name o = elim o as (λ o. Result (List ℕ) Fault) [ None ↦ unfit | Some t ↦ Ok t ]

pub own_name_is : (nodes : List Node) (a : DataArray) (o : Option (List ℕ)) → a.name ≡ o → own_name (array_in nodes a) ≡ by_name o
own_name_is nodes a o e = ap by_name e

pub named_array : (nodes : List Node) (a b : DataArray) (t : List ℕ) → IsArrayIn nodes a → is_name t ≡ true → b ≡ record a { name = Some t } → IsArrayIn nodes b
named_array nodes a b t is name e =
    let f = is.formed in
    subst (IsArrayIn nodes) (sym e)
    (record { node = is.node; formed = record { name = name; axes = f.axes; coords = f.coords; distinct = f.distinct; attrs = f.attrs; cells = f.cells } })

-- ---- the name of a dataset's variable

pub bare_name : (a : of.DataArray) (g : Given) → is_bare g ≡ true → set_name a g ≡ own_name a
unfolding set_name
bare_name a g bare = cond-true (is_bare g) (own_name a) (only (codes "name") g >>= λ v. name_given a v) bare

pub asked_name : (a : of.DataArray) (g : Given) → is_bare g ≡ false → set_name a g ≡ (only (codes "name") g >>= λ v. name_given a v)
unfolding set_name
asked_name a g given = cond-false (is_bare g) (own_name a) (only (codes "name") g >>= λ v. name_given a v) given

pub name_absent : (nodes : List Node) (a : of.DataArray) (v : Value) → v ≡ variants.Absent → name_given a (meaning nodes v) ≡ own_name a
unfolding name_given
name_absent nodes a v is = ap (name_given a) (is_absent nodes v is)
