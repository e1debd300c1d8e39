-- The names that stand earlier in a list, and one more.
use Rattle.std.proofs.Common.{◌≡◌, ℕ, Bool, true, false, cond, ◌||◌, List, [], ◌∷◌, ◌++◌, Option, Some, None, refl, sym, ap, ◌∙◌, Bor}
use Rattle.std.specs.Option.{is_some}
use Rattle.std.specs.Str.{bytes_eq}
use Rattle.std.specs.Cmp.Lexicographic.{slice_cmp}
use Rattle.std.specs.Ordering.{nat_cmp}
use Rattle.std.specs.BTreeMap.{BTreeMap, get_by, UpdatesBy}
use Rattle.std.proofs.lemmas.Bool.Decides.{same_from_decides}
use Rattle.std.proofs.lemmas.List.Folds.{list_any-append}
use Rattle.std.proofs.lemmas.Slice.Eq.{bytes_eq-Decides}
use Rattle.std.proofs.lemmas.Map.Text.{btree_map_updates_str}
use Rattle.xr_types.specs.Names.{among}
use Rattle.cdf_reader.specs.Names.{Knows}

bytes_eq_sym : (a b : List ℕ) → bytes_eq a b ≡ bytes_eq b a
bytes_eq_sym a b = let d = bytes_eq-Decides b a in same_from_decides (bytes_eq a b) (bytes_eq b a) (bytes_eq-Decides a b) (λ e. sym (d.0 e), λ e. d.1 (sym e))

some_after : {X : Type 0} (b : Bool) (x : X) (o : Option X) → is_some (cond b (Some x) o) ≡ (is_some o || b)
some_after true x (Some y) = refl
some_after true x None = refl
some_after false x (Some y) = refl
some_after false x None = refl

last : (a b : Bool) → (a || b) ≡ (a || (b || false))
last true true = refl
last true false = refl
last false true = refl
last false false = refl

pub known_more : (old new : BTreeMap (Bor (List ℕ)) (Unit {0})) (name : List ℕ) → UpdatesBy (λ x y. slice_cmp nat_cmp x.now y.now) (λ k. slice_cmp nat_cmp name k.now) old new (Some tt) → (names : List (List ℕ)) → Knows old names → Knows new (names ++ name ∷ [])
known_more old new name u names h text =
    ap is_some (btree_map_updates_str name old new (Some tt) u text)
    ∙ some_after (bytes_eq name text) tt (get_by (λ k. slice_cmp nat_cmp text k.now) old)
    ∙ ap (λ (b : Bool). b || bytes_eq name text) (h text)
    ∙ ap (λ (b : Bool). among names text || b) (bytes_eq_sym name text)
    ∙ last (among names text) (bytes_eq text name)
    ∙ sym (list_any-append (bytes_eq text) names (name ∷ []))
