-- A set of names with one name more.
use Rattle.std.proofs.Common.{◌≡◌, ℕ, Bool, true, false, cond, ◌||◌, List, refl, ap, ◌∙◌}
use Rattle.std.specs.Str.{bytes_eq}
use Rattle.std.specs.Prelude.{String, string_bytes}
use Rattle.std.specs.String.{string_cmp}
use Rattle.std.specs.declared.alloc.Global.{Global}
use Rattle.std.specs.BTreeSet.{BTreeSet, Updates, contains_text}
use Rattle.std.proofs.lemmas.Map.Text.{btree_set_updates_text}

either : (a b : Bool) → cond a true b ≡ (a || b)
either true b = refl
either false b = refl

pub one_more : (old new : BTreeSet (String Global)) (key : String Global) (name : List ℕ) → string_bytes key ≡ name → Updates string_cmp old new key true → (other : List ℕ) → contains_text new other ≡ (bytes_eq name other || contains_text old other)
one_more old new key name e u other =
    btree_set_updates_text (string_bytes key) old new true u other
    ∙ ap (λ (bs : List ℕ). cond (bytes_eq bs other) true (contains_text old other)) e
    ∙ either (bytes_eq name other) (contains_text old other)
