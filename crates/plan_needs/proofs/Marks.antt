-- Marks of how long values are kept, and of the nodes that are computed whole.
use Rattle.std.proofs.Common.{◌≡◌, ◌<◌, ◌≤◌, ◌+◌, ℕ, zero, suc, Bool, true, false, List, [], ◌∷◌, length, take, get_or, refl, sym, ap, subst, ◌∙◌, arith, inl, inr}
use Rattle.std.specs.List.{All}
use Rattle.std.specs.Prelude.{◌||◌}
use Rattle.std.proofs.lemmas.Bool.{cases_lt}
use Rattle.std.proofs.lemmas.List.{get_or_default}
use Rattle.xr_arrays.specs.declared.node.Node.{Node}
use Rattle.plan_core.specs.Needs.{inputs_at}
use Rattle.plan_core.proofs.Concats.{all_more}
use Rattle.plan_needs.specs.Trees.{last_use, node_is, takes_in_strips, KeepsInputs, KeepFrom}

pub node_is_at : (f : Node → Bool) (nodes : List Node) (i : ℕ) (node : Node) → i < length nodes → node ≡ get_or nodes i node → node_is f nodes i ≡ f node
node_is_at f nodes i node lt is = at nodes i lt ∙ ap f (sym is)
  where
    at : (ns : List Node) (i : ℕ) → i < length ns → node_is f ns i ≡ f (get_or ns i node)
    at [] i lt = absurd (omega arith)
    at (n ∷ ns) zero lt = refl
    at (n ∷ ns) (suc i) lt = at ns i (omega arith)

either_first : (r b x : Bool) → r ≡ b → r ≡ true → r ≡ (b || x)
either_first r true x is is_true = is_true
either_first r false x is is_true = absurd cc

either_second : (r q b x : Bool) → q ≡ b → q ≡ false → r ≡ x → r ≡ (b || x)
either_second r q true x is is_false same = absurd cc
either_second r q false x is is_false same = same

-- one of two tests of a node
pub first_test : (f : Node → Bool) (nodes : List Node) (i : ℕ) (node : Node) (r x : Bool) → i < length nodes → node ≡ get_or nodes i node → r ≡ f node → r ≡ true → r ≡ (node_is f nodes i || x)
first_test f nodes i node r x lt is said is_true = either_first r (node_is f nodes i) x (said ∙ sym (node_is_at f nodes i node lt is)) is_true

pub second_test : (f : Node → Bool) (nodes : List Node) (i : ℕ) (node : Node) (r q x : Bool) → i < length nodes → node ≡ get_or nodes i node → q ≡ f node → q ≡ false → r ≡ x → r ≡ (node_is f nodes i || x)
second_test f nodes i node r q x lt is said is_false same = either_second r q (node_is f nodes i) x (said ∙ sym (node_is_at f nodes i node lt is)) is_false same

-- one more node of those that are held
pub held_marks : (old new : List Bool) (ids : List ℕ) (i : ℕ) → i < length ids → get_or new (get_or ids i 0) true ≡ true → ((k : ℕ) → get_or old k true ≡ true → get_or new k true ≡ true) → All (λ m. get_or old m true ≡ true) (take i ids)
    → All (λ m. get_or new m true ≡ true) (take (i + 1) ids)
held_marks old new ids i lt here grows so_far =
    all_more (λ m. get_or new m true ≡ true) ids i (get_or ids i 0) lt (get_or_default ids i 0 (get_or ids i 0) lt) here (λ k d below. grows (get_or (take i ids) k d) (so_far k d below))

-- a node that is needed, with its inputs marked
pub keep_more : (nodes : List Node) (whole held : List Bool) (until new : List ℕ) (at : ℕ) → length new ≡ length until → All (λ m. m < at) (inputs_at nodes at) → All (λ m. last_use (get_or whole at true) (get_or until at 0) at ≤ get_or new m 0) (inputs_at nodes at)
    → (takes_in_strips nodes at ≡ false → All (λ m. get_or held m true ≡ true) (inputs_at nodes at)) → ((k : ℕ) → get_or until k 0 ≤ get_or new k 0) → ((k : ℕ) → get_or whole k true ≡ true → get_or held k true ≡ true)
    → ((k : ℕ) → All (λ m. m < k) (inputs_at nodes at) → get_or new k 0 ≡ get_or until k 0) → ((k : ℕ) → All (λ m. m < k) (inputs_at nodes at) → get_or held k true ≡ get_or whole k true) → KeepFrom nodes whole until (at + 1) → KeepFrom nodes held new at
keep_more nodes whole held until new at long before marked kept grows grows_held others others_held keep i from inside some = elim (cases_lt at i) [
  | inl later ↦
      let above : All (λ m. m < i) (inputs_at nodes at) = λ k d lt. let b = before k d lt in omega (arith, b, later) in
      let same : get_or new i 0 ≡ get_or until i 0 = others i above in
      let same_held : get_or held i true ≡ get_or whole i true = others_held i above in
      let old = keep i (omega (arith, later)) (omega (arith, inside, long)) (omega (arith, some, same)) in
      let used : last_use (get_or held i true) (get_or new i 0) i ≡ last_use (get_or whole i true) (get_or until i 0) i = λ j. last_use (same_held j) (same j) i in
      record {
        long = λ k d lt. let a = old.long k d lt in let g = grows (get_or (inputs_at nodes i) k d) in omega (arith, a, g, used);
        held = λ e k d lt. grows_held (get_or (inputs_at nodes i) k d) (old.held e k d lt);
      }
  | inr here ↦
      let e : at ≡ i = omega (arith, here, from) in
      let same : get_or new at 0 ≡ get_or until at 0 = others at before in
      let same_held : get_or held at true ≡ get_or whole at true = others_held at before in
      let used : last_use (get_or held at true) (get_or new at 0) at ≡ last_use (get_or whole at true) (get_or until at 0) at = λ j. last_use (same_held j) (same j) at in
      subst (KeepsInputs nodes held new) e (record { long = λ k d lt. let a = marked k d lt in omega (arith, a, used); held = kept })
]

pub keep_same : (nodes : List Node) (whole : List Bool) (until : List ℕ) (at : ℕ) → get_or until at 0 ≡ 0 → KeepFrom nodes whole until (at + 1) → KeepFrom nodes whole until at
keep_same nodes whole until at none keep i from inside some = elim (cases_lt at i) [
  | inl later ↦ keep i (omega (arith, later)) inside some
  | inr here ↦ let e : i ≡ at = omega (arith, here, from) in let z : get_or until i 0 ≡ 0 = ap (λ j. get_or until j 0) e ∙ none in absurd (omega (arith, some, z))
]
