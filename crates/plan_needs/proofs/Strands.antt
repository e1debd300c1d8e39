-- Nodes whose strips can be computed from what stands at others.
use Rattle.std.proofs.Common.{◌≡◌, ◌<◌, ◌≤◌, ◌+◌, ℕ, Bool, true, false, List, [], ◌∷◌, ◌++◌, length, get_or, Option, Some, None, sym, ap, subst, ◌∙◌, arith, inl, inr}
use Rattle.std.specs.List.{All}
use Rattle.std.specs.Prelude.{MatchOption}
use Rattle.std.proofs.lemmas.Bool.{cases_lt}
use Rattle.std.proofs.Math.Seq.{get_or-append_seam}
use Rattle.std.proofs.Math.ListN.{get_or-append}
use Rattle.xr_arrays.specs.Arrays.{Array}
use Rattle.xr_arrays.specs.Nodes.{value, AllFit}
use Rattle.xr_arrays.specs.declared.node.Node.{Node}
use Rattle.plan_core.specs.Needs.{inputs_at, IsHeld}
use Rattle.plan_core.proofs.Needs.{inputs_before}
use Rattle.plan_needs.specs.Trees.{comes_in_strips, last_use, standing, takes_in_strips, AreThere, IsNext, IsStrand, IsThere, IsTree, KeepFrom}

-- ---- what stands at a node

stands_is : (o : Option Array) (v : Array) (P : Type 0) → (P → ⊥) → MatchOption o P (λ a. a ≡ v) → o ≡ Some v
stands_is None v P not h = absurd (not h)
stands_is (Some a) v P not h = ap (λ x. Some x) h

one_value : (o : Option Array) (a v : Array) (P : Type 0) → Some a ≡ o → MatchOption o P (λ a. a ≡ v) → a ≡ v
one_value None a v P e h = absurd cc
one_value (Some x) a v P e h = let s : a ≡ x = cc in s ∙ h

none_there : (o : Option Array) (v : Array) (P : Type 0) → None ≡ o → MatchOption o P (λ a. a ≡ v) → P
none_there None v P e h = h
none_there (Some x) v P e h = absurd cc

-- a node that is computed whole is held
pub there_held : (nodes : List Node) (done : List (Option Array)) (whole : List Bool) (m : ℕ) → m < length nodes → m < length done → get_or whole m true ≡ true → IsThere nodes done whole m → IsHeld nodes done m
there_held nodes done whole m lt inside held there =
    record { there = lt; done_there = inside; is = stands_is (standing nodes done m) (value nodes m) _ (λ none. let a = none.0 in absurd cc) there }

-- ---- strands

-- what stands at a strand is its value
pub strand_value : (nodes : List Node) (done : List (Option Array)) (m : ℕ) (a : Array) → IsStrand nodes done m → Some a ≡ standing nodes done m → a ≡ value nodes m
strand_value nodes done m a s is = one_value (standing nodes done m) a (value nodes m) _ is (s.there m s.before s.needed)

at_least : (whole : Bool) (until at : ℕ) → at ≤ last_use whole until at
at_least true until at = omega arith
at_least false until at = omega arith

as_long : (whole : Bool) (until at : ℕ) → whole ≡ false → until ≤ last_use whole until at
as_long true until at e = absurd cc
as_long false until at e = omega arith

-- where nothing stands, its inputs are strands
pub strand_tree : (nodes : List Node) (done : List (Option Array)) (m : ℕ) (d : Node) → IsStrand nodes done m → None ≡ standing nodes done m → IsTree nodes done m
strand_tree nodes done m d s none =
    let below = s.before in
    let there = s.user_there in
    let passed = none_there (standing nodes done m) (value nodes m) ((get_or s.whole m true ≡ false) × (comes_in_strips nodes m ≡ true)) none (s.there m s.before s.needed) in
    let inside : m < length nodes = omega (arith, below, there) in
    let keeps = s.keep m (omega arith) (let k = s.marked in omega (arith, below, k)) (let n = s.needed in omega (arith, below, n)) in
    let long = as_long (get_or s.whole m true) (get_or s.until m 0) m passed.0 in
    record {
      fit = s.fit;
      at_there = inside;
      in_strips = passed.1;
      inputs = λ k e lt.
          let before = inputs_before nodes m d s.fit inside k e lt in
          let more = keeps.long k e lt in
          record {
            user = s.user;
            whole = s.whole;
            until = s.until;
            fit = s.fit;
            user_there = s.user_there;
            marked = s.marked;
            done_there = s.done_there;
            keep = s.keep;
            there = s.there;
            before = omega (arith, before, below);
            needed = let n = s.needed in omega (arith, n, long, more);
          };
    }

-- the inputs of a node that is computed now are strands
pub input_strands : (nodes : List Node) (done : List (Option Array)) (whole : List Bool) (until : List ℕ) (at : ℕ) (d : Node) → AllFit [] nodes → at < length nodes → at < length until → at ≤ length done → KeepFrom nodes whole until 0 → AreThere nodes done whole until at → 0 < get_or until at 0
    → All (IsStrand nodes done) (inputs_at nodes at)
input_strands nodes done whole until at d fit inside marked long keep there some k e lt =
    let keeps = keep at (omega arith) marked some in
    let more = keeps.long k e lt in
    let least = at_least (get_or whole at true) (get_or until at 0) at in
    record {
      user = at;
      whole = whole;
      until = until;
      fit = fit;
      user_there = inside;
      marked = marked;
      done_there = long;
      keep = keep;
      there = there;
      before = inputs_before nodes at d fit inside k e lt;
      needed = omega (arith, least, more);
    }

-- those of a node that takes no strips are held
pub inputs_held : (nodes : List Node) (done : List (Option Array)) (whole : List Bool) (until : List ℕ) (at : ℕ) (d : Node) → AllFit [] nodes → at < length nodes → at < length until → at ≤ length done → KeepFrom nodes whole until 0 → AreThere nodes done whole until at → 0 < get_or until at 0
    → takes_in_strips nodes at ≡ false → All (IsHeld nodes done) (inputs_at nodes at)
inputs_held nodes done whole until at d fit inside marked long keep there some none k e lt =
    let keeps = keep at (omega arith) marked some in
    let more = keeps.long k e lt in
    let least = at_least (get_or whole at true) (get_or until at 0) at in
    let before = inputs_before nodes at d fit inside k e lt in
    there_held nodes done whole (get_or (inputs_at nodes at) k e) (omega (arith, before, inside)) (omega (arith, before, long)) (keeps.held none k e lt) (there (get_or (inputs_at nodes at) k e) before (omega (arith, least, more)))

-- ---- one node more

pub there_more : (nodes : List Node) (done pushed freed : List (Option Array)) (v : Option Array) (whole : List Bool) (until : List ℕ) (at : ℕ) → length done ≡ at → AreThere nodes done whole until at → (0 < get_or until at 0 → IsNext nodes whole at v) → pushed ≡ done ++ v ∷ []
    → ((m : ℕ) → at < get_or until m 0 → get_or freed m None ≡ get_or pushed m None) → AreThere nodes freed whole until (at + 1)
there_more nodes done pushed freed v whole until at long there this is_pushed kept m below later =
    let here = kept m (omega (arith, later)) in
    elim (cases_lt m at) [
      | inl before ↦
          let e : get_or freed m None ≡ get_or done m None = here ∙ ap (λ xs. get_or xs m None) is_pushed ∙ get_or-append done (v ∷ []) None m (omega (arith, before, long)) in
          subst (λ o. IsNext nodes whole m o) (sym e) (there m before (omega (arith, later)))
      | inr after ↦
          let k : at ≡ m = omega (arith, after, below) in
          let e : get_or freed m None ≡ v = here ∙ ap (λ xs. get_or xs m None) is_pushed ∙ ap (λ j. get_or (done ++ v ∷ []) j None) (sym k ∙ sym long) ∙ get_or-append_seam done v [] None in
          let some : 0 < get_or until at 0 = let u : get_or until m 0 ≡ get_or until at 0 = ap (λ j. get_or until j 0) (sym k) in omega (arith, later, u) in
          subst (λ o. IsNext nodes whole m o) (sym e) (subst (λ j. IsNext nodes whole j v) k (this some))
    ]
