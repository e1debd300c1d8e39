-- What comes to stand at a node, and what a node that takes strips is computed from.
use Rattle.std.proofs.Common.{◌≡◌, ◌<◌, ◌≤◌, ℕ, Bool, true, false, List, [], ◌∷◌, length, get_or, Option, Some, None, is_some, refl, sym, ap, subst, ◌∙◌}
use Rattle.std.specs.List.{All}
use Rattle.std.specs.Option.{option_or}
use Rattle.std.specs.Prelude.{◌||◌, MatchOption}
use Rattle.std.proofs.lemmas.List.Elements.{All-head}
use Rattle.xr_types.specs.Points.{size}
use Rattle.xr_types.specs.declared.operation.FoldKind.{FoldKind}
use Rattle.xr_arrays.specs.declared.node.Feed.{Feed}
use Rattle.xr_arrays.specs.declared.node.Node.{Node}
use Rattle.xr_arrays.specs.declared.node.Node.TheVariants.{Source, Take, Reorder, Widen, Unary, Binary, Choose, Fold, Scan, Concat, Chunk}
use Rattle.xr_arrays.specs.Arrays.{Array, IsArray}
use Rattle.xr_arrays.specs.Nodes.{folded, kept, nothing, value, AllFit, AreFed, most_node_cells}
use Rattle.plan_core.specs.Needs.{inputs_at, inputs_of, source_at, source_of}
use Rattle.plan_core.proofs.Needs.{by_inputs, fold_ready, inputs_at_is, other_next, source_at_is, source_next, value_small}
use Rattle.plan_core.proofs.Valued.{value_is_array}
use Rattle.plan_needs.specs.Trees.{comes_in_strips, is_each_cell, is_spread, node_is, takes_in_strips, takes_strips, IsNext, IsStrand}
use Rattle.plan_needs.proofs.Marks.{node_is_at}
use Rattle.plan_needs.proofs.Ready.{each_kept, ready_anyway}

-- ---- what comes to stand

some_stands : (o : Option Array) (v : Array) (P : Type 0) → o ≡ Some v → MatchOption o P (λ a. a ≡ v)
some_stands None v P e = absurd cc
some_stands (Some a) v P e = cc

pub source_stands : (nodes : List Node) (whole : List Bool) (at : ℕ) (node : Node) → AllFit [] nodes → at < length nodes → node ≡ get_or nodes at node → is_some (source_of node) ≡ true → IsNext nodes whole at None
source_stands nodes whole at node fit lt is some = some_stands _ _ _ (source_next nodes at node fit lt is some)

pub other_stands : (nodes : List Node) (whole : List Bool) (at : ℕ) (node : Node) (a : Array) → at < length nodes → node ≡ get_or nodes at node → is_some (source_of node) ≡ false → a ≡ value nodes at → IsNext nodes whole at (Some a)
other_stands nodes whole at node a lt is none here = some_stands _ _ _ (other_next nodes at node a lt is none here)

nothing_stands : (o : Option Array) (P : Type 0) (Q : Array → Type 0) → is_some o ≡ false → P → MatchOption (option_or o None) P Q
nothing_stands None P Q none h = h
nothing_stands (Some a) P Q none h = absurd cc

pub strips_stand : (nodes : List Node) (whole : List Bool) (at : ℕ) (node : Node) → at < length nodes → node ≡ get_or nodes at node → is_some (source_of node) ≡ false → get_or whole at true ≡ false → comes_in_strips nodes at ≡ true → IsNext nodes whole at None
strips_stand nodes whole at node lt is none held comes = nothing_stands (source_at nodes at) _ _ (ap is_some (source_at_is nodes at node lt ∙ ap source_of (sym is)) ∙ none) (held, comes)

-- ---- folds

pub record FoldStrand (nodes : List Node) (done : List (Option Array)) (at : ℕ) (k : FoldKind) (n : ℕ) (feeds : List Feed) : Type 0 where
  pub strand : IsStrand nodes done n
  pub feeds_are : length feeds ≡ length (value nodes n).shape
  pub fed : AreFed feeds (value nodes n).shape
  pub small : size (kept feeds (value nodes n).shape) ≤ most_node_cells
  pub is : folded k feeds (value nodes n) ≡ value nodes at

pub fold_strand : (nodes : List Node) (done : List (Option Array)) (at : ℕ) (node : Node) (k : FoldKind) (n : ℕ) (feeds : List Feed) → AllFit [] nodes → at < length nodes → node ≡ get_or nodes at node → node ≡ Fold k n feeds → All (IsStrand nodes done) (inputs_at nodes at)
    → FoldStrand nodes done at k n feeds
fold_strand nodes done at node k n feeds fit lt is is_fold strands =
    let r = fold_ready nodes (each_kept nodes) node k n feeds is_fold (ready_anyway nodes at node fit lt is) in
    let ids : inputs_at nodes at ≡ n ∷ [] = inputs_at_is nodes at node lt ∙ ap inputs_of (sym is ∙ is_fold) in
    record {
      strand = All-head (IsStrand nodes done) n [] (subst (All (IsStrand nodes done)) ids strands);
      feeds_are = r.feeds_are;
      fed = r.fed;
      small = r.small;
      is = r.is ∙ sym (by_inputs nodes at node fit lt is);
    }

-- ---- other nodes

neither : (b c : Bool) → (b || c) ≡ false → (b ≡ false) × (c ≡ false)
neither true c e = absurd cc
neither false c e = (refl, e)

not_taking : (node : Node) → is_each_cell node ≡ false → ((k : FoldKind) (n : ℕ) (feeds : List Feed) → node ≡ Fold k n feeds → ⊥) → takes_strips node ≡ false
not_taking (Source a) e not = refl
not_taking (Take n axis from fill drops) e not = refl
not_taking (Reorder n order) e not = e
not_taking (Widen n axis count) e not = refl
not_taking (Unary op kind n) e not = absurd cc
not_taking (Binary op m n) e not = absurd cc
not_taking (Choose c m n) e not = absurd cc
not_taking (Fold k n feeds) e not = absurd (not k n feeds refl)
not_taking (Scan k n axis) e not = refl
not_taking (Concat ns axis) e not = refl
not_taking (Chunk n sizes) e not = refl

pub record TakesNoStrips (nodes : List Node) (at : ℕ) (node : Node) : Type 0 where
  pub node_takes_none : takes_strips node ≡ false
  pub takes_none : takes_in_strips nodes at ≡ false

pub takes_no_strips : (nodes : List Node) (at : ℕ) (node : Node) → at < length nodes → node ≡ get_or nodes at node → comes_in_strips nodes at ≡ false → ((k : FoldKind) (n : ℕ) (feeds : List Feed) → node ≡ Fold k n feeds → ⊥) → TakesNoStrips nodes at node
takes_no_strips nodes at node lt is e not =
    let both = neither (node_is is_each_cell nodes at) (is_spread nodes at) e in
    let none = not_taking node (sym (node_is_at is_each_cell nodes at node lt is) ∙ both.0) not in
    record { node_takes_none = none; takes_none = ap (λ b. b || is_spread nodes at) (node_is_at takes_strips nodes at node lt is ∙ none) ∙ both.1 }

-- ---- an array that is a node's value

pub record FoldFits (a : Array) (feeds : List Feed) : Type 0 where
  pub array : IsArray a
  pub feeds_are : length feeds ≡ length a.shape
  pub fed : AreFed feeds a.shape
  pub few : size a.shape ≤ most_node_cells
  pub small : size (kept feeds a.shape) ≤ most_node_cells

pub fold_fits : (nodes : List Node) (at : ℕ) (a : Array) (feeds : List Feed) → AllFit [] nodes → at < length nodes → length feeds ≡ length (value nodes at).shape → AreFed feeds (value nodes at).shape → size (kept feeds (value nodes at).shape) ≤ most_node_cells → a ≡ value nodes at → FoldFits a feeds
fold_fits nodes at a feeds fit lt are fed small here =
    subst (λ (x : Array). FoldFits x feeds) (sym here) (record { array = value_is_array nodes at fit lt; feeds_are = are; fed = fed; few = value_small nodes at (Source nothing) fit lt; small = small })
