-- What a node asks of the values of its inputs, whether they are held or not.
use Rattle.std.proofs.Common.{◌≡◌, ◌<◌, ℕ, zero, suc, true, List, [], ◌∷◌, length, map, get_or, Option, Some, None, is_some, refl, sym, ap, ◌∙◌, arith}
use Rattle.std.specs.Option.{option_or}
use Rattle.std.proofs.lemmas.List.{get_or_default, length-map}
use Rattle.xr_arrays.specs.declared.node.Node.{Node}
use Rattle.xr_arrays.specs.declared.node.Node.TheVariants.{Source}
use Rattle.xr_arrays.specs.Arrays.{Array}
use Rattle.xr_arrays.specs.Nodes.{nothing, value, values, AllFit}
use Rattle.plan_core.specs.Needs.{inputs_at, source_at, IsHeld, IsReady}
use Rattle.plan_core.proofs.Needs.{inputs_before, ready, source_at_is, source_next}
use Rattle.plan_core.proofs.Plans.{values-length}

-- as if each value were kept
abbrev pub each_kept : List Node → List (Option Array)
each_kept nodes = map Some (values nodes)

some_at : (vs : List Array) (m : ℕ) → m < length vs → get_or (map Some vs) m None ≡ Some (get_or vs m nothing)
some_at [] m lt = absurd (omega arith)
some_at (v ∷ vs) zero lt = refl
some_at (v ∷ vs) (suc m) lt = some_at vs m (omega arith)

either : (o : Option Array) (v : Array) → (is_some o ≡ true → option_or o None ≡ Some v) → option_or o (Some v) ≡ Some v
either None v h = refl
either (Some a) v h = h refl

held_anyway : (nodes : List Node) (m : ℕ) → AllFit [] nodes → m < length nodes → IsHeld nodes (each_kept nodes) m
held_anyway nodes m fit lt =
    let node : Node = get_or nodes m (Source nothing) in
    let is : node ≡ get_or nodes m node = get_or_default nodes m (Source nothing) node lt in
    let long = values-length nodes in
    let inside : m < length (values nodes) = omega (arith, lt, long) in
    record {
      there = lt;
      done_there = let many = length-map (values nodes) Some in omega (arith, many, inside);
      is = ap (option_or (source_at nodes m)) (some_at (values nodes) m inside)
          ∙ either (source_at nodes m) (value nodes m) (λ some. source_next nodes m node fit lt is (ap is_some (sym (source_at_is nodes m (Source nothing) lt)) ∙ some));
    }

pub ready_anyway : (nodes : List Node) (at : ℕ) (node : Node) → AllFit [] nodes → at < length nodes → node ≡ get_or nodes at node → IsReady nodes (each_kept nodes) node
ready_anyway nodes at node fit inside is = ready nodes (each_kept nodes) at node fit inside is (λ k d lt. held_anyway nodes (get_or (inputs_at nodes at) k d) fit (let b = inputs_before nodes at node fit inside k d lt in omega (arith, b, inside)))

-- the value of a source is its cells
pub source_value : (nodes : List Node) (m : ℕ) (a : Array) → AllFit [] nodes → m < length nodes → Some a ≡ source_at nodes m → a ≡ value nodes m
source_value nodes m a fit lt is = let h = held_anyway nodes m fit lt in let e : Some a ≡ Some (value nodes m) = ap (λ o. option_or o (get_or (each_kept nodes) m None)) is ∙ h.is in cc
