-- Nodes that are added to a plan, and the steps of a chain among them.
use Rattle.xr_formulas.proofs.Common.{AddsAtMost, Array, Chain, ChainFits, Fits, FitsBy, Grows, IsNode, IsValueOf, List, Node, Pushes, Step, StepFits, StepsFit, [], adds_both, adds_one, ap, arith, cells_of, chain_cells, chain_value, grows_on, length, node_value, pushes_grow, refl, size, start_cells, start_value, step_node, step_value, steps_cells, steps_value, subst, value, values, values-length, ℕ, ◌+◌, ◌<◌, ◌∙◌, ◌∷◌, ◌≡◌, ◌≤◌}
use Rattle.xr_values.proofs.Grown.{pushed_node}
use Rattle.xr_formulas.specs.declared.chain.Step.TheVariants as step

-- ---- a node that is added

pub node_added : (old new : List Node) (node : Node) (n : ℕ) (v : Array) → node_value (values old) node ≡ v → Pushes old new node n → IsValueOf new v n × AddsAtMost old new (size v.shape)
node_added old new node n v means pushes =
    let is : value new n ≡ v = pushes.stands ∙ means in
    let same = ap (λ (u : Array). size u.shape) is in
    (record { inside = (pushed_node old new node n v means pushes).placed; is = is }, adds_one old new node n (size v.shape) pushes (omega arith))

-- after others
pub node_after : (old mid new : List Node) (node : Node) (n most : ℕ) (v : Array) → Grows old mid → AddsAtMost old mid most → node_value (values mid) node ≡ v → Pushes mid new node n → IsValueOf new v n × Grows old new × AddsAtMost old new (most + size v.shape)
node_after old mid new node n most v grows adds means pushes =
    let added = node_added mid new node n v means pushes in
    (added.0, grows_on old mid new grows (pushes_grow mid new node n pushes), adds_both old mid new most (size v.shape) adds added.1)

-- ---- one step

step_valued : (nodes : List Node) (s : Step) (n : ℕ) → node_value (values nodes) (step_node s n) ≡ step_value s (value nodes n)
unfolding node_value
step_valued nodes (step.Unary op kind) n = refl
step_valued nodes s n = refl

pub step_fits : (nodes : List Node) (s : Step) (n : ℕ) → n < length nodes → StepFits s (value nodes n) → IsNode (values nodes) (step_node s n)
step_fits nodes s n lt is = record { fits = by s is.fits; small = rw (step_valued nodes s n) is.small; low_rank = rw (step_valued nodes s n) is.low_rank }
  where
    there : n < length (values nodes)
    there = let long = values-length nodes in omega arith

    by : (s : Step) → FitsBy 1 (λ k. value nodes n) (step_node s 0) → Fits (values nodes) (step_node s n)
    by (step.Unary op kind) f = assumption there
    by s f = assumption there

-- ---- so far

-- the steps that are left, from the node where the others ended, come to the same; the nodes so far and those to come are no more than all
pub record IsOn (old nodes : List Node) (c : Chain) (node : ℕ) (rest : List Step) : Type 0 where
  pub inside : node < length nodes
  pub fits : StepsFit rest (value nodes node)
  pub comes : steps_value rest (value nodes node) ≡ chain_value old c
  pub grows : Grows old nodes
  pub cells : cells_of nodes + steps_cells rest (value nodes node) ≤ cells_of old + chain_cells old c

module _ {old nodes : List Node} {c : Chain} {node : ℕ} where
  pub first_on : ChainFits old c → IsValueOf nodes (start_value old c.start) node → Grows old nodes → AddsAtMost old nodes (start_cells c.start) → IsOn old nodes c node c.steps
  first_on fits is grows adds =
      let start = adds.cells in
      let steps = ap (steps_cells c.steps) is.is in
      record { inside = is.inside; fits = rw is.is fits.steps; comes = ap (steps_value c.steps) is.is; grows = grows; cells = omega arith }

  pub next_on : {new : List Node} {place : ℕ} {rest after : List Step} {s : Step} → rest ≡ s ∷ after → IsOn old nodes c node rest → Pushes nodes new (step_node s node) place → IsOn old new c place after
  next_on {new} {place} {rest} {after} {s} is on pushes =
      let here = subst (IsOn old nodes c node) is on in
      let added = node_added nodes new (step_node s node) place (step_value s (value nodes node)) (step_valued nodes s node) pushes in
      let same = added.0.is in
      let one = added.1.cells in
      let left = ap (steps_cells after) same in
      let all = here.cells in
      record {
        inside = added.0.inside;
        fits = rw same here.fits.1;
        comes = ap (steps_value after) same ∙ here.comes;
        grows = grows_on old nodes new here.grows (pushes_grow nodes new (step_node s node) place pushes);
        cells = omega arith;
      }

  pub last_on : {rest : List Step} → rest ≡ [] → IsOn old nodes c node rest → IsValueOf nodes (chain_value old c) node × AddsAtMost old nodes (chain_cells old c)
  last_on none on =
      let here = subst (IsOn old nodes c node) none on in
      let cells = here.cells in
      (record { inside = here.inside; is = here.comes }, record { cells = omega arith })
