use Rattle.std.proofs.Common.{◌∙◌, ap, sym, map, List, ℕ}
use Rattle.xr_arrays.specs.declared.node.Node.TheVariants.{Concat}
use Rattle.plan_core.proofs.Needs.{concat_ready}
use Rattle.plan_whole.proofs.eval.value_of.Goals as goal

pub concat-requires-clause-each : goal.concat-requires-clause-each
concat-requires-clause-each c =
    (concat_ready (λ a. a.now) c.args.nodes.now c.args.done.now c.args.node.now c.deref.result.now c.as_slice-in-Concat.result.now c.in-Concat.axis (c.in-Concat.is ∙ ap (λ (ns : List ℕ). Concat ns c.in-Concat.axis) (sym c.as_slice-in-Concat.ensures)) c.requires.ready
    (ap (map (λ a. a.now)) c.deref.ensures.value ∙ c.in_ok-arrays-in-Concat.ensures)).each
