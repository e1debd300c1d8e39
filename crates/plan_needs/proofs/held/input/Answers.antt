use Rattle.std.proofs.Common.{◌∙◌, ap, sym, subst, IsSome, option_map, refl}
use Rattle.plan_core.proofs.Needs.{source_held, kept_held, kept_value}
use Rattle.plan_needs.proofs.held.input.Goals as goal

pub kept-requires : goal.kept-requires
kept-requires c =
    subst IsSome (sym (kept_held c.args.nodes.now c.args.done.now c.args.id c.index-nodes-id.result c.index-done-id.result c.requires c.index-nodes-id.is (sym (ap (option_map (λ a. a.now)) c.in-None.is) ∙ c.source.ensures) c.index-done-id.is)) refl

pub returns-in-Some : goal.returns-in-Some
returns-in-Some c = source_held c.args.nodes.now c.args.done.now c.args.id c.index-nodes-id.result c.in-Some.cells.now c.requires c.index-nodes-id.is (sym (ap (option_map (λ a. a.now)) c.in-Some.is) ∙ c.source.ensures)

pub returns-in-None : goal.returns-in-None
returns-in-None c =
    kept_value c.args.nodes.now c.args.id c.kept.result.now c.index-done-id.result
    (kept_held c.args.nodes.now c.args.done.now c.args.id c.index-nodes-id.result c.index-done-id.result c.requires c.index-nodes-id.is (sym (ap (option_map (λ a. a.now)) c.in-None.is) ∙ c.source.ensures) c.index-done-id.is) c.kept.ensures
