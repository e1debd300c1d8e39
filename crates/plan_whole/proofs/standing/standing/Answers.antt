use Rattle.std.proofs.Common.{◌∙◌, ap, sym, option_map}
use Rattle.plan_whole.proofs.Unchanged.{kept_stands_there, source_stands_there}
use Rattle.plan_whole.proofs.standing.standing.Goals as goal

pub returns-in-Some : goal.returns-in-Some
returns-in-Some c = source_stands_there c.args.nodes.now c.args.done.now c.args.at c.index-nodes-at.result c.in-Some.cells.now c.requires.there c.index-nodes-at.is (sym (ap (option_map (λ a. a.now)) c.in-Some.is) ∙ c.source.ensures)

pub returns-in-None : goal.returns-in-None
returns-in-None c =
    c.kept.ensures ∙ kept_stands_there c.args.nodes.now c.args.done.now c.args.at c.index-nodes-at.result c.index-done-at.result c.requires.there c.requires.done c.index-nodes-at.is (sym (ap (option_map (λ a. a.now)) c.in-None.is) ∙ c.source.ensures) c.index-done-at.is
