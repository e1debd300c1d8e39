use Rattle.std.proofs.Common.{sym, ◌∙◌}
use Rattle.xr_arrays.specs.Labels.{labels_of}
use Rattle.label_index.proofs.Ranking.{rising_ranked, falling_ranked}
use Rattle.label_index.proofs.scan.in_order.Goals as goal

pub returns-then-is_chain-clause-ranked : goal.returns-then-is_chain-clause-ranked
returns-then-is_chain-clause-ranked c = rising_ranked (labels_of c.args.list.now) (sym c.is_chain.ensures ∙ c.if-is_chain.true)

pub returns-then-is_chain-2-clause-ranked : goal.returns-then-is_chain-2-clause-ranked
returns-then-is_chain-2-clause-ranked c = falling_ranked (labels_of c.args.list.now) (sym c.is_chain.ensures ∙ c.if-is_chain.false) (sym c.is_chain-2.ensures ∙ c.if-is_chain-2.true)
