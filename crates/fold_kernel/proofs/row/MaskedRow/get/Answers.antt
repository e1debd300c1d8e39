use Rattle.fold_kernel.proofs.Rows.{shown_there, shown_missing}
use Rattle.fold_kernel.proofs.row.MaskedRow.get.Goals as goal

pub returns-then-self-index-eq0 : goal.returns-then-self-index-eq0
returns-then-self-index-eq0 g c = shown_there _ _ _ _ 0 c.requires c.if-self-index-eq0.true

pub returns-else-self-index-eq0 : goal.returns-else-self-index-eq0
returns-else-self-index-eq0 g c = shown_missing _ _ _ c.requires c.if-self-index-eq0.false
