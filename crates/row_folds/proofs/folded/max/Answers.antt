use Rattle.xr_types.specs.Kinds.{low}
use Rattle.row_folds.proofs.Meanings.{greatest_meaning, greatest_none}
use Rattle.row_folds.proofs.folded.max.Goals as goal

pub chosen-requires-clause-meaning : goal.chosen-requires-clause-meaning
chosen-requires-clause-meaning g c = λ a some cells is present. greatest_meaning c.args.kind (low g.T.Elem.kind) (g.T.Elem.number a.number) some cells is present

pub chosen-requires-clause-none : goal.chosen-requires-clause-none
chosen-requires-clause-none g c = λ a cells is none. greatest_none (low g.T.Elem.kind) (g.T.Elem.number a.number) _ cells is none c.least.ensures
