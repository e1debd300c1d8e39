use Rattle.xr_types.specs.Kinds.{high}
use Rattle.row_folds.proofs.Meanings.{least_meaning, least_none}
use Rattle.row_folds.proofs.folded.min.Goals as goal

pub chosen-requires-clause-meaning : goal.chosen-requires-clause-meaning
chosen-requires-clause-meaning g c = λ a some cells is present. least_meaning c.args.kind (high g.T.Elem.kind) (g.T.Elem.number a.number) some cells is present

pub chosen-requires-clause-none : goal.chosen-requires-clause-none
chosen-requires-clause-none g c = λ a cells is none. least_none (high g.T.Elem.kind) (g.T.Elem.number a.number) _ cells is none c.greatest.ensures
