use Rattle.std.proofs.Common.{◌∙◌, ap, sym, subst}
use Rattle.std.specs.List.{All}
use Rattle.xr_types.specs.Kinds.{InRange}
use Rattle.xr_arrays.specs.Arrays.{kind_of, wide}
use Rattle.plan_core.proofs.Narrowing.{made_back}
use Rattle.row_folds.specs.Rows.{array_of}
use Rattle.row_folds.proofs.Results.{filling_in}
use Rattle.row_folds.proofs.celled.array.Goals as goal

pub cells-requires-clause-range : goal.cells-requires-clause-range
cells-requires-clause-range g c = subst (λ ns. All (InRange c.args.kind) ns) (sym c.in_ok-numbers.ensures) (filling_in c.args.kind (g.R.Outcome.cells c.args.cells) c.requires.range)

pub returns : goal.returns
returns g c =
    let numbers = c.cells.ensures.numbers ∙ c.in_ok-numbers.ensures in
    c.of.ensures ∙ made_back c.args.kind (kind_of c.cells.result) c.in_ok-shape.shape (wide c.cells.result) (g.R.Outcome.cells c.args.cells) c.in_ok-mask.mask c.cells.ensures.kind numbers c.in_ok-mask.ensures
    ∙ ap (λ s. array_of c.args.kind s (g.R.Outcome.cells c.args.cells)) c.in_ok-shape.ensures
