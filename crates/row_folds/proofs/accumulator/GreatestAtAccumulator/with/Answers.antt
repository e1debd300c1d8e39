use Rattle.std.proofs.Common.{pos, ◌∙◌, ap, sym}
use Rattle.row_folds.specs.Rows.{is_better}
use Rattle.row_folds.proofs.Steps.{greatest_at_kept, greatest_at_taken}
use Rattle.row_folds.proofs.accumulator.GreatestAtAccumulator.with.Goals as goal

pub returns-then-is_better : goal.returns-then-is_better
returns-then-is_better g c =
    λ before is. let both = greatest_at_taken before c.args.position c.args.present c.args.self.some (g.T.Elem.number c.args.cell) (g.T.Elem.number c.args.self.number) (pos c.args.self.position) (is.0, is.1)
    (ap (is_better c.args.present c.args.self.some) (sym c.is_less.ensures) ∙ sym c.is_better.ensures ∙ c.if-is_better.true) in
    (both.0, both.1, c.requires)

pub returns-else-is_better : goal.returns-else-is_better
returns-else-is_better g c =
    λ before is. let both = greatest_at_kept before c.args.position c.args.present c.args.self.some (g.T.Elem.number c.args.cell) (g.T.Elem.number c.args.self.number) (pos c.args.self.position) (is.0, is.1)
    (ap (is_better c.args.present c.args.self.some) (sym c.is_less.ensures) ∙ sym c.is_better.ensures ∙ c.if-is_better.false) in
    (both.0, both.1, is.2)
