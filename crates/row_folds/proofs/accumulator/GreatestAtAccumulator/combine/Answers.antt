use Rattle.std.proofs.Common.{pos, ◌∙◌, ap, sym}
use Rattle.row_folds.specs.Rows.{is_better}
use Rattle.row_folds.proofs.Joined.{greatest_at_before, greatest_at_behind}
use Rattle.row_folds.proofs.accumulator.GreatestAtAccumulator.combine.Goals as goal

pub returns-then-is_better : goal.returns-then-is_better
returns-then-is_better g c =
    λ a b is_a is_b. let both = greatest_at_behind a b c.args.self.some c.args.after.some (g.T.Elem.number c.args.self.number) (g.T.Elem.number c.args.after.number) (pos c.args.self.position) (pos c.args.after.position) (is_a.0, is_a.1) (is_b.0, is_b.1)
    (ap (is_better c.args.after.some c.args.self.some) (sym c.is_less.ensures) ∙ sym c.is_better.ensures ∙ c.if-is_better.true) in
    (both.0, both.1, is_b.2)

pub returns-else-is_better : goal.returns-else-is_better
returns-else-is_better g c =
    λ a b is_a is_b. let both = greatest_at_before a b c.args.self.some c.args.after.some (g.T.Elem.number c.args.self.number) (g.T.Elem.number c.args.after.number) (pos c.args.self.position) (pos c.args.after.position) (is_a.0, is_a.1) (is_b.0, is_b.1)
    (ap (is_better c.args.after.some c.args.self.some) (sym c.is_less.ensures) ∙ sym c.is_better.ensures ∙ c.if-is_better.false) in
    (both.0, both.1, is_a.2)
