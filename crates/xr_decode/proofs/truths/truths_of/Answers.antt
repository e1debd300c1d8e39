use Rattle.std.proofs.Common.{◌<◌, ◌∙◌, ap, map, pos, arith, subst, sym, List, ℕ}
use Rattle.std.specs.Prelude.{All}
use Rattle.std.proofs.lemmas.List.Elements.{All-from_get_or}
use Rattle.xr_decode.proofs.TruthCells.{truths_same}
use Rattle.xr_decode.proofs.truths.truths_of.Goals as goal

pub returns-clause-truths : goal.returns-clause-truths
returns-clause-truths c =
    ap (map pos) c.of.ensures ∙ truths_same c.args.numbers.now c.loop-i.truths.items c.loop-i.invariant.long (λ i lt. c.loop-i.invariant.truths i (omega arith))

pub returns-clause-range : goal.returns-clause-range
returns-clause-range c =
    subst (λ (xs : List ℕ). All (λ x. x < 2) xs) (sym c.of.ensures) (All-from_get_or (λ x. x < 2) c.loop-i.truths.items 0 (λ i lt. c.loop-i.invariant.range i (omega (arith, c.loop-i.invariant.long))))
