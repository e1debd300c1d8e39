use Rattle.std.proofs.Common.{◌≡◌, ◌∙◌, ap, sym, []}
use Rattle.xr_arrays.specs.Nodes.{folded, kept}
use Rattle.plan_core.proofs.Takes.{if_ok}
use Rattle.plan_whole.proofs.FoldedCells.{sum_is}
use Rattle.plan_whole.proofs.fold.fold.Goals as goal

pub returns-then-all : goal.returns-then-all
returns-then-all c =
    let a = c.args.a.now in
    let feeds = c.args.feeds.now in
    let none : kept feeds a.shape ≡ [] = ap (kept feeds) (sym c.shape.ensures) ∙ c.in_ok-all.ensures.all c.if-all.true in
    if_ok c.sum.result _ _ (λ b is. is ∙ sum_is feeds a c.requires.feeds none c.requires.array.whole ∙ ap (λ k. folded k feeds a) (sym (c.in_ok-all.ensures.sum c.if-all.true))) c.sum.ensures
