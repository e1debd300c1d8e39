use Rattle.std.proofs.Common.{◌≡◌, ◌∙◌, arith, length, sym, ap, subst}
use Rattle.row_folds.specs.Rows.{AreFolds}
use Rattle.row_folds.proofs.Results.{all_absorbed, all_written}
use Rattle.row_folds.proofs.rows.folded_rows.Goals as goal

pub returns : goal.returns
returns g c =
    let n = c.points.ensures in
    let few = c.requires.folding.few_rows in
    let rows = all_absorbed g.A.Accumulator.Is c.args.start c.deref_mut.result.now c.absorb_all.new.rows c.args.feeds.now c.args.shape.now c.args.sizes.now c.points.result (g.S.Source.cells c.args.source) c.requires.start (c.deref_mut.ensures.value ∙ c.in_ok-rows.ensures) (omega (arith, n, few)) c.absorb_all.ensures in
    let counted : length c.in_ok-rows.rows.items ≡ c.in_ok-rows.rows.len = sym (ap length c.deref_mut.ensures.value) ∙ c.deref_mut.ensures.len in
    let kept : length c.absorb_all.new.rows ≡ length c.in_ok-rows.rows.items = c.absorb_all.ensures.long ∙ ap length c.deref_mut.ensures.value in
    subst (λ rs. AreFolds g.A.Accumulator.Is rs c.args.feeds.now c.args.shape.now c.args.sizes.now (g.S.Source.cells c.args.source)) (sym (all_written c.absorb_all.new.rows c.in_ok-rows.rows.items c.in_ok-rows.rows.len (kept ∙ counted) counted)) rows
