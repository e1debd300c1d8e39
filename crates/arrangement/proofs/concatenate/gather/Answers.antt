use Rattle.std.proofs.Common.{◌≡◌, ◌∙◌, sym, subst, length}
use Rattle.xr_types.specs.Points.{size}
use Rattle.plan_core.proofs.Concats.{gather_more, all_more, all_done}
use Rattle.arrangement.proofs.concatenate.gather.Goals as goal

pub loop-a-preserved : goal.loop-a-preserved
loop-a-preserved g c =
    let xs = c.args.inputs.now in
    let i = c.loop-a.a-index in
    let x = c.a-item.result in
    let kind : x.now.kind ≡ c.args.kind = subst (λ b. b.now.kind ≡ c.args.kind) (sym c.a-item.is) (c.requires.kinds i x c.loop-a-test.true) in
    record {
      cells = gather_more (λ a. a.now.cells) xs i x _ _ _ c.loop-a-test.true c.a-item.is c.in_ok-all.ensures.cells c.loop-a.invariant.cells;
      mask = c.in_ok-all.ensures.mask;
      whole = all_more (λ a. length a.now.cells ≡ size a.now.shape) xs i x c.loop-a-test.true c.a-item.is c.in_ok-all.ensures.whole c.loop-a.invariant.whole;
      truths = λ e. c.in_ok-all.ensures.truths (kind ∙ e) (c.loop-a.invariant.truths e);
    }

pub returns-clause-whole : goal.returns-clause-whole
returns-clause-whole g c = all_done (λ a. length a.now.cells ≡ size a.now.shape) c.args.inputs.now c.loop-a.a-index c.loop-a-test.false c.loop-a.invariant.whole
