use Rattle.std.proofs.Common.{◌≡◌, arith, rules, ap, ◌∙◌, map}
use Rattle.xr_indexing.proofs.Walks.{begins, ends, none, on, pushes, turned}
use Rattle.xr_indexing.proofs.slices.walk.Goals as goal
use Rattle.xr_indexing.proofs.slices.walk.Goals.{then-back, else-back}

pub walk-init : goal.walk-init
walk-init c = record {
  so_far = let e = begins c.args.start c.args.stop c.args.step in search rules;
  from = omega arith;
  on = none c.args.start c.args.step c.requires.step;
}

pub walk-preserved : goal.walk-preserved
walk-preserved c =
    let place : c.if-back.place ≡ turned c.args.n c.args.back c.walk.at = elim c.if-back.branch [ then-back w ↦ search rules | else-back w ↦ search rules ] in
    record {
      so_far = pushes c.walk.out.items c.push.new.self.items c.args.n c.args.start c.args.stop c.args.step c.walk.at _ c.args.back c.requires.step c.walk.invariant.from c.walk-test.true c.walk.invariant.on (search rules) c.in_ok-push.ensures.items c.walk.invariant.so_far;
      from = omega arith;
      on = on c.args.start c.args.step c.walk.at c.walk.invariant.from c.walk.invariant.on;
    }

pub returns : goal.returns
returns c = c.walk.invariant.so_far ∙ ap (map (turned c.args.n c.args.back)) (ends c.args.n c.args.start c.args.stop c.args.step c.walk.at c.requires.stop (omega arith))
