use Rattle.std.proofs.Common.{subst, sym}
use Rattle.xr_arrays.specs.Nodes.{IsNode, values, Pushes}
use Rattle.plan_live.proofs.Keeping.{next_fits, next_kept}
use Rattle.plan_live.proofs.anew.push_kept.Goals as goal

pub push-requires : goal.push-requires
push-requires c =
    subst (λ n. IsNode (values c.args.new.now) n) (sym c.in_ok-node.ensures)
    (next_fits c.args.live.now c.args.nodes.now c.args.new.now c.args.at c.requires.fit c.requires.inside c.requires.closed c.requires.kept)

pub returns : goal.returns
returns c = record {
  kept =
      next_kept c.args.live.now c.args.nodes.now c.args.new.now c.args.at c.requires.fit c.requires.inside c.requires.closed c.requires.kept c.push.new.self c.in_ok-push.field-0
      (subst (λ n. Pushes c.args.new.now c.push.new.self n c.in_ok-push.field-0) c.in_ok-node.ensures c.in_ok-push.ensures.ok);
}
