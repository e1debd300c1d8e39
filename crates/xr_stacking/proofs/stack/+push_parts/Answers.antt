use Rattle.std.proofs.Common.{rules}
use Rattle.xr_stacking.specs.Parts.{CanTurn}
use Rattle.xr_stacking.proofs.Brought.{first_brought, rest_parts}
use Rattle.xr_stacking.proofs.Firsts.{first_holds, on_ok}
use Rattle.xr_stacking.proofs.stack.+push_parts.Goals as goal

pub push_parts-requires : goal.push_parts-requires
push_parts-requires t c = (
  search rules,
  (
    rest_parts c.args.plan.now c.push_part.new.plan c.args.parts.now c.part-item.result c.push_part.ensures.grows c.in-len1-up.len_at_least c.part-item.is c.requires.parts,
    (first_holds (CanTurn c.args.front c.args.dims.now) c.args.parts.now c.part-item.result c.in-len1-up.len_at_least c.part-item.is c.requires.turn).1,
  ),
)

pub returns-in_ok-push-in-len1-up-clause-nodes : goal.returns-in_ok-push-in-len1-up-clause-nodes
returns-in_ok-push-in-len1-up-clause-nodes t c =
    on_ok c.push_parts.result
    (first_brought c.args.kind c.args.dims.now c.args.front c.args.plan.now c.push_part.new.plan c.push_parts.new.plan c.args.parts.now c.part-item.result c.in_ok-node-in-len1-up.node c.args.out.now c.push.new.self c.push_parts.new.out
    c.in-len1-up.len_at_least c.part-item.is c.push_part.ensures.grows c.push_parts.ensures.grows c.requires.parts c.in_ok-node-in-len1-up.ensures.node c.in_ok-push-in-len1-up.ensures.ok)
    c.push_parts.ensures.nodes
