use Rattle.std.proofs.Common.{◌∙◌}
use Rattle.strided_block.proofs.Owned.{owner_kept}
use Rattle.strided_block.proofs.Sounds.{now_there, now_sound, now_cut, set_others, set_cell}
use Rattle.strided_block.proofs.win.Win.set.Goals as goal

pub put_cell-requires : goal.put_cell-requires
put_cell-requires g c = (c.self.invariant.0.base, now_there _ _ c.self.view_is c.self.invariant.1 c.args.point.now c.place_of-at.result c.place_of-at.ensures c.requires)

pub invariant_of-self : goal.invariant_of-self
invariant_of-self g c = (owner_kept _ _ _ _ _ _ _ c.self.invariant.0 c.put_cell.ensures.block c.put_cell.ensures.others, now_sound _ _ c.self.view_is c.self.invariant.1 _ _ _ c.put_cell.ensures.others)

pub returns-clause-place : goal.returns-clause-place
returns-clause-place g c = now_cut _ _ c.self.view_is c.self.invariant.1 _ _ _ c.put_cell.ensures.others c.put_cell.ensures.block

pub returns-clause-written : goal.returns-clause-written
returns-clause-written g c = set_cell _ _ c.self.view_is c.self.invariant.1 _ c.args.point.now c.place_of-at.result c.requires c.place_of-at.ensures c.put_cell.ensures.others ∙ c.put_cell.ensures.cell

pub returns-clause-others : goal.returns-clause-others
returns-clause-others g c = set_others _ _ c.self.view_is c.self.invariant.1 _ c.args.point.now c.place_of-at.result c.requires c.place_of-at.ensures c.put_cell.ensures.others
