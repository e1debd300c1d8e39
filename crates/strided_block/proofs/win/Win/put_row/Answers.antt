use Rattle.std.proofs.Common.{length, ◌∙◌}
use Rattle.strided_block.proofs.Owned.{owner_kept}
use Rattle.strided_block.proofs.Sounds.{now_run, now_sound, now_cut, row_others, row_cell}
use Rattle.strided_block.proofs.win.Win.put_row.Goals as goal

pub put_run-requires : goal.put_run-requires
put_run-requires g c = (c.self.invariant.0.base, now_run _ _ c.self.view_is c.self.invariant.1 c.args.point.now c.place_of-at.result c.place_of-at.ensures (length c.args.cells.now) c.requires)

pub invariant_of-self : goal.invariant_of-self
invariant_of-self g c = (owner_kept _ _ _ _ _ _ _ c.self.invariant.0 c.put_run.ensures.block c.put_run.ensures.others, now_sound _ _ c.self.view_is c.self.invariant.1 _ _ _ c.put_run.ensures.others)

pub returns-clause-place : goal.returns-clause-place
returns-clause-place g c = now_cut _ _ c.self.view_is c.self.invariant.1 _ _ _ c.put_run.ensures.others c.put_run.ensures.block

pub returns-clause-written : goal.returns-clause-written
returns-clause-written g c = λ j x lt. row_cell _ _ c.self.view_is c.self.invariant.1 _ c.args.point.now (length c.args.cells.now) c.place_of-at.result c.requires c.place_of-at.ensures c.put_run.ensures.others j lt ∙ c.put_run.ensures.cells j x lt

pub returns-clause-others : goal.returns-clause-others
returns-clause-others g c = row_others _ _ c.self.view_is c.self.invariant.1 _ c.args.point.now (length c.args.cells.now) c.place_of-at.result c.requires c.place_of-at.ensures c.put_run.ensures.others
