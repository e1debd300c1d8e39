use Rattle.std.proofs.Common.{arith}
use Rattle.xr_encode.proofs.Runs.{masked_length}
use Rattle.xr_encode.proofs.run.MaskedRun.len.Goals as goal

pub returns-then-self : goal.returns-then-self
returns-then-self g c = let long = masked_length g.T.Elem.number c.args.self.cells.now c.args.self.mask.now in omega arith

pub returns-else-self : goal.returns-else-self
returns-else-self g c = let long = masked_length g.T.Elem.number c.args.self.cells.now c.args.self.mask.now in omega arith
