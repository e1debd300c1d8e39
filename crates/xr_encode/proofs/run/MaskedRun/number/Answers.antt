use Rattle.std.proofs.Common.{SFits, ◌∙◌, ap, sym, arith}
use Rattle.std.proofs.lemmas.Int.{to_z-of_z}
use mir.Syntax.{w128}
use Rattle.xr_encode.proofs.Runs.{masked_length, read_there, hidden_there}
use Rattle.xr_encode.proofs.run.MaskedRun.number.Goals as goal

pub bounds-self-i-then-self-i-eq0 : goal.bounds-self-i-then-self-i-eq0
bounds-self-i-then-self-i-eq0 g c = let long = masked_length g.T.Elem.number c.args.self.cells.now c.args.self.mask.now in omega (arith, c.requires, long)

pub returns-then-self-i-eq0 : goal.returns-then-self-i-eq0
returns-then-self-i-eq0 g c =
    let fits : SFits w128 c.widen.result = record { sfits = c.widen.type_inv } in
    read_there g.T.Elem.number c.args.self.cells.now c.args.self.mask.now c.args.i c.index-self-i.result _ 0 (to_z-of_z w128 c.widen.result fits ∙ c.widen.ensures.value ∙ ap g.T.Elem.number (sym c.index-self-i.is)) c.index-self-i.is c.requires c.if-self-i-eq0.true

pub returns-else-self-i-eq0 : goal.returns-else-self-i-eq0
returns-else-self-i-eq0 g c =
    let long = masked_length g.T.Elem.number c.args.self.cells.now c.args.self.mask.now in
    hidden_there g.T.Elem.number c.args.self.cells.now c.args.self.mask.now c.args.i 0 (omega (arith, c.requires, long)) (omega (arith, c.requires, long)) c.if-self-i-eq0.false
