use Rattle.std.proofs.Common.{sym, ◌∙◌}
use Rattle.plan_core.proofs.Takes.{taking_shows_all}
use Rattle.arrangement.proofs.taking.TakingArrangement.has_holes.Goals as goal

pub returns : goal.returns
returns c e =
    let t = c.args.self.now in
    taking_shows_all t.drops t.shape.now t.axis t.from.now c.requires.axis_is c.requires.one (sym c.has_hole.ensures ∙ e)
