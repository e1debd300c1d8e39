use Rattle.std.proofs.Common.{◌∙◌, ap, sym}
use Rattle.xr_chunking.specs.Grids.{has_piece}
use Rattle.xr_chunking.proofs.Cutting.{cut_fits, pushed}
use Rattle.xr_chunking.proofs.grids.cut.Goals as goal

pub push-requires : goal.push-requires
push-requires c = cut_fits c.args.plan.now c.args.node c.args.pieces c.requires

pub returns-in_ok-cut-clause-cut : goal.returns-in_ok-cut-clause-cut
returns-in_ok-cut-clause-cut c =
    pushed c.args.plan.now c.push.new.self c.args.node c.args.pieces c.in_ok-cut.cut (sym (c.has_piece.ensures ∙ ap has_piece c.as_slice.ensures) ∙ c.if-has_piece.true) c.in_ok-cut.ensures.ok
