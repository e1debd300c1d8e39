use Rattle.std.proofs.Common.{sym, ap, ◌∙◌}
use Rattle.xr_types.specs.Names.{shape_over}
use Rattle.xr_defs.specs.Selecting.{is_within}
use Rattle.xr_joining.proofs.TwoAnswers.{answered}
use Rattle.xr_joining.proofs.two_arrays.of_two_arrays.Goals as goal

pub returns : goal.returns
returns c nodes is js =
    answered nodes c.args.op c.args.a.now c.args.b.now is js c.in_ok-kind.kind c.in_ok-kind.ensures c.in_ok-axes.axes c.in_ok-axes.ensures c.in_ok-made.made
    (ap (λ xs. is_within (shape_over xs)) (sym c.as_slice.ensures) ∙ sym c.is_within.ensures ∙ c.if-not-is_within.false) (c.in_ok-made.ensures nodes is js)
