use Rattle.xr_formulas.proofs.Common.{AreAttributes, ap, array_in, subst, sym, without_fills, ◌∙◌, ◌≡◌}
use Rattle.xr_formulas.proofs.Answered.{attributes_left}
use Rattle.xr_formulas.proofs.cellwise.of_method.Goals as goal

pub returns : goal.returns
returns c nodes is =
    let left : c.in_ok-attrs.attrs ≡ without_fills c.args.on.now.attrs = c.in_ok-attrs.ensures ∙ ap without_fills c.as_slice.ensures in
    rw left at (c.in_ok-made.ensures nodes is (subst AreAttributes (sym left) (attributes_left (array_in nodes c.args.on.now) is.formed)))
