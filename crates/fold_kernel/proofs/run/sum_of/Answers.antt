use Rattle.std.proofs.Common.{◌≡◌, SFits, pos, rules, ap, ◌∙◌}
use Rattle.std.specs.Int.{w64}
use Rattle.std.proofs.lemmas.Int.{to_z-of_z}
use Rattle.fold_kernel.proofs.Runs.{total_filled, zero_left}
use Rattle.fold_kernel.proofs.run.sum_of.Goals as goal

pub returns : goal.returns
returns g c first =
    let fits : SFits w64 c.gather.result.0 = search rules in
    let kept = to_z-of_z w64 c.gather.result.0 fits in
    let zero = c.wrap_from-zero.result in
    let none : g.T.Elem.number zero ≡ pos 0 = ap g.T.Elem.number c.wrap_from-zero.ensures ∙ g.met.T.Elem.number_of (pos 0) ∙ zero_left g.T.Elem.kind in
    kept ∙ ap (λ s. s.0) c.gather.ensures ∙ total_filled g.T.Elem.number first zero (g.R.Row.items c.args.row) none
