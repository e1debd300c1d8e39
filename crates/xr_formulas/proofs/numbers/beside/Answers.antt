use Rattle.xr_formulas.proofs.Common.{Axis, FitsSigned, List, length, rules, subst, sym, to_z-of_z, w128, ◌≤◌}
use Rattle.xr_formulas.proofs.Pairs.{beside_makes, few_axes}
use Rattle.xr_formulas.proofs.numbers.beside.Goals as goal

pub returns : goal.returns
returns c nodes own is over are =
    let few = subst (λ (axes : List Axis). length axes ≤ 16) (sym c.as_slice.ensures) (few_axes nodes c.args.on.now is) in
    let fits : FitsSigned w128 c.args.placed.number = search rules in
    rw (c.in_ok-made.ensures, c.formula_beside-formula.ensures, c.in_ok-number.ensures few, c.as_slice.ensures, c.result_kind-result.ensures, to_z-of_z w128 c.args.placed.number fits)
    (beside_makes nodes c.args.on.now c.args.cells c.args.kind c.args.placed c.args.masked c.args.attrs own c.requires.two c.requires.suits c.requires.range c.requires.fills is over are)
