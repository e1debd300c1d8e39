use Rattle.std.proofs.Common.{◌≡◌, ◌∙◌, pos, ap, sym, subst, arith, to_z, of_z}
use Rattle.std.proofs.lemmas.Int.{to_z-of_z, ints}
use Rattle.std.specs.Int.{w128}
use Rattle.xr_types.specs.Kinds.{InRange}
use Rattle.xr_arrays.specs.Arrays.{IsCell}
use Rattle.plan_core.specs.Arrangements.{filling}
use Rattle.plan_core.proofs.Arrangements.{wrapped_in, zero_in}
use Rattle.plan_whole.proofs.numbers.narrow.Goals as goal

pub returns-in-Some : goal.returns-in-Some
returns-in-Some g c =
    let kind = g.T.Elem.kind in
    let n = c.in-Some.number in
    let inside : InRange kind n = subst (IsCell kind) c.in-Some.is c.requires in
    let same : to_z w128 (of_z w128 n) ≡ n = to_z-of_z w128 n (omega (arith, ints)) in
    ap g.T.Elem.number (c.wrap_from.ensures ∙ ap g.T.Elem.of same) ∙ g.met.T.Elem.number_of n ∙ wrapped_in kind n inside ∙ ap filling (sym c.in-Some.is)

pub returns-in-None : goal.returns-in-None
returns-in-None g c =
    let kind = g.T.Elem.kind in
    ap g.T.Elem.number c.wrap_from-in-None.ensures ∙ g.met.T.Elem.number_of (pos 0) ∙ wrapped_in kind (pos 0) (zero_in kind) ∙ ap filling (sym c.in-None.is)
