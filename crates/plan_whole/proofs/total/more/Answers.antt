use Rattle.std.proofs.Common.{◌≡◌, ◌∙◌, ap, arith, ◌+ℤ◌, to_z, of_z}
use Rattle.std.proofs.lemmas.Int.{to_z-of_z, ints}
use Rattle.std.specs.Int.{int_wrap, w64, w128}
use Rattle.plan_core.proofs.FoldRows.{sum_step}
use Rattle.plan_whole.proofs.total.more.Goals as goal

pub returns : goal.returns
returns g c rest =
    let n = g.T.Elem.number c.args.cell in
    let before : to_z w64 (of_z w64 c.args.sum) ≡ c.args.sum = to_z-of_z w64 c.args.sum (omega (arith, ints)) in
    let number : to_z w128 (of_z w128 c.widen.result) ≡ n = to_z-of_z w128 c.widen.result (omega (arith, ints)) ∙ c.widen.ensures.value in
    let wrapped : to_z w64 (of_z w64 c.wrap_from.result) ≡ int_wrap w64 n = to_z-of_z w64 c.wrap_from.result (omega (arith, ints)) ∙ c.wrap_from.ensures ∙ ap (int_wrap w64) number in
    ap (λ x. int_wrap w64 (x +ℤ rest)) (to_z-of_z w64 c.added.result (omega (arith, ints)) ∙ c.added.ensures ∙ ap (λ k. int_wrap w64 (k +ℤ to_z w64 (of_z w64 c.wrap_from.result))) before ∙ ap (λ k. int_wrap w64 (c.args.sum +ℤ k)) wrapped) ∙ sum_step c.args.sum n rest
