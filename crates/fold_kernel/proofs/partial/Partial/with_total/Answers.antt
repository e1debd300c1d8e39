use Rattle.std.proofs.Common.{◌≡◌, SFits, ℤ, ◌≤ℤ◌, ap, subst, ◌∙◌}
use Rattle.std.specs.Int.{int_wrap, w64, w128}
use Rattle.std.proofs.lemmas.Int.{to_z-of_z}
use Rattle.xr_types.specs.Kinds.{InRange, low, high, wrap_to}
use Rattle.xr_types.specs.declared.kind.DType.{DType}
use Rattle.xr_arrays.specs.Folds.{total_kind}
use Rattle.fold_kernel.proofs.Scans.{with_sum}
use Rattle.fold_kernel.proofs.Totals.{stays, total_again}
use Rattle.fold_kernel.proofs.partial.Partial.with_total.Goals as goal

pub returns : goal.returns
returns g c =
    let total : ℤ = g.S.Elem.number c.args.total in
    let kind : DType = total_kind c.args.self.of in
    let fits : SFits w64 c.wrap_from.result = record { sfits = c.wrap_from.type_inv } in
    let fits_total : SFits w128 c.widen.result = record { sfits = c.widen.type_inv } in
    let is = to_z-of_z w64 c.wrap_from.result fits ∙ c.wrap_from.ensures ∙ ap (int_wrap w64) (to_z-of_z w128 c.widen.result fits_total ∙ c.widen.ensures.value) in
    let range : InRange g.S.Elem.kind total = (subst (λ n. low g.S.Elem.kind ≤ℤ n) c.widen.ensures.value c.widen.ensures.from, subst (λ n. n ≤ℤ high g.S.Elem.kind) c.widen.ensures.value c.widen.ensures.to) in
    with_sum c.args.self c.self.inside.kind c.self.inside.of c.self.inside.number _ c.self.inside.found total c.self.view_is c.requires.sum
    (ap (wrap_to kind) is ∙ total_again c.args.self.of total ∙ subst (λ k. wrap_to k total ≡ total) c.requires.kind (stays g.S.Elem.kind total range))
