use Rattle.std.proofs.Common.{◌∙◌, ◌∷◌, [], Some, ap, arith, rules}
use Rattle.std.specs.Int.{w64, w128}
use Rattle.std.proofs.lemmas.Int.{to_z-of_z, ints}
use Rattle.xr_types.specs.Kinds.{wrap_to}
use Rattle.xr_arrays.specs.Arrays.{Array}
use Rattle.xr_arrays.specs.Folds.{total_kind}
use Rattle.plan_core.proofs.Takes.{if_ok}
use Rattle.plan_whole.proofs.FoldedCells.{total_here, total_in}
use Rattle.plan_whole.proofs.fold.sum_strips.Goals as goal

pub array_of-requires-clause-range : goal.array_of-requires-clause-range
array_of-requires-clause-range g c = total_in c.total_kind.result c.kind-kind.result c.as_total.result _ _ c.total_kind.ensures c.as_total.ensures (to_z-of_z w128 c.as_total.result (search rules))

pub returns : goal.returns
returns g c =
    let kind = c.kind-kind.ensures ∙ ap (λ (a : Array). a.kind) c.in_ok-none.ensures in
    if_ok c.array_of.result _ _
    (λ b is. is ∙ (total_here c.total_kind.result c.kind-kind.result c.kind-kind.result (g.S.Strips.whole c.args.source.now) c.as_total.result c.in_ok-total.total c.new.result _ c.total_kind.ensures kind
    (c.as_total.ensures ∙ ap (wrap_to (total_kind c.kind-kind.result)) (to_z-of_z w64 c.in_ok-total.total (omega (arith, ints)))) kind c.in_ok-total.ensures c.new.ensures (ap (λ n. Some n ∷ []) (to_z-of_z w128 c.as_total.result (search rules)))).is)
    c.array_of.ensures
