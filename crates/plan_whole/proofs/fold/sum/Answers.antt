use Rattle.std.proofs.Common.{◌∙◌, ◌∷◌, [], Some, ap, arith, rules}
use Rattle.std.specs.Int.{w64, w128}
use Rattle.std.proofs.lemmas.Int.{to_z-of_z, ints}
use Rattle.xr_types.specs.Kinds.{wrap_to}
use Rattle.xr_arrays.specs.Folds.{total_kind}
use Rattle.plan_core.proofs.Takes.{if_ok}
use Rattle.plan_whole.proofs.FoldedCells.{total_here}
use Rattle.plan_whole.proofs.fold.sum.Goals as goal

pub returns : goal.returns
returns c =
    if_ok c.array_of.result _ _
    (λ b is. is ∙ (total_here c.total_kind.result c.kind.result c.kind-2.result c.args.a.now c.as_total.result c.total.result c.new.result _ c.total_kind.ensures c.kind.ensures
    (c.as_total.ensures ∙ ap (wrap_to (total_kind c.kind-2.result)) (to_z-of_z w64 c.total.result (omega (arith, ints)))) c.kind-2.ensures c.total.ensures.sum c.new.ensures (ap (λ n. Some n ∷ []) (to_z-of_z w128 c.as_total.result (search rules)))).is)
    c.array_of.ensures
