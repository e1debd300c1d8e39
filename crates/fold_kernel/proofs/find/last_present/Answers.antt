use Rattle.std.proofs.Common.{arith, ◌∙◌, SFits}
use Rattle.std.specs.Int.{w128}
use Rattle.std.proofs.lemmas.Int.{to_z-of_z}
use Rattle.fold_kernel.proofs.Finds.{found_last, none_last}
use Rattle.fold_kernel.proofs.find.last_present.Goals as goal

pub returns-in-Some : goal.returns-in-Some
returns-in-Some g c =
    let fits : SFits w128 c.widen.result = record { sfits = c.widen.type_inv } in
    found_last g.T.Elem.number c.args.first c.loop-left.left (g.R.Row.items c.args.row) c.in-Some.cell _ c.loop-left-test.true c.loop-left.invariant.inside c.in-Some.ensures (to_z-of_z w128 _ fits ∙ c.widen.ensures.value)
    ∙ c.loop-left.invariant.same

pub loop-left-preserved : goal.loop-left-preserved
loop-left-preserved g c = record {
  inside = omega arith;
  same = none_last g.T.Elem.number c.args.first c.loop-left.left (g.R.Row.items c.args.row) c.loop-left-test.true c.loop-left.invariant.inside c.in_default.ensures ∙ c.loop-left.invariant.same;
}
