use Rattle.std.proofs.Common.{◌∷◌, [], ◌++◌, ◌∙◌, map, refl, ap}
use Rattle.xr_aligning.proofs.Loops.{more, one_mapped}
use Rattle.xr_combination.specs.Pieces.{Piece}
use Rattle.xr_merging.specs.Members.{piece_in}
use Rattle.xr_values.specs.Carrying.{the_attrs}
use Rattle.xr_values.specs.declared.data_array.DataArray.{DataArray}
use Rattle.xr_merge.proofs.variables.push_attrs.Goals as goal

pub loop-var-preserved : goal.loop-var-preserved
loop-var-preserved c = λ nodes.
    more c.args.vars.now c.loop-var.var-index c.var-item.result c.loop-var-test.true c.var-item.is (λ vs. map (λ (p : Piece). p.attrs) (map (piece_in nodes) (map (λ v. v.now) vs))) (λ v. v.now.attrs ∷ []) (λ v vs. refl)
    (the_attrs c.args.out.now ++ map (λ (p : Piece). p.attrs) (map (piece_in nodes) (map (λ v. v.now) c.args.vars.now))) (the_attrs c.loop-var.out) (the_attrs c.push.new.self)
    (one_mapped c.loop-var.out c.push.new.self c.in_ok-with_attrs.field-0 c.in_ok-push.ensures.ok (λ (a : DataArray). a.attrs) ∙ ap (λ (a : DataArray). the_attrs c.loop-var.out ++ a.attrs ∷ []) c.in_ok-with_attrs.ensures) (c.loop-var.invariant nodes)
