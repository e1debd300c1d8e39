use Rattle.std.proofs.Common.{◌∷◌, [], ◌++◌, ◌∙◌, map, refl, ap}
use Rattle.xr_aligning.proofs.Loops.{more, one_mapped}
use Rattle.xr_defs.specs.Values as of
use Rattle.xr_values.specs.Carrying.{the_attrs}
use Rattle.xr_values.specs.Stands.{dataset_in}
use Rattle.xr_values.specs.declared.data_array.DataArray.{DataArray}
use Rattle.xr_concat.proofs.call.push_attrs.Goals as goal

pub loop-set-preserved : goal.loop-set-preserved
loop-set-preserved c = λ nodes.
    more c.args.sets.now c.loop-set.set-index c.set-item.result c.loop-set-test.true c.set-item.is (λ ss. map (λ (s : of.Dataset). s.attrs) (map (dataset_in nodes) ss)) (λ s. s.attrs ∷ []) (λ s ss. refl)
    (the_attrs c.args.out.now ++ map (λ (s : of.Dataset). s.attrs) (map (dataset_in nodes) c.args.sets.now)) (the_attrs c.loop-set.out) (the_attrs c.push.new.self)
    (one_mapped c.loop-set.out c.push.new.self c.in_ok-with_attrs.field-0 c.in_ok-push.ensures.ok (λ (a : DataArray). a.attrs) ∙ ap (λ (a : DataArray). the_attrs c.loop-set.out ++ a.attrs ∷ []) c.in_ok-with_attrs.ensures) (c.loop-set.invariant nodes)
