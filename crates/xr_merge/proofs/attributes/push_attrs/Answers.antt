use Rattle.std.proofs.Common.{◌≡◌, ◌∷◌, ◌++◌, ◌∙◌, [], ap, map, subst, sym, take}
use Rattle.std.proofs.lemmas.List.{append-nil, take_all, take_more}
use Rattle.xr_values.specs.Carrying.{the_attrs}
use Rattle.xr_values.specs.Meaning.{meaning}
use Rattle.xr_merge.specs.Attributes.{sets_attrs}
use Rattle.xr_merge.proofs.Attrs.{attrs_behind, attrs_none}
use Rattle.xr_merge.proofs.attributes.push_attrs.Goals as goal

pub loop-value-init : goal.loop-value-init
loop-value-init c = λ nodes. sym (ap (λ lists. the_attrs c.args.out.now ++ lists) attrs_none ∙ append-nil (the_attrs c.args.out.now))

pub loop-value-preserved : goal.loop-value-preserved
loop-value-preserved c = λ nodes.
    attrs_behind nodes (the_attrs c.args.out.now) (the_attrs c.loop-value.out) (the_attrs c.add_attrs.new.out) (take c.loop-value.value-index c.args.values.now) c.value-item.result (c.loop-value.invariant nodes) (c.in_ok-add_attrs.ensures nodes)
    ∙ ap (λ vs. the_attrs c.args.out.now ++ sets_attrs (map (meaning nodes) vs))
    (sym (take_more c.args.values.now c.loop-value.value-index c.value-item.result c.loop-value-test.true ∙ ap (λ v. take c.loop-value.value-index c.args.values.now ++ v ∷ []) (sym c.value-item.is)))

pub returns : goal.returns
returns c = λ nodes.
    subst (λ vs. the_attrs c.loop-value.out ≡ the_attrs c.args.out.now ++ sets_attrs (map (meaning nodes) vs)) (take_all c.loop-value.value-index c.args.values.now c.loop-value-test.false) (c.loop-value.invariant nodes)
