use Rattle.std.proofs.Common.{◌++◌, length, sym, ap, ◌∙◌}
use Rattle.std.specs.List.{flat_map}
use Rattle.std.proofs.lemmas.List.{take_all}
use Rattle.xr_files.specs.Canonical.{attr_text}
use Rattle.cdf_writer.specs.Sizes.{list_front}
use Rattle.cdf_writer.proofs.Lengths.{flat_step, list_is}
use Rattle.cdf_writer.proofs.text.put_attrs.Goals as goal

pub loop-attr-preserved : goal.loop-attr-preserved
loop-attr-preserved c =
    let attrs = c.args.attrs.now in
    let version = c.args.version in
    flat_step (attr_text version) attrs c.loop-attr.attr-index c.attr-item.result c.args.out.now.items (list_front version 12 (length attrs)) c.loop-attr.out.items c.put_attr.new.out.items c.loop-attr-test.true (sym c.attr-item.is) c.loop-attr.invariant c.in_ok-put_attr.ensures

pub returns : goal.returns
returns c =
    let attrs = c.args.attrs.now in
    let version = c.args.version in
    let front = list_front version 12 (length attrs) in
    c.loop-attr.invariant
    ∙ ap (λ l. c.args.out.now.items ++ (front ++ flat_map (attr_text version) l)) (take_all c.loop-attr.attr-index attrs c.loop-attr-test.false)
    ∙ ap (λ l. c.args.out.now.items ++ l) (sym (list_is version 12 (attr_text version) attrs))
