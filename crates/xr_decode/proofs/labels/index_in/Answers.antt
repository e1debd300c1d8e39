use Rattle.std.proofs.Common.{◌≡◌, List, Some, option_map, sym, ap, ◌∙◌}
use Rattle.xr_types.specs.declared.attr.Attr.{Attr}
use Rattle.xr_types.specs.declared.axis.Labels.{Labels}
use Rattle.xr_types.specs.declared.axis.LabelList.{LabelList}
use Rattle.xr_defs.specs.Decoding.{labels_in, unlisted, uncoded}
use Rattle.xr_decode.proofs.labels.index_in.Goals as goal

pub returns-in_ok-attrs-in-Some : goal.returns-in_ok-attrs-in-Some
returns-in_ok-attrs-in-Some c =
    let v = c.args.var.now in
    let list = c.in-Some.list in
    let made : LabelList → List Attr → Labels = λ l attrs. record { list = l; attrs = attrs } in
    let attrs : c.uncoded-attrs.result ≡ uncoded list (unlisted v.attrs) = cc (c.uncoded-attrs.ensures, c.in_ok-attrs-in-Some.ensures, c.attrs.ensures) in
    let held : labels_in c.args.source.now v ≡ Some list = sym c.in_ok-list.ensures ∙ c.in-Some.is in
    ap (λ kept. Some (made list kept)) attrs ∙ sym (ap (option_map (λ l. made l (uncoded l (unlisted v.attrs)))) held)
