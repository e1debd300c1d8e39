use Rattle.std.proofs.Common.{◌∙◌, ap, rules, tests, filter, not, Bool}
use Rattle.std.proofs.lemmas.Fn.{filter_same}
use Rattle.xr_types.specs.declared.attr.Attr.{Attr}
use Rattle.xr_defs.specs.Decoding.{is_char_attr}
use Rattle.xr_decode.proofs.attributes.left_without.Goals as goal

pub returns : goal.returns
returns c =
    let test : Attr → Bool = λ a. not (is_char_attr c.args.name.now a) in
    c.of.ensures ∙ filter_same _ test _ (λ x b f' k. search (rules, tests)) c.into_vec-left.result.items c.retain.new.self.items c.retain.ensures.filtered ∙ ap (filter test) c.into_vec-left.ensures
