use Rattle.std.proofs.Common.{◌∙◌, ap, rules, tests, filter}
use Rattle.std.proofs.lemmas.Fn.{filter_same}
use Rattle.xr_decode.specs.Held.{stays}
use Rattle.xr_decode.proofs.kept.kept_axes.Goals as goal

pub returns : goal.returns
returns c =
    let test = stays c.args.coords.now c.args.vars.now in
    c.of.ensures ∙ filter_same _ test _ (λ x b f' k. search (rules, tests)) c.into_vec-kept.result.items c.retain.new.self.items c.retain.ensures.filtered ∙ ap (filter test) c.into_vec-kept.ensures
