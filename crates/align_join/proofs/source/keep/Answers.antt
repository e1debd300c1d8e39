use Rattle.std.proofs.Common.{◌∙◌, ap, rules, tests, filter}
use Rattle.std.proofs.lemmas.Fn.{filter_same}
use Rattle.xr_arrays.specs.Labels.{labels_of}
use Rattle.xr_operations.specs.Alignment.{holds_label}
use Rattle.align_join.proofs.source.keep.Goals as goal

pub returns : goal.returns
returns c =
    filter_same _ (holds_label (labels_of c.in_ok-index.index)) _ (λ x b f' k. search (rules, tests)) c.args.labels.items c.retain.new.self.items c.retain.ensures.filtered ∙ ap (λ l. filter (holds_label (labels_of l)) c.args.labels.items) c.in_ok-index.ensures
