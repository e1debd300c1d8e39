use Rattle.std.proofs.Common.{◌-◌, ◌∙◌, ap, sym, length}
use Rattle.std.proofs.lemmas.List.FromFn.{length-range_with_len}
use Rattle.xr_arrays.specs.FeedPositions.{listed}
use Rattle.xr_grouping.proofs.fills.count.Goals as goal

pub returns-in-Range : goal.returns-in-Range
returns-in-Range c = c.saturating_sub.ensures ∙ sym (length-range_with_len c.in-Range.from (c.in-Range.to - c.in-Range.from)) ∙ ap (λ p. length (listed p)) (sym c.in-Range.is)
