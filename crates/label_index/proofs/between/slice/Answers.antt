use Rattle.std.proofs.Common.{◌≡◌, ◌&&◌, ◌||◌, is_some, Ok, false, sym, ap, ◌∙◌}
use Rattle.std.specs.Option.{option_copied}
use Rattle.xr_arrays.specs.Labels.{labels_of, is_neither}
use Rattle.label_index.specs.Ranks.{direction}
use Rattle.label_index.proofs.Cutting.{ordered_ok, between_cuts, some_copied}
use Rattle.label_index.proofs.between.slice.Goals as goal

pub returns-clause-positions : goal.returns-clause-positions
returns-clause-positions c =
    let open_ends : (is_neither (direction c.args.ranks.now) && (is_some (option_copied c.args.from) || is_some (option_copied c.args.to))) ≡ false =
    rw (some_copied c.args.from, some_copied c.args.to) (sym c.lacks_order.ensures ∙ c.if-lacks_order.false) in
    ordered_ok (labels_of c.args.list.now) (option_copied c.args.from) (option_copied c.args.to) (direction c.args.ranks.now) c.requires.way open_ends
    ∙ ap Ok (between_cuts (labels_of c.args.list.now) (option_copied c.args.from) (option_copied c.args.to) (direction c.args.ranks.now) c.start_of-low.result c.end_of-high.result c.requires.way c.end_of-high.ensures.bound c.start_of-low.ensures.cut c.end_of-high.ensures.cut ∙ sym c.span.ensures.positions)
