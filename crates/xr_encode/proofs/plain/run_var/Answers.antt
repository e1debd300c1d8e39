use Rattle.std.proofs.Common.{pos, sym, ap, ◌∙◌}
use Rattle.std.specs.List.{list_all}
use Rattle.xr_defs.specs.Encoding.{holds_cell}
use Rattle.xr_encode.specs.Rows.{cells_bytes}
use Rattle.xr_encode.specs.Outlines.{without_cells}
use Rattle.xr_encode.proofs.Ranges.{held_unmasked}
use Rattle.xr_encode.proofs.Written.{plain_fit, told_fault, told_unwritten, told_written, seen_written}
use Rattle.xr_encode.proofs.plain.run_var.Goals as goal

pub returns-then-not-are_held : goal.returns-then-not-are_held
returns-then-not-are_held g c =
    let cells = g.R.Run.cells c.args.run in
    told_fault c.args.small c.args.dims.now c.args.options.now c.args.outline.now cells c.requires.plain (sym (c.are_held.ensures ∙ ap (λ t. list_all (holds_cell t) cells) c.type_of-kind.ensures) ∙ c.if-not-are_held.true)

pub var_with-requires : goal.var_with-requires
var_with-requires g c = plain_fit c.args.options.now (without_cells c.args.outline.now) c.requires.plain

pub returns-then-not-small : goal.returns-then-not-small
returns-then-not-small g c =
    let cells = g.R.Run.cells c.args.run in
    told_unwritten c.args.small c.args.dims.now c.args.options.now c.args.outline.now cells c.in_ok-var_with.field-0 c.new.result
    c.if-not-small.true c.requires.plain (sym (c.are_held.ensures ∙ ap (λ t. list_all (holds_cell t) cells) c.type_of-kind.ensures) ∙ c.if-not-are_held.false) c.new.ensures c.in_ok-var_with.ensures

pub bytes_in-requires : goal.bytes_in-requires
bytes_in-requires g c = held_unmasked c.type_of-kind.result (pos 0) (g.R.Run.cells c.args.run) (sym c.are_held.ensures ∙ c.if-not-are_held.false) c.requires.seen

pub var_with-requires-2 : goal.var_with-requires-2
var_with-requires-2 g c = plain_fit c.args.options.now (without_cells c.args.outline.now) c.requires.plain

pub returns : goal.returns
returns g c =
    let cells = g.R.Run.cells c.args.run in
    told_written c.args.small c.args.dims.now c.args.options.now c.args.outline.now cells c.in_ok-var_with-2.field-0 c.in_ok-raw.raw
    c.if-not-small.false c.requires.plain (sym (c.are_held.ensures ∙ ap (λ t. list_all (holds_cell t) cells) c.type_of-kind.ensures) ∙ c.if-not-are_held.false)
    (c.in_ok-raw.ensures ∙ ap (λ t. cells_bytes t (pos 0) cells) c.type_of-kind.ensures ∙ seen_written c.args.options.now c.args.outline.now cells c.requires.seen) c.in_ok-var_with-2.ensures
