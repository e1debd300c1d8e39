use Rattle.std.proofs.Common.{◌∙◌}
use Rattle.xr_defs.specs.Encoding.{text_cells}
use Rattle.xr_encode.specs.Outlines.{without_cells}
use Rattle.xr_encode.proofs.Written.{plain_fit, told_unwritten, told_written, texts_checked, texts_written}
use Rattle.xr_encode.proofs.plain.texts_var.Goals as goal

pub var_with-requires : goal.var_with-requires
var_with-requires c = plain_fit c.args.options.now (without_cells c.args.outline.now) c.requires.plain

pub returns-then-not-small : goal.returns-then-not-small
returns-then-not-small c =
    told_unwritten c.args.small c.args.dims.now c.args.options.now c.args.outline.now (text_cells c.args.texts.now) c.in_ok-var_with.field-0 c.new.result
    c.if-not-small.true c.requires.plain (texts_checked c.args.options.now c.args.outline.now c.args.texts.now c.requires.kind c.read_texts.ensures) c.new.ensures c.in_ok-var_with.ensures

pub var_with-requires-2 : goal.var_with-requires-2
var_with-requires-2 c = plain_fit c.args.options.now (without_cells c.args.outline.now) c.requires.plain

pub returns : goal.returns
returns c =
    told_written c.args.small c.args.dims.now c.args.options.now c.args.outline.now (text_cells c.args.texts.now) c.in_ok-var_with-2.field-0 c.in_ok-raw.raw
    c.if-not-small.false c.requires.plain (texts_checked c.args.options.now c.args.outline.now c.args.texts.now c.requires.kind c.read_texts.ensures)
    (c.in_ok-raw.ensures ∙ texts_written c.args.options.now c.args.outline.now c.args.texts.now c.requires.kind c.read_texts.ensures) c.in_ok-var_with-2.ensures
