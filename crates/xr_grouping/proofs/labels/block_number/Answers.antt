use Rattle.std.proofs.Common.{rules}
use Rattle.xr_grouping.proofs.Labelled.{greatest_label, least_label}
use Rattle.xr_grouping.proofs.labels.block_number.Goals as goal

pub returns-in-Min : goal.returns-in-Min
returns-in-Min c =
    let e = least_label c.args.fold c.args.kind c.args.numbers.now c.args.from c.args.width c.least_in.result c.number_or_zero.result c.in-Min.is c.least_in.ensures c.number_or_zero.ensures in
    search rules

pub returns-in-Max : goal.returns-in-Max
returns-in-Max c =
    let e = greatest_label c.args.fold c.args.kind c.args.numbers.now c.args.from c.args.width c.greatest_in.result c.number_or_zero-in-Max.result c.in-Max.is c.greatest_in.ensures c.number_or_zero-in-Max.ensures in
    search rules
