use Rattle.std.proofs.Common.{sym, ap, ◌∙◌}
use Rattle.xr_encode.specs.Rows.{holds_all}
use Rattle.xr_encode.proofs.Ranges.{cells_hold}
use Rattle.xr_encode.proofs.array.array_holds.Goals as goal

pub returns-then-holds_all : goal.returns-then-holds_all
returns-then-holds_all c =
    sym (cells_hold c.args.version c.args.array.now.kind c.args.array.now.cells (ap (holds_all c.args.version) (sym c.kind-kind.ensures) ∙ sym c.holds_all.ensures ∙ c.if-holds_all.true) c.requires)
