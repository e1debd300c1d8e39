use Rattle.xr_formulas.proofs.Common.{ap, common_kind, sym, ◌∙◌}
use Rattle.xr_formulas.proofs.Sorts.{number_placed}
use Rattle.xr_formulas.proofs.operators.with_number.Goals as goal

pub with_literal-requires : goal.with_literal-requires
with_literal-requires c =
    let e = ap (common_kind c.args.op c.args.on.now.kind) (sym c.number_kind.ensures) ∙ c.in_ok-kind.ensures in
    let takes = number_placed c.args.side c.args.op c.args.on.now.kind c.in_ok-kind.kind _ e c.in_ok-check_fits.ensures in
    record { placed = takes.0; kind = takes.1 }
