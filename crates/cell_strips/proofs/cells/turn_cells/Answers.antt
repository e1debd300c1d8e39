use Rattle.std.proofs.Common.{pos, refl}
use Rattle.xr_types.specs.declared.kind.DType.TheVariants as kinds
use Rattle.xr_arrays.specs.declared.typed.Cells.TheVariants.{UInt8}
use Rattle.cell_strips.proofs.OneType.{turned_bytes, of_one_row}
use Rattle.cell_strips.proofs.cells.turn_cells.Goals as goal

pub returns-in_ok-turn_row-in-UInt8-clause-cells : goal.returns-in_ok-turn_row-in-UInt8-clause-cells
returns-in_ok-turn_row-in-UInt8-clause-cells c =
    of_one_row UInt8 kinds.UInt8 (λ v. refl) (λ v. refl) (λ v i. refl) c.args.a.now c.in-UInt8.a c.as_slice-in-UInt8.result.now c.in-UInt8.is c.as_slice-in-UInt8.ensures c.args.op c.in_ok-turn_row-in-UInt8.field-0 (λ m. turned_bytes c.args.op (pos m)) c.in_ok-turn_row-in-UInt8.ensures.cells
