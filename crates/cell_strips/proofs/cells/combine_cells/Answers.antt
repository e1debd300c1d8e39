use Rattle.std.proofs.Common.{pos, refl, ap}
use Rattle.xr_types.specs.declared.kind.DType.TheVariants as kinds
use Rattle.xr_arrays.specs.declared.typed.Cells.TheVariants.{Bool, UInt8}
use Rattle.xr_arrays.specs.Arrays.{kind_of}
use Rattle.cell_strips.proofs.OneType.{of_bytes, joined_truths, of_two_rows, bitwise_left}
use Rattle.cell_strips.proofs.cells.combine_cells.Goals as goal

pub returns-in_ok-join_row-in-Bool-Bool-clause-cells : goal.returns-in_ok-join_row-in-Bool-Bool-clause-cells
returns-in_ok-join_row-in-Bool-Bool-clause-cells c =
    of_two_rows Bool kinds.Bool (λ v. refl) (λ v. refl) (λ v i. refl) c.args.a.now c.in-Bool-Bool.a c.as_slice.result.now c.in-Bool-Bool.is-0 c.as_slice.ensures c.args.b.now c.in-Bool-Bool.b c.as_slice-in-Bool-Bool.result.now c.in-Bool-Bool.is-1 c.as_slice-in-Bool-Bool.ensures c.args.op c.in_ok-join_row-in-Bool-Bool.field-0 (λ m n. joined_truths c.args.op m n (bitwise_left c.args.op c.requires.op (λ h. c.requires.integers h (ap kind_of c.in-Bool-Bool.is-0)))) c.in_ok-join_row-in-Bool-Bool.ensures.cells

pub returns-in_ok-combine_row-in-UInt8-UInt8-clause-cells : goal.returns-in_ok-combine_row-in-UInt8-UInt8-clause-cells
returns-in_ok-combine_row-in-UInt8-UInt8-clause-cells c =
    of_two_rows UInt8 kinds.UInt8 (λ v. refl) (λ v. refl) (λ v i. refl) c.args.a.now c.in-UInt8-UInt8.a c.as_slice-in-UInt8-UInt8.result.now c.in-UInt8-UInt8.is-0 c.as_slice-in-UInt8-UInt8.ensures c.args.b.now c.in-UInt8-UInt8.b c.as_slice-in-UInt8-UInt8-2.result.now c.in-UInt8-UInt8.is-1 c.as_slice-in-UInt8-UInt8-2.ensures c.args.op c.in_ok-combine_row-in-UInt8-UInt8.field-0 (λ m n. of_bytes c.args.op (pos m) (pos n)) c.in_ok-combine_row-in-UInt8-UInt8.ensures.cells
