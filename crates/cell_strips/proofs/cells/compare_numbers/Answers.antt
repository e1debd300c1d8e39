use Rattle.std.proofs.Common.{pos, refl}
use Rattle.xr_types.specs.declared.kind.DType.TheVariants as kinds
use Rattle.xr_arrays.specs.declared.typed.Cells.TheVariants.{Bool, UInt8}
use Rattle.plan_core.proofs.Takes.{if_ok}
use Rattle.cell_strips.proofs.OneType.{of_bytes, any_order, of_two_rows}
use Rattle.cell_strips.proofs.cells.compare_numbers.Goals as goal

pub returns-in-Bool-Bool-clause-cells : goal.returns-in-Bool-Bool-clause-cells
returns-in-Bool-Bool-clause-cells c =
    if_ok c.compare_row.result _ _ (λ v h. of_two_rows Bool kinds.Bool (λ v. refl) (λ v. refl) (λ v i. refl) c.args.a.now c.in-Bool-Bool.a c.as_slice.result.now c.in-Bool-Bool.is-0 c.as_slice.ensures c.args.b.now c.in-Bool-Bool.b c.as_slice-in-Bool-Bool.result.now c.in-Bool-Bool.is-1 c.as_slice-in-Bool-Bool.ensures c.args.op v (λ m n. any_order c.args.op (pos m) (pos n) c.requires.op) h) c.compare_row.ensures.cells

pub returns-in-UInt8-UInt8-clause-cells : goal.returns-in-UInt8-UInt8-clause-cells
returns-in-UInt8-UInt8-clause-cells c =
    if_ok c.compare_row-in-UInt8-UInt8.result _ _ (λ v h. of_two_rows UInt8 kinds.UInt8 (λ v. refl) (λ v. refl) (λ v i. refl) c.args.a.now c.in-UInt8-UInt8.a c.as_slice-in-UInt8-UInt8.result.now c.in-UInt8-UInt8.is-0 c.as_slice-in-UInt8-UInt8.ensures c.args.b.now c.in-UInt8-UInt8.b c.as_slice-in-UInt8-UInt8-2.result.now c.in-UInt8-UInt8.is-1 c.as_slice-in-UInt8-UInt8-2.ensures c.args.op v (λ m n. of_bytes c.args.op (pos m) (pos n)) h) c.compare_row-in-UInt8-UInt8.ensures.cells
