use Rattle.std.proofs.Common.{refl}
use Rattle.xr_types.specs.declared.kind.DType.TheVariants as kinds
use Rattle.xr_arrays.specs.declared.typed.Cells.TheVariants.{Bool, Char, UInt8, UInt16, UInt32, UInt64}
use Rattle.cell_strips.proofs.OneType.{picked_row}
use Rattle.cell_strips.proofs.cells.pick_cells.Goals as goal

pub returns-in_ok-pick_row-in-Bool-Bool-clause-cells : goal.returns-in_ok-pick_row-in-Bool-Bool-clause-cells
returns-in_ok-pick_row-in-Bool-Bool-clause-cells c =
    picked_row Bool kinds.Bool (λ v. refl) (λ v. refl) (λ v i. refl) c.args.a.now c.in-Bool-Bool.a c.as_slice.result.now c.in-Bool-Bool.is-0 c.as_slice.ensures c.args.b.now c.in-Bool-Bool.b c.as_slice-in-Bool-Bool.result.now c.in-Bool-Bool.is-1 c.as_slice-in-Bool-Bool.ensures c.args.by.now c.in_ok-pick_row-in-Bool-Bool.field-0 c.requires.long.1 c.in_ok-pick_row-in-Bool-Bool.ensures.cells

pub returns-in_ok-pick_row-in-Char-Char-clause-cells : goal.returns-in_ok-pick_row-in-Char-Char-clause-cells
returns-in_ok-pick_row-in-Char-Char-clause-cells c =
    picked_row Char kinds.Char (λ v. refl) (λ v. refl) (λ v i. refl) c.args.a.now c.in-Char-Char.a c.as_slice-in-Char-Char.result.now c.in-Char-Char.is-0 c.as_slice-in-Char-Char.ensures c.args.b.now c.in-Char-Char.b c.as_slice-in-Char-Char-2.result.now c.in-Char-Char.is-1 c.as_slice-in-Char-Char-2.ensures c.args.by.now c.in_ok-pick_row-in-Char-Char.field-0 c.requires.long.1 c.in_ok-pick_row-in-Char-Char.ensures.cells

pub returns-in_ok-pick_row-in-UInt8-UInt8-clause-cells : goal.returns-in_ok-pick_row-in-UInt8-UInt8-clause-cells
returns-in_ok-pick_row-in-UInt8-UInt8-clause-cells c =
    picked_row UInt8 kinds.UInt8 (λ v. refl) (λ v. refl) (λ v i. refl) c.args.a.now c.in-UInt8-UInt8.a c.as_slice-in-UInt8-UInt8.result.now c.in-UInt8-UInt8.is-0 c.as_slice-in-UInt8-UInt8.ensures c.args.b.now c.in-UInt8-UInt8.b c.as_slice-in-UInt8-UInt8-2.result.now c.in-UInt8-UInt8.is-1 c.as_slice-in-UInt8-UInt8-2.ensures c.args.by.now c.in_ok-pick_row-in-UInt8-UInt8.field-0 c.requires.long.1 c.in_ok-pick_row-in-UInt8-UInt8.ensures.cells

pub returns-in_ok-pick_row-in-UInt16-UInt16-clause-cells : goal.returns-in_ok-pick_row-in-UInt16-UInt16-clause-cells
returns-in_ok-pick_row-in-UInt16-UInt16-clause-cells c =
    picked_row UInt16 kinds.UInt16 (λ v. refl) (λ v. refl) (λ v i. refl) c.args.a.now c.in-UInt16-UInt16.a c.as_slice-in-UInt16-UInt16.result.now c.in-UInt16-UInt16.is-0 c.as_slice-in-UInt16-UInt16.ensures c.args.b.now c.in-UInt16-UInt16.b c.as_slice-in-UInt16-UInt16-2.result.now c.in-UInt16-UInt16.is-1 c.as_slice-in-UInt16-UInt16-2.ensures c.args.by.now c.in_ok-pick_row-in-UInt16-UInt16.field-0 c.requires.long.1 c.in_ok-pick_row-in-UInt16-UInt16.ensures.cells

pub returns-in_ok-pick_row-in-UInt32-UInt32-clause-cells : goal.returns-in_ok-pick_row-in-UInt32-UInt32-clause-cells
returns-in_ok-pick_row-in-UInt32-UInt32-clause-cells c =
    picked_row UInt32 kinds.UInt32 (λ v. refl) (λ v. refl) (λ v i. refl) c.args.a.now c.in-UInt32-UInt32.a c.as_slice-in-UInt32-UInt32.result.now c.in-UInt32-UInt32.is-0 c.as_slice-in-UInt32-UInt32.ensures c.args.b.now c.in-UInt32-UInt32.b c.as_slice-in-UInt32-UInt32-2.result.now c.in-UInt32-UInt32.is-1 c.as_slice-in-UInt32-UInt32-2.ensures c.args.by.now c.in_ok-pick_row-in-UInt32-UInt32.field-0 c.requires.long.1 c.in_ok-pick_row-in-UInt32-UInt32.ensures.cells

pub returns-in_ok-pick_row-in-UInt64-UInt64-clause-cells : goal.returns-in_ok-pick_row-in-UInt64-UInt64-clause-cells
returns-in_ok-pick_row-in-UInt64-UInt64-clause-cells c =
    picked_row UInt64 kinds.UInt64 (λ v. refl) (λ v. refl) (λ v i. refl) c.args.a.now c.in-UInt64-UInt64.a c.as_slice-in-UInt64-UInt64.result.now c.in-UInt64-UInt64.is-0 c.as_slice-in-UInt64-UInt64.ensures c.args.b.now c.in-UInt64-UInt64.b c.as_slice-in-UInt64-UInt64-2.result.now c.in-UInt64-UInt64.is-1 c.as_slice-in-UInt64-UInt64-2.ensures c.args.by.now c.in_ok-pick_row-in-UInt64-UInt64.field-0 c.requires.long.1 c.in_ok-pick_row-in-UInt64-UInt64.ensures.cells
