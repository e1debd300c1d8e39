use Rattle.std.proofs.Common.{◌∙◌, pos, map, ap, refl, option_map}
use Rattle.xr_arrays.specs.declared.typed.Cells.TheVariants.{Bool, Char, Int8, Int16, Int32, Int64, UInt8, UInt16, UInt32, UInt64}
use Rattle.xr_arrays.specs.Nodes.{scanned}
use Rattle.xr_types.specs.declared.operation.FoldKind.TheVariants.{Sum}
use Rattle.plan_core.proofs.Arrangements.{parts_of}
use Rattle.plan_core.proofs.Takes.{if_ok}
use Rattle.row_folds.proofs.Parts.{same_numbers, slice_is}
use Rattle.row_folds.proofs.scans.scan_typed.Goals as goal

pub returns-in-Bool : goal.returns-in-Bool
returns-in-Bool c =
    let parts = parts_of (λ m. m.now) c.args.typed.now c.args.typed.now c.parts.result.0.now c.parts.result.1 refl c.parts.ensures.kind c.parts.ensures.range c.parts.ensures.cells c.parts.ensures.whole c.parts.ensures.mask in
    let s = slice_is c.args.typed.now c.parts.result.0.now (Bool c.in-Bool.v) (option_map (λ m. m.now) c.parts.result.1) c.args.shape.now _ c.requires.array parts c.in-Bool.is (ap (map pos) c.as_slice.ensures) c.requires.shape in
    if_ok c.scan_slice.result _ _ (λ b is. is ∙ ap (λ a. scanned Sum a c.args.axis) s.is) c.scan_slice.ensures

pub returns-in-Char : goal.returns-in-Char
returns-in-Char c =
    let parts = parts_of (λ m. m.now) c.args.typed.now c.args.typed.now c.parts.result.0.now c.parts.result.1 refl c.parts.ensures.kind c.parts.ensures.range c.parts.ensures.cells c.parts.ensures.whole c.parts.ensures.mask in
    let s = slice_is c.args.typed.now c.parts.result.0.now (Char c.in-Char.v) (option_map (λ m. m.now) c.parts.result.1) c.args.shape.now _ c.requires.array parts c.in-Char.is (ap (map pos) c.as_slice-in-Char.ensures) c.requires.shape in
    if_ok c.scan_slice-in-Char.result _ _ (λ b is. is ∙ ap (λ a. scanned Sum a c.args.axis) s.is) c.scan_slice-in-Char.ensures

pub returns-in-Int8 : goal.returns-in-Int8
returns-in-Int8 c =
    let parts = parts_of (λ m. m.now) c.args.typed.now c.args.typed.now c.parts.result.0.now c.parts.result.1 refl c.parts.ensures.kind c.parts.ensures.range c.parts.ensures.cells c.parts.ensures.whole c.parts.ensures.mask in
    let s = slice_is c.args.typed.now c.parts.result.0.now (Int8 c.in-Int8.v) (option_map (λ m. m.now) c.parts.result.1) c.args.shape.now _ c.requires.array parts c.in-Int8.is (same_numbers c.as_slice-in-Int8.result.now ∙ c.as_slice-in-Int8.ensures) c.requires.shape in
    if_ok c.scan_slice-in-Int8.result _ _ (λ b is. is ∙ ap (λ a. scanned Sum a c.args.axis) s.is) c.scan_slice-in-Int8.ensures

pub returns-in-Int16 : goal.returns-in-Int16
returns-in-Int16 c =
    let parts = parts_of (λ m. m.now) c.args.typed.now c.args.typed.now c.parts.result.0.now c.parts.result.1 refl c.parts.ensures.kind c.parts.ensures.range c.parts.ensures.cells c.parts.ensures.whole c.parts.ensures.mask in
    let s = slice_is c.args.typed.now c.parts.result.0.now (Int16 c.in-Int16.v) (option_map (λ m. m.now) c.parts.result.1) c.args.shape.now _ c.requires.array parts c.in-Int16.is (same_numbers c.as_slice-in-Int16.result.now ∙ c.as_slice-in-Int16.ensures) c.requires.shape in
    if_ok c.scan_slice-in-Int16.result _ _ (λ b is. is ∙ ap (λ a. scanned Sum a c.args.axis) s.is) c.scan_slice-in-Int16.ensures

pub returns-in-Int32 : goal.returns-in-Int32
returns-in-Int32 c =
    let parts = parts_of (λ m. m.now) c.args.typed.now c.args.typed.now c.parts.result.0.now c.parts.result.1 refl c.parts.ensures.kind c.parts.ensures.range c.parts.ensures.cells c.parts.ensures.whole c.parts.ensures.mask in
    let s = slice_is c.args.typed.now c.parts.result.0.now (Int32 c.in-Int32.v) (option_map (λ m. m.now) c.parts.result.1) c.args.shape.now _ c.requires.array parts c.in-Int32.is (same_numbers c.as_slice-in-Int32.result.now ∙ c.as_slice-in-Int32.ensures) c.requires.shape in
    if_ok c.scan_slice-in-Int32.result _ _ (λ b is. is ∙ ap (λ a. scanned Sum a c.args.axis) s.is) c.scan_slice-in-Int32.ensures

pub returns-in-Int64 : goal.returns-in-Int64
returns-in-Int64 c =
    let parts = parts_of (λ m. m.now) c.args.typed.now c.args.typed.now c.parts.result.0.now c.parts.result.1 refl c.parts.ensures.kind c.parts.ensures.range c.parts.ensures.cells c.parts.ensures.whole c.parts.ensures.mask in
    let s = slice_is c.args.typed.now c.parts.result.0.now (Int64 c.in-Int64.v) (option_map (λ m. m.now) c.parts.result.1) c.args.shape.now _ c.requires.array parts c.in-Int64.is (same_numbers c.as_slice-in-Int64.result.now ∙ c.as_slice-in-Int64.ensures) c.requires.shape in
    if_ok c.scan_slice-in-Int64.result _ _ (λ b is. is ∙ ap (λ a. scanned Sum a c.args.axis) s.is) c.scan_slice-in-Int64.ensures

pub returns-in-UInt8 : goal.returns-in-UInt8
returns-in-UInt8 c =
    let parts = parts_of (λ m. m.now) c.args.typed.now c.args.typed.now c.parts.result.0.now c.parts.result.1 refl c.parts.ensures.kind c.parts.ensures.range c.parts.ensures.cells c.parts.ensures.whole c.parts.ensures.mask in
    let s = slice_is c.args.typed.now c.parts.result.0.now (UInt8 c.in-UInt8.v) (option_map (λ m. m.now) c.parts.result.1) c.args.shape.now _ c.requires.array parts c.in-UInt8.is (ap (map pos) c.as_slice-in-UInt8.ensures) c.requires.shape in
    if_ok c.scan_slice-in-UInt8.result _ _ (λ b is. is ∙ ap (λ a. scanned Sum a c.args.axis) s.is) c.scan_slice-in-UInt8.ensures

pub returns-in-UInt16 : goal.returns-in-UInt16
returns-in-UInt16 c =
    let parts = parts_of (λ m. m.now) c.args.typed.now c.args.typed.now c.parts.result.0.now c.parts.result.1 refl c.parts.ensures.kind c.parts.ensures.range c.parts.ensures.cells c.parts.ensures.whole c.parts.ensures.mask in
    let s = slice_is c.args.typed.now c.parts.result.0.now (UInt16 c.in-UInt16.v) (option_map (λ m. m.now) c.parts.result.1) c.args.shape.now _ c.requires.array parts c.in-UInt16.is (ap (map pos) c.as_slice-in-UInt16.ensures) c.requires.shape in
    if_ok c.scan_slice-in-UInt16.result _ _ (λ b is. is ∙ ap (λ a. scanned Sum a c.args.axis) s.is) c.scan_slice-in-UInt16.ensures

pub returns-in-UInt32 : goal.returns-in-UInt32
returns-in-UInt32 c =
    let parts = parts_of (λ m. m.now) c.args.typed.now c.args.typed.now c.parts.result.0.now c.parts.result.1 refl c.parts.ensures.kind c.parts.ensures.range c.parts.ensures.cells c.parts.ensures.whole c.parts.ensures.mask in
    let s = slice_is c.args.typed.now c.parts.result.0.now (UInt32 c.in-UInt32.v) (option_map (λ m. m.now) c.parts.result.1) c.args.shape.now _ c.requires.array parts c.in-UInt32.is (ap (map pos) c.as_slice-in-UInt32.ensures) c.requires.shape in
    if_ok c.scan_slice-in-UInt32.result _ _ (λ b is. is ∙ ap (λ a. scanned Sum a c.args.axis) s.is) c.scan_slice-in-UInt32.ensures

pub returns-in-UInt64 : goal.returns-in-UInt64
returns-in-UInt64 c =
    let parts = parts_of (λ m. m.now) c.args.typed.now c.args.typed.now c.parts.result.0.now c.parts.result.1 refl c.parts.ensures.kind c.parts.ensures.range c.parts.ensures.cells c.parts.ensures.whole c.parts.ensures.mask in
    let s = slice_is c.args.typed.now c.parts.result.0.now (UInt64 c.in-UInt64.v) (option_map (λ m. m.now) c.parts.result.1) c.args.shape.now _ c.requires.array parts c.in-UInt64.is (ap (map pos) c.as_slice-in-UInt64.ensures) c.requires.shape in
    if_ok c.scan_slice-in-UInt64.result _ _ (λ b is. is ∙ ap (λ a. scanned Sum a c.args.axis) s.is) c.scan_slice-in-UInt64.ensures
