use Rattle.std.proofs.Common.{◌≡◌, ◌<◌, ℕ, ℤ, List, pos, unsigned_abs, length, subst, arith}
use Rattle.std.specs.Prelude.{Option, All}
use Rattle.xr_types.specs.Kinds.{wrap_to}
use Rattle.xr_types.specs.declared.kind.DType.TheVariants.{Bool, Char, UInt8, UInt16, UInt32, UInt64}
use Rattle.xr_arrays.specs.Arrays.{IsCell}
use Rattle.xr_types.specs.Points.{size, place, IsPoint}
use Rattle.strided_block.specs.Typed.{truth}
use Rattle.strided_block.proofs.Boxes.{place_below}
use Rattle.strided_block.proofs.Puts.{again_bool, again_text, again_number, number_uint16, number_uint32, number_uint64, at_int8, at_int16, at_int32, at_int64}
use Rattle.strided_block.proofs.typed.TypedBlock.from_slice.Goals as goal

there : (shape p : List ℕ) (cells : List (Option ℤ)) → length cells ≡ size shape → IsPoint shape p → place shape p < length cells
there shape p cells count i = let b = place_below shape p i in omega arith

pub returns-in_ok-of_cells-in-Bool-clause-cells : goal.returns-in_ok-of_cells-in-Bool-clause-cells
returns-in_ok-of_cells-in-Bool-clause-cells c = λ p n i e. again_number Bool (λ m. unsigned_abs (wrap_to Char m)) truth again_bool c.args.cells.now (place c.args.shape.now p) n (subst (λ t. All (IsCell t) c.args.cells.now) c.in-Bool.is c.requires.range) (there c.args.shape.now p c.args.cells.now c.requires.count i) e _ (c.in_ok-of_cells-in-Bool.ensures.cells p i)

pub returns-in_ok-of_cells-in-Char-clause-cells : goal.returns-in_ok-of_cells-in-Char-clause-cells
returns-in_ok-of_cells-in-Char-clause-cells c = λ p n i e. again_number Char (λ m. unsigned_abs (wrap_to Char m)) pos again_text c.args.cells.now (place c.args.shape.now p) n (subst (λ t. All (IsCell t) c.args.cells.now) c.in-Char.is c.requires.range) (there c.args.shape.now p c.args.cells.now c.requires.count i) e _ (c.in_ok-of_cells-in-Char.ensures.cells p i)

pub returns-in_ok-of_cells-in-Int8-clause-cells : goal.returns-in_ok-of_cells-in-Int8-clause-cells
returns-in_ok-of_cells-in-Int8-clause-cells c = λ p n i e. at_int8 c.args.cells.now (place c.args.shape.now p) n (subst (λ t. All (IsCell t) c.args.cells.now) c.in-Int8.is c.requires.range) (there c.args.shape.now p c.args.cells.now c.requires.count i) e _ (c.in_ok-of_cells-in-Int8.ensures.cells p i)

pub returns-in_ok-of_cells-in-Int16-clause-cells : goal.returns-in_ok-of_cells-in-Int16-clause-cells
returns-in_ok-of_cells-in-Int16-clause-cells c = λ p n i e. at_int16 c.args.cells.now (place c.args.shape.now p) n (subst (λ t. All (IsCell t) c.args.cells.now) c.in-Int16.is c.requires.range) (there c.args.shape.now p c.args.cells.now c.requires.count i) e _ (c.in_ok-of_cells-in-Int16.ensures.cells p i)

pub returns-in_ok-of_cells-in-Int32-clause-cells : goal.returns-in_ok-of_cells-in-Int32-clause-cells
returns-in_ok-of_cells-in-Int32-clause-cells c = λ p n i e. at_int32 c.args.cells.now (place c.args.shape.now p) n (subst (λ t. All (IsCell t) c.args.cells.now) c.in-Int32.is c.requires.range) (there c.args.shape.now p c.args.cells.now c.requires.count i) e _ (c.in_ok-of_cells-in-Int32.ensures.cells p i)

pub returns-in_ok-of_cells-in-Int64-clause-cells : goal.returns-in_ok-of_cells-in-Int64-clause-cells
returns-in_ok-of_cells-in-Int64-clause-cells c = λ p n i e. at_int64 c.args.cells.now (place c.args.shape.now p) n (subst (λ t. All (IsCell t) c.args.cells.now) c.in-Int64.is c.requires.range) (there c.args.shape.now p c.args.cells.now c.requires.count i) e _ (c.in_ok-of_cells-in-Int64.ensures.cells p i)

pub returns-in_ok-of_cells-in-UInt8-clause-cells : goal.returns-in_ok-of_cells-in-UInt8-clause-cells
returns-in_ok-of_cells-in-UInt8-clause-cells c = λ p n i e. again_number UInt8 (λ m. unsigned_abs (wrap_to Char m)) pos again_text c.args.cells.now (place c.args.shape.now p) n (subst (λ t. All (IsCell t) c.args.cells.now) c.in-UInt8.is c.requires.range) (there c.args.shape.now p c.args.cells.now c.requires.count i) e _ (c.in_ok-of_cells-in-UInt8.ensures.cells p i)

pub returns-in_ok-of_cells-in-UInt16-clause-cells : goal.returns-in_ok-of_cells-in-UInt16-clause-cells
returns-in_ok-of_cells-in-UInt16-clause-cells c = λ p n i e. again_number UInt16 (λ m. unsigned_abs (wrap_to UInt16 m)) pos number_uint16 c.args.cells.now (place c.args.shape.now p) n (subst (λ t. All (IsCell t) c.args.cells.now) c.in-UInt16.is c.requires.range) (there c.args.shape.now p c.args.cells.now c.requires.count i) e _ (c.in_ok-of_cells-in-UInt16.ensures.cells p i)

pub returns-in_ok-of_cells-in-UInt32-clause-cells : goal.returns-in_ok-of_cells-in-UInt32-clause-cells
returns-in_ok-of_cells-in-UInt32-clause-cells c = λ p n i e. again_number UInt32 (λ m. unsigned_abs (wrap_to UInt32 m)) pos number_uint32 c.args.cells.now (place c.args.shape.now p) n (subst (λ t. All (IsCell t) c.args.cells.now) c.in-UInt32.is c.requires.range) (there c.args.shape.now p c.args.cells.now c.requires.count i) e _ (c.in_ok-of_cells-in-UInt32.ensures.cells p i)

pub returns-in_ok-of_cells-in-UInt64-clause-cells : goal.returns-in_ok-of_cells-in-UInt64-clause-cells
returns-in_ok-of_cells-in-UInt64-clause-cells c = λ p n i e. again_number UInt64 (λ m. unsigned_abs (wrap_to UInt64 m)) pos number_uint64 c.args.cells.now (place c.args.shape.now p) n (subst (λ t. All (IsCell t) c.args.cells.now) c.in-UInt64.is c.requires.range) (there c.args.shape.now p c.args.cells.now c.requires.count i) e _ (c.in_ok-of_cells-in-UInt64.ensures.cells p i)
