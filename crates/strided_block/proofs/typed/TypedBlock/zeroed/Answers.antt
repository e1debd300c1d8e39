use Rattle.std.proofs.Common.{pos, ap, ◌∙◌}
use Rattle.std.specs.Prelude.{Some, option_map}
use Rattle.xr_types.specs.Kinds.{wrap_to}
use Rattle.xr_types.specs.declared.kind.DType.TheVariants.{Int8, Int16, Int32, Int64}
use Rattle.strided_block.specs.Typed.{truth}
use Rattle.strided_block.proofs.Puts.{alike, zero_int8, zero_int16, zero_int32, zero_int64}
use Rattle.strided_block.proofs.typed.TypedBlock.zeroed.Goals as goal

pub returns-in_ok-zeroed-in-Bool-clause-cells : goal.returns-in_ok-zeroed-in-Bool-clause-cells
returns-in_ok-zeroed-in-Bool-clause-cells c = λ p i. ap (option_map truth) (alike _ c.args.shape.now p 0 c.in_ok-zeroed-in-Bool.ensures i)

pub returns-in_ok-zeroed-in-Char-clause-cells : goal.returns-in_ok-zeroed-in-Char-clause-cells
returns-in_ok-zeroed-in-Char-clause-cells c = λ p i. ap (option_map pos) (alike _ c.args.shape.now p 0 c.in_ok-zeroed-in-Char.ensures i)

pub returns-in_ok-zeroed-in-Int8-clause-cells : goal.returns-in_ok-zeroed-in-Int8-clause-cells
returns-in_ok-zeroed-in-Int8-clause-cells c = λ p i. alike _ c.args.shape.now p (wrap_to Int8 (pos 0)) c.in_ok-zeroed-in-Int8.ensures i ∙ ap Some zero_int8

pub returns-in_ok-zeroed-in-Int16-clause-cells : goal.returns-in_ok-zeroed-in-Int16-clause-cells
returns-in_ok-zeroed-in-Int16-clause-cells c = λ p i. alike _ c.args.shape.now p (wrap_to Int16 (pos 0)) c.in_ok-zeroed-in-Int16.ensures i ∙ ap Some zero_int16

pub returns-in_ok-zeroed-in-Int32-clause-cells : goal.returns-in_ok-zeroed-in-Int32-clause-cells
returns-in_ok-zeroed-in-Int32-clause-cells c = λ p i. alike _ c.args.shape.now p (wrap_to Int32 (pos 0)) c.in_ok-zeroed-in-Int32.ensures i ∙ ap Some zero_int32

pub returns-in_ok-zeroed-in-Int64-clause-cells : goal.returns-in_ok-zeroed-in-Int64-clause-cells
returns-in_ok-zeroed-in-Int64-clause-cells c = λ p i. alike _ c.args.shape.now p (wrap_to Int64 (pos 0)) c.in_ok-zeroed-in-Int64.ensures i ∙ ap Some zero_int64

pub returns-in_ok-zeroed-in-UInt8-clause-cells : goal.returns-in_ok-zeroed-in-UInt8-clause-cells
returns-in_ok-zeroed-in-UInt8-clause-cells c = λ p i. ap (option_map pos) (alike _ c.args.shape.now p 0 c.in_ok-zeroed-in-UInt8.ensures i)

pub returns-in_ok-zeroed-in-UInt16-clause-cells : goal.returns-in_ok-zeroed-in-UInt16-clause-cells
returns-in_ok-zeroed-in-UInt16-clause-cells c = λ p i. ap (option_map pos) (alike _ c.args.shape.now p 0 c.in_ok-zeroed-in-UInt16.ensures i)

pub returns-in_ok-zeroed-in-UInt32-clause-cells : goal.returns-in_ok-zeroed-in-UInt32-clause-cells
returns-in_ok-zeroed-in-UInt32-clause-cells c = λ p i. ap (option_map pos) (alike _ c.args.shape.now p 0 c.in_ok-zeroed-in-UInt32.ensures i)

pub returns-in_ok-zeroed-in-UInt64-clause-cells : goal.returns-in_ok-zeroed-in-UInt64-clause-cells
returns-in_ok-zeroed-in-UInt64-clause-cells c = λ p i. ap (option_map pos) (alike _ c.args.shape.now p 0 c.in_ok-zeroed-in-UInt64.ensures i)
