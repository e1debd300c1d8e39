use Rattle.std.proofs.Common.{◌∙◌, ap, sym}
use Rattle.xr_types.specs.declared.attr.NcType.TheVariants.{Byte, Char, Short, Int, UByte, UShort, UInt, Int64, UInt64}
use Rattle.xr_types.specs.declared.operation.FoldKind.TheVariants.{Sum}
use Rattle.xr_arrays.specs.Nodes.{scanned}
use Rattle.plan_core.proofs.Takes.{if_ok}
use Rattle.row_folds.proofs.Parts.{stored_is, stored_whole}
use Rattle.row_folds.proofs.scans.scan_numbers.Goals as goal

pub scan_source-requires-clause-whole : goal.scan_source-requires-clause-whole
scan_source-requires-clause-whole g c = sym (stored_whole c.args.kind Byte c.args.shape.now c.args.bytes.now (g.F.Fills.numbers c.args.fills) c.in-Byte.is c.requires.array)

pub returns-in-Byte : goal.returns-in-Byte
returns-in-Byte g c = if_ok c.scan_source.result _ _ (λ b is. is ∙ ap (λ a. scanned Sum a c.args.axis) (stored_is c.args.kind Byte c.args.shape.now c.args.bytes.now (g.F.Fills.numbers c.args.fills) c.in-Byte.is c.requires.array).is) c.scan_source.ensures

pub scan_source-requires-in-Char-clause-whole : goal.scan_source-requires-in-Char-clause-whole
scan_source-requires-in-Char-clause-whole g c = sym (stored_whole c.args.kind Char c.args.shape.now c.args.bytes.now (g.F.Fills.numbers c.args.fills) c.in-Char.is c.requires.array)

pub returns-in-Char : goal.returns-in-Char
returns-in-Char g c = if_ok c.scan_source-in-Char.result _ _ (λ b is. is ∙ ap (λ a. scanned Sum a c.args.axis) (stored_is c.args.kind Char c.args.shape.now c.args.bytes.now (g.F.Fills.numbers c.args.fills) c.in-Char.is c.requires.array).is) c.scan_source-in-Char.ensures

pub scan_source-requires-in-Short-clause-whole : goal.scan_source-requires-in-Short-clause-whole
scan_source-requires-in-Short-clause-whole g c = sym (stored_whole c.args.kind Short c.args.shape.now c.args.bytes.now (g.F.Fills.numbers c.args.fills) c.in-Short.is c.requires.array)

pub returns-in-Short : goal.returns-in-Short
returns-in-Short g c = if_ok c.scan_source-in-Short.result _ _ (λ b is. is ∙ ap (λ a. scanned Sum a c.args.axis) (stored_is c.args.kind Short c.args.shape.now c.args.bytes.now (g.F.Fills.numbers c.args.fills) c.in-Short.is c.requires.array).is) c.scan_source-in-Short.ensures

pub scan_source-requires-in-Int-clause-whole : goal.scan_source-requires-in-Int-clause-whole
scan_source-requires-in-Int-clause-whole g c = sym (stored_whole c.args.kind Int c.args.shape.now c.args.bytes.now (g.F.Fills.numbers c.args.fills) c.in-Int.is c.requires.array)

pub returns-in-Int : goal.returns-in-Int
returns-in-Int g c = if_ok c.scan_source-in-Int.result _ _ (λ b is. is ∙ ap (λ a. scanned Sum a c.args.axis) (stored_is c.args.kind Int c.args.shape.now c.args.bytes.now (g.F.Fills.numbers c.args.fills) c.in-Int.is c.requires.array).is) c.scan_source-in-Int.ensures

pub scan_source-requires-in-UByte-clause-whole : goal.scan_source-requires-in-UByte-clause-whole
scan_source-requires-in-UByte-clause-whole g c = sym (stored_whole c.args.kind UByte c.args.shape.now c.args.bytes.now (g.F.Fills.numbers c.args.fills) c.in-UByte.is c.requires.array)

pub returns-in-UByte : goal.returns-in-UByte
returns-in-UByte g c = if_ok c.scan_source-in-UByte.result _ _ (λ b is. is ∙ ap (λ a. scanned Sum a c.args.axis) (stored_is c.args.kind UByte c.args.shape.now c.args.bytes.now (g.F.Fills.numbers c.args.fills) c.in-UByte.is c.requires.array).is) c.scan_source-in-UByte.ensures

pub scan_source-requires-in-UShort-clause-whole : goal.scan_source-requires-in-UShort-clause-whole
scan_source-requires-in-UShort-clause-whole g c = sym (stored_whole c.args.kind UShort c.args.shape.now c.args.bytes.now (g.F.Fills.numbers c.args.fills) c.in-UShort.is c.requires.array)

pub returns-in-UShort : goal.returns-in-UShort
returns-in-UShort g c = if_ok c.scan_source-in-UShort.result _ _ (λ b is. is ∙ ap (λ a. scanned Sum a c.args.axis) (stored_is c.args.kind UShort c.args.shape.now c.args.bytes.now (g.F.Fills.numbers c.args.fills) c.in-UShort.is c.requires.array).is) c.scan_source-in-UShort.ensures

pub scan_source-requires-in-UInt-clause-whole : goal.scan_source-requires-in-UInt-clause-whole
scan_source-requires-in-UInt-clause-whole g c = sym (stored_whole c.args.kind UInt c.args.shape.now c.args.bytes.now (g.F.Fills.numbers c.args.fills) c.in-UInt.is c.requires.array)

pub returns-in-UInt : goal.returns-in-UInt
returns-in-UInt g c = if_ok c.scan_source-in-UInt.result _ _ (λ b is. is ∙ ap (λ a. scanned Sum a c.args.axis) (stored_is c.args.kind UInt c.args.shape.now c.args.bytes.now (g.F.Fills.numbers c.args.fills) c.in-UInt.is c.requires.array).is) c.scan_source-in-UInt.ensures

pub scan_source-requires-in-Int64-clause-whole : goal.scan_source-requires-in-Int64-clause-whole
scan_source-requires-in-Int64-clause-whole g c = sym (stored_whole c.args.kind Int64 c.args.shape.now c.args.bytes.now (g.F.Fills.numbers c.args.fills) c.in-Int64.is c.requires.array)

pub returns-in-Int64 : goal.returns-in-Int64
returns-in-Int64 g c = if_ok c.scan_source-in-Int64.result _ _ (λ b is. is ∙ ap (λ a. scanned Sum a c.args.axis) (stored_is c.args.kind Int64 c.args.shape.now c.args.bytes.now (g.F.Fills.numbers c.args.fills) c.in-Int64.is c.requires.array).is) c.scan_source-in-Int64.ensures

pub scan_source-requires-in-UInt64-clause-whole : goal.scan_source-requires-in-UInt64-clause-whole
scan_source-requires-in-UInt64-clause-whole g c = sym (stored_whole c.args.kind UInt64 c.args.shape.now c.args.bytes.now (g.F.Fills.numbers c.args.fills) c.in-UInt64.is c.requires.array)

pub returns-in-UInt64 : goal.returns-in-UInt64
returns-in-UInt64 g c = if_ok c.scan_source-in-UInt64.result _ _ (λ b is. is ∙ ap (λ a. scanned Sum a c.args.axis) (stored_is c.args.kind UInt64 c.args.shape.now c.args.bytes.now (g.F.Fills.numbers c.args.fills) c.in-UInt64.is c.requires.array).is) c.scan_source-in-UInt64.ensures
