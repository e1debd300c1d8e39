use Rattle.std.proofs.Common.{◌∙◌, ap, refl, subst}
use Rattle.xr_types.specs.declared.attr.NcType.TheVariants.{Byte, Char, Short, Int, UByte, UShort, UInt, Int64, UInt64}
use Rattle.xr_arrays.specs.Nodes.{folded}
use Rattle.xr_arrays.specs.Pieces.{together}
use Rattle.plan_core.proofs.Takes.{if_ok}
use Rattle.row_folds.specs.Rows.{IsFolding}
use Rattle.row_folds.proofs.Parts.{stored_is, stored_whole}
use Rattle.row_folds.proofs.Sources.{ready_as}
use Rattle.row_folds.proofs.folds.fold_numbers.Goals as goal

pub folded-requires-clause-folding : goal.folded-requires-clause-folding
folded-requires-clause-folding g c = subst (λ n. IsFolding c.args.feeds.now c.args.shape.now c.args.sizes.now n) (stored_whole c.args.kind Byte c.args.shape.now (together c.args.kind c.args.pieces.now) (g.F.Fills.numbers c.args.fills) c.in-Byte.is c.requires.array) c.requires.folding

pub folded-requires-clause-range : goal.folded-requires-clause-range
folded-requires-clause-range g c = (stored_is c.args.kind Byte c.args.shape.now (together c.args.kind c.args.pieces.now) (g.F.Fills.numbers c.args.fills) c.in-Byte.is c.requires.array).range

pub returns-in-Byte : goal.returns-in-Byte
returns-in-Byte g c = if_ok c.folded.result _ _ (λ b is. is ∙ ap (folded c.args.fold c.args.feeds.now) (stored_is c.args.kind Byte c.args.shape.now (together c.args.kind c.args.pieces.now) (g.F.Fills.numbers c.args.fills) c.in-Byte.is c.requires.array).is) c.folded.ensures

pub folded-requires-in-Char-clause-folding : goal.folded-requires-in-Char-clause-folding
folded-requires-in-Char-clause-folding g c = subst (λ n. IsFolding c.args.feeds.now c.args.shape.now c.args.sizes.now n) (stored_whole c.args.kind Char c.args.shape.now (together c.args.kind c.args.pieces.now) (g.F.Fills.numbers c.args.fills) c.in-Char.is c.requires.array) c.requires.folding

pub folded-requires-in-Char-clause-range : goal.folded-requires-in-Char-clause-range
folded-requires-in-Char-clause-range g c = (stored_is c.args.kind Char c.args.shape.now (together c.args.kind c.args.pieces.now) (g.F.Fills.numbers c.args.fills) c.in-Char.is c.requires.array).range

pub returns-in-Char : goal.returns-in-Char
returns-in-Char g c = if_ok c.folded-in-Char.result _ _ (λ b is. is ∙ ap (folded c.args.fold c.args.feeds.now) (stored_is c.args.kind Char c.args.shape.now (together c.args.kind c.args.pieces.now) (g.F.Fills.numbers c.args.fills) c.in-Char.is c.requires.array).is) c.folded-in-Char.ensures

pub folded-requires-in-Short-clause-folding : goal.folded-requires-in-Short-clause-folding
folded-requires-in-Short-clause-folding g c = subst (λ n. IsFolding c.args.feeds.now c.args.shape.now c.args.sizes.now n) (stored_whole c.args.kind Short c.args.shape.now (together c.args.kind c.args.pieces.now) (g.F.Fills.numbers c.args.fills) c.in-Short.is c.requires.array) c.requires.folding

pub folded-requires-in-Short-clause-range : goal.folded-requires-in-Short-clause-range
folded-requires-in-Short-clause-range g c = (stored_is c.args.kind Short c.args.shape.now (together c.args.kind c.args.pieces.now) (g.F.Fills.numbers c.args.fills) c.in-Short.is c.requires.array).range

pub returns-in-Short : goal.returns-in-Short
returns-in-Short g c = if_ok c.folded-in-Short.result _ _ (λ b is. is ∙ ap (folded c.args.fold c.args.feeds.now) (stored_is c.args.kind Short c.args.shape.now (together c.args.kind c.args.pieces.now) (g.F.Fills.numbers c.args.fills) c.in-Short.is c.requires.array).is) c.folded-in-Short.ensures

pub folded-requires-in-Int-clause-folding : goal.folded-requires-in-Int-clause-folding
folded-requires-in-Int-clause-folding g c = subst (λ n. IsFolding c.args.feeds.now c.args.shape.now c.args.sizes.now n) (stored_whole c.args.kind Int c.args.shape.now (together c.args.kind c.args.pieces.now) (g.F.Fills.numbers c.args.fills) c.in-Int.is c.requires.array) c.requires.folding

pub folded-requires-in-Int-clause-range : goal.folded-requires-in-Int-clause-range
folded-requires-in-Int-clause-range g c = (stored_is c.args.kind Int c.args.shape.now (together c.args.kind c.args.pieces.now) (g.F.Fills.numbers c.args.fills) c.in-Int.is c.requires.array).range

pub returns-in-Int : goal.returns-in-Int
returns-in-Int g c = if_ok c.folded-in-Int.result _ _ (λ b is. is ∙ ap (folded c.args.fold c.args.feeds.now) (stored_is c.args.kind Int c.args.shape.now (together c.args.kind c.args.pieces.now) (g.F.Fills.numbers c.args.fills) c.in-Int.is c.requires.array).is) c.folded-in-Int.ensures

pub folded-requires-in-UByte-clause-folding : goal.folded-requires-in-UByte-clause-folding
folded-requires-in-UByte-clause-folding g c = subst (λ n. IsFolding c.args.feeds.now c.args.shape.now c.args.sizes.now n) (stored_whole c.args.kind UByte c.args.shape.now (together c.args.kind c.args.pieces.now) (g.F.Fills.numbers c.args.fills) c.in-UByte.is c.requires.array) c.requires.folding

pub folded-requires-in-UByte-clause-range : goal.folded-requires-in-UByte-clause-range
folded-requires-in-UByte-clause-range g c = (stored_is c.args.kind UByte c.args.shape.now (together c.args.kind c.args.pieces.now) (g.F.Fills.numbers c.args.fills) c.in-UByte.is c.requires.array).range

pub returns-in-UByte : goal.returns-in-UByte
returns-in-UByte g c = if_ok c.folded-in-UByte.result _ _ (λ b is. is ∙ ap (folded c.args.fold c.args.feeds.now) (stored_is c.args.kind UByte c.args.shape.now (together c.args.kind c.args.pieces.now) (g.F.Fills.numbers c.args.fills) c.in-UByte.is c.requires.array).is) c.folded-in-UByte.ensures

pub folded-requires-in-UShort-clause-folding : goal.folded-requires-in-UShort-clause-folding
folded-requires-in-UShort-clause-folding g c = subst (λ n. IsFolding c.args.feeds.now c.args.shape.now c.args.sizes.now n) (stored_whole c.args.kind UShort c.args.shape.now (together c.args.kind c.args.pieces.now) (g.F.Fills.numbers c.args.fills) c.in-UShort.is c.requires.array) c.requires.folding

pub folded-requires-in-UShort-clause-range : goal.folded-requires-in-UShort-clause-range
folded-requires-in-UShort-clause-range g c = (stored_is c.args.kind UShort c.args.shape.now (together c.args.kind c.args.pieces.now) (g.F.Fills.numbers c.args.fills) c.in-UShort.is c.requires.array).range

pub returns-in-UShort : goal.returns-in-UShort
returns-in-UShort g c = if_ok c.folded-in-UShort.result _ _ (λ b is. is ∙ ap (folded c.args.fold c.args.feeds.now) (stored_is c.args.kind UShort c.args.shape.now (together c.args.kind c.args.pieces.now) (g.F.Fills.numbers c.args.fills) c.in-UShort.is c.requires.array).is) c.folded-in-UShort.ensures

pub folded-requires-in-UInt-clause-folding : goal.folded-requires-in-UInt-clause-folding
folded-requires-in-UInt-clause-folding g c = subst (λ n. IsFolding c.args.feeds.now c.args.shape.now c.args.sizes.now n) (stored_whole c.args.kind UInt c.args.shape.now (together c.args.kind c.args.pieces.now) (g.F.Fills.numbers c.args.fills) c.in-UInt.is c.requires.array) c.requires.folding

pub folded-requires-in-UInt-clause-range : goal.folded-requires-in-UInt-clause-range
folded-requires-in-UInt-clause-range g c = (stored_is c.args.kind UInt c.args.shape.now (together c.args.kind c.args.pieces.now) (g.F.Fills.numbers c.args.fills) c.in-UInt.is c.requires.array).range

pub returns-in-UInt : goal.returns-in-UInt
returns-in-UInt g c = if_ok c.folded-in-UInt.result _ _ (λ b is. is ∙ ap (folded c.args.fold c.args.feeds.now) (stored_is c.args.kind UInt c.args.shape.now (together c.args.kind c.args.pieces.now) (g.F.Fills.numbers c.args.fills) c.in-UInt.is c.requires.array).is) c.folded-in-UInt.ensures

pub folded-requires-in-Int64-clause-folding : goal.folded-requires-in-Int64-clause-folding
folded-requires-in-Int64-clause-folding g c = subst (λ n. IsFolding c.args.feeds.now c.args.shape.now c.args.sizes.now n) (stored_whole c.args.kind Int64 c.args.shape.now (together c.args.kind c.args.pieces.now) (g.F.Fills.numbers c.args.fills) c.in-Int64.is c.requires.array) c.requires.folding

pub folded-requires-in-Int64-clause-range : goal.folded-requires-in-Int64-clause-range
folded-requires-in-Int64-clause-range g c = (stored_is c.args.kind Int64 c.args.shape.now (together c.args.kind c.args.pieces.now) (g.F.Fills.numbers c.args.fills) c.in-Int64.is c.requires.array).range

pub returns-in-Int64 : goal.returns-in-Int64
returns-in-Int64 g c = if_ok c.folded-in-Int64.result _ _ (λ b is. is ∙ ap (folded c.args.fold c.args.feeds.now) (stored_is c.args.kind Int64 c.args.shape.now (together c.args.kind c.args.pieces.now) (g.F.Fills.numbers c.args.fills) c.in-Int64.is c.requires.array).is) c.folded-in-Int64.ensures

pub folded-requires-in-UInt64-clause-folding : goal.folded-requires-in-UInt64-clause-folding
folded-requires-in-UInt64-clause-folding g c = subst (λ n. IsFolding c.args.feeds.now c.args.shape.now c.args.sizes.now n) (stored_whole c.args.kind UInt64 c.args.shape.now (together c.args.kind c.args.pieces.now) (g.F.Fills.numbers c.args.fills) c.in-UInt64.is c.requires.array) c.requires.folding

pub folded-requires-in-UInt64-clause-range : goal.folded-requires-in-UInt64-clause-range
folded-requires-in-UInt64-clause-range g c = (stored_is c.args.kind UInt64 c.args.shape.now (together c.args.kind c.args.pieces.now) (g.F.Fills.numbers c.args.fills) c.in-UInt64.is c.requires.array).range

pub returns-in-UInt64 : goal.returns-in-UInt64
returns-in-UInt64 g c = if_ok c.folded-in-UInt64.result _ _ (λ b is. is ∙ ap (folded c.args.fold c.args.feeds.now) (stored_is c.args.kind UInt64 c.args.shape.now (together c.args.kind c.args.pieces.now) (g.F.Fills.numbers c.args.fills) c.in-UInt64.is c.requires.array).is) c.folded-in-UInt64.ensures

pub folded-requires-clause-ready : goal.folded-requires-clause-ready
folded-requires-clause-ready g c = ready_as c.args.kind Byte Byte c.args.pieces.now _ _ c.in-Byte.is refl refl c.requires.inside c.first_run.ensures.within c.first_run.ensures.part

pub folded-requires-in-Char-clause-ready : goal.folded-requires-in-Char-clause-ready
folded-requires-in-Char-clause-ready g c = ready_as c.args.kind Char Char c.args.pieces.now _ _ c.in-Char.is refl refl c.requires.inside c.first_run.ensures.within c.first_run.ensures.part

pub folded-requires-in-Short-clause-ready : goal.folded-requires-in-Short-clause-ready
folded-requires-in-Short-clause-ready g c = ready_as c.args.kind Short Short c.args.pieces.now _ _ c.in-Short.is refl refl c.requires.inside c.first_run.ensures.within c.first_run.ensures.part

pub folded-requires-in-Int-clause-ready : goal.folded-requires-in-Int-clause-ready
folded-requires-in-Int-clause-ready g c = ready_as c.args.kind Int Int c.args.pieces.now _ _ c.in-Int.is refl refl c.requires.inside c.first_run.ensures.within c.first_run.ensures.part

pub folded-requires-in-UByte-clause-ready : goal.folded-requires-in-UByte-clause-ready
folded-requires-in-UByte-clause-ready g c = ready_as c.args.kind UByte Char c.args.pieces.now _ _ c.in-UByte.is refl refl c.requires.inside c.first_run.ensures.within c.first_run.ensures.part

pub folded-requires-in-UShort-clause-ready : goal.folded-requires-in-UShort-clause-ready
folded-requires-in-UShort-clause-ready g c = ready_as c.args.kind UShort UShort c.args.pieces.now _ _ c.in-UShort.is refl refl c.requires.inside c.first_run.ensures.within c.first_run.ensures.part

pub folded-requires-in-UInt-clause-ready : goal.folded-requires-in-UInt-clause-ready
folded-requires-in-UInt-clause-ready g c = ready_as c.args.kind UInt UInt c.args.pieces.now _ _ c.in-UInt.is refl refl c.requires.inside c.first_run.ensures.within c.first_run.ensures.part

pub folded-requires-in-Int64-clause-ready : goal.folded-requires-in-Int64-clause-ready
folded-requires-in-Int64-clause-ready g c = ready_as c.args.kind Int64 Int64 c.args.pieces.now _ _ c.in-Int64.is refl refl c.requires.inside c.first_run.ensures.within c.first_run.ensures.part

pub folded-requires-in-UInt64-clause-ready : goal.folded-requires-in-UInt64-clause-ready
folded-requires-in-UInt64-clause-ready g c = ready_as c.args.kind UInt64 UInt64 c.args.pieces.now _ _ c.in-UInt64.is refl refl c.requires.inside c.first_run.ensures.within c.first_run.ensures.part
