use Rattle.std.proofs.Common.{◌≡◌, ℕ, ℤ, List, pos, sym, ap, subst}
use Rattle.std.specs.Prelude.{Option, option_map}
use Rattle.xr_types.specs.Points.{IsPoint}
use Rattle.strided_block.specs.Views.{shown}
use Rattle.strided_block.specs.Typed.{truth, block_shape, number_kept}
use Rattle.strided_block.specs.declared.typed.TypedBlock.{TypedBlock}
use Rattle.strided_block.proofs.typed.TypedBlock.view.Goals as goal

-- what a view shows is what the block holds
abbrev Same : (List ℕ → Option ℤ) → TypedBlock → Type 0
Same new s = (p : List ℕ) → IsPoint (block_shape s) p → new p ≡ number_kept s p

pub returns-in-Bool-clause-cells : goal.returns-in-Bool-clause-cells
returns-in-Bool-clause-cells c = subst (Same (λ p. option_map truth (shown c.view.result p))) (sym c.in-Bool.is) (λ p i. ap (option_map truth) (c.view.ensures.cells p i))

pub returns-in-Char-clause-cells : goal.returns-in-Char-clause-cells
returns-in-Char-clause-cells c = subst (Same (λ p. option_map pos (shown c.view-in-Char.result p))) (sym c.in-Char.is) (λ p i. ap (option_map pos) (c.view-in-Char.ensures.cells p i))

pub returns-in-Int8-clause-cells : goal.returns-in-Int8-clause-cells
returns-in-Int8-clause-cells c = subst (Same (λ p. shown c.view-in-Int8.result p)) (sym c.in-Int8.is) (λ p i. c.view-in-Int8.ensures.cells p i)

pub returns-in-Int16-clause-cells : goal.returns-in-Int16-clause-cells
returns-in-Int16-clause-cells c = subst (Same (λ p. shown c.view-in-Int16.result p)) (sym c.in-Int16.is) (λ p i. c.view-in-Int16.ensures.cells p i)

pub returns-in-Int32-clause-cells : goal.returns-in-Int32-clause-cells
returns-in-Int32-clause-cells c = subst (Same (λ p. shown c.view-in-Int32.result p)) (sym c.in-Int32.is) (λ p i. c.view-in-Int32.ensures.cells p i)

pub returns-in-Int64-clause-cells : goal.returns-in-Int64-clause-cells
returns-in-Int64-clause-cells c = subst (Same (λ p. shown c.view-in-Int64.result p)) (sym c.in-Int64.is) (λ p i. c.view-in-Int64.ensures.cells p i)

pub returns-in-UInt8-clause-cells : goal.returns-in-UInt8-clause-cells
returns-in-UInt8-clause-cells c = subst (Same (λ p. option_map pos (shown c.view-in-UInt8.result p))) (sym c.in-UInt8.is) (λ p i. ap (option_map pos) (c.view-in-UInt8.ensures.cells p i))

pub returns-in-UInt16-clause-cells : goal.returns-in-UInt16-clause-cells
returns-in-UInt16-clause-cells c = subst (Same (λ p. option_map pos (shown c.view-in-UInt16.result p))) (sym c.in-UInt16.is) (λ p i. ap (option_map pos) (c.view-in-UInt16.ensures.cells p i))

pub returns-in-UInt32-clause-cells : goal.returns-in-UInt32-clause-cells
returns-in-UInt32-clause-cells c = subst (Same (λ p. option_map pos (shown c.view-in-UInt32.result p))) (sym c.in-UInt32.is) (λ p i. ap (option_map pos) (c.view-in-UInt32.ensures.cells p i))

pub returns-in-UInt64-clause-cells : goal.returns-in-UInt64-clause-cells
returns-in-UInt64-clause-cells c = subst (Same (λ p. option_map pos (shown c.view-in-UInt64.result p))) (sym c.in-UInt64.is) (λ p i. ap (option_map pos) (c.view-in-UInt64.ensures.cells p i))
