use Rattle.std.proofs.Common.{◌≡◌, ℕ, ℤ, List, pos, sym, ap, subst}
use Rattle.std.specs.Prelude.{Option, option_map}
use Rattle.xr_types.specs.Points.{IsPoint}
use Rattle.strided_block.specs.Boxes.{plus}
use Rattle.strided_block.specs.Views.{held}
use Rattle.strided_block.specs.Typed.{truth, win_box, number_held}
use Rattle.strided_block.specs.declared.typed.TypedWin.{TypedWin}
use Rattle.strided_block.proofs.typed.TypedWin.fill.Goals as goal

-- new numbers outside the window's box are the old ones
abbrev Kept : (List ℕ → Option ℤ) → TypedWin → Type 0
Kept new s = (cs : List ℕ) → IsPoint (win_box s).whole cs → ((p : List ℕ) → IsPoint (win_box s).shape p → ¬ (cs ≡ plus (win_box s).low p)) → new cs ≡ number_held s cs

pub returns-in-Bool-clause-others : goal.returns-in-Bool-clause-others
returns-in-Bool-clause-others c = subst (Kept (λ cs. option_map truth (held c.fill.new.self cs))) (sym c.in-Bool.is) (λ cs i none. ap (option_map truth) (c.fill.ensures.others cs i none))

pub returns-in-Char-clause-others : goal.returns-in-Char-clause-others
returns-in-Char-clause-others c = subst (Kept (λ cs. option_map pos (held c.fill-in-Char.new.self cs))) (sym c.in-Char.is) (λ cs i none. ap (option_map pos) (c.fill-in-Char.ensures.others cs i none))

pub returns-in-Int8-clause-others : goal.returns-in-Int8-clause-others
returns-in-Int8-clause-others c = subst (Kept (λ cs. held c.fill-in-Int8.new.self cs)) (sym c.in-Int8.is) c.fill-in-Int8.ensures.others

pub returns-in-Int16-clause-others : goal.returns-in-Int16-clause-others
returns-in-Int16-clause-others c = subst (Kept (λ cs. held c.fill-in-Int16.new.self cs)) (sym c.in-Int16.is) c.fill-in-Int16.ensures.others

pub returns-in-Int32-clause-others : goal.returns-in-Int32-clause-others
returns-in-Int32-clause-others c = subst (Kept (λ cs. held c.fill-in-Int32.new.self cs)) (sym c.in-Int32.is) c.fill-in-Int32.ensures.others

pub returns-in-Int64-clause-others : goal.returns-in-Int64-clause-others
returns-in-Int64-clause-others c = subst (Kept (λ cs. held c.fill-in-Int64.new.self cs)) (sym c.in-Int64.is) c.fill-in-Int64.ensures.others

pub returns-in-UInt8-clause-others : goal.returns-in-UInt8-clause-others
returns-in-UInt8-clause-others c = subst (Kept (λ cs. option_map pos (held c.fill-in-UInt8.new.self cs))) (sym c.in-UInt8.is) (λ cs i none. ap (option_map pos) (c.fill-in-UInt8.ensures.others cs i none))

pub returns-in-UInt16-clause-others : goal.returns-in-UInt16-clause-others
returns-in-UInt16-clause-others c = subst (Kept (λ cs. option_map pos (held c.fill-in-UInt16.new.self cs))) (sym c.in-UInt16.is) (λ cs i none. ap (option_map pos) (c.fill-in-UInt16.ensures.others cs i none))

pub returns-in-UInt32-clause-others : goal.returns-in-UInt32-clause-others
returns-in-UInt32-clause-others c = subst (Kept (λ cs. option_map pos (held c.fill-in-UInt32.new.self cs))) (sym c.in-UInt32.is) (λ cs i none. ap (option_map pos) (c.fill-in-UInt32.ensures.others cs i none))

pub returns-in-UInt64-clause-others : goal.returns-in-UInt64-clause-others
returns-in-UInt64-clause-others c = subst (Kept (λ cs. option_map pos (held c.fill-in-UInt64.new.self cs))) (sym c.in-UInt64.is) (λ cs i none. ap (option_map pos) (c.fill-in-UInt64.ensures.others cs i none))
