use Rattle.std.proofs.Common.{◌≡◌, ◌<◌, ℕ, ℤ, List, pos, unsigned_abs, length, get_or, sym, ap, subst, ◌∙◌}
use Rattle.std.specs.Prelude.{Option, Some, None, option_map, All}
use Rattle.xr_types.specs.Kinds.{wrap_to}
use Rattle.xr_types.specs.declared.kind.DType.TheVariants.{Bool, Char, UInt8, UInt16, UInt32, UInt64}
use Rattle.xr_arrays.specs.Arrays.{IsCell}
use Rattle.xr_types.specs.Points.{IsPoint}
use Rattle.strided_block.specs.Boxes.{plus, along}
use Rattle.strided_block.specs.Views.{held}
use Rattle.strided_block.specs.Typed.{truth, win_kind, win_box, number_held}
use Rattle.strided_block.specs.declared.typed.TypedWin.{TypedWin}
use Rattle.strided_block.proofs.Puts.{again_bool, again_text, again_number, number_uint16, number_uint32, number_uint64, at_int8, at_int16, at_int32, at_int64}
use Rattle.strided_block.proofs.typed.TypedWin.put_row.Goals as goal

-- new numbers in the row, and outside of it
abbrev Written : (List ℕ → Option ℤ) → List (Option ℤ) → List ℕ → TypedWin → Type 0
Written new cells ps s = (j : ℕ) (n : ℤ) → j < length cells → get_or cells j None ≡ Some n → new (plus (win_box s).low (along ps j)) ≡ Some n

abbrev Kept : (List ℕ → Option ℤ) → List (Option ℤ) → List ℕ → TypedWin → Type 0
Kept new cells ps s = (cs : List ℕ) → IsPoint (win_box s).whole cs → ((j : ℕ) → j < length cells → ¬ (cs ≡ plus (win_box s).low (along ps j))) → new cs ≡ number_held s cs

abbrev Ranged : List (Option ℤ) → TypedWin → Type 0
Ranged cells s = All (IsCell (win_kind s)) cells

pub returns-in-Bool-clause-written : goal.returns-in-Bool-clause-written
returns-in-Bool-clause-written c = subst (Written (λ cs. option_map truth (held c.put_cells.new.self cs)) c.args.cells.now c.args.point.now) (sym c.in-Bool.is) (λ j n lt e. again_number Bool (λ m. unsigned_abs (wrap_to Char m)) truth again_bool c.args.cells.now j n (subst (Ranged c.args.cells.now) c.in-Bool.is c.requires.range) lt e _ (ap (λ l. held c.put_cells.new.self (plus l (along c.args.point.now j))) (sym c.put_cells.ensures.place.low) ∙ c.put_cells.ensures.written j lt))

pub returns-in-Bool-clause-others : goal.returns-in-Bool-clause-others
returns-in-Bool-clause-others c = subst (Kept (λ cs. option_map truth (held c.put_cells.new.self cs)) c.args.cells.now c.args.point.now) (sym c.in-Bool.is) (λ cs i none. ap (option_map truth) (c.put_cells.ensures.others cs i none))

pub returns-in-Char-clause-written : goal.returns-in-Char-clause-written
returns-in-Char-clause-written c = subst (Written (λ cs. option_map pos (held c.put_cells-in-Char.new.self cs)) c.args.cells.now c.args.point.now) (sym c.in-Char.is) (λ j n lt e. again_number Char (λ m. unsigned_abs (wrap_to Char m)) pos again_text c.args.cells.now j n (subst (Ranged c.args.cells.now) c.in-Char.is c.requires.range) lt e _ (ap (λ l. held c.put_cells-in-Char.new.self (plus l (along c.args.point.now j))) (sym c.put_cells-in-Char.ensures.place.low) ∙ c.put_cells-in-Char.ensures.written j lt))

pub returns-in-Char-clause-others : goal.returns-in-Char-clause-others
returns-in-Char-clause-others c = subst (Kept (λ cs. option_map pos (held c.put_cells-in-Char.new.self cs)) c.args.cells.now c.args.point.now) (sym c.in-Char.is) (λ cs i none. ap (option_map pos) (c.put_cells-in-Char.ensures.others cs i none))

pub returns-in-Int8-clause-written : goal.returns-in-Int8-clause-written
returns-in-Int8-clause-written c = subst (Written (λ cs. held c.put_cells-in-Int8.new.self cs) c.args.cells.now c.args.point.now) (sym c.in-Int8.is) (λ j n lt e. at_int8 c.args.cells.now j n (subst (Ranged c.args.cells.now) c.in-Int8.is c.requires.range) lt e _ (ap (λ l. held c.put_cells-in-Int8.new.self (plus l (along c.args.point.now j))) (sym c.put_cells-in-Int8.ensures.place.low) ∙ c.put_cells-in-Int8.ensures.written j lt))

pub returns-in-Int8-clause-others : goal.returns-in-Int8-clause-others
returns-in-Int8-clause-others c = subst (Kept (λ cs. held c.put_cells-in-Int8.new.self cs) c.args.cells.now c.args.point.now) (sym c.in-Int8.is) c.put_cells-in-Int8.ensures.others

pub returns-in-Int16-clause-written : goal.returns-in-Int16-clause-written
returns-in-Int16-clause-written c = subst (Written (λ cs. held c.put_cells-in-Int16.new.self cs) c.args.cells.now c.args.point.now) (sym c.in-Int16.is) (λ j n lt e. at_int16 c.args.cells.now j n (subst (Ranged c.args.cells.now) c.in-Int16.is c.requires.range) lt e _ (ap (λ l. held c.put_cells-in-Int16.new.self (plus l (along c.args.point.now j))) (sym c.put_cells-in-Int16.ensures.place.low) ∙ c.put_cells-in-Int16.ensures.written j lt))

pub returns-in-Int16-clause-others : goal.returns-in-Int16-clause-others
returns-in-Int16-clause-others c = subst (Kept (λ cs. held c.put_cells-in-Int16.new.self cs) c.args.cells.now c.args.point.now) (sym c.in-Int16.is) c.put_cells-in-Int16.ensures.others

pub returns-in-Int32-clause-written : goal.returns-in-Int32-clause-written
returns-in-Int32-clause-written c = subst (Written (λ cs. held c.put_cells-in-Int32.new.self cs) c.args.cells.now c.args.point.now) (sym c.in-Int32.is) (λ j n lt e. at_int32 c.args.cells.now j n (subst (Ranged c.args.cells.now) c.in-Int32.is c.requires.range) lt e _ (ap (λ l. held c.put_cells-in-Int32.new.self (plus l (along c.args.point.now j))) (sym c.put_cells-in-Int32.ensures.place.low) ∙ c.put_cells-in-Int32.ensures.written j lt))

pub returns-in-Int32-clause-others : goal.returns-in-Int32-clause-others
returns-in-Int32-clause-others c = subst (Kept (λ cs. held c.put_cells-in-Int32.new.self cs) c.args.cells.now c.args.point.now) (sym c.in-Int32.is) c.put_cells-in-Int32.ensures.others

pub returns-in-Int64-clause-written : goal.returns-in-Int64-clause-written
returns-in-Int64-clause-written c = subst (Written (λ cs. held c.put_cells-in-Int64.new.self cs) c.args.cells.now c.args.point.now) (sym c.in-Int64.is) (λ j n lt e. at_int64 c.args.cells.now j n (subst (Ranged c.args.cells.now) c.in-Int64.is c.requires.range) lt e _ (ap (λ l. held c.put_cells-in-Int64.new.self (plus l (along c.args.point.now j))) (sym c.put_cells-in-Int64.ensures.place.low) ∙ c.put_cells-in-Int64.ensures.written j lt))

pub returns-in-Int64-clause-others : goal.returns-in-Int64-clause-others
returns-in-Int64-clause-others c = subst (Kept (λ cs. held c.put_cells-in-Int64.new.self cs) c.args.cells.now c.args.point.now) (sym c.in-Int64.is) c.put_cells-in-Int64.ensures.others

pub returns-in-UInt8-clause-written : goal.returns-in-UInt8-clause-written
returns-in-UInt8-clause-written c = subst (Written (λ cs. option_map pos (held c.put_cells-in-UInt8.new.self cs)) c.args.cells.now c.args.point.now) (sym c.in-UInt8.is) (λ j n lt e. again_number UInt8 (λ m. unsigned_abs (wrap_to Char m)) pos again_text c.args.cells.now j n (subst (Ranged c.args.cells.now) c.in-UInt8.is c.requires.range) lt e _ (ap (λ l. held c.put_cells-in-UInt8.new.self (plus l (along c.args.point.now j))) (sym c.put_cells-in-UInt8.ensures.place.low) ∙ c.put_cells-in-UInt8.ensures.written j lt))

pub returns-in-UInt8-clause-others : goal.returns-in-UInt8-clause-others
returns-in-UInt8-clause-others c = subst (Kept (λ cs. option_map pos (held c.put_cells-in-UInt8.new.self cs)) c.args.cells.now c.args.point.now) (sym c.in-UInt8.is) (λ cs i none. ap (option_map pos) (c.put_cells-in-UInt8.ensures.others cs i none))

pub returns-in-UInt16-clause-written : goal.returns-in-UInt16-clause-written
returns-in-UInt16-clause-written c = subst (Written (λ cs. option_map pos (held c.put_cells-in-UInt16.new.self cs)) c.args.cells.now c.args.point.now) (sym c.in-UInt16.is) (λ j n lt e. again_number UInt16 (λ m. unsigned_abs (wrap_to UInt16 m)) pos number_uint16 c.args.cells.now j n (subst (Ranged c.args.cells.now) c.in-UInt16.is c.requires.range) lt e _ (ap (λ l. held c.put_cells-in-UInt16.new.self (plus l (along c.args.point.now j))) (sym c.put_cells-in-UInt16.ensures.place.low) ∙ c.put_cells-in-UInt16.ensures.written j lt))

pub returns-in-UInt16-clause-others : goal.returns-in-UInt16-clause-others
returns-in-UInt16-clause-others c = subst (Kept (λ cs. option_map pos (held c.put_cells-in-UInt16.new.self cs)) c.args.cells.now c.args.point.now) (sym c.in-UInt16.is) (λ cs i none. ap (option_map pos) (c.put_cells-in-UInt16.ensures.others cs i none))

pub returns-in-UInt32-clause-written : goal.returns-in-UInt32-clause-written
returns-in-UInt32-clause-written c = subst (Written (λ cs. option_map pos (held c.put_cells-in-UInt32.new.self cs)) c.args.cells.now c.args.point.now) (sym c.in-UInt32.is) (λ j n lt e. again_number UInt32 (λ m. unsigned_abs (wrap_to UInt32 m)) pos number_uint32 c.args.cells.now j n (subst (Ranged c.args.cells.now) c.in-UInt32.is c.requires.range) lt e _ (ap (λ l. held c.put_cells-in-UInt32.new.self (plus l (along c.args.point.now j))) (sym c.put_cells-in-UInt32.ensures.place.low) ∙ c.put_cells-in-UInt32.ensures.written j lt))

pub returns-in-UInt32-clause-others : goal.returns-in-UInt32-clause-others
returns-in-UInt32-clause-others c = subst (Kept (λ cs. option_map pos (held c.put_cells-in-UInt32.new.self cs)) c.args.cells.now c.args.point.now) (sym c.in-UInt32.is) (λ cs i none. ap (option_map pos) (c.put_cells-in-UInt32.ensures.others cs i none))

pub returns-in-UInt64-clause-written : goal.returns-in-UInt64-clause-written
returns-in-UInt64-clause-written c = subst (Written (λ cs. option_map pos (held c.put_cells-in-UInt64.new.self cs)) c.args.cells.now c.args.point.now) (sym c.in-UInt64.is) (λ j n lt e. again_number UInt64 (λ m. unsigned_abs (wrap_to UInt64 m)) pos number_uint64 c.args.cells.now j n (subst (Ranged c.args.cells.now) c.in-UInt64.is c.requires.range) lt e _ (ap (λ l. held c.put_cells-in-UInt64.new.self (plus l (along c.args.point.now j))) (sym c.put_cells-in-UInt64.ensures.place.low) ∙ c.put_cells-in-UInt64.ensures.written j lt))

pub returns-in-UInt64-clause-others : goal.returns-in-UInt64-clause-others
returns-in-UInt64-clause-others c = subst (Kept (λ cs. option_map pos (held c.put_cells-in-UInt64.new.self cs)) c.args.cells.now c.args.point.now) (sym c.in-UInt64.is) (λ cs i none. ap (option_map pos) (c.put_cells-in-UInt64.ensures.others cs i none))
