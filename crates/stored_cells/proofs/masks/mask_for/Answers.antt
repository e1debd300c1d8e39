use Rattle.std.proofs.Common.{sym, subst, Some, List, ℕ}
use Rattle.xr_arrays.specs.Arrays.{wide}
use Rattle.stored_cells.specs.Masks.{Hides}
use Rattle.stored_cells.proofs.MaskedCells.{hides_marked}
use Rattle.stored_cells.proofs.masks.mask_for.Goals as goal

pub returns : goal.returns
returns c = subst (λ (m : List ℕ). Hides c.args.fills.now (wide c.args.cells.now) (Some m)) (sym c.in_ok-mask_of.ensures) (hides_marked c.args.fills.now (wide c.args.cells.now))
