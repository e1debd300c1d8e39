-- What blocks, views and windows of cells with their mask show and hold: at each point a number or a missing cell.
use Rattle.std.specs.Prelude.{◌≡◌, ℕ, ℤ, true, List, Option}
use Rattle.xr_types.specs.Points.{IsPoint}
use Rattle.strided_block.specs.Boxes.{plus, in_box}
use Rattle.strided_block.specs.Views.{shown, kept, held}
use Rattle.strided_block.specs.Typed.{unless_hidden, number_shown, number_kept, number_held, win_kind, win_box, win_block, Box, box_of}
use Rattle.strided_block.specs.declared.cells.CellBlock.{CellBlock}
use Rattle.strided_block.specs.declared.cells.CellView.{CellView}
use Rattle.strided_block.specs.declared.cells.CellWin.{CellWin}

-- the cell that a block holds at a point
abbrev pub cell_kept : CellBlock → List ℕ → Option ℤ
cell_kept b p = unless_hidden (kept b.mask p) (number_kept b.cells p)

-- the cell that a view shows at a point
abbrev pub cell_shown : CellView → List ℕ → Option ℤ
cell_shown v p = unless_hidden (shown v.mask p) (number_shown v.cells p)

-- the cell that a window holds at a point of its block
abbrev pub cell_held : CellWin → List ℕ → Option ℤ
cell_held w cs = unless_hidden (held w.mask cs) (number_held w.cells cs)

-- the cell that a window holds at a point of its box
abbrev pub cell_in : CellWin → List ℕ → Option ℤ
cell_in w p = cell_held w (plus w.mask.low p)

-- v is the window w with other cells: of the same kind, block and box
pub record SameWindow (w v : CellWin) : Type 0 where
  pub kind : win_kind v.cells ≡ win_kind w.cells
  pub place : win_box v.cells ≡ win_box w.cells

-- v is of the blocks of w
pub record SameBlocks (w v : CellWin) : Type 0 where
  pub cells : win_block v.cells ≡ win_block w.cells
  pub mask : v.mask.block ≡ w.mask.block

-- v holds what w holds at the points of v's box
abbrev pub SameCells : CellWin → CellWin → Type 0
SameCells v w = (cs : List ℕ) → IsPoint w.mask.whole cs → in_box v.mask.low v.mask.shape cs ≡ true → cell_held v cs ≡ cell_held w cs

-- v is of w's blocks and kind, has this box, and holds there what w holds
pub record IsPart (w v : CellWin) (b : Box) : Type 0 where
  pub blocks : SameBlocks w v
  pub kind : win_kind v.cells ≡ win_kind w.cells
  pub place : box_of v.mask ≡ b
  pub cells : SameCells v w
