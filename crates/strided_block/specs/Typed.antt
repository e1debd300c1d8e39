-- Blocks, views and windows of cells of one kind: their kind, their sizes, and the numbers at their points.
use Rattle.std.specs.Prelude.{◌≡◌, ◌+◌, ◌-◌, ℕ, ℤ, zero, suc, pos, true, List, get_or, slice_set, Option, Some, None, option_map}
use denote.RawPtr.{Ptr}
use Rattle.xr_types.specs.Points.{IsPoint}
use Rattle.xr_types.specs.declared.kind.DType.{DType}
use Rattle.xr_types.specs.declared.kind.DType.TheVariants as kinds
use Rattle.strided_block.specs.Boxes.{zeros, in_box}
use Rattle.strided_block.specs.Views.{Window, shown, kept, held}
use Rattle.strided_block.specs.declared.typed.TypedBlock.{TypedBlock}
use Rattle.strided_block.specs.declared.typed.TypedBlock.TheVariants as blocks
use Rattle.strided_block.specs.declared.typed.TypedView.{TypedView}
use Rattle.strided_block.specs.declared.typed.TypedView.TheVariants as views
use Rattle.strided_block.specs.declared.typed.TypedWin.{TypedWin}
use Rattle.strided_block.specs.declared.typed.TypedWin.TheVariants as windows

-- the truth value of a byte
abbrev pub truth : ℕ → ℤ
truth zero = pos 0
truth (suc b) = pos 1

-- a number, unless the byte of its mask isn't 0 or isn't there
abbrev pub unless_hidden : Option ℕ → Option ℤ → Option ℤ
unless_hidden (Some zero) n = n
unless_hidden (Some (suc b)) n = None
unless_hidden None n = None

-- the number of a cell, 0 for a missing one
abbrev pub number_or_zero : Option ℤ → ℤ
number_or_zero None = pos 0
number_or_zero (Some n) = n

-- the byte of a mask for a cell
abbrev pub mask_byte : Option ℤ → ℕ
mask_byte None = 1
mask_byte (Some n) = 0

-- ---- blocks

abbrev pub block_kind : TypedBlock → DType
block_kind (blocks.Bool b) = kinds.Bool
block_kind (blocks.Char b) = kinds.Char
block_kind (blocks.Int8 b) = kinds.Int8
block_kind (blocks.Int16 b) = kinds.Int16
block_kind (blocks.Int32 b) = kinds.Int32
block_kind (blocks.Int64 b) = kinds.Int64
block_kind (blocks.UInt8 b) = kinds.UInt8
block_kind (blocks.UInt16 b) = kinds.UInt16
block_kind (blocks.UInt32 b) = kinds.UInt32
block_kind (blocks.UInt64 b) = kinds.UInt64

abbrev pub block_shape : TypedBlock → List ℕ
block_shape (blocks.Bool b) = b.shape
block_shape (blocks.Char b) = b.shape
block_shape (blocks.Int8 b) = b.shape
block_shape (blocks.Int16 b) = b.shape
block_shape (blocks.Int32 b) = b.shape
block_shape (blocks.Int64 b) = b.shape
block_shape (blocks.UInt8 b) = b.shape
block_shape (blocks.UInt16 b) = b.shape
block_shape (blocks.UInt32 b) = b.shape
block_shape (blocks.UInt64 b) = b.shape

-- the number that a block holds at a point
abbrev pub number_kept : TypedBlock → List ℕ → Option ℤ
number_kept (blocks.Bool b) p = option_map truth (kept b p)
number_kept (blocks.Char b) p = option_map pos (kept b p)
number_kept (blocks.Int8 b) p = kept b p
number_kept (blocks.Int16 b) p = kept b p
number_kept (blocks.Int32 b) p = kept b p
number_kept (blocks.Int64 b) p = kept b p
number_kept (blocks.UInt8 b) p = option_map pos (kept b p)
number_kept (blocks.UInt16 b) p = option_map pos (kept b p)
number_kept (blocks.UInt32 b) p = option_map pos (kept b p)
number_kept (blocks.UInt64 b) p = option_map pos (kept b p)

-- ---- views

abbrev pub view_kind : TypedView → DType
view_kind (views.Bool v) = kinds.Bool
view_kind (views.Char v) = kinds.Char
view_kind (views.Int8 v) = kinds.Int8
view_kind (views.Int16 v) = kinds.Int16
view_kind (views.Int32 v) = kinds.Int32
view_kind (views.Int64 v) = kinds.Int64
view_kind (views.UInt8 v) = kinds.UInt8
view_kind (views.UInt16 v) = kinds.UInt16
view_kind (views.UInt32 v) = kinds.UInt32
view_kind (views.UInt64 v) = kinds.UInt64

abbrev pub view_shape : TypedView → List ℕ
view_shape (views.Bool v) = v.shape
view_shape (views.Char v) = v.shape
view_shape (views.Int8 v) = v.shape
view_shape (views.Int16 v) = v.shape
view_shape (views.Int32 v) = v.shape
view_shape (views.Int64 v) = v.shape
view_shape (views.UInt8 v) = v.shape
view_shape (views.UInt16 v) = v.shape
view_shape (views.UInt32 v) = v.shape
view_shape (views.UInt64 v) = v.shape

-- the number that a view shows at a point
abbrev pub number_shown : TypedView → List ℕ → Option ℤ
number_shown (views.Bool v) p = option_map truth (shown v p)
number_shown (views.Char v) p = option_map pos (shown v p)
number_shown (views.Int8 v) p = shown v p
number_shown (views.Int16 v) p = shown v p
number_shown (views.Int32 v) p = shown v p
number_shown (views.Int64 v) p = shown v p
number_shown (views.UInt8 v) p = option_map pos (shown v p)
number_shown (views.UInt16 v) p = option_map pos (shown v p)
number_shown (views.UInt32 v) p = option_map pos (shown v p)
number_shown (views.UInt64 v) p = option_map pos (shown v p)

-- ---- windows

abbrev pub win_kind : TypedWin → DType
win_kind (windows.Bool w) = kinds.Bool
win_kind (windows.Char w) = kinds.Char
win_kind (windows.Int8 w) = kinds.Int8
win_kind (windows.Int16 w) = kinds.Int16
win_kind (windows.Int32 w) = kinds.Int32
win_kind (windows.Int64 w) = kinds.Int64
win_kind (windows.UInt8 w) = kinds.UInt8
win_kind (windows.UInt16 w) = kinds.UInt16
win_kind (windows.UInt32 w) = kinds.UInt32
win_kind (windows.UInt64 w) = kinds.UInt64

-- a window's box: its block's sizes, where it begins there, and its sizes
pub record Box : Type 0 where
  pub whole : List ℕ
  pub low : List ℕ
  pub shape : List ℕ

abbrev pub box_of : {X : Type 0} → Window X → Box
box_of w = record { whole = w.whole; low = w.low; shape = w.shape }

-- the box is the whole block
pub record IsWide (b : Box) : Type 0 where
  pub low : b.low ≡ zeros b.whole
  pub shape : b.shape ≡ b.whole

abbrev pub win_box : TypedWin → Box
win_box (windows.Bool w) = box_of w
win_box (windows.Char w) = box_of w
win_box (windows.Int8 w) = box_of w
win_box (windows.Int16 w) = box_of w
win_box (windows.Int32 w) = box_of w
win_box (windows.Int64 w) = box_of w
win_box (windows.UInt8 w) = box_of w
win_box (windows.UInt16 w) = box_of w
win_box (windows.UInt32 w) = box_of w
win_box (windows.UInt64 w) = box_of w

-- the number that a window holds at a point of its block
abbrev pub number_held : TypedWin → List ℕ → Option ℤ
number_held (windows.Bool w) cs = option_map truth (held w cs)
number_held (windows.Char w) cs = option_map pos (held w cs)
number_held (windows.Int8 w) cs = held w cs
number_held (windows.Int16 w) cs = held w cs
number_held (windows.Int32 w) cs = held w cs
number_held (windows.Int64 w) cs = held w cs
number_held (windows.UInt8 w) cs = option_map pos (held w cs)
number_held (windows.UInt16 w) cs = option_map pos (held w cs)
number_held (windows.UInt32 w) cs = option_map pos (held w cs)
number_held (windows.UInt64 w) cs = option_map pos (held w cs)

-- ---- windows that are split and joined

-- which block a window is of
abbrev pub win_block : TypedWin → Ptr
win_block (windows.Bool w) = w.block
win_block (windows.Char w) = w.block
win_block (windows.Int8 w) = w.block
win_block (windows.Int16 w) = w.block
win_block (windows.Int32 w) = w.block
win_block (windows.Int64 w) = w.block
win_block (windows.UInt8 w) = w.block
win_block (windows.UInt16 w) = w.block
win_block (windows.UInt32 w) = w.block
win_block (windows.UInt64 w) = w.block

-- the part of a box below a position along an axis, and the rest
abbrev pub low_part : Box → ℕ → ℕ → Box
low_part b axis at = record { whole = b.whole; low = b.low; shape = slice_set b.shape axis at }

abbrev pub high_part : Box → ℕ → ℕ → Box
high_part b axis at = record { whole = b.whole; low = slice_set b.low axis (get_or b.low axis 0 + at); shape = slice_set b.shape axis (get_or b.shape axis 0 - at) }

-- c goes on along the axis where b ends
pub record AreHalves (b c : Box) (axis : ℕ) : Type 0 where
  pub whole : c.whole ≡ b.whole
  pub low : c.low ≡ slice_set b.low axis (get_or b.low axis 0 + get_or b.shape axis 0)
  pub shape : c.shape ≡ slice_set b.shape axis (get_or c.shape axis 0)

-- both of them
abbrev pub both_parts : Box → Box → ℕ → Box
both_parts b c axis = record { whole = b.whole; low = b.low; shape = slice_set b.shape axis (get_or b.shape axis 0 + get_or c.shape axis 0) }

-- v is of w's block and kind
pub record OfBlock (w v : TypedWin) : Type 0 where
  pub kind : win_kind v ≡ win_kind w
  pub block : win_block v ≡ win_block w

-- v holds what w holds at the points of v's box
abbrev pub SameNumbers : TypedWin → TypedWin → Type 0
SameNumbers v w = (cs : List ℕ) → IsPoint (win_box w).whole cs → in_box (win_box v).low (win_box v).shape cs ≡ true → number_held v cs ≡ number_held w cs
