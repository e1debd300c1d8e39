-- Blocks, views and windows: finite maps from points to cells. Contracts speak of them by `shown`, `together`, `held`, `cell_at` and the facts below, and by their sizes.
use Rattle.std.specs.Prelude.{◌≡◌, ◌<◌, ◌^◌, ◌+◌, ℕ, Bool, true, List, map, drop, length, get_or, Option, Some, None, is_some, bytes_eq, leb, ◌||◌, slice_set}
use denote.RawPtr.{Ptr}
use Rattle.xr_types.specs.Points.{size, place, IsPoint}
use Rattle.strided_block.specs.Boxes.{Fits, plus, zeros, in_box}
use Rattle.strided_block.specs.Steps.{spot, row_steps}

-- a block: its sizes and its cells in row order
pub record Stored (X : Type 0) : Type 0 where
  pub shape : List ℕ
  pub cells : List X

-- a view: its sizes, the place of its first cell, how many places on the next cell lies along each axis, and the block's cells in row order
pub record Seen (X : Type 0) : Type 0 where
  pub shape : List ℕ
  pub start : ℕ
  pub steps : List ℕ
  pub slots : List (Option X)

-- a window: which block it is of, the block's sizes, where its box begins there, the sizes of the box, and the block's cells in row order, None at those that it does not have
pub record Window (X : Type 0) : Type 0 where
  pub block : Ptr
  pub whole : List ℕ
  pub low : List ℕ
  pub shape : List ℕ
  pub slots : List (Option X)

module _ {X : Type 0} where
  -- what a view shows at a point
  abbrev pub shown : Seen X → List ℕ → Option X
  shown v ps = get_or v.slots (spot v.start v.steps ps) None

  -- the cells of the points that agree before this axis lie side by side, in row order
  abbrev pub together : Seen X → ℕ → Bool
  together v axis = leb (length v.shape) axis || bytes_eq (drop axis v.steps) (drop axis (row_steps v.shape))

  -- what a block holds at a point
  abbrev pub kept : Stored X → List ℕ → Option X
  kept b cs = get_or (map Some b.cells) (place b.shape cs) None

  -- what a window holds at a point of its block
  abbrev pub held : Window X → List ℕ → Option X
  held w cs = get_or w.slots (place w.whole cs) None

  -- what a window holds at a point of its box
  abbrev pub cell_at : Window X → List ℕ → Option X
  cell_at w ps = held w (plus w.low ps)

  -- v is cut from w's block, with the box from ls on of the sizes ss, which lies in the block
  pub record Cut (w v : Window X) (ls ss : List ℕ) : Type 0 where
    pub block : v.block ≡ w.block
    pub whole : v.whole ≡ w.whole
    pub low : v.low ≡ ls
    pub shape : v.shape ≡ ss
    pub fits : Fits v.whole v.low v.shape

  -- v holds what w holds at the points of the block outside w's box
  abbrev pub KeptOutside : Window X → Window X → Type 0
  KeptOutside w v = (cs : List ℕ) → IsPoint w.whole cs → ((p : List ℕ) → IsPoint w.shape p → ¬ (cs ≡ plus w.low p)) → held v cs ≡ held w cs

  -- the window's box is its whole block
  pub record IsWhole (w : Window X) : Type 0 where
    pub low : w.low ≡ zeros w.whole
    pub shape : w.shape ≡ w.whole

  -- v holds what w holds at the points of v's box
  abbrev pub SameIn : Window X → Window X → Type 0
  SameIn v w = (cs : List ℕ) → IsPoint w.whole cs → in_box v.low v.shape cs ≡ true → held v cs ≡ held w cs

  -- v is of w's block, and its box goes on along the axis where w's ends
  pub record Halves (w v : Window X) (axis : ℕ) : Type 0 where
    pub block : v.block ≡ w.block
    pub whole : v.whole ≡ w.whole
    pub low : v.low ≡ slice_set w.low axis (get_or w.low axis 0 + get_or w.shape axis 0)
    pub shape : v.shape ≡ slice_set w.shape axis (get_or v.shape axis 0)

  -- a window has the cells of its box, and no others
  pub record IsSound (w : Window X) : Type 0 where
    pub count : length w.slots ≡ size w.whole
    pub small : length w.slots < 2 ^ 63
    pub fits : Fits w.whole w.low w.shape
    pub has : (cs : List ℕ) → IsPoint w.whole cs → is_some (held w cs) ≡ in_box w.low w.shape cs

  -- the view of cells that begins at a place and goes by these steps
  abbrev pub stepped_sight : List (Option X) → ℕ → List ℕ → List ℕ → Seen X
  stepped_sight slots start steps shape = record { shape = shape; start = start; steps = steps; slots = slots }

  -- the view of a box in a block
  abbrev pub sight : List X → List ℕ → List ℕ → List ℕ → Seen X
  sight cells whole low shape = stepped_sight (map Some cells) (place whole low) (row_steps whole) shape

  -- the view of a window's cells
  abbrev pub window_sight : Window X → Seen X
  window_sight w = stepped_sight w.slots (spot 0 (row_steps w.whole) w.low) (row_steps w.whole) w.shape

  -- the cell at a place is there
  abbrev pub IsThere : List (Option X) → ℕ → Type 0
  IsThere slots k = is_some (get_or slots k None) ≡ true

  -- a cell for each point
  pub record IsFull (shape : List ℕ) (cells : List X) : Type 0 where
    pub count : length cells ≡ size shape
    pub small : length cells < 2 ^ 63

  -- a view has a step along each axis, and each of its points has a cell
  pub record IsClear (slots : List (Option X)) (start : ℕ) (steps shape : List ℕ) : Type 0 where
    pub small : length slots < 2 ^ 63
    pub ranks : length steps ≡ length shape
    pub inside : (ps : List ℕ) → IsPoint shape ps → IsThere slots (spot start steps ps)

  -- the same, and no two of its points have one cell
  pub record IsLaid (slots : List (Option X)) (start : ℕ) (steps shape : List ℕ) : Type 0 where
    pub clear : IsClear slots start steps shape
    pub apart : (p q : List ℕ) → IsPoint shape p → IsPoint shape q → spot start steps p ≡ spot start steps q → p ≡ q
