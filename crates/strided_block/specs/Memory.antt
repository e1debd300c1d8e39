-- What one owner of cells of a block owns and lends, at cells of the row R: a list has an entry for each cell of the block, None at those that the owner does not have.
use Rattle.std.specs.Prelude.{ℕ, ◌+◌, ◌*◌, ◌^◌, List, [], ◌∷◌, length, Option, Some, None}
use Rattle.std.specs.Mem.{type_size}
use base.Fraction.{full_share}
use base.Fml.{Lft, Fml, ftrue, ffalse, fsep, flt}
use denote.RattleType.{RattleType}
use mir.Syntax.{Ty, ty_array}
use mir.Raw.{raw}
use denote.Memory.{lone, part_at, shared_of}
use denote.Sharing.{nothing, said, beside}
use denote.RawPtr.{Ptr, block_ptr, null_ptr}

module _ (R : RattleType) where
  -- a cell, o bytes into the memory b
  abbrev pub one_owned : ℕ → ℕ → Option R.Denot → Fml
  one_owned b o (Some x) = part_at R full_share x b o
  one_owned b o None = ftrue

  -- cells side by side
  abbrev pub all_owned : ℕ → ℕ → List (Option R.Denot) → Fml
  all_owned b o [] = ftrue
  all_owned b o (c ∷ cs) = fsep (one_owned b o c) (all_owned b (o + type_size R) cs)

  abbrev pub one_lent : ℕ → ℕ → Option R.Denot → Lft → Fml
  one_lent b o (Some x) = shared_of R x b o
  one_lent b o None = nothing

  abbrev pub all_lent : ℕ → ℕ → List (Option R.Denot) → Lft → Fml
  all_lent b o [] = nothing
  all_lent b o (c ∷ cs) = beside (one_lent b o c) (all_lent b (o + type_size R) cs)

  -- the block takes fewer than 2 ^ 63 bytes
  abbrev pub small : List (Option R.Denot) → Fml
  small cs = flt (length cs * type_size R) (2 ^ 63)

  abbrev pub cells_owned : Ptr → List (Option R.Denot) → Fml
  cells_owned (block_ptr b o) cs = fsep (small cs) (all_owned b o cs)
  cells_owned null_ptr cs = ffalse

  abbrev pub cells_lent : Ptr → List (Option R.Denot) → Lft → Fml
  cells_lent (block_ptr b o) cs = beside (said (small cs)) (all_lent b o cs)
  cells_lent null_ptr cs = said ffalse

-- the allocator's right to free the memory of so many cells
abbrev pub right_owned : (Ty → Ptr → Fml) → RattleType → Ptr → ℕ → Fml
right_owned token R p n = token (raw (ty_array (lone R.mir) n)) p
