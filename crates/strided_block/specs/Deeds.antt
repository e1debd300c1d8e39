-- The right to free a block: it goes with the block's first cell.
use Rattle.std.specs.Prelude.{◌≡◌, ℕ, true, false, List, length, map, get_or, Option, Some, None, is_some}
use denote.RawPtr.{Ptr}
use Rattle.strided_block.specs.Parts.{somes}
use Rattle.strided_block.specs.Views.{IsFull}
use Rattle.strided_block.specs.declared.memory.Origin.{Origin}
use Rattle.strided_block.specs.declared.memory.Share.{Share}
use Rattle.strided_block.specs.declared.memory.Deed.{Deed}

module _ {X : Type 0} where
  abbrev pub base_at : Origin X → Ptr
  base_at b = b.ptr

  abbrev pub cells_at : Share X → Ptr
  cells_at c = c.at

  abbrev pub cells_slots : Share X → List (Option X)
  cells_slots c = c.slots

  abbrev pub deed_at : Deed X → Ptr
  deed_at d = d.right.at

  abbrev pub deed_count : Deed X → ℕ
  deed_count d = d.right.count

  -- who has the first cell of a block has the right to free it
  abbrev pub HasDeed : Ptr → List (Option X) → Option (Deed X) → Type 0
  HasDeed p slots None = is_some (get_or slots 0 None) ≡ false
  HasDeed p slots (Some d) = (is_some (get_or slots 0 None) ≡ true) × (deed_at d ≡ p) × (deed_count d ≡ length slots)

  -- the pointer is that of the cells, and the deed is where it belongs
  pub record IsOwner (from at : Ptr) (slots : List (Option X)) (right : Option (Deed X)) : Type 0 where
    pub base : from ≡ at
    pub deed : HasDeed at slots right

  -- all cells of a block
  pub record IsBlock (shape : List ℕ) (from at : Ptr) (slots : List (Option X)) (right : Option (Deed X)) : Type 0 where
    pub owner : IsOwner from at slots right
    pub whole : slots ≡ map Some (somes slots)
    pub full : IsFull shape (somes slots)
