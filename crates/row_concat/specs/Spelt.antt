-- Bytes of files that spell arrays.
use Rattle.std.specs.Prelude.{◌≡◌, ℕ, ℤ, List, [], ◌∷◌, ⊤}
use Rattle.xr_types.specs.declared.attr.NcType.{NcType}
use Rattle.xr_arrays.specs.Arrays.{Array}
use Rattle.xr_arrays.specs.Pieces.{values_in, AreInside}
use Rattle.xr_arrays.specs.Stored.{stored_array, IsStored}
use Rattle.row_concat.specs.declared.spelt.Values.{Values}

-- bytes spell an array, in a type and with fill numbers
pub record Spells (kind : NcType) (fills : List ℤ) (raw : List ℕ) (a : Array) : Type 0 where
  pub is : a ≡ stored_array a.shape kind raw fills
  pub stored : IsStored a.shape kind raw

-- the bytes at each place spell the array there
abbrev pub AllSpell : NcType → List ℤ → List (List ℕ) → List Array → Type 0
AllSpell kind fills [] [] = ⊤
AllSpell kind fills (raw ∷ raws) (a ∷ arrays) = Spells kind fills raw a × AllSpell kind fills raws arrays
AllSpell kind fills raws arrays = ⊥

-- the pieces lie inside, and hold so many values
pub record AreValues (kind : NcType) (v : Values) : Type 0 where
  pub inside : AreInside kind v.pieces.now
  pub counted : v.count ≡ values_in v.pieces.now
