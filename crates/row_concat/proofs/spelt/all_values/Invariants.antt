use Rattle.std.proofs.Common.{map, take}
use Rattle.std.specs.List.{All}
use Rattle.xr_arrays.specs.Pieces.{together}
use Rattle.row_concat.specs.Spelt.{AllSpell, AreValues}
use Rattle.row_concat.proofs.spelt.all_values.Given as goal

abbrev pub invariant-loop-array : goal.invariant-loop-array
invariant-loop-array l = record {
  spell : AllSpell l.kind l.fills (map (λ v. together l.kind v.pieces.now) l.all.items) (map (λ a. a.now) (take l.array-index l.arrays));
  counted : All (AreValues l.kind) l.all.items;
}
