-- Groups and blocks have positions.
use Rattle.std.proofs.Common.{◌≡◌, ℕ, List, [], ◌∷◌, Ok, sym, subst}
use Rattle.std.specs.List.{AllByRecursion}
use Rattle.xr_types.specs.declared.axis.Axis.{Axis}
use Rattle.xr_defs.specs.declared.grouping.Grouping.{Grouping}
use Rattle.xr_defs.specs.declared.grouping.Grouping.TheVariants.{Dates, Coordinate, Bins, Windows, Blocks}
use Rattle.xr_defs.specs.declared.value.Coord.{Coord}
use Rattle.xr_parts.specs.Frames.{IsFrame}
use Rattle.xr_parts.proofs.Words.{each_weaker}
use Rattle.xr_groups.specs.declared.change.Change.{Change}
use Rattle.xr_groups.specs.declared.change.Least.TheVariants.{Never}
use Rattle.xr_groups.specs.Groupings.{grouped_changes}
use Rattle.xr_groups.specs.Methods.{least_of}
use Rattle.xr_grouping.specs.Changes.{IsChange, Stays}
use Rattle.xr_grouping.proofs.Changed.{blocked, dated, keyed}
use Rattle.xr_group_sets.specs.Listing.{IsFull}

-- each list of a grouping whose lists are never too few
pub full_of : (grouping : Grouping) (axes : List Axis) (coords : List Coord) (others : List (List ℕ)) (cs : List Change) → IsFrame axes coords → least_of grouping ≡ Never → grouped_changes grouping axes coords others ≡ Ok cs → AllByRecursion IsFull cs
full_of (Dates d field) axes coords others cs frame never e = let one = dated axes coords others frame cs d field e in subst (AllByRecursion IsFull) (sym one.is) (one.full, tt)
full_of (Coordinate name) axes coords others cs frame never e = let one = keyed axes coords others frame cs name e in subst (AllByRecursion IsFull) (sym one.is) (one.full, tt)
full_of (Bins d freq) axes coords others cs frame never e = absurd cc
full_of (Windows d w center least) axes coords others cs frame never e = absurd cc
full_of (Blocks sizes trim how) axes coords others cs frame never e = each_weaker (λ c. IsChange axes coords others c × Stays axes c) IsFull cs (λ c both. both.1.full) (blocked axes coords others frame cs sizes trim how e)
