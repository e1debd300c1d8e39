-- One more of what is as it has to be.
use Rattle.std.proofs.Common.{◌≡◌, Bool, true, false, List, ◌∷◌, refl}
use Rattle.std.specs.Prelude.{not, ◌&&◌}
use Rattle.xr_files.specs.Classic.{attr_names}
use Rattle.xr_types.specs.Names.{among, are_distinct, axis_names}
use Rattle.xr_types.specs.declared.attr.Attr.{Attr}
use Rattle.xr_types.specs.declared.axis.Axis.{Axis}
use Rattle.xr_defs.specs.WellFormed.{AreAttributes, AreDimensions, IsAttribute, IsDimension}

one_apart : (there rest : Bool) → there ≡ false → rest ≡ true → (not there && rest) ≡ true
one_apart false true a r = refl
one_apart false false a r = cc
one_apart true rest a r = cc

pub attribute_more : (a : Attr) (rest : List Attr) → IsAttribute a → among (attr_names rest) a.name ≡ false → AreAttributes rest → AreAttributes (a ∷ rest)
attribute_more a rest one apart formed =
    record { each = (one, formed.each); distinct = one_apart (among (attr_names rest) a.name) (are_distinct (attr_names rest)) apart formed.distinct }

pub dimension_more : (x : Axis) (xs : List Axis) → IsDimension x → among (axis_names xs) x.name ≡ false → AreDimensions xs → AreDimensions (x ∷ xs)
dimension_more x xs one apart rest =
    record { each = (one, rest.each); distinct = one_apart (among (axis_names xs) x.name) (are_distinct (axis_names xs)) apart rest.distinct }
