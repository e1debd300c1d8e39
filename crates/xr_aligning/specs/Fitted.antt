-- Coordinates, arrays and variables over joined axes.
use Rattle.std.specs.Prelude.{◌≡◌, ◌++◌, ℤ, true, List, map, Option}
use Rattle.xr_aligning.specs.Common.{AllByRecursion, Axis, Content, Coord, DataArray, IsArrayIn, IsCoordinate, IsThere, Node, array_in, fitted, fitted_coord, is_within, joined_in, shape_over}
use Rattle.xr_aligning.specs.declared.fits.Change.{Change}
use Rattle.xr_aligning.specs.Fits.{content_after, fit_of, Arrive, TakesFill}

-- axes that come to joined ones, and how
pub record IsChange (c : Change) : Type 0 where
  pub fits : c.fits.now ≡ map (fit_of c.joined.now) c.own.now
  pub arrive : Arrive c.joined.now c.own.now

-- what a coordinate over these axes holds, brought over the joined ones
pub record IsContentAfter (c : Change) (axes : List Axis) (content d : Content) : Type 0 where
  pub is : AllByRecursion (IsThere c.own.now) axes → d ≡ content_after c.fill (map (fit_of c.joined.now) axes) content
  pub within : AllByRecursion (IsThere c.own.now) axes → is_within (shape_over (map (joined_in c.joined.now) axes)) ≡ true
  pub takes : AllByRecursion (IsThere c.own.now) axes → TakesFill c.fill (map (fit_of c.joined.now) axes) content

-- a coordinate over these axes, brought over the joined ones
pub record IsFitted (joined : List Axis) (fill : Option ℤ) (own : List Axis) (c d : Coord) : Type 0 where
  pub is : d ≡ fitted_coord joined fill c
  pub formed : IsCoordinate (map (joined_in joined) own) d

-- coordinates so, behind others
pub record AreFitted (joined : List Axis) (fill : Option ℤ) (own : List Axis) (out cs new : List Coord) : Type 0 where
  pub are : new ≡ out ++ map (fitted_coord joined fill) cs
  pub formed : AllByRecursion (IsCoordinate (map (joined_in joined) own)) (map (fitted_coord joined fill) cs)

-- an array so, in a plan that has grown
pub record IsArrayAfter (old new : List Node) (joined : List Axis) (fill : Option ℤ) (a b : DataArray) : Type 0 where
  pub is : array_in new b ≡ fitted joined fill (array_in old a)
  pub inside : IsArrayIn new b
