-- How the axes of a dataset come to the joined ones.
use Rattle.std.proofs.Common.{◌≡◌, List, map}
use Rattle.xr_types.specs.declared.axis.Axis.{Axis}
use Rattle.xr_aligning.specs.declared.fits.Change.{Change}
use Rattle.xr_aligning.specs.Fits.{fit_of, Arrive}
use Rattle.xr_aligning.specs.Fitted.{IsChange}

pub is_change : (c : Change) → c.fits.now ≡ map (fit_of c.joined.now) c.own.now → Arrive c.joined.now c.own.now → IsChange c
is_change c fits arrive = record { fits = fits; arrive = arrive }
