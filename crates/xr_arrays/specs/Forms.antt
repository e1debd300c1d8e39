-- The two forms in which an array is kept.
use Rattle.std.specs.Prelude.{◌≡◌}
use Rattle.xr_arrays.specs.Arrays.{Array}
use Rattle.xr_arrays.specs.declared.array.Held.{Held}
use Rattle.xr_arrays.specs.declared.array.Held.TheVariants.{Typed, Stored}
use Rattle.xr_arrays.specs.declared.array.Form.{Form}
use Rattle.xr_arrays.specs.declared.array.Form.TheVariants as forms

abbrev pub held_array : Held → Array
held_array (Typed a) = a
held_array (Stored a) = a

-- a form shows an array
abbrev pub Shows : Form → Array → Type 0
Shows (forms.Typed a) b = a.now ≡ b
Shows (forms.Stored a) b = a.now ≡ b
