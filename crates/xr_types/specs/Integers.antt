-- Whole numbers as the code keeps them, and as contracts see them.
use Rattle.std.specs.Prelude.{◌≡◌, ℤ, pos, List, map}
use Rattle.xr_types.specs.declared.integers.Held.{Held}
use Rattle.xr_types.specs.declared.integers.Held.TheVariants as held
use Rattle.xr_types.specs.declared.integers.IntegersForm.{IntegersForm}
use Rattle.xr_types.specs.declared.integers.IntegersForm.TheVariants as form

abbrev pub held_numbers : Held → List ℤ
held_numbers (held.Signed numbers) = numbers
held_numbers (held.Unsigned numbers) = map pos numbers

-- a form shows these numbers
abbrev pub Shows : IntegersForm → List ℤ → Type 0
Shows (form.Signed numbers) all = numbers.now ≡ all
Shows (form.Unsigned numbers) all = map pos numbers.now ≡ all
