-- How the axes of a value come to joined ones, and cells along them, one axis after another.
use Rattle.std.specs.Prelude.{◌≡◌, ◌+◌, ℕ, ℤ, Bool, true, false, List, [], ◌∷◌, ◌++◌, length, map, Option, Some, None, is_none, All, ⊤, if◌then◌else◌}
use Rattle.xr_aligning.specs.Common.{AllByRecursion, Array, Axis, Content, IsBelow, IsCell, Step, Take, bytes_eq, joined_in, list_any, masked_with, sources, stays, steps_value}
use Rattle.xr_defs.specs.declared.value.Content.TheVariants as contents
use Rattle.xr_aligning.specs.declared.fits.Fit.{Fit}

-- ---- one axis

abbrev pub unless_stays : Bool → List (Option ℕ) → Option (List (Option ℕ))
unless_stays true from = None
unless_stays false from = Some from

-- its name, the sizes of both, the positions unless they stay, and whether some position has no source
abbrev pub fit_to : Axis → Axis → Fit
fit_to x j = record { name = x.name; own = x.size; size = j.size; from = unless_stays (stays x.labels j.labels) (sources x j); hole = list_any is_none (sources x j) }

abbrev pub fit_of : List Axis → Axis → Fit
fit_of joined x = fit_to x (joined_in joined x)

-- an axis that comes to another one
pub record Reaches (x j : Axis) : Type 0 where
  pub name : j.name ≡ x.name
  pub long : length (sources x j) ≡ j.size
  pub below : All (IsBelow x.size) (sources x j)
  pub kept : stays x.labels j.labels ≡ true → x.size ≡ j.size

abbrev pub Arrives : List Axis → Axis → Type 0
Arrives joined x = Reaches x (joined_in joined x)

-- each of these axes comes to its joined one
abbrev pub Arrive : List Axis → List Axis → Type 0
Arrive joined xs = AllByRecursion (Arrives joined) xs

-- the fit of a name
abbrev pub fit_called : List Fit → List ℕ → Option Fit
fit_called [] name = None
fit_called (f ∷ fs) name = if bytes_eq f.name name then Some f else fit_called fs name

-- the sizes of the joined axes, and those of the axes that come to them
abbrev pub sizes : List Fit → List ℕ
sizes fs = map (λ (f : Fit). f.size) fs

abbrev pub own_sizes : List Fit → List ℕ
own_sizes fs = map (λ (f : Fit). f.own) fs

-- ---- cells along axes that come to joined ones

abbrev pub any_hole : List Fit → Bool
any_hole fs = list_any (λ (f : Fit). f.hole) fs

-- a fill where it is needed
abbrev pub fill_in : Bool → Option ℤ → Option ℤ
fill_in true fill = fill
fill_in false fill = None

-- the steps along axes that stand from number k on
abbrev pub step_by : Option ℤ → ℕ → Option (List (Option ℕ)) → List Step
step_by fill k None = []
step_by fill k (Some from) = Take k from fill false ∷ []

abbrev pub steps_from : Option ℤ → ℕ → List Fit → List Step
steps_from fill k [] = []
steps_from fill k (f ∷ fs) = step_by fill k f.from ++ steps_from fill (k + 1) fs

abbrev pub cells_after : Option ℤ → List Fit → Array → Array
cells_after fill fs a = steps_value (steps_from (fill_in (any_hole fs) fill) 0 fs) a

abbrev pub content_after : Option ℤ → List Fit → Content → Content
content_after fill fs (contents.Cells a masked) = contents.Cells (cells_after fill fs a) (masked_with masked fill (any_hole fs))
content_after fill fs (contents.Text t) = contents.Text t
content_after fill fs (contents.Time coding t) = contents.Time coding t

-- the fill is a cell of theirs where it is needed
abbrev pub TakesFill : Option ℤ → List Fit → Content → Type 0
TakesFill fill fs (contents.Cells a masked) = IsCell a.kind (fill_in (any_hole fs) fill)
TakesFill fill fs (contents.Text t) = ⊤
TakesFill fill fs (contents.Time coding t) = ⊤
