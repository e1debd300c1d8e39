-- The kind of cells that are put together, by cases.
use Rattle.std.proofs.Common.{◌≡◌, ◌∙◌, Bool, true, false, not, List, Option, Some, None, Result, Ok, Err, refl, ap}
use Rattle.xr_types.specs.Results.{◌>>=◌, unless}
use Rattle.xr_types.specs.declared.fault.Fault.{Fault}
use Rattle.xr_types.specs.declared.fault.Fault.TheVariants.{WouldPromote, WrongKind}
use Rattle.xr_types.specs.declared.kind.DType.{DType}
use Rattle.xr_combination.specs.Pieces.{common_kind_in, mixes_chars, promoted_all}

abbrev after : Bool → Option DType → Result DType Fault
after mixed kind = unless (not mixed) WrongKind >>= λ u. elim kind [ None ↦ Err WouldPromote | Some t ↦ Ok t ]

pub mixed_refused : (ts : List DType) → mixes_chars ts ≡ true → common_kind_in ts ≡ Err WrongKind
unfolding common_kind_in unless
mixed_refused ts mixed = ap (λ b. after b (promoted_all ts)) mixed

pub not_promoted : (ts : List DType) → mixes_chars ts ≡ false → promoted_all ts ≡ None → common_kind_in ts ≡ Err WouldPromote
unfolding common_kind_in unless
not_promoted ts mixed none = ap (λ b. after b (promoted_all ts)) mixed ∙ ap (after false) none

pub kind_found : (ts : List DType) (t : DType) → mixes_chars ts ≡ false → promoted_all ts ≡ Some t → common_kind_in ts ≡ Ok t
unfolding common_kind_in unless
kind_found ts t mixed some = ap (λ b. after b (promoted_all ts)) mixed ∙ ap (after false) some
