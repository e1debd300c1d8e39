-- An operator of two arrays, one step after the other.
use Rattle.std.proofs.Common.{◌≡◌, ◌≤◌, length, Bool, true, false, List, [], ◌∷◌, None, Result, Ok, Err, refl, sym, ap, subst, ◌∙◌}
use Rattle.std.specs.List.{AllByRecursion}
use Rattle.xr_types.specs.Names.{shape_over}
use Rattle.xr_types.specs.Points.{size}
use Rattle.xr_arrays.specs.Elements.{takes_two, Suits}
use Rattle.xr_types.specs.Results.{◌>>=◌, unless, Answers}
use Rattle.xr_types.specs.declared.axis.Axis.{Axis}
use Rattle.xr_types.specs.declared.fault.CallFault.{CallFault}
use Rattle.xr_types.specs.declared.fault.CallFault.TheVariants.{Refused, Declined, NoMemory}
use Rattle.xr_types.specs.declared.fault.Fault.{Fault}
use Rattle.xr_types.specs.declared.fault.Fault.TheVariants.{TooLarge}
use Rattle.xr_types.specs.declared.kind.DType.{DType}
use Rattle.xr_types.specs.declared.operation.How.TheVariants.{Inner}
use Rattle.xr_types.specs.declared.operation.OpKind.{OpKind}
use Rattle.xr_arrays.specs.declared.node.Node.{Node}
use Rattle.xr_defs.specs.Room.{of_array, Portion}
use Rattle.xr_defs.specs.Selecting.{check_array, is_within}
use Rattle.xr_defs.specs.Values as of
use Rattle.xr_operations.specs.Alignment.{aligned, fitted}
use Rattle.xr_operations.specs.Arithmetic.{common_kind, of_two_arrays, paired}
use Rattle.xr_values.specs.Answers.{Fails}
use Rattle.xr_values.specs.declared.data_array.DataArray.{DataArray}
use Rattle.xr_values.specs.Stands.{array_in, IsArrayIn}
use Rattle.xr_formulas.specs.declared.made.Made.{Made}
use Rattle.xr_joining.specs.Fitted.{AreJoined}
use Rattle.xr_joining.specs.TwoArrays.{pair_made, AnswersMadeOf, IsPair}
use Rattle.xr_joining.proofs.CommonKinds.{common_ok}
use Rattle.xr_joining.proofs.JoinedAxes.{are_joined}
use Rattle.xr_joining.proofs.PairsMade.{empty_is, empty_made, limits, pair_is, pair_is_made, within_parts}

-- a fault of the first step is that of the whole
pub first_fails : {A B D : Type 0} (v : A → B) (e : CallFault) (told : Result B Fault) (k : B → Result D Fault) → Answers v (Err e) told → Fails e (told >>= k)
first_fails v (Refused f) told k h = ap (λ r. r >>= k) h
first_fails v (Declined n) told k h = h
first_fails v NoMemory told k h = tt

module _ (nodes : List Node) (op : OpKind) (a b : DataArray) (is : IsArrayIn nodes a) (js : IsArrayIn nodes b) where
  abbrev first : of.DataArray
  first = array_in nodes a

  abbrev second : of.DataArray
  second = array_in nodes b

  abbrev told : Result of.DataArray Fault
  told = of_two_arrays op first second

  abbrev operands : List Portion
  operands = of_array first ∷ of_array second ∷ []

  abbrev axes_of : Result (List Axis) Fault
  axes_of = aligned Inner false (a.axes ∷ b.axes ∷ [])

  abbrev means : DType → List Axis → of.DataArray
  means t axes = paired op t axes (fitted axes None first) (fitted axes None second)

  abbrev rest : DType → List Axis → Result of.DataArray Fault
  rest t axes = check_array (means t axes) >>= λ u. Ok (means t axes)

  told_is : told ≡ (common_kind op a.kind b.kind >>= λ t. axes_of >>= λ axes. rest t axes)
  unfolding of_two_arrays
  told_is = refl

  pub kind_fails : (e : CallFault) → Answers (λ (k : DType). k) (Err e) (common_kind op a.kind b.kind) → Fails e told
  kind_fails e h = subst (Fails e) (sym told_is) (first_fails (λ (k : DType). k) e (common_kind op a.kind b.kind) (λ t. axes_of >>= λ axes. rest t axes) h)

  module _ (t : DType) (kind : common_kind op a.kind b.kind ≡ Ok t) where
    after_kind : told ≡ (axes_of >>= λ axes. rest t axes)
    after_kind = told_is ∙ ap (λ r. r >>= λ t. axes_of >>= λ axes. rest t axes) kind

    pub axes_fail : (e : CallFault) → Answers (λ (xs : List Axis). xs) (Err e) axes_of → Fails e told
    axes_fail e h = subst (Fails e) (sym after_kind) (first_fails (λ (xs : List Axis). xs) e axes_of (λ axes. rest t axes) h)

    module _ (axes : List Axis) (is_axes : axes_of ≡ Ok axes) where
      after_axes : told ≡ rest t axes
      after_axes = after_kind ∙ ap (λ r. r >>= λ axes. rest t axes) is_axes

      joined : AreJoined a.axes b.axes axes
      joined = are_joined a.axes b.axes is.formed.axes.each js.formed.axes.each axes is_axes is.formed.axes.distinct js.formed.axes.distinct

      both : (takes_two op ≡ true) × Suits op t
      both = common_ok a.kind b.kind t op kind

      pub too_large : is_within (shape_over axes) ≡ false → told ≡ Err TooLarge
      unfolding unless
      too_large e = after_axes ∙ ap (λ r. r >>= λ u. Ok (means t axes)) (limits nodes op t axes a b is js joined both.0 both.1 false e)

      within : is_within (shape_over axes) ≡ true → told ≡ Ok (means t axes)
      unfolding unless
      within e = after_axes ∙ ap (λ r. r >>= λ u. Ok (means t axes)) (limits nodes op t axes a b is js joined both.0 both.1 true e)

      pub answered : (m : Made) → is_within (shape_over axes) ≡ true → (AreJoined a.axes b.axes axes → IsPair nodes op t axes a b m) → AnswersMadeOf operands nodes (Ok m) told
      answered m e pairs =
          let parts = within_parts axes e in
          let pair = pairs joined in
          subst (λ m. AnswersMadeOf operands nodes (Ok m) told) (sym pair.is) (by pair.none pair.empty pair.full parts.0 parts.1)
        where
          by : (none : Bool) → (none ≡ true → size (shape_over axes) ≡ 0) → (none ≡ false → AllByRecursion (λ (x : Axis). 1 ≤ x.size) axes) → length axes ≤ 16 → size (shape_over axes) ≤ 33554432 → AnswersMadeOf operands nodes (Ok (pair_made nodes none op t axes a b)) told
          by true empty full low few =
              let is_made = empty_made nodes op t axes a b is js joined both.0 both.1 low few (empty refl) in
              (within e ∙ ap Ok (sym (empty_is nodes op t axes a b is js joined both.0 both.1 low few (empty refl))), is_made)
          by false empty full low few =
              let is_made = pair_is_made nodes op t axes a b is js joined both.0 both.1 low few (full refl) in
              (within e ∙ ap Ok (sym (pair_is nodes op t axes a b is js joined both.0 both.1 low few (full refl))), is_made)
