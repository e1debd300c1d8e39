-- A choice, one step after the other.
use Rattle.std.proofs.Common.{◌≡◌, ◌≤◌, ◌++◌, length, Bool, true, false, not, List, [], ◌∷◌, map, None, Result, Ok, Err, refl, sym, ap, subst, ◌∙◌}
use Rattle.std.specs.List.{AllByRecursion}
use Rattle.xr_types.specs.Kinds.{in_range}
use Rattle.xr_types.specs.Names.{are_distinct, axis_names, shape_over}
use Rattle.xr_types.specs.Points.{size}
use Rattle.xr_types.specs.Results.{◌>>=◌, unless, Answers}
use Rattle.xr_types.specs.declared.axis.Axis.{Axis}
use Rattle.xr_types.specs.declared.fault.CallFault.{CallFault}
use Rattle.xr_types.specs.declared.fault.Fault.{Fault}
use Rattle.xr_types.specs.declared.fault.Fault.TheVariants.{DoesNotFit, TooLarge, WrongKind}
use Rattle.xr_types.specs.declared.kind.DType.{DType}
use Rattle.xr_types.specs.declared.operation.How.TheVariants.{Exact}
use Rattle.xr_arrays.specs.declared.node.Node.{Node}
use Rattle.xr_defs.specs.Selecting.{check_array, is_within}
use Rattle.xr_defs.specs.Values as of
use Rattle.xr_defs.specs.WellFormed.{IsDimension}
use Rattle.xr_operations.specs.Alignment.{aligned, fitted}
use Rattle.xr_operations.specs.CellMethods as calls
use Rattle.xr_operations.specs.CellMethods.{both_missing, check_branch, chosen, chosen_kind, where_over}
use Rattle.xr_values.specs.Answers.{Fails}
use Rattle.xr_values.specs.declared.data_array.DataArray.{DataArray}
use Rattle.xr_values.specs.Stands.{array_in, IsArrayIn}
use Rattle.xr_formulas.specs.declared.made.Made.{Made}
use Rattle.xr_formulas.specs.Mades.{AnswersMade}
use Rattle.xr_joining.specs.Fitted.{Arrives}
use Rattle.xr_joining.proofs.MeetLaws.{unless_ok}
use Rattle.xr_joining.proofs.PairsMade.{within_parts}
use Rattle.xr_joining.proofs.TwoAnswers.{first_fails}
use Rattle.xr_choosing.specs.declared.branches.Branch.{Branch}
use Rattle.xr_choosing.specs.declared.branches.Branch.TheVariants as branches
use Rattle.xr_choosing.specs.Branches.{arrays_of, branch_in, carry_of, operands_of, IsBranchIn}
use Rattle.xr_choosing.specs.Choices.{choice_made, AreFitted, IsChoice}
use Rattle.xr_choosing.proofs.Aligned.{are_rested, Arrived, AreRested}
use Rattle.xr_choosing.proofs.ChoicesMade.{choice_is, choice_is_made, each_operand, empty_is, empty_made, limits}
use Rattle.xr_choosing.proofs.Sides.{all_arrive, BranchArrives, BranchFits}

pub answers_fail : (nodes : List Node) (r : Result Made CallFault) (e : CallFault) (told : Result of.DataArray Fault) → r ≡ Err e → Fails e told → AnswersMade nodes r told
answers_fail nodes r e told is fails = subst (λ r. AnswersMade nodes r told) (sym is) fails

axes_in : (nodes : List Node) (arrays : List DataArray) → map (λ (a : of.DataArray). a.axes) (map (array_in nodes) arrays) ≡ map (λ (a : DataArray). a.axes) arrays
axes_in nodes [] = refl
axes_in nodes (a ∷ arrays) = ap (λ xs. a.axes ∷ xs) (axes_in nodes arrays)

-- ---- what holds of all axes holds of those of each operand

abbrev axes_of : List DataArray → List (List Axis)
axes_of arrays = map (λ (a : DataArray). a.axes) arrays

parted : (P : List Axis → Type 0) (xs ys : List DataArray) → AllByRecursion P (axes_of (xs ++ ys)) → AllByRecursion P (axes_of xs) × AllByRecursion P (axes_of ys)
parted P [] ys all = (tt, all)
parted P (x ∷ xs) ys all = let rest = parted P xs ys all.1 in ((all.0, rest.0), rest.1)

three_parts : (P : List Axis → Type 0) (method : Bool) (c : DataArray) (x y : Branch) → AllByRecursion P (axes_of (operands_of method c x y)) → P c.axes × AllByRecursion P (axes_of (arrays_of x)) × AllByRecursion P (axes_of (arrays_of y))
three_parts P true c x y all = let parts = parted P (arrays_of x) (c ∷ arrays_of y) all in (parts.1.0, parts.0, parts.1.1)
three_parts P false c x y all = let parts = parted P (arrays_of x) (arrays_of y) all.1 in (all.0, parts.0, parts.1)

branch_arrives : (axes : List Axis) (x : Branch) → AllByRecursion (λ (own : List Axis). AllByRecursion (Arrived axes) own) (axes_of (arrays_of x)) → BranchArrives axes x
branch_arrives axes (branches.Array a) all = all.0
branch_arrives axes (branches.Number n) all = tt
branch_arrives axes (branches.Truth b) all = tt
branch_arrives axes branches.Missing all = tt

branch_fits : (nodes : List Node) (t : DType) (x : Branch) (u : Unit {0}) → check_branch t (branch_in nodes x) ≡ Ok u → BranchFits t x
unfolding check_branch
branch_fits nodes t (branches.Array a) u e = tt
branch_fits nodes t (branches.Number n) u e = unless_ok (in_range t n) DoesNotFit u e
branch_fits nodes t (branches.Truth b) u e = tt
branch_fits nodes t branches.Missing u e = tt

module _ (nodes : List Node) (method : Bool) (c : DataArray) (x y : Branch) (is : IsArrayIn nodes c) (first : IsBranchIn nodes x) (second : IsBranchIn nodes y) where
  abbrev one : calls.Branch
  one = branch_in nodes x

  abbrev other : calls.Branch
  other = branch_in nodes y

  abbrev arrays : List DataArray
  arrays = operands_of method c x y

  abbrev told : Result of.DataArray Fault
  told = where_over (carry_of method) (map (array_in nodes) arrays) (array_in nodes c) one other

  abbrev axes_from : Result (List Axis) Fault
  axes_from = aligned Exact false (axes_of arrays)

  abbrev means : DType → List Axis → of.DataArray
  means t axes = chosen (carry_of method) (map (fitted axes None) (map (array_in nodes) arrays)) t axes (array_in nodes c) one other

  abbrev last : DType → List Axis → Result of.DataArray Fault
  last t axes = check_array (means t axes) >>= λ r. Ok (means t axes)

  abbrev after_join : DType → List Axis → Result of.DataArray Fault
  after_join t axes = check_branch t one >>= λ w. check_branch t other >>= λ z. last t axes

  abbrev after_kind : DType → Result of.DataArray Fault
  after_kind t = axes_from >>= λ axes. after_join t axes

  abbrev after_some : Unit {0} → Result of.DataArray Fault
  after_some u = chosen_kind one other >>= λ t. after_kind t

  told_is : told ≡ (unless (not (both_missing one other)) WrongKind >>= after_some)
  unfolding where_over
  told_is = ap (λ (lists : List (List Axis)). unless (not (both_missing one other)) WrongKind >>= λ u. chosen_kind one other >>= λ t. aligned Exact false lists >>= λ axes. after_join t axes) (axes_in nodes arrays)

  pub no_cells : both_missing one other ≡ true → told ≡ Err WrongKind
  unfolding unless
  no_cells none = told_is ∙ ap (λ b. unless (not b) WrongKind >>= after_some) none

  module _ (some : both_missing one other ≡ false) where
    with_cells : told ≡ (chosen_kind one other >>= λ t. after_kind t)
    unfolding unless
    with_cells = told_is ∙ ap (λ b. unless (not b) WrongKind >>= after_some) some

    pub kind_fails : (e : CallFault) → Answers (λ (k : DType). k) (Err e) (chosen_kind one other) → Fails e told
    kind_fails e h = subst (Fails e) (sym with_cells) (first_fails (λ (k : DType). k) e (chosen_kind one other) after_kind h)

    module _ (t : DType) (kind : chosen_kind one other ≡ Ok t) where
      of_kind : told ≡ after_kind t
      of_kind = with_cells ∙ ap (λ r. r >>= after_kind) kind

      pub axes_fail : (e : CallFault) → Answers (λ (xs : List Axis). xs) (Err e) axes_from → Fails e told
      axes_fail e h = subst (Fails e) (sym of_kind) (first_fails (λ (xs : List Axis). xs) e axes_from (after_join t) h)

      module _ (axes : List Axis) (is_axes : axes_from ≡ Ok axes) where
        of_axes : told ≡ after_join t axes
        of_axes = of_kind ∙ ap (λ r. r >>= after_join t) is_axes

        pub one_fails : (e : CallFault) → Answers (λ (u : Unit {0}). u) (Err e) (check_branch t one) → Fails e told
        one_fails e h = subst (Fails e) (sym of_axes) (first_fails (λ (u : Unit {0}). u) e (check_branch t one) (λ w. check_branch t other >>= λ z. last t axes) h)

        module _ (u : Unit {0}) (fit : check_branch t one ≡ Ok u) where
          of_one : told ≡ (check_branch t other >>= λ z. last t axes)
          of_one = of_axes ∙ ap (λ r. r >>= λ w. check_branch t other >>= λ z. last t axes) fit

          pub other_fails : (e : CallFault) → Answers (λ (u : Unit {0}). u) (Err e) (check_branch t other) → Fails e told
          other_fails e h = subst (Fails e) (sym of_one) (first_fails (λ (u : Unit {0}). u) e (check_branch t other) (λ z. last t axes) h)

          module _ (v : Unit {0}) (suit : check_branch t other ≡ Ok v) where
            of_other : told ≡ last t axes
            of_other = of_one ∙ ap (λ r. r >>= λ z. last t axes) suit

            -- ---- the axes of all operands

            branch_arrays : (b : Branch) → IsBranchIn nodes b → AllByRecursion (IsArrayIn nodes) (arrays_of b)
            branch_arrays (branches.Array a) inside = (inside, tt)
            branch_arrays (branches.Number n) inside = tt
            branch_arrays (branches.Truth b) inside = tt
            branch_arrays branches.Missing inside = tt

            all_in : AllByRecursion (IsArrayIn nodes) arrays
            all_in = each_operand (IsArrayIn nodes) method c x y is (branch_arrays x first) (branch_arrays y second)

            each_dims : (bs : List DataArray) → AllByRecursion (IsArrayIn nodes) bs → AllByRecursion (λ (xs : List Axis). AllByRecursion IsDimension xs) (axes_of bs)
            each_dims [] all = tt
            each_dims (a ∷ bs) all = (all.0.formed.axes.each, each_dims bs all.1)

            each_distinct : (bs : List DataArray) → AllByRecursion (IsArrayIn nodes) bs → AllByRecursion (λ (xs : List Axis). are_distinct (axis_names xs) ≡ true) (axes_of bs)
            each_distinct [] all = tt
            each_distinct (a ∷ bs) all = (all.0.formed.axes.distinct, each_distinct bs all.1)

            rested : AreRested (axes_of arrays) axes
            rested = are_rested (axes_of arrays) (each_dims arrays all_in) axes is_axes (each_distinct arrays all_in)

            both_of : (bs : List DataArray) → AllByRecursion (IsArrayIn nodes) bs → AllByRecursion (λ (own : List Axis). AllByRecursion (Arrived axes) own) (axes_of bs) → AllByRecursion (λ (a : DataArray). IsArrayIn nodes a × AllByRecursion (Arrives axes) a.axes) bs
            both_of [] all come = tt
            both_of (a ∷ bs) all come = ((all.0, all_arrive axes a.axes come.0), both_of bs all.1 come.1)

            pub are_fitted : AreFitted nodes axes arrays
            are_fitted = (rested.dims, both_of arrays all_in rested.each)

            parts : AllByRecursion (Arrived axes) c.axes × AllByRecursion (λ (own : List Axis). AllByRecursion (Arrived axes) own) (axes_of (arrays_of x)) × AllByRecursion (λ (own : List Axis). AllByRecursion (Arrived axes) own) (axes_of (arrays_of y))
            parts = three_parts (λ (own : List Axis). AllByRecursion (Arrived axes) own) method c x y rested.each

            limits_are : (b : Bool) → is_within (shape_over axes) ≡ b → check_array (means t axes) ≡ unless b TooLarge
            limits_are = limits nodes method t axes c x y is first second rested.dims parts.0 (branch_arrives axes x parts.1) (branch_arrives axes y parts.2) (branch_fits nodes t x u fit) (branch_fits nodes t y v suit)

            pub too_large : is_within (shape_over axes) ≡ false → told ≡ Err TooLarge
            unfolding unless
            too_large e = of_other ∙ ap (λ r. r >>= λ u. Ok (means t axes)) (limits_are false e)

            within : is_within (shape_over axes) ≡ true → told ≡ Ok (means t axes)
            unfolding unless
            within e = of_other ∙ ap (λ r. r >>= λ u. Ok (means t axes)) (limits_are true e)

            pub answered : (m : Made) → is_within (shape_over axes) ≡ true → IsChoice nodes method t axes c x y m → AnswersMade nodes (Ok m) told
            answered m e choice =
                let limits = within_parts axes e in
                subst (λ m. AnswersMade nodes (Ok m) told) (sym choice.is) (by choice.none choice.empty choice.full limits.0 limits.1)
              where
                by : (none : Bool) → (none ≡ true → size (shape_over axes) ≡ 0) → (none ≡ false → AllByRecursion (λ (x : Axis). 1 ≤ x.size) axes) → length axes ≤ 16 → size (shape_over axes) ≤ 33554432
                    → AnswersMade nodes (Ok (choice_made nodes none method t axes c x y)) told
                by true empty full low few =
                    let is_made = empty_made nodes method t axes c x y is first second rested.dims parts.0 (branch_arrives axes x parts.1) (branch_arrives axes y parts.2) (branch_fits nodes t x u fit) (branch_fits nodes t y v suit) low few (empty refl) in
                    let same = empty_is nodes method t axes c x y is first second rested.dims parts.0 (branch_arrives axes x parts.1) (branch_arrives axes y parts.2) (branch_fits nodes t x u fit) (branch_fits nodes t y v suit) low few (empty refl) in
                    (within e ∙ ap Ok (sym same), is_made)
                by false empty full low few =
                    let is_made = choice_is_made nodes method t axes c x y is first second rested.dims parts.0 (branch_arrives axes x parts.1) (branch_arrives axes y parts.2) (branch_fits nodes t x u fit) (branch_fits nodes t y v suit) low few (full refl) in
                    let same = choice_is nodes method t axes c x y is first second rested.dims parts.0 (branch_arrives axes x parts.1) (branch_arrives axes y parts.2) (branch_fits nodes t x u fit) (branch_fits nodes t y v suit) low few (full refl) in
                    (within e ∙ ap Ok (sym same), is_made)
