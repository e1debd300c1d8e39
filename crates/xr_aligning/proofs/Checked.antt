-- The checks of a variable that is put into a dataset.
use Rattle.xr_aligning.proofs.Common.{AllByRecursion, Answers, AnswersSet, AreLoose, Axis, BadArgument, CallFault, DataArray, Dataset, Declined, DuplicateName, Err, Fault, IsArrayIn, IsDatasetIn, IsDimension, IsPlaced, List, NoMemory, Node, None, Ok, Refused, Result, TooLarge, Variable, [], aligned, ap, array_in, check_names, check_set, dataset_in, each_left, fails, false, fitted, has_coord, has_index, is_busy, is_reserved, is_set_within, is_taken, joined_with, length, list_any, map, meets_variable, not, others, refl, rest_axes, subst, sym, true, unless, variable_assigned, variable_in, without_variable, ℕ, ◌==◌, ◌>>=◌, ◌||◌, ◌∙◌, ◌∷◌, ◌≡◌}
use Rattle.xr_types.specs.declared.operation.How.TheVariants as how
use Rattle.xr_defs.specs.Values as of
use Rattle.xr_relations.specs.Aligning.{with_variable as with_put}
use Rattle.xr_aligning.proofs.Limited.{set_checked, set_few, set_refused}
use Rattle.xr_aligning.proofs.Assigning.{rest_is, rest_of}
use Rattle.xr_aligning.proofs.Joining.{are_loose}

module _ (nodes : List Node) (s : Dataset) (name : List ℕ) (a : DataArray) where
  pub rest_named : (without_variable name (dataset_in nodes s)).axes ≡ rest_axes name s
  rest_named = ap (λ (d : of.Dataset). d.axes) (rest_is nodes name s)

  met : (vs : List Variable) → list_any (meets_variable (array_in nodes a)) (map (variable_in nodes) vs) ≡ list_any (λ (v : Variable). has_coord a.coords v.name || has_index a.axes v.name) vs
  met [] = refl
  met (v ∷ vs) = ap (λ b. (has_coord a.coords v.name || has_index a.axes v.name) || b) (met vs)

  taken : (is_reserved (rest_of nodes name s).axes (rest_of nodes name s).coords name || (is_reserved a.axes a.coords name || list_any (meets_variable (array_in nodes a)) (rest_of nodes name s).vars)) ≡ is_taken (rest_axes name s) s name a
  taken = ap (λ b. is_reserved (rest_axes name s) s.coords name || (is_reserved a.axes a.coords name || b)) (met (others name s.vars))

  pub names_free : is_taken (rest_axes name s) s name a ≡ false → check_names (without_variable name (dataset_in nodes s)) name (array_in nodes a) ≡ Ok tt
  unfolding check_names unless
  names_free e = ap (λ d. check_names d name (array_in nodes a)) (rest_is nodes name s) ∙ ap (λ b. unless (not b) DuplicateName) (taken ∙ e)

  pub names_taken : is_taken (rest_axes name s) s name a ≡ true → check_names (without_variable name (dataset_in nodes s)) name (array_in nodes a) ≡ Err DuplicateName
  unfolding check_names unless
  names_taken e = ap (λ d. check_names d name (array_in nodes a)) (rest_is nodes name s) ∙ ap (λ b. unless (not b) DuplicateName) (taken ∙ e)

  -- ---- the joined axes

  module _ (rest theirs : List Axis) (is_rest : rest ≡ rest_axes name s) (is_theirs : theirs ≡ a.axes) where
    abbrev checked : List Axis → Result (List Axis) Fault
    checked axes = check_names (without_variable name (dataset_in nodes s)) name (array_in nodes a) >>= λ v. Ok axes

    whole : joined_with (dataset_in nodes s) name (array_in nodes a) ≡ (aligned how.Left false (rest ∷ theirs ∷ []) >>= checked)
    whole = (λ i. aligned how.Left false ((rest_named ∙ sym is_rest) i ∷ sym is_theirs i ∷ []) >>= checked)

    pub axes_fail : (r : Result (List Axis) CallFault) (e : CallFault) → r ≡ Err e → Answers (λ (xs : List Axis). xs) (Err e) (aligned how.Left false (rest ∷ theirs ∷ [])) → Answers (λ (xs : List Axis). xs) r (joined_with (dataset_in nodes s) name (array_in nodes a))
    axes_fail r e here told = fails (λ (xs : List Axis). xs) (λ (xs : List Axis). xs) r e (aligned how.Left false (rest ∷ theirs ∷ [])) checked (joined_with (dataset_in nodes s) name (array_in nodes a)) here whole told

    pub axes_taken : (axes : List Axis) → aligned how.Left false (rest ∷ theirs ∷ []) ≡ Ok axes → is_taken rest s name a ≡ true → joined_with (dataset_in nodes s) name (array_in nodes a) ≡ Err DuplicateName
    axes_taken axes is e = whole ∙ ap (λ o. o >>= checked) is ∙ ap (λ o. o >>= λ v. Ok axes) (names_taken (ap (λ xs. is_taken xs s name a) (sym is_rest) ∙ e))

    pub axes_free : (axes : List Axis) → aligned how.Left false (rest ∷ theirs ∷ []) ≡ Ok axes → is_taken rest s name a ≡ false → joined_with (dataset_in nodes s) name (array_in nodes a) ≡ Ok axes
    axes_free axes is e = whole ∙ ap (λ o. o >>= checked) is ∙ ap (λ o. o >>= λ v. Ok axes) (names_free (ap (λ xs. is_taken xs s name a) (sym is_rest) ∙ e))

    pub axes_loose : (axes : List Axis) → IsDatasetIn nodes s → IsArrayIn nodes a → aligned how.Left false (rest ∷ theirs ∷ []) ≡ Ok axes → AreLoose axes
    axes_loose axes set array is =
        are_loose how.Left false (rest ∷ theirs ∷ [])
        (subst (AllByRecursion IsDimension) (sym is_rest) (each_left IsDimension IsDimension (is_busy s.coords (others name s.vars)) (λ x e one. one) s.axes set.formed.axes.each), (subst (AllByRecursion IsDimension) (sym is_theirs) array.formed.axes.each, tt)) axes is

  -- ---- the call

  abbrev placed_by : List Axis → Result of.Dataset Fault
  placed_by axes = let t = with_put axes (dataset_in nodes s) name (fitted axes None (array_in nodes a)) in check_set t >>= λ w. Ok t

  pub unnamed : (length name == 0) ≡ true → variable_assigned (dataset_in nodes s) name (array_in nodes a) ≡ Err BadArgument
  unfolding variable_assigned unless
  unnamed e = ap (λ b. (unless (not b) BadArgument >>= λ u. (let rest = without_variable name (dataset_in nodes s) in aligned how.Left false (rest.axes ∷ a.axes ∷ []) >>= λ axes. check_names rest name (array_in nodes a) >>= λ v. placed_by axes))) e

  one : {A B C : Type 0} (r : Result B Fault) (x : A) (k : A → Result C Fault) → (r >>= λ v. k x) ≡ ((r >>= λ v. Ok x) >>= k)
  one (Err e) x k = refl
  one (Ok v) x k = refl

  in_steps : {A B C : Type 0} (m : Result A Fault) (f : A → Result B Fault) (k : A → Result C Fault) → (m >>= λ x. f x >>= λ v. k x) ≡ ((m >>= λ x. f x >>= λ v. Ok x) >>= k)
  in_steps (Err e) f k = refl
  in_steps (Ok x) f k = one (f x) x k

  pub named : (length name == 0) ≡ false → variable_assigned (dataset_in nodes s) name (array_in nodes a) ≡ (joined_with (dataset_in nodes s) name (array_in nodes a) >>= placed_by)
  unfolding variable_assigned unless
  named e =
      ap (λ b. (unless (not b) BadArgument >>= λ u. (let rest = without_variable name (dataset_in nodes s) in aligned how.Left false (rest.axes ∷ a.axes ∷ []) >>= λ axes. check_names rest name (array_in nodes a) >>= λ v. placed_by axes))) e
      ∙ in_steps (aligned how.Left false ((without_variable name (dataset_in nodes s)).axes ∷ a.axes ∷ [])) (λ axes. check_names (without_variable name (dataset_in nodes s)) name (array_in nodes a)) placed_by

  module _ (e : (length name == 0) ≡ false) where
    pub call_fails : (new : List Node) (r : Result Dataset CallFault) (f : CallFault) → r ≡ Err f → Answers (λ (xs : List Axis). xs) (Err f) (joined_with (dataset_in nodes s) name (array_in nodes a)) → AnswersSet new r (variable_assigned (dataset_in nodes s) name (array_in nodes a))
    call_fails new r f here told = subst (λ q. AnswersSet new q (variable_assigned (dataset_in nodes s) name (array_in nodes a))) (sym here) (by f told)
      where
        by : (f : CallFault) → Answers (λ (xs : List Axis). xs) (Err f) (joined_with (dataset_in nodes s) name (array_in nodes a)) → AnswersSet new (Err f) (variable_assigned (dataset_in nodes s) name (array_in nodes a))
        by (Refused g) told = named e ∙ ap (λ o. o >>= placed_by) told
        by (Declined n) told = absurd told
        by NoMemory told = tt

    module _ (new : List Node) (axes : List Axis) (t : Dataset) (told : joined_with (dataset_in nodes s) name (array_in nodes a) ≡ Ok axes) (placed : IsPlaced nodes new axes s name a t) where
      so_far : variable_assigned (dataset_in nodes s) name (array_in nodes a) ≡ (check_set (dataset_in new t) >>= λ w. Ok (dataset_in new t))
      so_far = named e ∙ ap (λ o. o >>= placed_by) told ∙ ap (λ d. check_set d >>= λ w. Ok d) (sym placed.is)

      pub call_large : is_set_within t ≡ false → variable_assigned (dataset_in nodes s) name (array_in nodes a) ≡ Err TooLarge
      call_large past = so_far ∙ ap (λ o. o >>= λ w. Ok (dataset_in new t)) (set_refused new t past)

      pub call_done : is_set_within t ≡ true → (variable_assigned (dataset_in nodes s) name (array_in nodes a) ≡ Ok (dataset_in new t)) × IsDatasetIn new t
      call_done within = (so_far ∙ ap (λ o. o >>= λ w. Ok (dataset_in new t)) (set_checked new t within), placed.inside (set_few t within))
