-- The call by its arguments, one after the other.
use Rattle.std.proofs.Common.{◌≡◌, ◌∙◌, ℕ, codes, List, [], ◌∷◌, Option, Some, Result, Ok, Err, sym, ap}
use Rattle.xr_types.specs.Results.{◌>>=◌, Answers}
use Rattle.xr_types.specs.declared.fault.CallFault.{CallFault}
use Rattle.xr_types.specs.declared.fault.Fault.{Fault}
use Rattle.xr_types.specs.declared.operation.How.{How}
use Rattle.xr_arrays.specs.declared.node.Node.{Node}
use Rattle.xr_combination.specs.Arguments.{compat_given, how_given, sets_given}
use Rattle.xr_combination.specs.Combine.{combine_called, combine_of}
use Rattle.xr_combination.specs.declared.compat.Compat.{Compat}
use Rattle.xr_defs.specs.Building.{argument, bound, option, required}
use Rattle.xr_defs.specs.Meanings as of
use Rattle.xr_defs.specs.Meanings.{Given, Value}
use Rattle.xr_relations.specs.Aligning.{fill_given}
use Rattle.xr_joint.specs.Joint.{AnswersOne}
use Rattle.xr_merge.proofs.Called.{as_value}
use Rattle.xr_joint.proofs.Failing.{one_fails, step_fails}
use Rattle.xr_values.specs.Answers.{Fails}
use Rattle.xr_values.specs.declared.value.Value.{Value as Held}

abbrev pub parameters : List (List ℕ)
parameters = codes "list of datasets" ∷ codes "compat" ∷ codes "join" ∷ codes "fill_value" ∷ []

module _ (args : List (Option Value)) where
  abbrev pub by_fill : List Value → Compat → How → Result (Option Value) Fault → Result Value Fault
  by_fill vs compat how r = r >>= λ fill. combine_of compat how fill vs >>= λ s. Ok (of.Set s)

  abbrev pub by_how : List Value → Compat → Result How Fault → Result Value Fault
  by_how vs compat r = r >>= λ how. by_fill vs compat how (fill_given (option args 3))

  abbrev pub by_compat : List Value → Result Compat Fault → Result Value Fault
  by_compat vs r = r >>= λ compat. by_how vs compat (how_given (option args 2))

  abbrev pub by_values : Result (List Value) Fault → Result Value Fault
  by_values r = r >>= λ vs. by_compat vs (compat_given (option args 1))

  abbrev pub by_list : Result Value Fault → Result Value Fault
  by_list r = r >>= λ l. by_values (sets_given l)

abbrev pub by_names : Result (List (Option Value)) Fault → Result Value Fault
by_names r = r >>= λ args. by_list args (required (argument args 0))

pub at_names : (g : Given) (names : List (List ℕ)) → names ≡ parameters → combine_called g ≡ by_names (bound names g)
unfolding combine_called
at_names g names named = ap (λ ns. by_names (bound ns g)) (sym named)

module _ (g : Given) (names : List (List ℕ)) (named : names ≡ parameters) (args : List (Option Value)) (told : bound names g ≡ Ok args) where
  pub at_list : combine_called g ≡ by_list args (required (argument args 0))
  at_list = at_names g names named ∙ ap by_names told

  module _ (l : Value) (there : argument args 0 ≡ Some l) where
    pub at_values : combine_called g ≡ by_values args (sets_given l)
    at_values = at_list ∙ ap (λ o. by_list args (required o)) there

    module _ (vs : List Value) (given : sets_given l ≡ Ok vs) where
      pub at_compat : combine_called g ≡ by_compat args vs (compat_given (option args 1))
      at_compat = at_values ∙ ap (by_values args) given

      module _ (compat : Compat) (compat_is : compat_given (option args 1) ≡ Ok compat) where
        pub at_how : combine_called g ≡ by_how args vs compat (how_given (option args 2))
        at_how = at_compat ∙ ap (by_compat args vs) compat_is

        module _ (how : How) (how_is : how_given (option args 2) ≡ Ok how) where
          pub at_fill : combine_called g ≡ by_fill args vs compat how (fill_given (option args 3))
          at_fill = at_how ∙ ap (by_how args vs compat) how_is

          pub at_combine : (fill : Option Value) → fill_given (option args 3) ≡ Ok fill → combine_called g ≡ as_value (combine_of compat how fill vs)
          at_combine fill fill_is = at_fill ∙ ap (by_fill args vs compat how) fill_is

-- ---- a fault of a step, as the program has it

module _ (nodes : List Node) (r : Result Held CallFault) (e : CallFault) (here : r ≡ Err e) (g : Given) (names : List (List ℕ)) (named : names ≡ parameters) where
  pub names_fail : {A : Type 0} (view : A → List (Option Value)) → Answers view (Err e) (bound names g) → AnswersOne nodes r (combine_called g)
  names_fail view told = one_fails nodes view r e (bound names g) (λ args. by_list args (required (argument args 0))) (combine_called g) here (at_names g names named) told

  module _ (args : List (Option Value)) (bound_is : bound names g ≡ Ok args) where
    pub list_fails : {A : Type 0} (view : A → Value) (o : Option Value) → o ≡ argument args 0 → Answers view (Err e) (required o) → AnswersOne nodes r (combine_called g)
    list_fails view o is told =
        one_fails nodes view r e (required o) (λ l. by_values args (sets_given l)) (combine_called g) here (at_list g names named args bound_is ∙ ap (λ p. by_list args (required p)) (sym is)) told

    module _ (l : Value) (there : argument args 0 ≡ Some l) where
      pub values_fail : {A : Type 0} (view : A → List Value) → Answers view (Err e) (sets_given l) → AnswersOne nodes r (combine_called g)
      values_fail view told = one_fails nodes view r e (sets_given l) (λ vs. by_compat args vs (compat_given (option args 1))) (combine_called g) here (at_values g names named args bound_is l there) told

      module _ (vs : List Value) (given : sets_given l ≡ Ok vs) where
        pub compat_fails : {A : Type 0} (view : A → Compat) (o : Option Value) → o ≡ option args 1 → Answers view (Err e) (compat_given o) → AnswersOne nodes r (combine_called g)
        compat_fails view o is told =
            one_fails nodes view r e (compat_given o) (λ compat. by_how args vs compat (how_given (option args 2))) (combine_called g) here
            (at_compat g names named args bound_is l there vs given ∙ ap (λ p. by_compat args vs (compat_given p)) (sym is)) told

        module _ (compat : Compat) (compat_is : compat_given (option args 1) ≡ Ok compat) where
          pub how_fails : {A : Type 0} (view : A → How) (o : Option Value) → o ≡ option args 2 → Answers view (Err e) (how_given o) → AnswersOne nodes r (combine_called g)
          how_fails view o is told =
              one_fails nodes view r e (how_given o) (λ how. by_fill args vs compat how (fill_given (option args 3))) (combine_called g) here
              (at_how g names named args bound_is l there vs given compat compat_is ∙ ap (λ p. by_how args vs compat (how_given p)) (sym is)) told

          module _ (how : How) (how_is : how_given (option args 2) ≡ Ok how) where
            pub fill_fails : {A : Type 0} (view : A → Option Value) (o : Option Value) → o ≡ option args 3 → Answers view (Err e) (fill_given o) → AnswersOne nodes r (combine_called g)
            fill_fails view o is told =
                one_fails nodes view r e (fill_given o) (λ fill. combine_of compat how fill vs >>= λ s. Ok (of.Set s)) (combine_called g) here
                (at_fill g names named args bound_is l there vs given compat compat_is how how_is ∙ ap (λ p. by_fill args vs compat how (fill_given p)) (sym is)) told

            pub combine_fails : (fill : Option Value) → fill_given (option args 3) ≡ Ok fill → Fails e (combine_of compat how fill vs) → AnswersOne nodes r (combine_called g)
            combine_fails fill fill_is told =
                step_fails nodes r e (combine_of compat how fill vs) (λ s. Ok (of.Set s)) (combine_called g) here (at_combine g names named args bound_is l there vs given compat compat_is how how_is fill fill_is) told
