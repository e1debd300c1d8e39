-- The call by its arguments, one after the other.
use Rattle.std.proofs.Common.{◌≡◌, ◌∙◌, ℕ, codes, List, [], ◌∷◌, Option, Result, Ok, Err, sym, ap}
use Rattle.xr_types.specs.Results.{◌>>=◌, Answers}
use Rattle.xr_types.specs.declared.fault.CallFault.{CallFault}
use Rattle.xr_types.specs.declared.fault.Fault.{Fault}
use Rattle.xr_types.specs.declared.operation.How.{How}
use Rattle.xr_arrays.specs.declared.node.Node.{Node}
use Rattle.xr_combination.specs.Arguments.{alike_given, how_given}
use Rattle.xr_combination.specs.Concat.{concat_called, concat_of}
use Rattle.xr_defs.specs.Building.{argument, bound, option, required}
use Rattle.xr_defs.specs.Meanings.{Given, Value}
use Rattle.xr_defs.specs.Parts.{new_name}
use Rattle.xr_relations.specs.Aligning.{fill_given}
use Rattle.xr_joint.specs.Joint.{AnswersOne}
use Rattle.xr_joint.proofs.Failing.{one_fails}
use Rattle.xr_values.specs.declared.value.Value.{Value as Held}

abbrev pub parameters : List (List ℕ)
parameters = codes "list of values" ∷ codes "dim" ∷ codes "join" ∷ codes "fill_value" ∷ []

module _ (args : List (Option Value)) where
  abbrev pub by_fill : List Value → List ℕ → How → Result (Option Value) Fault → Result Value Fault
  by_fill vs dim how r = r >>= λ fill. concat_of dim how fill vs

  abbrev pub by_how : List Value → List ℕ → Result How Fault → Result Value Fault
  by_how vs dim r = r >>= λ how. by_fill vs dim how (fill_given (option args 3))

  abbrev pub by_dim : List Value → Result (List ℕ) Fault → Result Value Fault
  by_dim vs r = r >>= λ dim. by_how vs dim (how_given (option args 2))

  abbrev pub by_values : Value → Result (List Value) Fault → Result Value Fault
  by_values d r = r >>= λ vs. by_dim vs (new_name d)

  abbrev pub by_second : Value → Result Value Fault → Result Value Fault
  by_second l r = r >>= λ d. by_values d (alike_given l)

  abbrev pub by_list : Result Value Fault → Result Value Fault
  by_list r = r >>= λ l. by_second l (required (argument args 1))

abbrev pub by_names : Result (List (Option Value)) Fault → Result Value Fault
by_names r = r >>= λ args. by_list args (required (argument args 0))

pub at_names : (g : Given) (names : List (List ℕ)) → names ≡ parameters → concat_called g ≡ by_names (bound names g)
unfolding concat_called
at_names g names named = ap (λ ns. by_names (bound ns g)) (sym named)

module _ (g : Given) (names : List (List ℕ)) (named : names ≡ parameters) (args : List (Option Value)) (told : bound names g ≡ Ok args) where
  pub at_list : concat_called g ≡ by_list args (required (argument args 0))
  at_list = at_names g names named ∙ ap by_names told

  module _ (l : Value) (there : required (argument args 0) ≡ Ok l) where
    pub at_second : concat_called g ≡ by_second args l (required (argument args 1))
    at_second = at_list ∙ ap (by_list args) there

    module _ (d : Value) (second : required (argument args 1) ≡ Ok d) where
      pub at_values : concat_called g ≡ by_values args d (alike_given l)
      at_values = at_second ∙ ap (by_second args l) second

      module _ (vs : List Value) (given : alike_given l ≡ Ok vs) where
        pub at_dim : concat_called g ≡ by_dim args vs (new_name d)
        at_dim = at_values ∙ ap (by_values args d) given

        module _ (dim : List ℕ) (dim_is : new_name d ≡ Ok dim) where
          pub at_how : concat_called g ≡ by_how args vs dim (how_given (option args 2))
          at_how = at_dim ∙ ap (by_dim args vs) dim_is

          module _ (how : How) (how_is : how_given (option args 2) ≡ Ok how) where
            pub at_fill : concat_called g ≡ by_fill args vs dim how (fill_given (option args 3))
            at_fill = at_how ∙ ap (by_how args vs dim) how_is

            pub at_concat : (fill : Option Value) → fill_given (option args 3) ≡ Ok fill → concat_called g ≡ concat_of dim how fill vs
            at_concat fill fill_is = at_fill ∙ ap (by_fill args vs dim how) fill_is

-- ---- a fault of a step, as the program has it

module _ (nodes : List Node) (r : Result Held CallFault) (e : CallFault) (here : r ≡ Err e) (g : Given) (names : List (List ℕ)) (named : names ≡ parameters) where
  pub names_fail : {A : Type 0} (view : A → List (Option Value)) → Answers view (Err e) (bound names g) → AnswersOne nodes r (concat_called g)
  names_fail view told = one_fails nodes view r e (bound names g) (λ args. by_list args (required (argument args 0))) (concat_called g) here (at_names g names named) told

  module _ (args : List (Option Value)) (bound_is : bound names g ≡ Ok args) where
    pub list_fails : {A : Type 0} (view : A → Value) (o : Option Value) → o ≡ argument args 0 → Answers view (Err e) (required o) → AnswersOne nodes r (concat_called g)
    list_fails view o is told =
        one_fails nodes view r e (required o) (λ l. by_second args l (required (argument args 1))) (concat_called g) here (at_list g names named args bound_is ∙ ap (λ p. by_list args (required p)) (sym is)) told

    module _ (l : Value) (there : required (argument args 0) ≡ Ok l) where
      pub second_fails : {A : Type 0} (view : A → Value) (o : Option Value) → o ≡ argument args 1 → Answers view (Err e) (required o) → AnswersOne nodes r (concat_called g)
      second_fails view o is told =
          one_fails nodes view r e (required o) (λ d. by_values args d (alike_given l)) (concat_called g) here (at_second g names named args bound_is l there ∙ ap (λ p. by_second args l (required p)) (sym is)) told

      module _ (d : Value) (second : required (argument args 1) ≡ Ok d) where
        pub values_fail : {A : Type 0} (view : A → List Value) → Answers view (Err e) (alike_given l) → AnswersOne nodes r (concat_called g)
        values_fail view told = one_fails nodes view r e (alike_given l) (λ vs. by_dim args vs (new_name d)) (concat_called g) here (at_values g names named args bound_is l there d second) told

        module _ (vs : List Value) (given : alike_given l ≡ Ok vs) where
          pub dim_fails : {A : Type 0} (view : A → List ℕ) → Answers view (Err e) (new_name d) → AnswersOne nodes r (concat_called g)
          dim_fails view told = one_fails nodes view r e (new_name d) (λ dim. by_how args vs dim (how_given (option args 2))) (concat_called g) here (at_dim g names named args bound_is l there d second vs given) told

          module _ (dim : List ℕ) (dim_is : new_name d ≡ Ok dim) where
            pub how_fails : {A : Type 0} (view : A → How) (o : Option Value) → o ≡ option args 2 → Answers view (Err e) (how_given o) → AnswersOne nodes r (concat_called g)
            how_fails view o is told =
                one_fails nodes view r e (how_given o) (λ how. by_fill args vs dim how (fill_given (option args 3))) (concat_called g) here
                (at_how g names named args bound_is l there d second vs given dim dim_is ∙ ap (λ p. by_how args vs dim (how_given p)) (sym is)) told

            module _ (how : How) (how_is : how_given (option args 2) ≡ Ok how) where
              pub fill_fails : {A : Type 0} (view : A → Option Value) (o : Option Value) → o ≡ option args 3 → Answers view (Err e) (fill_given o) → AnswersOne nodes r (concat_called g)
              fill_fails view o is told =
                  one_fails nodes view r e (fill_given o) (λ fill. concat_of dim how fill vs) (concat_called g) here
                  (at_fill g names named args bound_is l there d second vs given dim dim_is how how_is ∙ ap (λ p. by_fill args vs dim how (fill_given p)) (sym is)) told
