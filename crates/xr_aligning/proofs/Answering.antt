-- The steps of `align`, one after the other.
use Rattle.xr_aligning.proofs.Common.{AllByRecursion, Answers, AnswersValues, ArePlaced, Axis, BadArgument, Bool, CallFault, Coming, Declined, Err, Fails, Fault, Given, How, IsValueIn, Labelled, List, NoMemory, Node, None, Ok, Option, Refused, Result, Some, TakesLabels, Value, [], align_called, aligned, aligned_by, all_of, ap, are_options, axes_of, bound, check_fill, check_fill_by, check_labelled, check_size, codes, come, false, fill_cell, fill_given, fitted_value, given_value, how_given, is_keyword_of, is_option, is_some, keyword, labelled_in, length, list_all, map, meaning, nat_le, option, option_map, refl, stands_for, subst, sym, true, unless, ℕ, ℤ, ◌&&◌, ◌++◌, ◌==◌, ◌>>=◌, ◌∙◌, ◌∷◌, ◌≡◌}
use Rattle.std.specs.Prelude.{All}
use Rattle.xr_values.specs.declared.value.Value.{Value as Held}
use Rattle.xr_aligning.proofs.Given.{come_are, fills_are, sizes_are}

-- what fails at a step fails
pub step_fails : {A B C : Type 0} (v : A → B) (e : CallFault) (told : Result B Fault) (k : B → Result C Fault) (whole : Result C Fault) → whole ≡ (told >>= k) → Answers v (Err e) told → Fails e whole
step_fails v (Refused f) told k whole is fails = is ∙ ap (λ o. o >>= k) fails
step_fails v (Declined n) told k whole is fails = absurd fails
step_fails v NoMemory told k whole is fails = tt

-- ---- values that are joined

module _ (j : How) (fill : Option Value) (vs : List Value) where
  abbrev pub sized : List Axis → Result (List Value) Fault
  sized joined = let ws = map (fitted_value joined (fill_cell fill)) vs in all_of check_size ws >>= λ w. Ok ws

  pub joined_first : aligned_by j fill vs ≡ (aligned j (is_some fill) (map axes_of vs) >>= λ joined. all_of (check_fill joined fill) vs >>= λ u. sized joined)
  unfolding aligned_by
  joined_first = refl

  module _ (joined : List Axis) (is : aligned j (is_some fill) (map axes_of vs) ≡ Ok joined) where
    pub fills_next : aligned_by j fill vs ≡ (all_of (check_fill joined fill) vs >>= λ u. sized joined)
    fills_next = joined_first ∙ ap (λ o. o >>= λ joined. all_of (check_fill joined fill) vs >>= λ u. sized joined) is

    module _ (filled : all_of (check_fill joined fill) vs ≡ Ok tt) where
      pub sizes_next : aligned_by j fill vs ≡ sized joined
      sizes_next = fills_next ∙ ap (λ o. o >>= λ u. sized joined) filled

      pub all_done : all_of check_size (map (fitted_value joined (fill_cell fill)) vs) ≡ Ok tt → aligned_by j fill vs ≡ Ok (map (fitted_value joined (fill_cell fill)) vs)
      all_done within = sizes_next ∙ ap (λ o. o >>= λ w. Ok (map (fitted_value joined (fill_cell fill)) vs)) within

-- ---- the call

abbrev keywords_are : List (List ℕ × Value) → Bool
keywords_are keyed = list_all (is_keyword_of (codes "join" ∷ codes "fill_value" ∷ [])) keyed

pub options_are : (keyed : List (List ℕ × Value)) → are_options keyed ≡ keywords_are keyed
unfolding is_option
options_are keyed = refl

abbrev pub join_in : List (List ℕ × Value) → Option Value
join_in keyed = given_value (keyword (codes "join") keyed)

abbrev pub fill_in : List (List ℕ × Value) → Option Value
fill_in keyed = given_value (keyword (codes "fill_value") keyed)

module _ (names : ℕ) (plain : List Value) (keyed : List (List ℕ × Value)) where
  abbrev g : Given
  g = record { plain = plain; keyed = keyed }

  abbrev fits : Bool
  fits = nat_le 2 names && (length plain == names)

  abbrev rest : Result (List Value) Fault
  rest = all_of check_labelled plain >>= λ v. how_given (join_in keyed) >>= λ j. fill_given (fill_in keyed) >>= λ fill. aligned_by j fill plain

  in_turn : align_called names g ≡ (unless fits BadArgument >>= λ u. unless (keywords_are keyed) BadArgument >>= λ v. rest)
  unfolding align_called bound unless
  in_turn = by fits (keywords_are keyed)
    where
      by : (b c : Bool) → (unless b BadArgument >>= λ u. (unless c BadArgument >>= λ u. Ok (keyword (codes "join") keyed ∷ keyword (codes "fill_value") keyed ∷ [])) >>= λ options. all_of check_labelled plain >>= λ v. how_given (option options 0) >>= λ j. fill_given (option options 1) >>= λ fill. aligned_by j fill plain)
          ≡ (unless b BadArgument >>= λ u. unless c BadArgument >>= λ v. rest)
      by false c = refl
      by true false = refl
      by true true = refl

  pub misfit : fits ≡ false → align_called names g ≡ Err BadArgument
  unfolding unless
  misfit e = in_turn ∙ ap (λ b. unless b BadArgument >>= λ u. unless (keywords_are keyed) BadArgument >>= λ v. rest) e

  pub miskeyed : fits ≡ true → keywords_are keyed ≡ false → align_called names g ≡ Err BadArgument
  unfolding unless
  miskeyed e f = in_turn ∙ (λ i. unless (e i) BadArgument >>= λ u. unless (f i) BadArgument >>= λ v. rest)

  module _ (e : fits ≡ true) (f : keywords_are keyed ≡ true) where
    pub kinds_first : align_called names g ≡ rest
    unfolding unless
    kinds_first = in_turn ∙ (λ i. unless (e i) BadArgument >>= λ u. unless (f i) BadArgument >>= λ v. rest)

    module _ (kinds : all_of check_labelled plain ≡ Ok tt) where
      pub join_next : align_called names g ≡ (how_given (join_in keyed) >>= λ j. fill_given (fill_in keyed) >>= λ fill. aligned_by j fill plain)
      join_next = kinds_first ∙ ap (λ o. o >>= λ v. how_given (join_in keyed) >>= λ j. fill_given (fill_in keyed) >>= λ fill. aligned_by j fill plain) kinds

      module _ (j : How) (how : how_given (join_in keyed) ≡ Ok j) where
        pub fill_next : align_called names g ≡ (fill_given (fill_in keyed) >>= λ fill. aligned_by j fill plain)
        fill_next = join_next ∙ ap (λ o. o >>= λ j. fill_given (fill_in keyed) >>= λ fill. aligned_by j fill plain) how

        pub values_next : (fill : Option Value) → fill_given (fill_in keyed) ≡ Ok fill → align_called names g ≡ aligned_by j fill plain
        values_next fill is = fill_next ∙ ap (λ o. o >>= λ fill. aligned_by j fill plain) is

-- ---- the same, of what the program has

module _ (old new : List Node) (j : How) (fill : Option Value) (ls : List Labelled) where
  abbrev vs : List Value
  vs = map (labelled_in old) ls

  pub joins_fail : (r : Result (List Held) CallFault) (e : CallFault) → r ≡ Err e → Answers (λ (xs : List Axis). xs) (Err e) (aligned j (is_some fill) (map axes_of vs)) → AnswersValues new r (aligned_by j fill vs)
  joins_fail r e here told =
      subst (λ q. AnswersValues new q (aligned_by j fill vs)) (sym here)
      (step_fails (λ (xs : List Axis). xs) e (aligned j (is_some fill) (map axes_of vs)) (λ joined. all_of (check_fill joined fill) vs >>= λ u. sized j fill vs joined) (aligned_by j fill vs) (joined_first j fill vs) told)

  module _ (joined : List Axis) (is : aligned j (is_some fill) (map axes_of vs) ≡ Ok joined) (ms : List Coming) (takes : AllByRecursion (TakesLabels joined) ms) (on : map (λ (m : Coming). m.on) ms ≡ ls) where
    abbrev fills : Result (Unit {0}) Fault
    fills = all_of (λ (m : Coming). check_fill_by m.joined fill (stands_for old m)) ms

    pub fills_fail : (r : Result (List Held) CallFault) (e : CallFault) → r ≡ Err e → Answers (λ (u : Unit {0}). u) (Err e) fills → AnswersValues new r (aligned_by j fill vs)
    fills_fail r e here told =
        subst (λ q. AnswersValues new q (aligned_by j fill vs)) (sym here)
        (step_fails (λ (u : Unit {0}). u) e (all_of (check_fill joined fill) vs) (λ u. sized j fill vs joined) (aligned_by j fill vs) (fills_next j fill vs joined is)
        (subst (λ t. Answers (λ (u : Unit {0}). u) (Err e) t) (fills_are old joined fill ms ls takes on) told))

    module _ (filled : fills ≡ Ok tt) where
      abbrev sizes : Result (Unit {0}) Fault
      sizes = all_of (λ (m : Coming). check_size (come old (fill_cell fill) m)) ms

      filled_here : all_of (check_fill joined fill) vs ≡ Ok tt
      filled_here = sym (fills_are old joined fill ms ls takes on) ∙ filled

      sizes_here : sizes ≡ all_of check_size (map (fitted_value joined (fill_cell fill)) vs)
      sizes_here = sizes_are old (fill_cell fill) check_size ms ∙ ap (all_of check_size) (come_are old joined (fill_cell fill) ms ls takes on)

      pub sizes_fail : (r : Result (List Held) CallFault) (e : CallFault) → r ≡ Err e → Answers (λ (u : Unit {0}). u) (Err e) sizes → AnswersValues new r (aligned_by j fill vs)
      sizes_fail r e here told =
          subst (λ q. AnswersValues new q (aligned_by j fill vs)) (sym here)
          (step_fails (λ (u : Unit {0}). u) e (all_of check_size (map (fitted_value joined (fill_cell fill)) vs)) (λ w. Ok (map (fitted_value joined (fill_cell fill)) vs)) (aligned_by j fill vs) (sizes_next j fill vs joined is filled_here)
          (subst (λ t. Answers (λ (u : Unit {0}). u) (Err e) t) sizes_here told))

      pub values_done : sizes ≡ Ok tt → (cell : Option ℤ) → cell ≡ fill_cell fill → (before out : List Held) → before ≡ [] → ArePlaced old new cell ms before out → AnswersValues new (Ok out) (aligned_by j fill vs)
      values_done within cell same before out none placed =
          let out_is : out ≡ placed.more = placed.are ∙ ap (λ os. os ++ placed.more) none in (
            all_done j fill vs joined is filled_here (sym sizes_here ∙ within)
                ∙ ap Ok (sym (come_are old joined (fill_cell fill) ms ls takes on) ∙ ap (λ c. map (come old c) ms) (sym same) ∙ sym placed.means ∙ ap (map (meaning new)) (sym out_is)),
            subst (All (IsValueIn new)) (sym out_is) placed.inside,
          )

pub some_kept : {X Y : Type 0} (f : X → Y) (o : Option X) → is_some (option_map f o) ≡ is_some o
some_kept f None = refl
some_kept f (Some x) = refl

-- ---- the call, of what the program has

module _ (new : List Node) (names : ℕ) (plain : List Value) (keyed : List (List ℕ × Value)) (e : (nat_le 2 names && (length plain == names)) ≡ true) (f : are_options keyed ≡ true) where
  abbrev whole : Result (List Value) Fault
  whole = align_called names (record { plain = plain; keyed = keyed })

  f_here : keywords_are keyed ≡ true
  f_here = sym (options_are keyed) ∙ f

  pub kinds_fail : {A : Type 0} (v : A → Unit {0}) (r : Result (List Held) CallFault) (fault : CallFault) → r ≡ Err fault → Answers v (Err fault) (all_of check_labelled plain) → AnswersValues new r whole
  kinds_fail v r fault here told =
      subst (λ q. AnswersValues new q whole) (sym here)
      (step_fails v fault (all_of check_labelled plain) (λ u. how_given (join_in keyed) >>= λ j. fill_given (fill_in keyed) >>= λ fill. aligned_by j fill plain) whole (kinds_first names plain keyed e f_here) told)

  module _ (kinds : all_of check_labelled plain ≡ Ok tt) where
    pub join_fails : (o : Option Value) → o ≡ join_in keyed → (r : Result (List Held) CallFault) (fault : CallFault) → r ≡ Err fault → Answers (λ (j : How). j) (Err fault) (how_given o) → AnswersValues new r whole
    join_fails o same r fault here told =
        subst (λ q. AnswersValues new q whole) (sym here)
        (step_fails (λ (j : How). j) fault (how_given (join_in keyed)) (λ j. fill_given (fill_in keyed) >>= λ fill. aligned_by j fill plain) whole (join_next names plain keyed e f_here kinds) (subst (λ o. Answers (λ (j : How). j) (Err fault) (how_given o)) same told))

    module _ (j : How) (o : Option Value) (same_join : o ≡ join_in keyed) (how : how_given o ≡ Ok j) where
      how_here : how_given (join_in keyed) ≡ Ok j
      how_here = ap how_given (sym same_join) ∙ how

      pub fill_fails : {A : Type 0} (v : A → Option Value) (o : Option Value) → o ≡ fill_in keyed → (r : Result (List Held) CallFault) (fault : CallFault) → r ≡ Err fault → Answers v (Err fault) (fill_given o) → AnswersValues new r whole
      fill_fails v o same r fault here told =
          subst (λ q. AnswersValues new q whole) (sym here)
          (step_fails v fault (fill_given (fill_in keyed)) (λ fill. aligned_by j fill plain) whole (fill_next names plain keyed e f_here kinds j how_here) (subst (λ o. Answers v (Err fault) (fill_given o)) same told))

      pub call_answered : (fill o : Option Value) → o ≡ fill_in keyed → fill_given o ≡ Ok fill → (vs : List Value) → vs ≡ plain → (r : Result (List Held) CallFault) → AnswersValues new r (aligned_by j fill vs) → AnswersValues new r whole
      call_answered fill o same is us same_values r told =
          subst (AnswersValues new r) (sym (values_next names plain keyed e f_here kinds j how_here fill (ap fill_given (sym same) ∙ is) ∙ ap (aligned_by j fill) (sym same_values))) told
