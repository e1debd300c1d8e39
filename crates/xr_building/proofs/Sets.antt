-- A dataset with the axes and the coordinates that a call leaves stands in the plan.
use Rattle.xr_building.proofs.Common.{AllByRecursion, Answers, Args, Bool, CallFault, Dataset, Declined, Err, Fault, Follows, FollowsSet, Frame, IsDatasetIn, IsDimension, IsFrame, IsVariable, List, NoMemory, Node, Ok, Refused, Result, Stays, TooLarge, Variable, [], ap, are_distinct, axis_names, busy_in, busy_is, busy_set, check_set, dataset_in, each_weaker, frame_in, idle_axes, idle_coords, idle_vars, labelled, leb-true, length, length-map, map, most_variables, nat_le, nodes_alike, over, refl, refused, set_assigned, subst, sym, unless, var_alike, variable_in, with_frame, without_idle, ℕ, ◌++◌, ◌+◌, ◌>>=◌, ◌∙◌, ◌∷◌, ◌≡◌, MeantSet, MeantVariable, names_of, coord_names, unless_holds}
use Rattle.xr_parts.proofs.Within.{set_within}
use Rattle.xr_building.proofs.Held.{dimensions, opened}

names_in : (nodes : List Node) (vs : List Variable) → map (λ (v : MeantVariable). v.name) (map (variable_in nodes) vs) ≡ names_of vs
names_in nodes [] = refl
names_in nodes (v ∷ vs) = ap (λ ns. v.name ∷ ns) (names_in nodes vs)

module _ (declines : ℕ → Bool) (nodes : List Node) (s : Dataset) (args : Args) where
  abbrev start : Frame
  start = over s.axes s.coords

  abbrev reached : Result Frame CallFault
  reached = frame_in declines nodes (names_of s.vars) start args

  abbrev ends : Frame → Result MeantSet CallFault
  ends f = Ok (without_idle (with_frame (dataset_in nodes s) f)) >>= λ t. refused (check_set t) >>= λ u. Ok t

  assigned_is : set_assigned declines nodes s args ≡ (reached >>= ends)
  unfolding set_assigned
  assigned_is = ap (λ ns. frame_in declines nodes ns start args >>= ends) (names_in nodes s.vars)

  -- a fault of one step is that of the call
  fails : {A B : Type 0} (view : A → B) (e : CallFault) (r : Result Dataset CallFault) (told : Result B CallFault) (next : B → Result MeantSet CallFault) → r ≡ Err e → Follows view (Err e) told → set_assigned declines nodes s args ≡ (told >>= next) → FollowsSet nodes r (set_assigned declines nodes s args)
  fails view e r told next here is whole = subst (λ q. FollowsSet nodes q (set_assigned declines nodes s args)) (sym here) (by e is)
    where
      by : (e : CallFault) → Follows view (Err e) told → FollowsSet nodes (Err e) (set_assigned declines nodes s args)
      by NoMemory is = tt
      by e is = whole ∙ ap (λ t. t >>= next) is

  pub frame_fails : {A : Type 0} (view : A → Frame) (e : CallFault) (r : Result Dataset CallFault) → r ≡ Err e → Follows view (Err e) reached → FollowsSet nodes r (set_assigned declines nodes s args)
  frame_fails view e r here is = fails view e r reached ends here is assigned_is

  module _ (f : Frame) (told : reached ≡ Ok f) (left : IsFrame s.axes s.coords → Stays (names_of s.vars) start f) (is : IsDatasetIn nodes s) where
    stays : Stays (names_of s.vars) start f
    stays = left (opened s.axes s.coords is.formed.axes is.formed.coords is.formed.coords_distinct)

    -- before idle axes go
    abbrev whole : Dataset
    whole = record s { axes = f.axes; coords = f.coords }

    vars_on : AllByRecursion (IsVariable f.axes) (map (variable_in nodes) s.vars)
    vars_on = each_weaker (IsVariable s.axes) (IsVariable f.axes) (map (variable_in nodes) s.vars) (var_alike f.axes s.axes stays.names stays.sizes) is.formed.vars

    each : AllByRecursion IsDimension f.axes
    each = dimensions f.axes s.axes stays.sizes is.formed.axes.each stays.frame.each

    abbrev few : Result (Unit {0}) Fault
    few = unless (nat_le (length f.coords + length s.vars) most_variables) TooLarge

    abbrev limited : Unit {0} → Result MeantSet CallFault
    limited u = Ok (without_idle (dataset_in nodes whole))

    checked_is : set_assigned declines nodes s args ≡ (refused few >>= limited)
    checked_is =
        assigned_is ∙ ap (λ r. r >>= ends) told
        ∙ ap (λ r. refused r >>= limited) (set_within (without_idle (dataset_in nodes whole)) (idle_axes (dataset_in nodes whole) each) (idle_coords (dataset_in nodes whole) stays.frame.over) (idle_vars (dataset_in nodes whole) vars_on)
        ∙ ap (λ n. unless (nat_le (length f.coords + n) most_variables) TooLarge) (length-map s.vars (variable_in nodes)))

    pub set_told : few ≡ Ok (tt {0}) → (set_assigned declines nodes s args ≡ Ok (dataset_in nodes (busy_set nodes whole))) × IsDatasetIn nodes (busy_set nodes whole)
    set_told passed = (
      checked_is ∙ ap (λ r. refused r >>= limited) passed ∙ ap Ok (busy_is nodes whole),
      busy_in nodes whole
          (record {
            frame = record { dims = record { each = each; distinct = stays.frame.axes_distinct }; over = stays.frame.over; distinct = stays.frame.distinct };
            vars = vars_on;
            distinct =
                ap (λ ns. are_distinct (axis_names (labelled f.axes) ++ (coord_names f.coords ++ ns))) (names_in nodes s.vars)
                ∙ stays.apart (ap (λ ns. are_distinct (axis_names (labelled s.axes) ++ (coord_names s.coords ++ ns))) (sym (names_in nodes s.vars)) ∙ is.formed.vars_distinct);
            attrs = is.formed.attrs;
            few = leb-true _ most_variables (ap (λ n. nat_le (length f.coords + n) most_variables) (length-map s.vars (variable_in nodes)) ∙ unless_holds _ TooLarge passed);
          }) (nodes_alike f.axes s.axes stays.names stays.sizes nodes s.vars is.nodes_of),
    )

    pub few_fails : (A : Type 0) (e : CallFault) (r : Result Dataset CallFault) → r ≡ Err e → Answers (λ (a : A). tt) (Err e) few → FollowsSet nodes r (set_assigned declines nodes s args)
    few_fails A e r here many = fails (λ (u : Unit {0}). u) e r (refused few) limited here (by e many) checked_is
      where
        by : (e : CallFault) → Answers (λ (a : A). tt) (Err e) few → Follows (λ (u : Unit {0}). u) (Err e) (refused few)
        by (Refused x) beyond = ap refused beyond
        by (Declined n) beyond = absurd beyond
        by NoMemory beyond = tt
