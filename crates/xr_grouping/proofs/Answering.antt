-- The answer of a method of an array in groups or blocks.
use Rattle.std.proofs.Common.{◌≡◌, ◌≤◌, ◌||◌, Bool, true, false, cond, ℕ, List, [], ◌∷◌, None, Ok, refl, sym, ap, subst, ◌∙◌}
use Rattle.std.specs.Str.{bytes_eq}
use Rattle.std.specs.List.{AllByRecursion}
use Rattle.xr_types.specs.Names.{among, axis_names, shape_over}
use Rattle.xr_values.proofs.Named.{bytes_eq_swap}
use Rattle.xr_types.specs.Points.{size}
use Rattle.xr_types.specs.Results.{unless}
use Rattle.xr_types.specs.declared.axis.Axis.{Axis}
use Rattle.xr_types.specs.declared.fault.Fault.{Fault}
use Rattle.xr_types.specs.declared.fault.Fault.TheVariants.{BadArgument}
use Rattle.xr_types.specs.declared.operation.FoldKind.{FoldKind}
use Rattle.xr_arrays.specs.declared.node.Node.{Node}
use Rattle.xr_defs.specs.Arguments.{nothing_given}
use Rattle.xr_defs.specs.Meanings.{Given}
use Rattle.xr_defs.specs.declared.grouping.Grouping.{Grouping}
use Rattle.xr_defs.specs.declared.grouping.Grouping.TheVariants.{Bins, Blocks, Coordinate, Dates, Windows}
use Rattle.xr_defs.specs.declared.value.Coord.{Coord}
use Rattle.xr_values.specs.declared.data_array.DataArray.{DataArray}
use Rattle.xr_values.specs.Stands.{array_in, IsArrayIn}
use Rattle.xr_formulas.specs.declared.made.Made.{Made}
use Rattle.xr_formulas.specs.Mades.{made_in, IsMade}
use Rattle.xr_operations.specs.Reductions.{check_size, masked_after}
use Rattle.xr_reducing.proofs.Reduced.{size_passed}
use Rattle.xr_groups.specs.declared.change.Change.{Change}
use Rattle.xr_groups.specs.declared.change.Least.TheVariants.{Never}
use Rattle.xr_groups.specs.Groupings.{grouped_changes}
use Rattle.xr_groups.specs.Listed.{axes_by, is_grouped}
use Rattle.xr_groups.specs.Methods.{array_by, array_listed, has_method, least_of, of_blocks, of_groups}
use Rattle.xr_grouping.specs.Changes.{IsChange, Stays}
use Rattle.xr_grouping.specs.Mades.{folded_made, kept_made, plain_made, plain_of}
use Rattle.xr_grouping.proofs.Blocked.{blocks_listed, blocks_made, kept_fits, kept_is}
use Rattle.xr_grouping.proofs.Changed.{blocked, dated, keyed, IsFull}
use Rattle.xr_grouping.proofs.Folding.{is_listed, is_made}
use Rattle.xr_grouping.proofs.Named.{one_of, IsOne}
use Rattle.xr_parts.specs.Frames.{IsFrame}
use Rattle.xr_parts.proofs.Words.{each_weaker}

pub passes : (b : Bool) (f : Fault) → unless b f ≡ Ok tt → b ≡ true
unfolding unless
passes true f e = refl
passes false f e = absurd cc

-- one that has a grouped dimension is grouped
pub grouped_one : (c : Change) (names : List (List ℕ)) → among names c.dimension ≡ true → is_grouped (c ∷ []) names ≡ true
grouped_one c [] has = absurd cc
grouped_one c (n ∷ ns) has = by (bytes_eq c.dimension n) (bytes_eq_swap n c.dimension) has (grouped_one c ns)
  where
    by : (b : Bool) → bytes_eq n c.dimension ≡ b → (b || among ns c.dimension) ≡ true → (among ns c.dimension ≡ true → is_grouped (c ∷ []) ns ≡ true) → ((bytes_eq n c.dimension || false) || is_grouped (c ∷ []) ns) ≡ true
    by true t has rest = ap (λ b. (b || false) || is_grouped (c ∷ []) ns) t
    by false t has rest = ap (λ b. (b || false) || is_grouped (c ∷ []) ns) t ∙ rest has

-- how an array in groups or blocks answers
abbrev Answers : List Node → FoldKind → Grouping → DataArray → Given → Made → Type 0
Answers nodes k grouping a g m = (plain_of k grouping (array_in nodes a) g ≡ Ok (made_in nodes m)) × IsMade nodes m

module _ (nodes : List Node) (k : FoldKind) (grouping : Grouping) (a : DataArray) (g : Given) (cs : List Change) (m : Made) (is : IsArrayIn nodes a)
    (method : unless (has_method grouping k) BadArgument ≡ Ok tt) (none : nothing_given g ≡ Ok tt) (changes : grouped_changes grouping a.axes a.coords [] ≡ Ok cs)
    (few : check_size (shape_over (axes_by cs a.axes)) ≡ Ok tt) (em : m ≡ plain_made k cs a) where
  frame : IsFrame a.axes a.coords
  frame = record { dims = is.formed.axes; over = is.formed.coords; distinct = is.formed.distinct }

  answer : plain_of k grouping (array_in nodes a) g ≡ Ok (array_by k Never false cs None (array_in nodes a))
  unfolding plain_of
  answer = rw (method, none, changes, few) refl

  -- one dimension, each of whose lists has positions
  module _ (facts : IsFull a.axes a.coords [] frame cs) (has : of_groups k ≡ true) where
    abbrev c : Change
    c = facts.change

    one : IsOne a.axes a.coords c
    one = one_of a.axes a.coords c frame facts.formed

    grouped : is_grouped cs (axis_names a.axes) ≡ true
    grouped = ap (λ ds. is_grouped ds (axis_names a.axes)) facts.is ∙ grouped_one c (axis_names a.axes) one.has

    small : size (shape_over (axes_by (c ∷ []) a.axes)) ≤ 33554432
    small = size_passed (shape_over (axes_by (c ∷ []) a.axes)) (subst (λ ds. check_size (shape_over (axes_by ds a.axes)) ≡ Ok tt) facts.is few)

    made_is : m ≡ folded_made k (masked_after k a.masked) (c ∷ []) a
    made_is = em ∙ ap (λ b. cond b (folded_made k (masked_after k a.masked) cs a) (kept_made a)) grouped ∙ ap (λ ds. folded_made k (masked_after k a.masked) ds a) facts.is

    told_one : Answers nodes k grouping a g m
    told_one = (
      answer ∙ ap (λ b. Ok (cond b (array_listed k Never false cs None (array_in nodes a)) (array_in nodes a))) grouped
          ∙ ap (λ ds. Ok (array_listed k Never false ds None (array_in nodes a))) facts.is
          ∙ ap Ok (sym (ap (made_in nodes) made_is ∙ is_listed nodes k c a is has one small)),
      subst (IsMade nodes) (sym made_is) (is_made nodes k c a is has one small facts.full),
    )

  -- several dimensions, whose names stay
  module _ (all : AllByRecursion (Stays a.axes) cs) (has : of_blocks k ≡ true) where
    few_cells : size (shape_over (axes_by cs a.axes)) ≤ 33554432
    few_cells = size_passed (shape_over (axes_by cs a.axes)) few

    by_each : (b : Bool) → is_grouped cs (axis_names a.axes) ≡ b → Answers nodes k grouping a g m
    by_each true e =
        let made_is : m ≡ folded_made k (masked_after k a.masked) cs a = em ∙ ap (λ b. cond b (folded_made k (masked_after k a.masked) cs a) (kept_made a)) e in (
          answer ∙ ap (λ b. Ok (cond b (array_listed k Never false cs None (array_in nodes a)) (array_in nodes a))) e ∙ ap Ok (sym (ap (made_in nodes) made_is ∙ blocks_listed nodes k cs a is has all few_cells)),
          subst (IsMade nodes) (sym made_is) (blocks_made nodes k cs a is has all few_cells),
        )
    by_each false e =
        let made_is : m ≡ kept_made a = em ∙ ap (λ b. cond b (folded_made k (masked_after k a.masked) cs a) (kept_made a)) e in (
          answer ∙ ap (λ b. Ok (cond b (array_listed k Never false cs None (array_in nodes a)) (array_in nodes a))) e ∙ ap Ok (sym (ap (made_in nodes) made_is ∙ kept_is nodes a is)),
          subst (IsMade nodes) (sym made_is) (kept_fits nodes a is),
        )

    told_each : Answers nodes k grouping a g m
    told_each = by_each (is_grouped cs (axis_names a.axes)) refl

told : (nodes : List Node) (k : FoldKind) (grouping : Grouping) (a : DataArray) (g : Given) (cs : List Change) (m : Made) (is : IsArrayIn nodes a) → least_of grouping ≡ Never
    → unless (has_method grouping k) BadArgument ≡ Ok tt → nothing_given g ≡ Ok tt → grouped_changes grouping a.axes a.coords [] ≡ Ok cs → check_size (shape_over (axes_by cs a.axes)) ≡ Ok tt → m ≡ plain_made k cs a → Answers nodes k grouping a g m
told nodes k (Dates d field) a g cs m is plain method none changes few em =
    told_one nodes k (Dates d field) a g cs m is method none changes few em (dated a.axes a.coords [] (frame nodes k (Dates d field) a g cs m is method none changes few em) cs d field changes) (passes (of_groups k) BadArgument method)
told nodes k (Coordinate name) a g cs m is plain method none changes few em =
    told_one nodes k (Coordinate name) a g cs m is method none changes few em (keyed a.axes a.coords [] (frame nodes k (Coordinate name) a g cs m is method none changes few em) cs name changes) (passes (of_groups k) BadArgument method)
told nodes k (Bins d freq) a g cs m is plain method none changes few em = absurd cc
told nodes k (Windows d w center least) a g cs m is plain method none changes few em = absurd cc
told nodes k (Blocks sizes trim how) a g cs m is plain method none changes few em =
    told_each nodes k (Blocks sizes trim how) a g cs m is method none changes few em
    (each_weaker (λ c. IsChange a.axes a.coords [] c × Stays a.axes c) (Stays a.axes) cs (λ c both. both.1) (blocked a.axes a.coords [] (frame nodes k (Blocks sizes trim how) a g cs m is method none changes few em) cs sizes trim how changes))
    (passes (of_blocks k) BadArgument method)

-- as the code hands them on
pub array_told_by : (nodes : List Node) (k : FoldKind) (grouping : Grouping) (a : DataArray) (g : Given) (own axes : List Axis) (coords : List Coord) (slice cs : List Change) (m : Made) → IsArrayIn nodes a → least_of grouping ≡ Never
    → own ≡ a.axes → coords ≡ a.coords → slice ≡ cs → unless (has_method grouping k) BadArgument ≡ Ok tt → nothing_given g ≡ Ok tt → grouped_changes grouping own coords [] ≡ Ok cs → axes ≡ axes_by slice own → check_size (shape_over axes) ≡ Ok tt
    → m ≡ plain_made k slice a → Answers nodes k grouping a g m
array_told_by nodes k grouping a g own axes coords slice cs m is plain eo ec es method none changes eaxes few em =
    told nodes k grouping a g cs m is plain method none
    (subst (λ xs. grouped_changes grouping xs a.coords [] ≡ Ok cs) eo (subst (λ ys. grouped_changes grouping own ys [] ≡ Ok cs) ec changes))
    (subst (λ (xs : List Axis). check_size (shape_over xs) ≡ Ok tt) (eaxes ∙ ap (λ ds. axes_by ds own) es ∙ ap (axes_by cs) eo) few)
    (em ∙ ap (λ ds. plain_made k ds a) es)
