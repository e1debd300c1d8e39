-- A variable of a dataset in windows is an array in windows.
use Rattle.std.proofs.Common.{◌≡◌, ◌≤◌, ◌*◌, ◌&&◌, ◌==◌, ℕ, ℤ, Bool, true, false, not, cond, List, [], ◌∷◌, get_or, Option, Some, None, is_some, Result, Ok, Err, refl, sym, ap, subst, ◌∙◌, arith}
use Rattle.std.specs.Prelude.{nat_le, ◌%◌}
use Rattle.std.proofs.lemmas.Bool.Decides.{nat_tests}
use Rattle.xr_types.specs.Names.{among, axis_names}
use Rattle.xr_types.specs.Results.{◌>>=◌, unless}
use Rattle.xr_types.specs.declared.axis.Axis.{Axis}
use Rattle.xr_types.specs.declared.fault.Fault.{Fault}
use Rattle.xr_types.specs.declared.fault.Fault.TheVariants.{BadArgument, NoDimension}
use Rattle.xr_types.specs.declared.operation.FoldKind.{FoldKind}
use Rattle.xr_arrays.specs.declared.node.Node.{Node}
use Rattle.xr_arrays.specs.Added.{AddsAtMost}
use Rattle.xr_arrays.specs.Folds.{folded_kind}
use Rattle.xr_defs.specs.Parts.{axes_called}
use Rattle.xr_defs.specs.Room.{span}
use Rattle.xr_defs.specs.Selecting.{axis_called}
use Rattle.xr_defs.specs.Values as of
use Rattle.xr_defs.specs.Values.{array_of, axis_position, no_axis, without_fills}
use Rattle.xr_defs.specs.declared.grouping.Grouping.TheVariants.{Windows}
use Rattle.xr_defs.specs.declared.value.Coord.{Coord}
use Rattle.xr_operations.specs.Reductions.{coords_left}
use Rattle.xr_parts.proofs.Axes.{called_again, named_again, none_called}
use Rattle.xr_parts.proofs.Words.{AreAmong}
use Rattle.xr_values.specs.declared.data_array.DataArray.{DataArray}
use Rattle.xr_values.specs.Stands.{array_in, IsArrayIn}
use Rattle.xr_formulas.specs.Mades.{IsArrayOf}
use Rattle.xr_grouping.proofs.Steps.{ok_same, passed}
use Rattle.xr_groups.specs.declared.change.Change.{Change}
use Rattle.xr_groups.specs.declared.change.Least.TheVariants.{Fewer}
use Rattle.xr_groups.specs.Blocks.{windows}
use Rattle.xr_groups.specs.Groupings.{axis_found, changes_of, check_name, grouped_changes, one_change, window_change}
use Rattle.xr_groups.specs.Listed.{axes_by, dimensions, feeds_by, is_grouped, listed}
use Rattle.xr_groups.specs.Methods.{array_by, array_listed, fill_cell, of_windows, window_masked}
use Rattle.xr_grouping.specs.declared.windows.WindowsAsked.{WindowsAsked}
use Rattle.xr_grouping.specs.Windowed.{AreAsked}
use Rattle.xr_group_sets.specs.Listing.{IsListing, IsRolled}
use Rattle.xr_group_sets.proofs.Filled.{grouped_has}
use Rattle.xr_group_sets.proofs.Framed.{binds, changes_are, found_called, then_of}

-- ---- some of the axes, the one of the windows among them

never : (b : Bool) → b ≡ true → b ≡ false → ⊥
never b s t = cc

found_here : (d : List ℕ) (axes : List Axis) → among (axis_names axes) d ≡ true → axis_found d axes ≡ Ok (axis_called axes d)
unfolding axis_found
found_here d axes has = by (axis_position d axes) refl
  where
    by : (o : Option ℕ) → axis_position d axes ≡ o → ◌≡◌ {A = Result Axis Fault} (elim o [ None ↦ Err (NoDimension d) | Some k ↦ Ok (get_or axes k no_axis) ]) (Ok (elim o [ None ↦ no_axis | Some k ↦ get_or axes k no_axis ]))
    by None e = absurd (never (among (axis_names axes) d) has (none_called axes d e))
    by (Some k) e = refl

module _ (d : List ℕ) (w : ℕ) (center : Bool) where
  -- the windows along an axis
  abbrev along : Axis → Result Change Fault
  along x = unless (not (center && (w % 2 == 0))) BadArgument >>= λ u. Ok (record { dimension = d; lists = windows x.size w center; axis = x })

  module _ (axes : List Axis) (dims : List (List ℕ)) (over : AreAmong (axis_names axes) dims) where
    own_window : (c : Change) → is_grouped (c ∷ []) dims ≡ true → window_change d w center axes ≡ Ok c → window_change d w center (axes_called axes dims) ≡ Ok c
    unfolding window_change
    own_window c some e =
        let found = binds (axis_found d axes) along c e in
        let x : Axis = found.0 in
        let made : Change = record { dimension = d; lists = windows x.size w center; axis = x } in
        let same : made ≡ c = ok_same made c (then_of (unless (not (center && (w % 2 == 0))) BadArgument) (Ok made) c found.1.then) in
        let has : among dims d ≡ true = ap (λ (b : Change). among dims b.dimension) same ∙ grouped_has c dims some in
        let there : axis_found d (axes_called axes dims) ≡ Ok (axis_called (axes_called axes dims) d) = found_here d (axes_called axes dims) (ap (λ ns. among ns d) (named_again axes dims over) ∙ has) in
        let own : axis_called (axes_called axes dims) d ≡ x = called_again axes dims d over has ∙ sym (found_called d axes x found.1.first) in
        ap (λ r. r >>= along) (there ∙ ap Ok own) ∙ found.1.then

    pub own_windows : (least : ℕ) (coords : List Coord) (others : List (List ℕ)) (cs : List Change) → is_grouped cs dims ≡ true → grouped_changes (Windows d w center least) axes coords others ≡ Ok cs → grouped_changes (Windows d w center least) (axes_called axes dims) [] [] ≡ Ok cs
    unfolding grouped_changes changes_of check_name
    own_windows least coords others cs some e =
        let first = binds (unless (nat_le 1 least) BadArgument) (λ u. one_change (window_change d w center axes)) cs (changes_are (Windows d w center least) axes coords others cs e) in
        let one = binds (window_change d w center axes) (λ c. Ok (c ∷ [])) cs first.1.then in
        let is : one.0 ∷ [] ≡ cs = ok_same (one.0 ∷ []) cs one.1.then in
        let again = own_window one.0 (subst (λ ds. is_grouped ds dims ≡ true) (sym is) some) one.1.first in
        ap (λ (r : Result (Unit {0}) Fault). (r >>= λ u. one_change (window_change d w center (axes_called axes dims))) >>= λ ds. Ok ds) first.1.first ∙ ap (λ r. one_change r >>= λ ds. Ok ds) again ∙ ap Ok is

-- windows need a cell
some_of : (d : List ℕ) (w : ℕ) (center : Bool) (least : ℕ) (axes : List Axis) (coords : List Coord) (others : List (List ℕ)) (cs : List Change) → grouped_changes (Windows d w center least) axes coords others ≡ Ok cs → 1 ≤ least
unfolding changes_of
some_of d w center least axes coords others cs e =
    let first = binds (unless (nat_le 1 least) BadArgument) (λ u. one_change (window_change d w center axes)) cs (changes_are (Windows d w center least) axes coords others cs e) in
    let holds : nat_le 1 least ≡ true = passed (nat_le 1 least) BadArgument first.0 first.1.first in
    grind (arith, nat_tests, holds)

-- ---- as the code hands them on

module _ (old : List Node) (k : FoldKind) (m : ℕ) (cs : List Change) (fill : Option (Option ℤ)) (a : DataArray) (is : IsArrayIn old a) (bare : a.coords ≡ []) (fits : IsListing k (Fewer m) cs fill a.axes a.kind) where
  rolled : IsRolled k m cs a.axes
  rolled = fits.windows m refl

  pub needs_some : 1 ≤ m
  needs_some = some_of rolled.dimension rolled.width rolled.center m a.axes [] [] cs rolled.is

  method_passes : unless (of_windows k) BadArgument ≡ Ok tt
  unfolding unless
  method_passes = rw (rolled.method) refl

  pub asked_told : (axes : List Axis) (held : List Axis) (changes : List Change) → held ≡ a.axes → axes ≡ axes_by cs held → changes ≡ cs → AreAsked k m a (record { changes = changes; fill = fill; axes = axes })
  asked_told axes held changes eh ex ec =
      subst (λ ds. AreAsked k m a (record { changes = ds; fill = fill; axes = axes })) (sym ec)
      (subst (λ xs. AreAsked k m a (record { changes = cs; fill = fill; axes = xs })) (sym (ex ∙ ap (axes_by cs) eh)) (
        rolled.dimension,
        rolled.width,
        rolled.center,
        record {
          method = method_passes;
          changes = subst (λ ys. grouped_changes (Windows rolled.dimension rolled.width rolled.center m) a.axes ys [] ≡ Ok cs) (sym bare) rolled.is;
          filled = fits.filled;
          suits = fits.suits;
          few = fits.few;
          axes = refl;
        },
      ))

  bare_same : array_listed k (Fewer m) true cs fill (array_in old a) ≡ array_listed k (Fewer m) false cs fill (array_in old a)
  bare_same = ap with_coords (bare ∙ ap (coords_left (dimensions cs)) (sym bare))
    where
      with_coords : List Coord → of.DataArray
      with_coords ys =
          record {
            name = a.name;
            axes = axes_by cs a.axes;
            kind = folded_kind k a.kind;
            masked = window_masked a.masked fill;
            attrs = without_fills a.attrs;
            coords = ys;
            cells = (listed k (Fewer m) (fill_cell fill) (feeds_by cs (axis_names a.axes)) (array_of (array_in old a))).cells;
          }

  listed_so : array_by k (Fewer m) true cs fill (array_in old a) ≡ array_listed k (Fewer m) false cs fill (array_in old a)
  listed_so = ap (λ b. cond b (array_listed k (Fewer m) true cs fill (array_in old a)) (array_in old a)) fits.grouped ∙ bare_same

  module _ (new : List Node) (b : DataArray) (changes : List Change) (ec : changes ≡ cs) (answers : (array_by k (Fewer m) true changes fill (array_in old a) ≡ array_in new b) × IsArrayIn new b) where
    means : array_in new b ≡ array_listed k (Fewer m) false cs fill (array_in old a)
    means = sym answers.0 ∙ ap (λ ds. array_by k (Fewer m) true ds fill (array_in old a)) ec ∙ listed_so

    pub windows_told : IsArrayOf new (array_listed k (Fewer m) false cs fill (array_in old a)) b
    windows_told = record { is = means; inside = answers.1 }

    pub room_told : AddsAtMost old new (256 * span b.axes) → AddsAtMost old new (256 * span (axes_by cs a.axes))
    room_told adds = subst (λ (xs : List Axis). AddsAtMost old new (256 * span xs)) (ap (λ (x : of.DataArray). x.axes) means) adds
