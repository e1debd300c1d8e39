-- No data variable has the name of a labelled axis or a coordinate afterwards.
use Rattle.std.proofs.Common.{◌≡◌, ◌||◌, ℕ, Bool, true, false, not, cond, inl, inr, List, [], ◌∷◌, ◌++◌, is_some, refl, sym, ap, ◌∙◌}
use Rattle.std.specs.Str.{bytes_eq}
use Rattle.std.specs.List.{AllByRecursion, list_any}
use Rattle.std.proofs.lemmas.Bool.{or_parts}
use Rattle.xr_types.specs.Names.{among, are_distinct, axis_names}
use Rattle.xr_types.specs.declared.axis.Axis.{Axis}
use Rattle.xr_defs.specs.declared.value.Coord.{Coord}
use Rattle.xr_defs.specs.Selecting.{axis_called}
use Rattle.xr_defs.specs.WellFormed.{labelled, names_of}
use Rattle.xr_parts.specs.Frames.{IsFrame, IsThere}
use Rattle.xr_parts.proofs.Axes.{own_axes}
use Rattle.xr_parts.proofs.Words.{AreAbsent, AreAmong, absent_left, distinct_left, each_weaker, itself, join, neither, other_name, same_text, split}
use Rattle.xr_values.proofs.Named.{bytes_eq_swap}
use Rattle.xr_groups.specs.declared.change.Change.{Change}
use Rattle.xr_groups.specs.Listed.{axes_by, axis_by, coords_by, dimensions}
use Rattle.xr_grouping.specs.Changes.{IsChange, IsNewName}

-- a name of a data variable isn't that of a labelled axis
module _ (axes : List Axis) (coords : List Coord) (others : List (List ℕ)) (m : List ℕ) (has : among others m ≡ true) (no_axis : among (axis_names (labelled axes)) m ≡ false) (no_coord : among (names_of coords) m ≡ false) where
  none_of : (a b e : Bool) → not (a || b || e) ≡ true → e ≡ false
  none_of true b e h = absurd cc
  none_of false true e h = absurd cc
  none_of false false true h = absurd cc
  none_of false false false h = refl

  -- a labelled axis that is one of these isn't called so
  Apart : Axis → Type 0
  Apart x = is_some x.labels ≡ true → bytes_eq m x.name ≡ false

  new_apart : (c : Change) (x : Axis) → axis_called axes c.dimension ≡ x → x.name ≡ c.dimension → (is_some x.labels ≡ true → bytes_eq m x.name ≡ false) → IsChange axes coords others c → is_some c.axis.labels ≡ true → bytes_eq m c.axis.name ≡ false
  new_apart c x at own apart is some = by is.named
    where
      by : IsNewName axes coords others c.dimension c.axis.name → bytes_eq m c.axis.name ≡ false
      by (inl same) = ap (bytes_eq m) (same ∙ sym own) ∙ apart (ap (λ (y : Axis). is_some y.labels) (sym at) ∙ is.labelled same some)
      by (inr (inl free)) = bytes_eq_swap m c.axis.name ∙ other_name others m c.axis.name has (none_of (among (axis_names axes) c.axis.name) (among (names_of coords) c.axis.name) (among others c.axis.name) free)
      by (inr (inr of_coord)) = other_name (names_of coords) c.axis.name m of_coord.0 no_coord

  axis_apart : (cs : List Change) (x : Axis) → IsThere axes x → (is_some x.labels ≡ true → bytes_eq m x.name ≡ false) → AllByRecursion (IsChange axes coords others) cs → is_some (axis_by cs x).labels ≡ true → bytes_eq m (axis_by cs x).name ≡ false
  axis_apart [] x there apart all = apart
  axis_apart (c ∷ cs) x there apart all = by (bytes_eq x.name c.dimension) refl (axis_apart cs x there apart all.1)
    where
      by : (b : Bool) → bytes_eq x.name c.dimension ≡ b → (is_some (axis_by cs x).labels ≡ true → bytes_eq m (axis_by cs x).name ≡ false) → is_some (cond b c.axis (axis_by cs x)).labels ≡ true → bytes_eq m (cond b c.axis (axis_by cs x)).name ≡ false
      by true e rest = new_apart c x (ap (axis_called axes) (sym (same_text x.name c.dimension e)) ∙ there.1) (same_text x.name c.dimension e) apart all.0
      by false e rest = rest

  one_absent : (x : Axis) (xs : List Axis) → (is_some x.labels ≡ true → bytes_eq m x.name ≡ false) → among (axis_names (labelled xs)) m ≡ false → among (axis_names (labelled (x ∷ xs))) m ≡ false
  one_absent x xs apart none = by (is_some x.labels) refl
    where
      by : (b : Bool) → is_some x.labels ≡ b → among (axis_names (cond b (x ∷ labelled xs) (labelled xs))) m ≡ false
      by true e = neither (bytes_eq m x.name) (among (axis_names (labelled xs)) m) (apart e) none
      by false e = none

  first_apart : (x : Axis) (xs : List Axis) → among (axis_names (labelled (x ∷ xs))) m ≡ false → (is_some x.labels ≡ true → bytes_eq m x.name ≡ false) × (among (axis_names (labelled xs)) m ≡ false)
  first_apart x xs none = by (is_some x.labels) none
    where
      by : (b : Bool) → among (axis_names (cond b (x ∷ labelled xs) (labelled xs))) m ≡ false → (b ≡ true → bytes_eq m x.name ≡ false) × (among (axis_names (labelled xs)) m ≡ false)
      by true none = let parts = or_parts (bytes_eq m x.name) (among (axis_names (labelled xs)) m) none in (λ e. parts.0, parts.1)
      by false none = (λ e. absurd cc, none)

  axes_apart : (cs : List Change) (xs : List Axis) → AllByRecursion (IsThere axes) xs → AllByRecursion (IsChange axes coords others) cs → among (axis_names (labelled xs)) m ≡ false → among (axis_names (labelled (axes_by cs xs))) m ≡ false
  axes_apart cs [] there all none = refl
  axes_apart cs (x ∷ xs) there all none =
      let parts = first_apart x xs none in
      one_absent (axis_by cs x) (axes_by cs xs) (axis_apart cs x there.0 parts.0 all) (axes_apart cs xs there.1 all parts.1)

-- names of which none is in a list
each_absent : (axes : List Axis) (coords : List Coord) (others : List (List ℕ)) (cs : List Change) → are_distinct (axis_names axes) ≡ true → AllByRecursion (IsChange axes coords others) cs → (ms : List (List ℕ)) → AreAmong others ms → AreAbsent (axis_names (labelled axes)) ms
    → AreAbsent (names_of coords) ms → AreAbsent (axis_names (labelled (axes_by cs axes))) ms
each_absent axes coords others cs distinct all [] has no_axis no_coord = tt
each_absent axes coords others cs distinct all (m ∷ ms) has no_axis no_coord =
    (axes_apart axes coords others m has.0 no_axis.0 no_coord.0 cs axes (own_axes axes distinct) all no_axis.0, each_absent axes coords others cs distinct all ms has.1 no_axis.1 no_coord.1)

or_true : (b : Bool) → (b || true) ≡ true
or_true true = refl
or_true false = refl

own_names : (ds : List (List ℕ)) → AreAmong ds ds
own_names [] = tt
own_names (d ∷ ds) = (ap (λ b. b || among ds d) (itself d), each_weaker (λ n. among ds n ≡ true) (λ n. among (d ∷ ds) n ≡ true) ds (λ n has. ap (λ t. bytes_eq n d || t) has ∙ or_true (bytes_eq n d)) (own_names ds))

both_absent : (ns xs ys : List (List ℕ)) → AreAbsent ns xs → AreAbsent ns ys → AreAbsent ns (xs ++ ys)
both_absent ns [] ys a b = b
both_absent ns (x ∷ xs) ys a b = (a.0, both_absent ns xs ys a.1 b)

parts_absent : (ns xs ys : List (List ℕ)) → AreAbsent ns (xs ++ ys) → AreAbsent ns xs × AreAbsent ns ys
parts_absent ns [] ys all = (tt, all)
parts_absent ns (x ∷ xs) ys all = let rest = parts_absent ns xs ys all.1 in ((all.0, rest.0), rest.1)

-- what coordinates lack, those that stay lack
coord_absent : (keeps : Bool) (cs : List Change) (coords : List Coord) (n : List ℕ) → among (names_of coords) n ≡ false → among (names_of (coords_by keeps cs coords)) n ≡ false
coord_absent true cs coords n lacks = lacks
coord_absent false cs coords n lacks = absent_left (λ (c : Coord). c.name) (λ (c : Coord). not (list_any (among (dimensions cs)) (axis_names c.axes))) coords n lacks

pub apart_after : (axes : List Axis) (coords : List Coord) (others : List (List ℕ)) (keeps : Bool) (cs : List Change) → are_distinct (axis_names axes) ≡ true → AllByRecursion (IsChange axes coords others) cs → are_distinct (axis_names (labelled axes) ++ (names_of coords ++ others)) ≡ true
    → IsFrame (axes_by cs axes) (coords_by keeps cs coords) → are_distinct (axis_names (labelled (axes_by cs axes)) ++ (names_of (coords_by keeps cs coords) ++ others)) ≡ true
apart_after axes coords others keeps cs own all distinct frame =
    let whole = split (axis_names (labelled axes)) (names_of coords ++ others) distinct in
    let inner = split (names_of coords) others whole.second in
    let no_axis = parts_absent (axis_names (labelled axes)) (names_of coords) others whole.apart in
    let new = split (axis_names (axes_by cs axes)) (names_of (coords_by keeps cs coords)) frame.distinct in
    join (axis_names (labelled (axes_by cs axes))) (names_of (coords_by keeps cs coords) ++ others) (record {
      first = distinct_left (λ (x : Axis). x.name) (λ (x : Axis). is_some x.labels) (axes_by cs axes) frame.dims.distinct;
      second = join (names_of (coords_by keeps cs coords)) others (record {
        first = new.second;
        second = inner.second;
        apart = each_weaker (λ n. among (names_of coords) n ≡ false) (λ n. among (names_of (coords_by keeps cs coords)) n ≡ false) others (coord_absent keeps cs coords) inner.apart;
      });
      apart = both_absent (axis_names (labelled (axes_by cs axes))) (names_of (coords_by keeps cs coords)) others
          (each_weaker (λ n. among (axis_names (axes_by cs axes)) n ≡ false) (λ n. among (axis_names (labelled (axes_by cs axes))) n ≡ false) (names_of (coords_by keeps cs coords)) (λ n. absent_left (λ (x : Axis). x.name) (λ (x : Axis). is_some x.labels) (axes_by cs axes) n) new.apart)
          (each_absent axes coords others cs own all others (own_names others) no_axis.1 inner.apart);
    })
