-- The axes of a dataset and of its variables, by the changes that group them.
use Rattle.std.proofs.Common.{◌≡◌, ◌||◌, ℕ, Bool, true, false, cond, List, [], ◌∷◌, map, refl, sym, ap, subst, ◌∙◌}
use Rattle.std.specs.Str.{bytes_eq}
use Rattle.std.specs.List.{AllByRecursion}
use Rattle.std.specs.Prelude.{All}
use Rattle.std.proofs.lemmas.Bool.{or_parts}
use Rattle.xr_types.specs.Names.{among, are_distinct, axis_names}
use Rattle.xr_types.specs.declared.axis.Axis.{Axis}
use Rattle.xr_arrays.specs.declared.node.Feed.TheVariants as feed
use Rattle.xr_arrays.specs.Nodes.{ArePositions}
use Rattle.xr_defs.specs.declared.value.Coord.{Coord}
use Rattle.xr_defs.specs.Parts.{axes_called}
use Rattle.xr_defs.specs.Selecting.{axis_called}
use Rattle.xr_defs.specs.WellFormed.{IsDimension}
use Rattle.xr_parts.specs.Frames.{IsThere}
use Rattle.xr_parts.proofs.Axes.{called_holds, own_axes}
use Rattle.xr_parts.proofs.Words.{AreAmong, distinct_cons, distinct_parts, itself, neither, other_name, same_text}
use Rattle.xr_values.proofs.Named.{bytes_eq_swap}
use Rattle.xr_groups.specs.declared.change.Change.{Change}
use Rattle.xr_groups.specs.Listed.{axes_by, axis_by, dim_by, feed_by}
use Rattle.xr_grouping.specs.Changes.{IsChange}
use Rattle.xr_group_sets.specs.Listing.{IsAxisFed, IsFedBy}

-- ---- one axis

module _ (axes : List Axis) (coords : List Coord) (others : List (List ℕ)) where
  pub axis_fed : (cs : List Change) (x : Axis) → IsThere axes x → IsDimension x → AllByRecursion (IsChange axes coords others) cs → IsAxisFed cs x
  axis_fed [] x there is all = record { dimension = is; fed = tt; sized = refl }
  axis_fed (c ∷ cs) x there is all = by (bytes_eq x.name c.dimension) refl (axis_fed cs x there is all.1)
    where
      by : (b : Bool) → bytes_eq x.name c.dimension ≡ b → IsAxisFed cs x → IsFedBy x (cond b c.axis (axis_by cs x)) (cond b (feed.By c.lists) (feed_by cs x.name))
      by true e rest =
          let at : axis_called axes c.dimension ≡ x = ap (axis_called axes) (sym (same_text x.name c.dimension e)) ∙ there.1 in
          record {
            dimension = all.0.axis;
            fed = subst (λ (y : Axis). All (ArePositions y.size 0) c.lists) at all.0.fed;
            sized = ap (λ n. n ∷ []) (sym all.0.sized);
          }
      by false e rest = rest

  -- one that a name calls
  pub called_there : (d : List ℕ) → AllByRecursion IsDimension axes → among (axis_names axes) d ≡ true → IsThere axes (axis_called axes d) × IsDimension (axis_called axes d)
  called_there d each has =
      let found = called_holds IsDimension d axes each has in
      ((ap (among (axis_names axes)) found.1 ∙ has, ap (axis_called axes) found.1), found.0)

  pub called_fed : (cs : List Change) (dims : List (List ℕ)) → AllByRecursion IsDimension axes → AllByRecursion (IsChange axes coords others) cs → AreAmong (axis_names axes) dims → AllByRecursion (IsAxisFed cs) (axes_called axes dims)
  called_fed cs [] each all has = tt
  called_fed cs (d ∷ ds) each all has = let one = called_there d each has.0 in (axis_fed cs (axis_called axes d) one.0 one.1 all, called_fed cs ds each all has.1)

pub called_dims : (axes : List Axis) (dims : List (List ℕ)) → AllByRecursion IsDimension axes → AreAmong (axis_names axes) dims → AllByRecursion IsDimension (axes_called axes dims)
called_dims axes [] each has = tt
called_dims axes (d ∷ ds) each has = ((called_holds IsDimension d axes each has.0).0, called_dims axes ds each has.1)

-- ---- names afterwards

pub name_by : (cs : List Change) (x : Axis) → (axis_by cs x).name ≡ dim_by cs x.name
name_by [] x = refl
name_by (c ∷ cs) x = by (bytes_eq x.name c.dimension) (name_by cs x)
  where
    by : (b : Bool) → (axis_by cs x).name ≡ dim_by cs x.name → (cond b c.axis (axis_by cs x)).name ≡ cond b c.axis.name (dim_by cs x.name)
    by true rest = refl
    by false rest = rest

pub names_by : (cs : List Change) (xs : List Axis) → axis_names (axes_by cs xs) ≡ map (dim_by cs) (axis_names xs)
names_by cs [] = refl
names_by cs (x ∷ xs) = ap (λ n. n ∷ axis_names (axes_by cs xs)) (name_by cs x) ∙ ap (λ ns. dim_by cs x.name ∷ ns) (names_by cs xs)

unmapped : {X Y : Type 0} (P : Y → Type 0) (f : X → Y) (xs : List X) → AllByRecursion P (map f xs) → AllByRecursion (λ x. P (f x)) xs
unmapped P f [] all = tt
unmapped P f (x ∷ xs) all = (all.0, unmapped P f xs all.1)

-- ---- axes afterwards, by their names

module _ (cs : List Change) (axes : List Axis) (distinct : are_distinct (axis_names (axes_by cs axes)) ≡ true) where
  abbrev after : List Axis
  after = axes_by cs axes

  pub called_after : (d : List ℕ) → among (axis_names axes) d ≡ true → (among (axis_names (axes_by cs axes)) (dim_by cs d) ≡ true) × (axis_called (axes_by cs axes) (dim_by cs d) ≡ axis_by cs (axis_called axes d))
  called_after d has =
      let found = called_holds (λ (x : Axis). IsThere (axes_by cs axes) (axis_by cs x)) d axes (unmapped (IsThere (axes_by cs axes)) (axis_by cs) axes (own_axes (axes_by cs axes) distinct)) has in
      let named : (axis_by cs (axis_called axes d)).name ≡ dim_by cs d = name_by cs (axis_called axes d) ∙ ap (dim_by cs) found.1 in
      (ap (among (axis_names (axes_by cs axes))) (sym named) ∙ found.0.0, ap (axis_called (axes_by cs axes)) (sym named) ∙ found.0.1)

  pub among_after : (dims : List (List ℕ)) → AreAmong (axis_names axes) dims → AreAmong (axis_names (axes_by cs axes)) (map (dim_by cs) dims)
  among_after [] has = tt
  among_after (d ∷ ds) has = ((called_after d has.0).0, among_after ds has.1)

  pub own_after : (dims : List (List ℕ)) → AreAmong (axis_names axes) dims → axes_called (axes_by cs axes) (map (dim_by cs) dims) ≡ axes_by cs (axes_called axes dims)
  own_after [] has = refl
  own_after (d ∷ ds) has = ap (λ x. x ∷ axes_called (axes_by cs axes) (map (dim_by cs) ds)) (called_after d has.0).1 ∙ ap (λ xs. axis_by cs (axis_called axes d) ∷ xs) (own_after ds has.1)

-- ---- what tells the names of all tells those of some

or_true : (b : Bool) → (b || true) ≡ true
or_true true = refl
or_true false = refl

never : (b : Bool) → b ≡ false → b ≡ true → ⊥
never b e f = cc

in_image : (g : List ℕ → List ℕ) (ns : List (List ℕ)) (d : List ℕ) → among ns d ≡ true → among (map g ns) (g d) ≡ true
in_image g [] d has = absurd cc
in_image g (n ∷ ns) d has = by (bytes_eq d n) refl has (in_image g ns d)
  where
    by : (b : Bool) → bytes_eq d n ≡ b → (b || among ns d) ≡ true → (among ns d ≡ true → among (map g ns) (g d) ≡ true) → (bytes_eq (g d) (g n) || among (map g ns) (g d)) ≡ true
    by true e has rest = ap (λ m. bytes_eq (g d) (g m) || among (map g ns) (g d)) (sym (same_text d n e)) ∙ ap (λ b. b || among (map g ns) (g d)) (itself (g d))
    by false e has rest = ap (λ b. bytes_eq (g d) (g n) || b) (rest has) ∙ or_true (bytes_eq (g d) (g n))

module _ (g : List ℕ → List ℕ) where
  apart : (ns : List (List ℕ)) (d e : List ℕ) → are_distinct (map g ns) ≡ true → among ns d ≡ true → among ns e ≡ true → bytes_eq d e ≡ false → bytes_eq (g d) (g e) ≡ false
  apart [] d e distinct hd he other = absurd cc
  apart (n ∷ ns) d e distinct hd he other = by (bytes_eq d n) refl (bytes_eq e n) refl hd he (distinct_parts (g n) (map g ns) distinct) (apart ns d e)
    where
      by : (b : Bool) → bytes_eq d n ≡ b → (b' : Bool) → bytes_eq e n ≡ b' → (b || among ns d) ≡ true → (b' || among ns e) ≡ true → (among (map g ns) (g n) ≡ false) × (are_distinct (map g ns) ≡ true)
          → (are_distinct (map g ns) ≡ true → among ns d ≡ true → among ns e ≡ true → bytes_eq d e ≡ false → bytes_eq (g d) (g e) ≡ false) → bytes_eq (g d) (g e) ≡ false
      by true t true t' hd he parts rest = absurd (never (bytes_eq d e) other (ap (bytes_eq d) (same_text e n t') ∙ t))
      by true t false t' hd he parts rest = other_name (map g ns) (g e) (g d) (in_image g ns e he) (ap (λ m. among (map g ns) (g m)) (same_text d n t) ∙ parts.0)
      by false t true t' hd he parts rest = bytes_eq_swap (g d) (g e) ∙ other_name (map g ns) (g d) (g e) (in_image g ns d hd) (ap (λ m. among (map g ns) (g m)) (same_text e n t') ∙ parts.0)
      by false t false t' hd he parts rest = rest parts.1 hd he other

  absent : (ns : List (List ℕ)) (d : List ℕ) (ds : List (List ℕ)) → are_distinct (map g ns) ≡ true → among ns d ≡ true → AreAmong ns ds → among ds d ≡ false → among (map g ds) (g d) ≡ false
  absent ns d [] distinct has all none = refl
  absent ns d (e ∷ ds) distinct has all none =
      let parts = or_parts (bytes_eq d e) (among ds d) none in
      neither (bytes_eq (g d) (g e)) (among (map g ds) (g d)) (apart ns d e distinct has all.0 parts.0) (absent ns d ds distinct has all.1 parts.1)

  pub distinct_some : (ns ds : List (List ℕ)) → are_distinct (map g ns) ≡ true → AreAmong ns ds → are_distinct ds ≡ true → are_distinct (map g ds) ≡ true
  distinct_some ns [] distinct all own = refl
  distinct_some ns (d ∷ ds) distinct all own =
      let parts = distinct_parts d ds own in
      distinct_cons (g d) (map g ds) (absent ns d ds distinct all.0 all.1 parts.0) (distinct_some ns ds distinct all.1 parts.1)
