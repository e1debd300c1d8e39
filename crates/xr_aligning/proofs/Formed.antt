-- Arrays and coordinates over joined axes are as they have to be.
use Rattle.xr_aligning.proofs.Common.{AllByRecursion, AreCells, AreFitted, AreLoose, Array, Arrive, Arrives, Axis, Bool, Content, Coord, DType, IfSome, IsCell, IsContent, IsCoordinate, IsDimension, IsFitted, IsLoose, IsPoint, IsThere, List, None, Option, Some, TakesFill, [], all_sources, among, and_parts, ap, append-nil, append_assoc, are_distinct, arith, at, axis_called, axis_names, bytes_eq, bytes_eq_swap, called_cons, called_holds, cell_in, cell_or, cell_seen, cells_made, cond, content_after, false, fill_in, fit_of, fitted_cells, fitted_content, fitted_coord, has_hole, is_some, is_within, joined_in, length, list_all, map, masked_with, most_cells, names_of, nat_le, nat_tests, or_parts, refl, shape_over, size, source_inside, source_point, subst, sym, true, ℕ, ℤ, ◌&&◌, ◌++◌, ◌||◌, ◌∙◌, ◌∷◌, ◌≡◌, ◌≤◌}
use Rattle.xr_defs.specs.declared.value.Content.TheVariants as contents
use Rattle.xr_aligning.proofs.Called.{there_hold}
use Rattle.xr_aligning.proofs.Along.{after_is, all_below, all_long, same_hole, source_some}

-- ---- limits

pub record Within (shape : List ℕ) : Type 0 where
  pub rank : length shape ≤ 16
  pub short : list_all (λ n. nat_le n most_cells) shape ≡ true
  pub few : size shape ≤ 33554432

up_to : (m n : ℕ) → nat_le m n ≡ true → m ≤ n
up_to m n e = grind (arith, nat_tests)

pub within_parts : (shape : List ℕ) → is_within shape ≡ true → Within shape
within_parts shape e =
    let one = and_parts (nat_le (length shape) 16) (list_all (λ n. nat_le n most_cells) shape && nat_le (size shape) most_cells) e in
    let two = and_parts (list_all (λ n. nat_le n most_cells) shape) (nat_le (size shape) most_cells) one.1 in
    record { rank = up_to (length shape) 16 one.0; short = two.0; few = up_to (size shape) most_cells two.1 }

module _ (joined : List Axis) where
  abbrev after : List Axis → List Axis
  after xs = map (joined_in joined) xs

  pub same_names : (xs : List Axis) → Arrive joined xs → axis_names (after xs) ≡ axis_names xs
  same_names [] all = refl
  same_names (x ∷ xs) all = (λ i. all.0.name i ∷ same_names xs all.1 i)

  none_after : (xs : List Axis) → shape_over xs ≡ [] → shape_over (after xs) ≡ []
  none_after [] e = refl
  none_after (x ∷ xs) e = absurd cc

  -- ---- axes

  pub called_after : (xs : List Axis) (n : List ℕ) → Arrive joined xs → among (axis_names xs) n ≡ true → axis_called (after xs) n ≡ joined_in joined (axis_called xs n)
  called_after [] n all has = absurd cc
  called_after (x ∷ xs) n all has =
      called_cons (joined_in joined x) (after xs) n ∙ ap (λ m. cond (bytes_eq m n) (joined_in joined x) (axis_called (after xs) n)) all.0.name
      ∙ by (bytes_eq x.name n) (bytes_eq_swap n x.name) has (called_after xs n all.1) ∙ ap (joined_in joined) (sym (called_cons x xs n))
    where
      by : (b : Bool) → bytes_eq n x.name ≡ b → (bytes_eq n x.name || among (axis_names xs) n) ≡ true → (among (axis_names xs) n ≡ true → axis_called (after xs) n ≡ joined_in joined (axis_called xs n))
          → cond b (joined_in joined x) (axis_called (after xs) n) ≡ joined_in joined (cond b x (axis_called xs n))
      by true e has rest = refl
      by false e has rest = rest (ap (λ b. b || among (axis_names xs) n) (sym e) ∙ has)

  module _ (loose : AreLoose joined) where
    dimension_after : (x : Axis) → IsDimension x → (joined_in joined x).size ≤ most_cells → IsDimension (joined_in joined x)
    dimension_after x own few = by (among (axis_names joined) x.name) refl few
      where
        by : (b : Bool) → among (axis_names joined) x.name ≡ b → (cond b (axis_called joined x.name) x).size ≤ most_cells → IsDimension (cond b (axis_called joined x.name) x)
        by true e few = let found = called_holds IsLoose x.name joined loose.each e in record { name = found.0.name; few = few; index = found.0.index }
        by false e few = own

    pub each_dimension : (xs : List Axis) → AllByRecursion IsDimension xs → list_all (λ n. nat_le n most_cells) (shape_over (after xs)) ≡ true → AllByRecursion IsDimension (after xs)
    each_dimension [] all short = tt
    each_dimension (x ∷ xs) all short =
        let parts = and_parts (nat_le (joined_in joined x).size most_cells) (list_all (λ n. nat_le n most_cells) (shape_over (after xs))) short in
        (dimension_after x all.0 (up_to (joined_in joined x).size most_cells parts.0), each_dimension xs all.1 parts.1)

  -- ---- cells

  module _ (fill : Option ℤ) where
    shown : (a : Array) (o : Option (List ℕ)) (P : Option ℤ → Type 0) → (o ≡ None → P fill) → ((q : List ℕ) → o ≡ Some q → P (at a q)) → P (cell_or fill a o)
    shown a None P none some = none refl
    shown a (Some q) P none some = some q refl

    pub cells_formed : (xs : List Axis) (kind : DType) (masked : Bool) (a : Array) → Arrive joined xs → a.kind ≡ kind → a.shape ≡ shape_over xs → AreCells (shape_over xs) kind masked a.cells
        → is_within (shape_over (after xs)) ≡ true → IsCell kind (fill_in (has_hole joined xs) fill)
        → AreCells (shape_over (after xs)) kind (masked_with masked fill (has_hole joined xs)) (fitted_cells joined xs fill a).cells
    cells_formed xs kind masked a all k e are limits cell =
        let within = within_parts (shape_over (after xs)) limits in
        cells_made (shape_over (after xs)) kind (masked_with masked fill (has_hole joined xs)) (λ p. cell_or fill a (source_point (all_sources joined xs) p)) within.rank within.few
        (λ p here. in_kind (source_point (all_sources joined xs) p) (inside p here) (has_hole joined xs) refl cell (λ whole. source_some (all_sources joined xs) p whole (long p here)))
        (λ plain p here. seen (source_point (all_sources joined xs) p) (inside p here) fill (has_hole joined xs) refl plain (λ whole. source_some (all_sources joined xs) p whole (long p here)))
      where
        long : (p : List ℕ) → IsPoint (shape_over (after xs)) p → IsPoint (map length (all_sources joined xs)) p
        long p here = subst (λ s. IsPoint s p) (sym (all_long joined xs all)) here

        inside : (p : List ℕ) → IsPoint (shape_over (after xs)) p → IfSome (source_point (all_sources joined xs) p) (IsPoint (shape_over xs))
        inside p here = source_inside (shape_over xs) (all_sources joined xs) p (all_below joined xs all) (long p here)

        same : a ≡ record { kind = kind; shape = shape_over xs; cells = a.cells }
        same = (λ i. record { kind = k i; shape = e i; cells = a.cells })

        own : (q : List ℕ) → IsPoint (shape_over xs) q → IsCell kind (at a q)
        own q here = subst (λ (b : Array). IsCell kind (at b q)) (sym same) (cell_in (shape_over xs) kind masked a.cells are q here)

        own_seen : (q : List ℕ) → IsPoint (shape_over xs) q → masked ≡ false → is_some (at a q) ≡ true
        own_seen q here plain = subst (λ (b : Array). is_some (at b q) ≡ true) (sym same) (cell_seen (shape_over xs) kind masked a.cells are plain q here)

        never : (o : Option (List ℕ)) → o ≡ None → is_some o ≡ true → ⊥
        never o none e = cc

        in_kind : (o : Option (List ℕ)) → IfSome o (IsPoint (shape_over xs)) → (b : Bool) → has_hole joined xs ≡ b → IsCell kind (fill_in b fill) → (has_hole joined xs ≡ false → is_some o ≡ true) → IsCell kind (cell_or fill a o)
        in_kind None here true is cell whole = cell
        in_kind None here false is cell whole = absurd (never None refl (whole is))
        in_kind (Some q) here b is cell whole = own q here

        seen : (o : Option (List ℕ)) → IfSome o (IsPoint (shape_over xs)) → (f : Option ℤ) (b : Bool) → has_hole joined xs ≡ b → masked_with masked f b ≡ false → (has_hole joined xs ≡ false → is_some o ≡ true) → is_some (cell_or f a o) ≡ true
        seen None here None b is plain whole = absurd (never None refl (whole (is ∙ (or_parts masked b plain).1)))
        seen None here (Some n) b is plain whole = refl
        seen (Some q) here None b is plain whole = own_seen q here (or_parts masked b plain).0
        seen (Some q) here (Some n) b is plain whole = own_seen q here plain

    -- ---- coordinates

    module _ (own : List Axis) (all : Arrive joined own) where
      over_after : (xs : List Axis) → AllByRecursion (IsThere own) xs → AllByRecursion (IsThere (after own)) (after xs)
      over_after [] over = tt
      over_after (x ∷ xs) over =
          let arrives = subst (Arrives joined) over.0.1 (called_holds (Arrives joined) x.name own all over.0.0).0 in
          let named = arrives.name in (
            (
              ap (λ n. among (axis_names (after own)) n) named ∙ ap (λ ns. among ns x.name) (same_names own all) ∙ over.0.0,
              ap (axis_called (after own)) named ∙ called_after own x.name all over.0.0 ∙ ap (joined_in joined) over.0.1,
            ),
            over_after xs over.1,
          )

      content_is : (xs : List Axis) (c : Content) → Arrive joined xs → IsContent (shape_over xs) c → content_after fill (map (fit_of joined) xs) c ≡ fitted_content joined xs fill c
      content_is xs (contents.Cells a masked) there is =
          (λ i. contents.Cells (after_is joined fill xs a there (is.1.whole ∙ ap size (sym is.0)) is.0 i) (masked_with masked fill (same_hole joined xs i)))
      content_is xs (contents.Text t) there is = refl
      content_is xs (contents.Time coding t) there is = refl

      content_formed : (xs : List Axis) (c : Content) → Arrive joined xs → IsContent (shape_over xs) c → is_within (shape_over (after xs)) ≡ true → TakesFill fill (map (fit_of joined) xs) c → IsContent (shape_over (after xs)) (fitted_content joined xs fill c)
      content_formed xs (contents.Cells a masked) there is within takes =
          (refl, cells_formed xs a.kind masked a there refl is.0 is.1 within (subst (λ b. IsCell a.kind (fill_in b fill)) (same_hole joined xs) takes))
      content_formed xs (contents.Text text) there is within takes = none_after xs is
      content_formed xs (contents.Time coding t) there is within takes = (none_after xs is.0, is.1)

      pub coord_fitted : (c d : Coord) → IsCoordinate own c → is_within (shape_over (after c.axes)) ≡ true → TakesFill fill (map (fit_of joined) c.axes) c.content
          → d ≡ record { name = c.name; axes = after c.axes; attrs = c.attrs; content = content_after fill (map (fit_of joined) c.axes) c.content } → IsFitted joined fill own c d
      coord_fitted c d is within takes made =
          let there = there_hold (Arrives joined) own c.axes all is.over in
          let fitted_is : d ≡ fitted_coord joined fill c = made ∙ ap (λ content. record { name = c.name; axes = after c.axes; attrs = c.attrs; content = content }) (content_is c.axes c.content there is.content) in
          record {
            is = fitted_is;
            formed = subst (IsCoordinate (after own)) (sym fitted_is) (record {
              name = is.name;
              over = over_after c.axes is.over;
              distinct = ap are_distinct (same_names c.axes there) ∙ is.distinct;
              attrs = is.attrs;
              content = content_formed c.axes c.content there is.content within takes;
            });
          }

    pub same_coord_names : (cs : List Coord) → names_of (map (fitted_coord joined fill) cs) ≡ names_of cs
    same_coord_names [] = refl
    same_coord_names (c ∷ cs) = ap (λ ns. c.name ∷ ns) (same_coord_names cs)
