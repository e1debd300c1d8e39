-- Positions taken along each axis, one after another, show the cells at the positions of all, or the fill.
use Rattle.xr_aligning.proofs.Common.{AreBelow, Array, IfSome, IsPoint, List, None, Option, Some, [], along, ap, append_assoc, at, both_points, cell_or, from_source, get_or, get_or-append_seam, length, length-append, made, made_at, made_by, map, option_map, point_length, refl, set, set-append_seam, size, source_inside, source_point, subst, sym, tab-length, taken_from, ℕ, ℤ, ◌++◌, ◌+◌, ◌<◌, ◌∙◌, ◌∷◌, ◌≡◌}

module _ (fill : Option ℤ) where
  -- positions of each axis from this one on
  abbrev pub taken_each : ℕ → List (List (Option ℕ)) → Array → Array
  taken_each k [] a = a
  taken_each k (s ∷ ss) a = taken_each (k + 1) ss (taken_from a k s fill)

  -- ---- one axis

  abbrev pub next : List ℕ → List (Option ℕ) → Array → Array
  next s1 s a = taken_from a (length s1) s fill

  module _ (a : Array) (s1 ns : List ℕ) (n : ℕ) (s : List (Option ℕ)) (shape : a.shape ≡ s1 ++ n ∷ ns) where
    abbrev b : Array
    b = next s1 s a

    pub taken_shape : b.shape ≡ s1 ++ length s ∷ ns
    taken_shape = ap (λ t. set t (length s1) (length s)) shape ∙ set-append_seam s1 n ns (length s)

    taken_at : (p1 : List ℕ) (i : ℕ) (r : List ℕ) → IsPoint s1 p1 → i < length s → IsPoint ns r
        → at b (p1 ++ i ∷ r) ≡ cell_or fill a (option_map (λ q. p1 ++ q) (elim (get_or s i None) [ None ↦ None | Some k ↦ Some (k ∷ r) ]))
    taken_at p1 i r front lt behind =
        let long : length s1 ≡ length p1 = sym (point_length s1 p1 front) in
        let inside : IsPoint b.shape (p1 ++ i ∷ r) = subst (λ t. IsPoint t (p1 ++ i ∷ r)) (sym taken_shape) (both_points s1 (length s ∷ ns) p1 (i ∷ r) front (lt, behind)) in
        made_at a.kind b.shape (λ p. from_source a fill (λ j. along (length s1) j p) (get_or s (get_or p (length s1) 0) None)) (p1 ++ i ∷ r) inside
        ∙ ap (λ k. from_source a fill (λ j. along k j (p1 ++ i ∷ r)) (get_or s (get_or (p1 ++ i ∷ r) k 0) None)) long
        ∙ ap (λ k. from_source a fill (λ j. along (length p1) j (p1 ++ i ∷ r)) (get_or s k None)) (get_or-append_seam p1 i r 0)
        ∙ by (get_or s i None)
      where
        by : (o : Option ℕ) → from_source a fill (λ j. along (length p1) j (p1 ++ i ∷ r)) o ≡ cell_or fill a (option_map (λ q. p1 ++ q) (elim o [ None ↦ None | Some k ↦ Some (k ∷ r) ]))
        by None = refl
        by (Some j) = ap (at a) (set-append_seam p1 i r j)

  -- ---- all axes

  pub next_axis : (s1 : List ℕ) (n : ℕ) → length (s1 ++ n ∷ []) ≡ length s1 + 1
  next_axis s1 n = length-append s1 (n ∷ [])

  pub each_kind : (k : ℕ) (ss : List (List (Option ℕ))) (a : Array) → (taken_each k ss a).kind ≡ a.kind
  each_kind k [] a = refl
  each_kind k (s ∷ ss) a = each_kind (k + 1) ss (taken_from a k s fill)

  pub each_whole : (k : ℕ) (ss : List (List (Option ℕ))) (a : Array) → length a.cells ≡ size a.shape → length (taken_each k ss a).cells ≡ size (taken_each k ss a).shape
  each_whole k [] a whole = whole
  each_whole k (s ∷ ss) a whole = each_whole (k + 1) ss (taken_from a k s fill) (tab-length (set a.shape k (length s)) (λ p. from_source a fill (λ i. along k i p) (get_or s (get_or p k 0) None)))

  pub each_shape : (s1 ns : List ℕ) (ss : List (List (Option ℕ))) (a : Array) → a.shape ≡ s1 ++ ns → AreBelow ns ss → (taken_each (length s1) ss a).shape ≡ s1 ++ map length ss
  each_shape s1 [] [] a shape below = shape
  each_shape s1 [] (s ∷ ss) a shape below = absurd below
  each_shape s1 (n ∷ ns) [] a shape below = absurd below
  each_shape s1 (n ∷ ns) (s ∷ ss) a shape below =
      let now : (taken_from a (length s1) s fill).shape ≡ (s1 ++ length s ∷ []) ++ ns = taken_shape a s1 ns n s shape ∙ sym (append_assoc s1 (length s ∷ []) ns) in
      ap (λ k. (taken_each k ss (taken_from a (length s1) s fill)).shape) (sym (next_axis s1 (length s)))
      ∙ each_shape (s1 ++ length s ∷ []) ns ss (taken_from a (length s1) s fill) now below.1 ∙ append_assoc s1 (length s ∷ []) (map length ss)

  pub each_at : (s1 p1 ns : List ℕ) (ss : List (List (Option ℕ))) (a : Array) (p : List ℕ) → a.shape ≡ s1 ++ ns → AreBelow ns ss → IsPoint s1 p1 → IsPoint (map length ss) p
      → at (taken_each (length s1) ss a) (p1 ++ p) ≡ cell_or fill a (option_map (λ q. p1 ++ q) (source_point ss p))
  each_at s1 p1 [] [] a [] shape below front here = refl
  each_at s1 p1 [] [] a (i ∷ p) shape below front here = absurd here
  each_at s1 p1 [] (s ∷ ss) a p shape below front here = absurd below
  each_at s1 p1 (n ∷ ns) [] a p shape below front here = absurd below
  each_at s1 p1 (n ∷ ns) (s ∷ ss) a [] shape below front here = absurd here
  each_at s1 p1 (n ∷ ns) (s ∷ ss) a (i ∷ p) shape below front here =
      let now : (next s1 s a).shape ≡ (s1 ++ length s ∷ []) ++ ns = taken_shape a s1 ns n s shape ∙ sym (append_assoc s1 (length s ∷ []) ns) in
      ap (λ k. at (taken_each k ss (next s1 s a)) (p1 ++ i ∷ p)) (sym (next_axis s1 (length s)))
      ∙ ap (at (taken_each (length (s1 ++ length s ∷ [])) ss (next s1 s a))) (sym (append_assoc p1 (i ∷ []) p))
      ∙ each_at (s1 ++ length s ∷ []) (p1 ++ i ∷ []) ns ss (next s1 s a) p now below.1 (both_points s1 (length s ∷ []) p1 (i ∷ []) front (here.0, tt)) here.1
      ∙ last (source_point ss p) (source_inside ns ss p below.1 here.1)
    where
      neither : (o : Option ℕ) → fill ≡ cell_or fill a (option_map (λ q. p1 ++ q) (elim o [ None ↦ None | Some k ↦ None ]))
      neither None = refl
      neither (Some k) = refl

      last : (r : Option (List ℕ)) → IfSome r (IsPoint ns) → cell_or fill (next s1 s a) (option_map (λ q. (p1 ++ i ∷ []) ++ q) r) ≡ cell_or fill a (option_map (λ q. p1 ++ q) (elim (get_or s i None) [ None ↦ None | Some k ↦ option_map (λ q. k ∷ q) r ]))
      last None inside = neither (get_or s i None)
      last (Some r) inside = ap (at (next s1 s a)) (append_assoc p1 (i ∷ []) r) ∙ taken_at a s1 ns n s shape p1 i r front here.0 inside

  same_point : (a : Array) (o : Option (List ℕ)) → cell_or fill a (option_map (λ q. [] ++ q) o) ≡ cell_or fill a o
  same_point a None = refl
  same_point a (Some q) = refl

  -- the cells at the positions of all
  pub taken_all : (ns : List ℕ) (ss : List (List (Option ℕ))) (a : Array) → length a.cells ≡ size a.shape → a.shape ≡ ns → AreBelow ns ss → taken_each 0 ss a ≡ made a.kind (map length ss) (λ p. cell_or fill a (source_point ss p))
  taken_all ns ss a whole shape below =
      made_by (taken_each 0 ss a) a.kind (map length ss) (λ p. cell_or fill a (source_point ss p)) (each_whole 0 ss a whole) (each_kind 0 ss a) (each_shape [] ns ss a shape below)
      (λ p here. each_at [] [] ns ss a p shape below tt here ∙ same_point a (source_point ss p))
