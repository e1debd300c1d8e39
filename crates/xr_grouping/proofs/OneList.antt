-- Along one dimension that is grouped, a point of the result has the cells at the positions of its list.
use Rattle.std.proofs.Common.{◌≡◌, ◌<◌, ◌≤◌, ◌+◌, ◌||◌, ℕ, zero, suc, ℤ, Bool, true, false, not, cond, List, [], ◌∷◌, ◌++◌, length, map, flat_map, filter, get_or, Option, All, refl, sym, ap, subst, ◌∙◌, arith}
use Rattle.std.specs.Prelude.{slice_set}
use Rattle.std.specs.Str.{bytes_eq}
use Rattle.std.specs.List.{position_or_len, range_with_len}
use Rattle.std.proofs.lemmas.Bool.{or_parts}
use Rattle.xr_types.specs.Names.{among, are_distinct}
use Rattle.xr_types.specs.Points.{IsPoint}
use Rattle.xr_arrays.specs.declared.node.Feed.{Feed}
use Rattle.xr_arrays.specs.declared.node.Feed.TheVariants as feed
use Rattle.xr_arrays.specs.Nodes.{folded_axes, gathered, kept, AreFed, ArePositions}
use Rattle.xr_groups.specs.declared.change.Change.{Change}
use Rattle.xr_groups.specs.Listed.{feeds_by}
use Rattle.xr_parts.proofs.Words.{distinct_parts, same_text}
use Rattle.xr_values.proofs.Named.{bytes_eq_swap}

abbrev pub Cells : Type 0
Cells = List (ℕ × Option ℤ)

abbrev pub cells_at : List ℕ → ℕ → (List ℕ → Option ℤ) → List ℕ → Cells
cells_at p k f ps = map (λ i. (i, f (slice_set p k i))) ps

singles : (ps : List ℕ) (g : ℕ → Cells) (h : ℕ → Option ℤ) → ((i : ℕ) → g i ≡ (i, h i) ∷ []) → flat_map g ps ≡ map (λ i. (i, h i)) ps
singles [] g h each = refl
singles (i ∷ ps) g h each = ap (λ cs. cs ++ flat_map g ps) (each i) ∙ ap (λ cs. (i, h i) ∷ cs) (singles ps g h each)

never : (b : Bool) → b ≡ true → b ≡ false → ⊥
never b s t = cc

module _ (c : Change) where
  abbrev d : List ℕ
  d = c.dimension

  abbrev pub place : List (List ℕ) → ℕ
  place dims = position_or_len (bytes_eq d) dims

  abbrev feeds : List (List ℕ) → List Feed
  feeds dims = feeds_by (c ∷ []) dims

  -- the feed of a name
  abbrev fed_as : Bool → Feed
  fed_as b = cond b (feed.By c.lists) feed.Keep

  pub feeds_length : (dims : List (List ℕ)) → length (feeds dims) ≡ length dims
  feeds_length [] = refl
  feeds_length (e ∷ es) = ap suc (feeds_length es)

  -- ---- behind the dimension nothing is grouped

  all_kept : (j : ℕ) (dims : List (List ℕ)) (ns p : List ℕ) (f : List ℕ → Option ℤ) → length dims ≡ length ns → among dims d ≡ false → IsPoint (kept (feeds dims) ns) p → gathered j (feeds dims) ns p f ≡ (j, f p) ∷ []
  all_kept j [] [] [] f long none here = refl
  all_kept j [] [] (i ∷ p) f long none here = absurd here
  all_kept j [] (n ∷ ns) p f long none here = absurd (omega (arith, long))
  all_kept j (e ∷ es) [] p f long none here = absurd (omega (arith, long))
  all_kept j (e ∷ es) (n ∷ ns) p f long none here =
      let parts = or_parts (bytes_eq d e) (among es d) none in
      by (bytes_eq e d) (bytes_eq_swap e d ∙ parts.0) p here (λ q f inside. all_kept j es ns q f (omega (arith, long)) parts.1 inside)
    where
      by : (b : Bool) → b ≡ false → (p : List ℕ) → IsPoint (kept (fed_as b ∷ feeds es) (n ∷ ns)) p
          → ((q : List ℕ) (f : List ℕ → Option ℤ) → IsPoint (kept (feeds es) ns) q → gathered j (feeds es) ns q f ≡ (j, f q) ∷ []) → gathered j (fed_as b ∷ feeds es) (n ∷ ns) p f ≡ (j, f p) ∷ []
      by true e p here rest = absurd cc
      by false e [] here rest = absurd here
      by false e (i ∷ p) here rest = rest p (λ q. f (i ∷ q)) here.1

  kept_all : (dims : List (List ℕ)) (ns : List ℕ) → length dims ≡ length ns → among dims d ≡ false → kept (feeds dims) ns ≡ ns
  kept_all [] [] long none = refl
  kept_all [] (n ∷ ns) long none = absurd (omega (arith, long))
  kept_all (e ∷ es) [] long none = absurd (omega (arith, long))
  kept_all (e ∷ es) (n ∷ ns) long none =
      let parts = or_parts (bytes_eq d e) (among es d) none in
      ap (λ b. kept (fed_as b ∷ feeds es) (n ∷ ns)) (bytes_eq_swap e d ∙ parts.0) ∙ ap (λ ms. n ∷ ms) (kept_all es ns (omega (arith, long)) parts.1)

  fed_all : (dims : List (List ℕ)) (ns : List ℕ) → among dims d ≡ false → AreFed (feeds dims) ns
  fed_all [] ns none = tt
  fed_all (e ∷ es) [] none = tt
  fed_all (e ∷ es) (n ∷ ns) none =
      let parts = or_parts (bytes_eq d e) (among es d) none in
      subst (λ b. AreFed (fed_as b ∷ feeds es) (n ∷ ns)) (sym (bytes_eq_swap e d ∙ parts.0)) (tt, fed_all es ns parts.1)

  folded_none : (dims : List (List ℕ)) → among dims d ≡ false → folded_axes (feeds dims) ≡ 0
  folded_none [] none = refl
  folded_none (e ∷ es) none =
      let parts = or_parts (bytes_eq d e) (among es d) none in
      ap (λ b. folded_axes (fed_as b ∷ feeds es)) (bytes_eq_swap e d ∙ parts.0) ∙ folded_none es parts.1

  -- ---- the first of the dimensions is the grouped one, or another

  abbrev next_place : (b : Bool) (es : List (List ℕ)) → ℕ
  next_place b es = cond (not b) (1 + place es) 0

  absent_behind : (e : List ℕ) (es : List (List ℕ)) → bytes_eq d e ≡ true → are_distinct (e ∷ es) ≡ true → among es d ≡ false
  absent_behind e es t distinct = ap (among es) (same_text d e t) ∙ (distinct_parts e es distinct).0

  among_behind : (b b' : Bool) → (b || b') ≡ true → b ≡ false → b' ≡ true
  among_behind true b' h e = absurd cc
  among_behind false b' h e = h

  -- ---- the cells of a list

  pub one_list : (j : ℕ) (dims : List (List ℕ)) (ns p : List ℕ) (f : List ℕ → Option ℤ) → length dims ≡ length ns → among dims d ≡ true → are_distinct dims ≡ true → IsPoint (kept (feeds dims) ns) p
      → gathered j (feeds dims) ns p f ≡ cells_at p (place dims) f (get_or c.lists (get_or p (place dims) 0) [])
  one_list j [] ns p f long has distinct here = absurd cc
  one_list j (e ∷ es) [] p f long has distinct here = absurd (omega (arith, long))
  one_list j (e ∷ es) (n ∷ ns) p f long has distinct here =
      by (bytes_eq d e) refl (bytes_eq e d) (bytes_eq_swap e d) p here (λ q f has inside. one_list j es ns q f (omega (arith, long)) has (distinct_parts e es distinct).1 inside)
    where
      by : (b : Bool) → bytes_eq d e ≡ b → (b' : Bool) → b' ≡ bytes_eq d e → (p : List ℕ) → IsPoint (kept (fed_as b' ∷ feeds es) (n ∷ ns)) p
          → ((q : List ℕ) (f : List ℕ → Option ℤ) → among es d ≡ true → IsPoint (kept (feeds es) ns) q → gathered j (feeds es) ns q f ≡ cells_at q (place es) f (get_or c.lists (get_or q (place es) 0) []))
          → gathered j (fed_as b' ∷ feeds es) (n ∷ ns) p f ≡ cells_at p (next_place b es) f (get_or c.lists (get_or p (next_place b es) 0) [])
      by true t false t' p here rest = absurd (never (bytes_eq d e) t (sym t'))
      by false t true t' p here rest = absurd (never (bytes_eq d e) (sym t') t)
      by true t true t' [] here rest = absurd here
      by true t true t' (i ∷ p) here rest =
          singles (get_or c.lists i []) (λ m. gathered m (feeds es) ns p (λ q. f (m ∷ q))) (λ m. f (m ∷ p)) (λ m. all_kept m es ns p (λ q. f (m ∷ q)) (omega (arith, long)) (absent_behind e es t distinct) here.1)
      by false t false t' [] here rest = absurd here
      by false t false t' (i ∷ p) here rest =
          let next : suc (place es) ≡ 1 + place es = omega arith in
          rest p (λ q. f (i ∷ q)) (among_behind (bytes_eq d e) (among es d) has t) here.1
          ∙ ap (λ m. cells_at (i ∷ p) m f (get_or c.lists (get_or (i ∷ p) m 0) [])) next

  -- ---- the shape

  pub kept_one : (dims : List (List ℕ)) (ns : List ℕ) → length dims ≡ length ns → among dims d ≡ true → are_distinct dims ≡ true → kept (feeds dims) ns ≡ slice_set ns (place dims) (length c.lists)
  kept_one [] ns long has distinct = absurd cc
  kept_one (e ∷ es) [] long has distinct = absurd (omega (arith, long))
  kept_one (e ∷ es) (n ∷ ns) long has distinct =
      by (bytes_eq d e) refl (bytes_eq e d) (bytes_eq_swap e d) (λ has. kept_one es ns (omega (arith, long)) has (distinct_parts e es distinct).1)
    where
      by : (b : Bool) → bytes_eq d e ≡ b → (b' : Bool) → b' ≡ bytes_eq d e → (among es d ≡ true → kept (feeds es) ns ≡ slice_set ns (place es) (length c.lists))
          → kept (fed_as b' ∷ feeds es) (n ∷ ns) ≡ slice_set (n ∷ ns) (next_place b es) (length c.lists)
      by true t false t' rest = absurd (never (bytes_eq d e) t (sym t'))
      by false t true t' rest = absurd (never (bytes_eq d e) (sym t') t)
      by true t true t' rest = ap (λ ms. length c.lists ∷ ms) (kept_all es ns (omega (arith, long)) (absent_behind e es t distinct))
      by false t false t' rest =
          let next : suc (place es) ≡ 1 + place es = omega arith in
          ap (λ ms. n ∷ ms) (rest (among_behind (bytes_eq d e) (among es d) has t)) ∙ ap (λ m. slice_set (n ∷ ns) m (length c.lists)) next

  pub fed_one : (dims : List (List ℕ)) (ns : List ℕ) → length dims ≡ length ns → among dims d ≡ true → are_distinct dims ≡ true → All (ArePositions (get_or ns (place dims) 0) 0) c.lists → AreFed (feeds dims) ns
  fed_one [] ns long has distinct fed = tt
  fed_one (e ∷ es) [] long has distinct fed = tt
  fed_one (e ∷ es) (n ∷ ns) long has distinct fed =
      by (bytes_eq d e) refl (bytes_eq e d) (bytes_eq_swap e d) fed (λ has fed. fed_one es ns (omega (arith, long)) has (distinct_parts e es distinct).1 fed)
    where
      by : (b : Bool) → bytes_eq d e ≡ b → (b' : Bool) → b' ≡ bytes_eq d e → All (ArePositions (get_or (n ∷ ns) (next_place b es) 0) 0) c.lists
          → (among es d ≡ true → All (ArePositions (get_or ns (place es) 0) 0) c.lists → AreFed (feeds es) ns) → AreFed (fed_as b' ∷ feeds es) (n ∷ ns)
      by true t false t' fed rest = absurd (never (bytes_eq d e) t (sym t'))
      by false t true t' fed rest = absurd (never (bytes_eq d e) (sym t') t)
      by true t true t' fed rest = (fed, fed_all es ns (absent_behind e es t distinct))
      by false t false t' fed rest =
          let next : 1 + place es ≡ suc (place es) = omega arith in
          (tt, rest (among_behind (bytes_eq d e) (among es d) has t) (subst (λ m. All (ArePositions (get_or (n ∷ ns) m 0) 0) c.lists) next fed))

  pub folded_one : (dims : List (List ℕ)) → among dims d ≡ true → are_distinct dims ≡ true → folded_axes (feeds dims) ≡ 1
  folded_one [] has distinct = absurd cc
  folded_one (e ∷ es) has distinct = by (bytes_eq d e) refl (bytes_eq e d) (bytes_eq_swap e d) (λ has. folded_one es has (distinct_parts e es distinct).1)
    where
      by : (b : Bool) → bytes_eq d e ≡ b → (b' : Bool) → b' ≡ bytes_eq d e → (among es d ≡ true → folded_axes (feeds es) ≡ 1) → folded_axes (fed_as b' ∷ feeds es) ≡ 1
      by true t false t' rest = absurd (never (bytes_eq d e) t (sym t'))
      by false t true t' rest = absurd (never (bytes_eq d e) (sym t') t)
      by true t true t' rest = ap suc (folded_none es (absent_behind e es t distinct))
      by false t false t' rest = rest (among_behind (bytes_eq d e) (among es d) has t)

  pub place_inside : (dims : List (List ℕ)) → among dims d ≡ true → place dims < length dims
  place_inside [] has = absurd cc
  place_inside (e ∷ es) has = by (bytes_eq d e) refl (λ has. place_inside es has)
    where
      by : (b : Bool) → bytes_eq d e ≡ b → (among es d ≡ true → place es < length es) → next_place b es < length (e ∷ es)
      by true t rest = omega arith
      by false t rest = let lt = rest (among_behind (bytes_eq d e) (among es d) has t) in omega (arith, lt)

-- ---- positions of an axis

weaker : (n a : ℕ) (ps : List ℕ) → ArePositions n (suc a) ps → ArePositions n a ps
weaker n a [] are = tt
weaker n a (p ∷ ps) are = let low = are.0 in (omega (arith, low), are.1, are.2)

filtered : (test : ℕ → Bool) (n a m : ℕ) → a + m ≤ n → ArePositions n a (filter test (range_with_len a m))
filtered test n a zero le = tt
filtered test n a (suc m) le = by (test a) (filtered test n (a + 1) m (omega (arith, le)))
  where
    next : a + 1 ≡ suc a
    next = omega arith

    by : (b : Bool) → ArePositions n (a + 1) (filter test (range_with_len (a + 1) m)) → ArePositions n a (cond b (a ∷ filter test (range_with_len (a + 1) m)) (filter test (range_with_len (a + 1) m)))
    by true rest = (omega arith, omega (arith, le), subst (λ s. ArePositions n s (filter test (range_with_len (a + 1) m))) next rest)
    by false rest = weaker n a (filter test (range_with_len (a + 1) m)) (subst (λ s. ArePositions n s (filter test (range_with_len (a + 1) m))) next rest)

pub filtered_positions : (test : ℕ → Bool) (n : ℕ) → ArePositions n 0 (filter test (range_with_len 0 n))
filtered_positions test n = filtered test n 0 n (omega arith)

pub all_mapped : {X : Type 0} (P : List ℕ → Type 0) (f : X → List ℕ) (xs : List X) → ((x : X) → P (f x)) → All P (map f xs)
all_mapped P f [] each i y lt = absurd (omega arith)
all_mapped P f (x ∷ xs) each zero y lt = each x
all_mapped P f (x ∷ xs) each (suc i) y lt = all_mapped P f xs each i y (omega arith)
