-- Cells and a mask that are arranged alike are the array that shows its points.
use Rattle.std.proofs.Common.{◌≡◌, ◌<◌, ℕ, ℤ, pos, Bool, true, false, List, [], ◌∷◌, length, map, get_or, replicate, Option, Some, None, is_some, option_map, ◌≤ℤ◌, negsuc, refl, sym, ap, subst, ◌∙◌, arith, ◌⊎◌, inl, inr}
use Rattle.std.specs.Prelude.{unsigned_abs, IfSome, MatchOption}
use Rattle.std.specs.List.{All, zip}
use Rattle.std.proofs.lemmas.Int.{ints}
use Rattle.std.proofs.lemmas.List.{get_or-map, length-replicate, length-map}
use Rattle.std.proofs.lemmas.Slice.Zip.{get_or-zip, length-zip}
use Rattle.xr_types.specs.Kinds.{InRange, wrap_to}
use Rattle.xr_types.specs.declared.kind.DType.{DType}
use Rattle.xr_types.specs.declared.kind.DType.TheVariants as kinds
use Rattle.xr_types.proofs.Wrapping.{wrapped_only}
use Rattle.xr_types.specs.Points.{size, tab, place, IsPoint}
use Rattle.xr_arrays.specs.Arrays.{Array, cell, hidden, wide, kind_of, InKind, IsCell}
use Rattle.xr_arrays.specs.declared.typed.Cells.{Cells}
use Rattle.xr_arrays.specs.declared.typed.Cells.TheVariants.{Bool as Truths, Char, Int8, Int16, Int32, Int64, UInt8, UInt16, UInt32, UInt64}
use Rattle.plan_core.specs.Arrangements.{shown, arranged, arranged_cells, arranged_mask, filling, gap, cell_from, rearranged, LieInside, ShowsAll}
use Rattle.plan_core.proofs.Tabs.{tab_same, tab-map, tab-zip, tab-length, place_below, All-tab}

-- ---- numbers

pub wrapped_in : (t : DType) (n : ℤ) → InRange t n → wrap_to t n ≡ n
wrapped_in t n h = sym (wrapped_only t n n (record { in_range = h; turns = pos 0; congruent = omega (arith, ints) }))

truth_is_char : (n : ℤ) → InRange kinds.Bool n → InRange kinds.Char n
truth_is_char n h = (omega (arith, ints, h), omega (arith, ints, h))

natural : (n : ℤ) → pos 0 ≤ℤ n → pos (unsigned_abs n) ≡ n
natural (pos n) h = refl
natural (negsuc n) h = absurd (omega (arith, ints, h))

natural_in : (t : DType) (n : ℤ) → InRange t n → pos 0 ≤ℤ n → pos (unsigned_abs (wrap_to t n)) ≡ n
natural_in t n h le = ap (λ k. pos (unsigned_abs k)) (wrapped_in t n h) ∙ natural n le

-- ---- a function of each cell

module _ {X Y : Type 0} (g : X → Y) where
  shown-map : (s : List ℕ) (xs : List X) (hole : X) (o : Option (List ℕ)) → IfSome o (IsPoint s) → length xs ≡ size s → g (shown s xs hole o) ≡ shown s (map g xs) (g hole) o
  shown-map s xs hole None inside long = refl
  shown-map s xs hole (Some q) inside long = sym (get_or-map g xs (place s q) hole (g hole) (let below = place_below s q inside in omega arith))

  arranged-map : (s t : List ℕ) (point : List ℕ → Option (List ℕ)) (hole : X) (xs : List X) → LieInside s t point → length xs ≡ size s → map g (arranged s t point hole xs) ≡ arranged s t point (g hole) (map g xs)
  arranged-map s t point hole xs inside long =
      tab-map g t (λ p. shown s xs hole (point p)) ∙ tab_same t (λ p. g (shown s xs hole (point p))) (λ p. shown s (map g xs) (g hole) (point p)) (λ p here. shown-map s xs hole (point p) (inside p here) long)

-- a hole of numbers in the range of a kind
naturals_arranged : (kind : DType) (s t : List ℕ) (point : List ℕ → Option (List ℕ)) (n : ℤ) (v : List ℕ) → LieInside s t point → length (map pos v) ≡ size s → InRange kind n → pos 0 ≤ℤ n
    → map pos (arranged s t point (unsigned_abs (wrap_to kind n)) v) ≡ arranged s t point n (map pos v)
naturals_arranged kind s t point n v inside long fits le =
    arranged-map pos s t point (unsigned_abs (wrap_to kind n)) v inside (sym (length-map v pos) ∙ long) ∙ ap (λ k. arranged s t point k (map pos v)) (natural_in kind n fits le)

wide_arranged : (s t : List ℕ) (point : List ℕ → Option (List ℕ)) (n : ℤ) (x : Cells) → LieInside s t point → length (wide x) ≡ size s → InRange (kind_of x) n → wide (arranged_cells s t point n x) ≡ arranged s t point n (wide x)
wide_arranged s t point n (Truths v) inside long fits = naturals_arranged kinds.Char s t point n v inside long (truth_is_char n fits) fits.0
wide_arranged s t point n (Char v) inside long fits = naturals_arranged kinds.Char s t point n v inside long fits fits.0
wide_arranged s t point n (Int8 v) inside long fits = ap (λ k. arranged s t point k v) (wrapped_in kinds.Int8 n fits)
wide_arranged s t point n (Int16 v) inside long fits = ap (λ k. arranged s t point k v) (wrapped_in kinds.Int16 n fits)
wide_arranged s t point n (Int32 v) inside long fits = ap (λ k. arranged s t point k v) (wrapped_in kinds.Int32 n fits)
wide_arranged s t point n (Int64 v) inside long fits = ap (λ k. arranged s t point k v) (wrapped_in kinds.Int64 n fits)
wide_arranged s t point n (UInt8 v) inside long fits = naturals_arranged kinds.Char s t point n v inside long fits fits.0
wide_arranged s t point n (UInt16 v) inside long fits = naturals_arranged kinds.UInt16 s t point n v inside long fits fits.0
wide_arranged s t point n (UInt32 v) inside long fits = naturals_arranged kinds.UInt32 s t point n v inside long fits fits.0
wide_arranged s t point n (UInt64 v) inside long fits = naturals_arranged kinds.UInt64 s t point n v inside long fits fits.0

kind_arranged : (s t : List ℕ) (point : List ℕ → Option (List ℕ)) (n : ℤ) (x : Cells) → kind_of (arranged_cells s t point n x) ≡ kind_of x
kind_arranged s t point n (Truths v) = refl
kind_arranged s t point n (Char v) = refl
kind_arranged s t point n (Int8 v) = refl
kind_arranged s t point n (Int16 v) = refl
kind_arranged s t point n (Int32 v) = refl
kind_arranged s t point n (Int64 v) = refl
kind_arranged s t point n (UInt8 v) = refl
kind_arranged s t point n (UInt16 v) = refl
kind_arranged s t point n (UInt32 v) = refl
kind_arranged s t point n (UInt64 v) = refl

pub zero_in : (t : DType) → InRange t (pos 0)
zero_in kinds.Bool = (omega (arith, ints), omega (arith, ints))
zero_in kinds.Char = (omega (arith, ints), omega (arith, ints))
zero_in kinds.Int8 = (omega (arith, ints), omega (arith, ints))
zero_in kinds.Int16 = (omega (arith, ints), omega (arith, ints))
zero_in kinds.Int32 = (omega (arith, ints), omega (arith, ints))
zero_in kinds.Int64 = (omega (arith, ints), omega (arith, ints))
zero_in kinds.UInt8 = (omega (arith, ints), omega (arith, ints))
zero_in kinds.UInt16 = (omega (arith, ints), omega (arith, ints))
zero_in kinds.UInt32 = (omega (arith, ints), omega (arith, ints))
zero_in kinds.UInt64 = (omega (arith, ints), omega (arith, ints))

filling_in : (t : DType) (fill : Option ℤ) → IsCell t fill → InRange t (filling fill)
filling_in t None h = zero_in t
filling_in t (Some n) h = h

-- ---- truth values stay 0 and 1

truth_shown : (s v : List ℕ) (hole : ℕ) (o : Option (List ℕ)) → hole < 2 → All (λ x. x < 2) v → IfSome o (IsPoint s) → length v ≡ size s → shown s v hole o < 2
truth_shown s v hole None small all inside long = small
truth_shown s v hole (Some q) small all inside long = all (place s q) hole (let below = place_below s q inside in omega arith)

small_truth : (n : ℤ) → InRange kinds.Bool n → unsigned_abs (wrap_to kinds.Char n) < 2
small_truth n h = let e : pos (unsigned_abs (wrap_to kinds.Char n)) ≡ n = natural_in kinds.Char n (truth_is_char n h) h.0 in omega (arith, ints, e, h)

in_kind : (s t : List ℕ) (point : List ℕ → Option (List ℕ)) (n : ℤ) (x : Cells) → LieInside s t point → length (wide x) ≡ size s → InRange (kind_of x) n → InKind x → InKind (arranged_cells s t point n x)
in_kind s t point n (Truths v) inside long fits good =
    All-tab (λ x. x < 2) t (λ p. shown s v (unsigned_abs (wrap_to kinds.Char n)) (point p)) (λ p here. truth_shown s v (unsigned_abs (wrap_to kinds.Char n)) (point p) (small_truth n fits) good (inside p here) (sym (length-map v pos) ∙ long))
in_kind s t point n (Char v) inside long fits good = tt
in_kind s t point n (Int8 v) inside long fits good = tt
in_kind s t point n (Int16 v) inside long fits good = tt
in_kind s t point n (Int32 v) inside long fits good = tt
in_kind s t point n (Int64 v) inside long fits good = tt
in_kind s t point n (UInt8 v) inside long fits good = tt
in_kind s t point n (UInt16 v) inside long fits good = tt
in_kind s t point n (UInt32 v) inside long fits good = tt
in_kind s t point n (UInt64 v) inside long fits good = tt

-- ---- at one point

-- the cell of a list in row order, or the fill
abbrev look : List ℕ → List (Option ℤ) → Option ℤ → Option (List ℕ) → Option ℤ
look s cells fill None = fill
look s cells fill (Some q) = get_or cells (place s q) None

pub masked_hole : (fill : Option ℤ) → cell (filling fill, gap fill) ≡ fill
masked_hole None = refl
masked_hole (Some n) = refl

masked_at : (s : List ℕ) (xs : List ℤ) (m : List ℕ) (fill : Option ℤ) (o : Option (List ℕ)) → IfSome o (IsPoint s) → length xs ≡ size s → length m ≡ size s
    → cell (shown s xs (filling fill) o, shown s m (gap fill) o) ≡ look s (hidden xs (Some m)) fill o
masked_at s xs m fill None inside lx lm = masked_hole fill
masked_at s xs m fill (Some q) inside lx lm =
    let below : place s q < size s = place_below s q inside in
    let k : place s q < length xs = omega arith in
    let j : place s q < length m = omega arith in
    let z : place s q < length (zip xs m) = rw (length-zip xs m) (omega arith) in
    sym (get_or-map cell (zip xs m) (place s q) (filling fill, gap fill) None z ∙ ap cell (get_or-zip xs m (place s q) (filling fill, gap fill) k j))

bare_at : (s : List ℕ) (xs : List ℤ) (fill : Option ℤ) (o : Option (List ℕ)) → IfSome o (IsPoint s) → length xs ≡ size s → is_some o ≡ true ⊎ is_some fill ≡ true → Some (shown s xs (filling fill) o) ≡ look s (hidden xs None) fill o
bare_at s xs fill (Some q) inside lx h = let below : place s q < size s = place_below s q inside in sym (get_or-map Some xs (place s q) (filling fill) None (omega arith))
bare_at s xs (Some n) None inside lx h = refl
bare_at s xs None None inside lx (inl e) = absurd cc
bare_at s xs None None inside lx (inr e) = absurd cc

-- ---- all cells

masked_cells : (s t : List ℕ) (point : List ℕ → Option (List ℕ)) (xs : List ℤ) (m : List ℕ) (fill : Option ℤ) → LieInside s t point → length xs ≡ size s → length m ≡ size s
    → hidden (arranged s t point (filling fill) xs) (Some (arranged s t point (gap fill) m)) ≡ tab t (λ p. look s (hidden xs (Some m)) fill (point p))
masked_cells s t point xs m fill inside lx lm =
    let f = λ (p : List ℕ). shown s xs (filling fill) (point p) in
    let g = λ (p : List ℕ). shown s m (gap fill) (point p) in
    ap (map cell) (tab-zip t f g) ∙ tab-map cell t (λ p. (f p, g p)) ∙ tab_same t (λ p. cell (f p, g p)) (λ p. look s (hidden xs (Some m)) fill (point p)) (λ p here. masked_at s xs m fill (point p) (inside p here) lx lm)

bare_cells : (s t : List ℕ) (point : List ℕ → Option (List ℕ)) (xs : List ℤ) (fill : Option ℤ) → LieInside s t point → length xs ≡ size s → ((p : List ℕ) → IsPoint t p → is_some (point p) ≡ true ⊎ is_some fill ≡ true)
    → hidden (arranged s t point (filling fill) xs) None ≡ tab t (λ p. look s (hidden xs None) fill (point p))
bare_cells s t point xs fill inside lx h =
    let f = λ (p : List ℕ). shown s xs (filling fill) (point p) in
    tab-map Some t f ∙ tab_same t (λ p. Some (f p)) (λ p. look s (hidden xs None) fill (point p)) (λ p here. bare_at s xs fill (point p) (inside p here) lx (h p here))

pub no_gaps : (xs : List ℤ) → map Some xs ≡ map cell (zip xs (replicate (length xs) 0))
no_gaps [] = refl
no_gaps (x ∷ xs) = ap (λ t. Some x ∷ t) (no_gaps xs)

abbrev Covers : List ℕ → Option (List ℕ) → Type 0
Covers s m = IfSome m (λ bytes. length bytes ≡ size s)

cells_are : (s t : List ℕ) (point : List ℕ → Option (List ℕ)) (holes : Bool) (fill : Option ℤ) (xs : List ℤ) (m : Option (List ℕ)) → LieInside s t point → (holes ≡ false → ShowsAll t point) → length xs ≡ size s → Covers s m
    → hidden (arranged s t point (filling fill) xs) (arranged_mask s t point m fill holes) ≡ tab t (λ p. look s (hidden xs m) fill (point p))
cells_are s t point holes fill xs (Some m) inside all lx lm = masked_cells s t point xs m fill inside lx lm
cells_are s t point true None xs None inside all lx lm =
    masked_cells s t point xs (replicate (size s) 0) None inside lx (length-replicate (size s) 0)
    ∙ ap (λ (cs : List (Option ℤ)). tab t (λ p. look s cs None (point p))) (ap (λ k. map cell (zip xs (replicate k 0))) (sym lx) ∙ sym (no_gaps xs))
cells_are s t point false None xs None inside all lx lm = bare_cells s t point xs None inside lx (λ p here. inl (all refl p here))
cells_are s t point holes (Some n) xs None inside all lx lm = bare_cells s t point xs (Some n) inside lx (λ p here. inr refl)

pub mask_covers : (s t : List ℕ) (point : List ℕ → Option (List ℕ)) (holes : Bool) (fill : Option ℤ) (m : Option (List ℕ)) → Covers t (arranged_mask s t point m fill holes)
mask_covers s t point holes fill (Some m) = tab-length t (λ p. shown s m (gap fill) (point p))
mask_covers s t point true None None = tab-length t (λ p. shown s (replicate (size s) 0) 1 (point p))
mask_covers s t point false None None = tt
mask_covers s t point holes (Some n) None = tt

-- ---- the array

-- what the code has at hand: the parts of an array, and how they are arranged
pub record AreParts (a : Array) (x : Cells) (m : Option (List ℕ)) : Type 0 where
  pub kind : a.kind ≡ kind_of x
  pub range : InKind x
  pub cells : a.cells ≡ hidden (wide x) m
  pub whole : length (wide x) ≡ size a.shape
  pub mask : Covers a.shape m

pub record IsMade (b : Array) (t : List ℕ) (z : Cells) (r : Option (List ℕ)) : Type 0 where
  pub whole : length (wide z) ≡ size t
  pub range : InKind z
  pub mask : Covers t r
  pub is : record { kind = kind_of z; shape = t; cells = hidden (wide z) r } ≡ b

pub rearranged_is : (a : Array) (x : Cells) (m : Option (List ℕ)) (t : List ℕ) (point : List ℕ → Option (List ℕ)) (holes : Bool) (fill : Option ℤ)
    → AreParts a x m → LieInside a.shape t point → (holes ≡ false → ShowsAll t point) → IsCell a.kind fill
    → IsMade (rearranged a t point fill) t (arranged_cells a.shape t point (filling fill) x) (arranged_mask a.shape t point m fill holes)
rearranged_is a x m t point holes fill parts inside all fits =
    let s : List ℕ = a.shape in
    let n : ℤ = filling fill in
    let z : Cells = arranged_cells s t point n x in
    let r : Option (List ℕ) = arranged_mask s t point m fill holes in
    let in_range : InRange (kind_of x) n = subst (λ k. InRange k n) parts.kind (filling_in a.kind fill fits) in
    let numbers : wide z ≡ arranged s t point n (wide x) = wide_arranged s t point n x inside parts.whole in_range in
    let cells : hidden (wide z) r ≡ tab t (λ p. look s (hidden (wide x) m) fill (point p)) = ap (λ xs. hidden xs r) numbers ∙ cells_are s t point holes fill (wide x) m inside all parts.whole parts.mask in
    let by_points : tab t (λ p. look s (hidden (wide x) m) fill (point p)) ≡ tab t (λ p. cell_from a fill (point p)) =
    ap (λ (cs : List (Option ℤ)). tab t (λ p. look s cs fill (point p))) (sym parts.cells) ∙ tab_same t (λ p. look s a.cells fill (point p)) (λ p. cell_from a fill (point p)) (λ p here. one a fill (point p)) in
    record {
      whole = ap length numbers ∙ tab-length t (λ p. shown s (wide x) n (point p));
      range = in_kind s t point n x inside parts.whole in_range parts.range;
      mask = mask_covers s t point holes fill m;
      is = ap (λ k. record { kind = k; shape = t; cells = hidden (wide z) r }) (kind_arranged s t point n x ∙ sym parts.kind) ∙ ap (λ (cs : List (Option ℤ)). record { kind = a.kind; shape = t; cells = cs }) (cells ∙ by_points);
    }
  where
    one : (a : Array) (fill : Option ℤ) (o : Option (List ℕ)) → look a.shape a.cells fill o ≡ cell_from a fill o
    one a fill None = refl
    one a fill (Some q) = refl

-- ---- from what the code has at hand

-- the parts of an array with typed cells, as those of the array that it is
pub parts_of : {B : Type 0} (now : B → List ℕ) (typed a : Array) (x : Cells) (o : Option B) → typed ≡ a → kind_of x ≡ typed.kind → InKind x → MatchOption o (typed.cells ≡ hidden (wide x) None) (λ m. typed.cells ≡ hidden (wide x) (Some (now m))) → length (wide x) ≡ size typed.shape
    → MatchOption o (length (wide x) ≡ size typed.shape) (λ m. length (now m) ≡ size typed.shape) → AreParts a x (option_map now o)
parts_of now typed a x None same kind range cells whole mask = subst (λ (b : Array). AreParts b x None) same (record { kind = sym kind; range = range; cells = cells; whole = whole; mask = tt })
parts_of now typed a x (Some m) same kind range cells whole mask = subst (λ (b : Array). AreParts b x (Some (now m))) same (record { kind = sym kind; range = range; cells = cells; whole = whole; mask = mask })

pub rearranged_here : (a : Array) (x z : Cells) (m r : Option (List ℕ)) (s t u : List ℕ) (point : List ℕ → Option (List ℕ)) (holes : Bool) (fill : Option ℤ) (n : ℤ)
    → s ≡ a.shape → AreParts a x m → LieInside s t point → (holes ≡ false → ShowsAll t point) → IsCell a.kind fill
    → n ≡ filling fill → z ≡ arranged_cells s t point n x → r ≡ arranged_mask s t point m fill holes → u ≡ t → IsMade (rearranged a t point fill) u z r
rearranged_here a x z m r s t u point holes fill n is_s parts inside all fits is_n is_z is_r is_u =
    let b : Array = rearranged a t point fill in
    let here : IsMade b t (arranged_cells a.shape t point (filling fill) x) (arranged_mask a.shape t point m fill holes) = rearranged_is a x m t point holes fill parts (subst (λ (q : List ℕ). LieInside q t point) is_s inside) all fits in
    let same_z : arranged_cells a.shape t point (filling fill) x ≡ z = sym (is_z ∙ ap (λ (q : List ℕ). arranged_cells q t point n x) is_s ∙ ap (λ k. arranged_cells a.shape t point k x) is_n) in
    let same_r : arranged_mask a.shape t point m fill holes ≡ r = sym (is_r ∙ ap (λ (q : List ℕ). arranged_mask q t point m fill holes) is_s) in
    subst (λ (v : List ℕ). IsMade b v z r) (sym is_u) (subst (λ (o : Option (List ℕ)). IsMade b t z o) same_r (subst (λ (c : Cells). IsMade b t c (arranged_mask a.shape t point m fill holes)) same_z here))

-- the mask of an array that is made, as its maker asks for it
pub mask_asked : (b : Array) (t : List ℕ) (z : Cells) (r : Option (List ℕ)) → IsMade b t z r → MatchOption r (length (wide z) ≡ size t) (λ m. length m ≡ size t)
mask_asked b t z None made = made.whole
mask_asked b t z (Some m) made = made.mask
