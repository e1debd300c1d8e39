-- Each variable with its place.
use Rattle.std.proofs.Common.{◌≡◌, ℕ, ◌+◌, ◌<◌, ◌≤◌, ◌^◌, Bool, true, false, not, cond, eqb, leb, ◌&&◌, List, [], ◌∷◌, ◌++◌, length, drop, get_or, map, sum, refl, sym, ap, ◌∙◌, append_assoc, arith}
use Rattle.std.proofs.lemmas.Bool.{and_parts, leb-true}
use Rattle.std.proofs.lemmas.List.{at_drop_more, get_or-map}
use Rattle.std.proofs.lemmas.List.Sums.{sum_by-cons}
use Rattle.std.specs.List.{AllByRecursion, filter}
use Rattle.xr_files.specs.declared.file.CdfVar.{CdfVar}
use Rattle.xr_files.specs.declared.file.CdfFile.{CdfFile}
use Rattle.cdf_writer.proofs.Each.{map_count}
use Rattle.xr_files.specs.Files.{most_bytes, padded}
use Rattle.xr_files.specs.Canonical.{canonical_size, fixed_size, header_size, is_record, is_small, placed, placed_from, record_vars, recsize, room, slab}

abbrev pub places : CdfFile → List CdfVar → ℕ → ℕ → List ℕ
places f vs a b = map (λ x. x.1) (placed_from f vs a b)

next : CdfFile → Bool → CdfVar → List CdfVar → ℕ → ℕ → List (CdfVar × ℕ)
next f r v vs a b = cond r ((v, b) ∷ placed_from f vs a (b + room f v)) ((v, a) ∷ placed_from f vs (a + room f v) b)

placed_more : (f : CdfFile) (vs : List CdfVar) (i a b : ℕ) (v : CdfVar) → i < length vs → v ≡ get_or vs i v → placed_from f (drop i vs) a b ≡ next f (is_record f v) v (drop (i + 1) vs) a b
unfolding next
placed_more f vs i a b v lt is = at_drop_more (λ l. placed_from f l a b) vs i v lt ∙ ap (λ w. next f (is_record f w) w (drop (i + 1) vs) a b) (sym is)

pub record_place : (f : CdfFile) (vs : List CdfVar) (i a b : ℕ) (v : CdfVar) (front total : List ℕ) → i < length vs → v ≡ get_or vs i v → is_record f v ≡ true
    → front ++ places f (drop i vs) a b ≡ total → (front ++ b ∷ []) ++ places f (drop (i + 1) vs) a (b + room f v) ≡ total
unfolding next
record_place f vs i a b v front total lt is e so_far =
    append_assoc front (b ∷ []) (places f (drop (i + 1) vs) a (b + room f v))
    ∙ ap (λ r. front ++ map (λ x. x.1) (next f r v (drop (i + 1) vs) a b)) (sym e)
    ∙ ap (λ l. front ++ map (λ x. x.1) l) (sym (placed_more f vs i a b v lt is)) ∙ so_far

pub fixed_place : (f : CdfFile) (vs : List CdfVar) (i a b : ℕ) (v : CdfVar) (front total : List ℕ) → i < length vs → v ≡ get_or vs i v → is_record f v ≡ false
    → front ++ places f (drop i vs) a b ≡ total → (front ++ a ∷ []) ++ places f (drop (i + 1) vs) (a + room f v) b ≡ total
unfolding next
fixed_place f vs i a b v front total lt is e so_far =
    append_assoc front (a ∷ []) (places f (drop (i + 1) vs) (a + room f v) b)
    ∙ ap (λ r. front ++ map (λ x. x.1) (next f r v (drop (i + 1) vs) a b)) (sym e)
    ∙ ap (λ l. front ++ map (λ x. x.1) l) (sym (placed_more f vs i a b v lt is)) ∙ so_far

-- ---- the list of them

next_vars : (f : CdfFile) (r : Bool) (v : CdfVar) (vs : List CdfVar) (a b : ℕ) → ((a b : ℕ) → map (λ x. x.0) (placed_from f vs a b) ≡ vs) → map (λ x. x.0) (next f r v vs a b) ≡ v ∷ vs
unfolding next
next_vars f true v vs a b rest = ap (λ l. v ∷ l) (rest a (b + room f v))
next_vars f false v vs a b rest = ap (λ l. v ∷ l) (rest (a + room f v) b)

pub placed_vars : (f : CdfFile) (vs : List CdfVar) (a b : ℕ) → map (λ x. x.0) (placed_from f vs a b) ≡ vs
unfolding next
placed_vars f [] a b = refl
placed_vars f (v ∷ vs) a b = next_vars f (is_record f v) v vs a b (λ a b. placed_vars f vs a b)

pub placed_count : (f : CdfFile) (vs : List CdfVar) (a b : ℕ) → length (placed_from f vs a b) ≡ length vs
placed_count f vs a b = sym (map_count (λ x. x.0) (placed_from f vs a b)) ∙ ap length (placed_vars f vs a b)

pub places_count : (f : CdfFile) (vs : List CdfVar) (a b : ℕ) → length (places f vs a b) ≡ length vs
places_count f vs a b = map_count (λ x. x.1) (placed_from f vs a b) ∙ placed_count f vs a b

-- the variable and the place at an index
pub placed_at : (f : CdfFile) (begins : List ℕ) (i : ℕ) (v : CdfVar) → begins ≡ places f f.vars (header_size f) (header_size f + fixed_size f) → i < length f.vars → v ≡ get_or f.vars i v
    → get_or (placed f) i (v, 0) ≡ (v, get_or begins i 0)
placed_at f begins i v are lt is =
    let n = placed_count f f.vars (header_size f) (header_size f + fixed_size f) in
    let d : CdfVar × ℕ = (v, 0) in
    let var = sym (get_or-map (λ (x : CdfVar × ℕ). x.0) (placed f) i d v (omega arith)) ∙ ap (λ l. get_or l i v) (placed_vars f f.vars (header_size f) (header_size f + fixed_size f)) ∙ sym is in
    let begin = sym (get_or-map (λ (x : CdfVar × ℕ). x.1) (placed f) i d 0 (omega arith)) ∙ ap (λ l. get_or l i 0) (sym are) in
    ap (λ w. (w, (get_or (placed f) i d).1)) var ∙ ap (λ b. (v, b)) begin

-- ---- they fit

-- four bytes hold a variable's place and its padded size
pub record Small (f : CdfFile) (x : CdfVar × ℕ) : Type 0 where
  pub begin : x.1 < 2 ^ 32
  pub size : padded (slab f.dims x.0) < 2 ^ 32

padded_near : (f : CdfFile) (v : CdfVar) → padded (slab f.dims v) ≤ room f v + 3
padded_near f v = elim (is_record f v && eqb (length (record_vars f)) 1) as (λ b. padded (slab f.dims v) ≤ cond b (slab f.dims v) (padded (slab f.dims v)) + 3) [ true ↦ omega arith | false ↦ omega arith ]

pub placed_fit : (f : CdfFile) (m : ℕ) (vs : List CdfVar) (a b : ℕ) → m + 3 < 2 ^ 32 → a + sum (map (room f) (filter (λ v. not (is_record f v)) vs)) ≤ m → b + sum (map (room f) (filter (is_record f) vs)) ≤ m
    → AllByRecursion (Small f) (placed_from f vs a b)
unfolding next
placed_fit f m [] a b lim fixed records = tt
placed_fit f m (v ∷ vs) a b lim fixed records =
    let others = filter (λ w. not (is_record f w)) vs in
    let same = filter (is_record f) vs in
    let near = padded_near f v in
    elim (is_record f v) as (λ r. a + sum (map (room f) (cond (not r) (v ∷ others) others)) ≤ m → b + sum (map (room f) (cond r (v ∷ same) same)) ≤ m → AllByRecursion (Small f) (next f r v vs a b)) [
      | true ↦ λ h k.
          let more = sum_by-cons (λ n. n) (room f v) (map (room f) same) in
          (record { begin = omega (arith, k); size = omega (arith, k, more, near) }, placed_fit f m vs a (b + room f v) lim h (omega (arith, k, more)))
      | false ↦ λ h k.
          let more = sum_by-cons (λ n. n) (room f v) (map (room f) others) in
          (record { begin = omega (arith, h); size = omega (arith, h, more, near) }, placed_fit f m vs (a + room f v) b lim (omega (arith, h, more)) k)
    ] fixed records

pub all_fit : (f : CdfFile) → is_small f ≡ true → AllByRecursion (Small f) (placed f)
all_fit f small =
    let both = and_parts (leb (canonical_size f) most_bytes) (leb (recsize f) most_bytes) small in
    let size = leb-true (canonical_size f) most_bytes both.0 in
    let each = leb-true (recsize f) most_bytes both.1 in
    placed_fit f (2 ^ 29) f.vars (header_size f) (header_size f + fixed_size f) (omega arith) (omega (arith, size)) (omega (arith, size, each))
