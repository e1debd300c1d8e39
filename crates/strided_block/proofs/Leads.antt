-- The points that begin with a lead, and the run of their cells.
use Rattle.std.proofs.Common.{◌≡◌, ◌<◌, ◌≤◌, ◌+◌, ◌%◌, ℕ, zero, suc, min, List, [], ◌∷◌, ◌++◌, length, map, take, drop, get_or, inl, inr, refl, sym, ap, subst, ◌∙◌, arith, length-take}
use Rattle.std.specs.Prelude.{Bool, true, leb, ◌||◌, bytes_eq, Option, Some, None}
use Rattle.std.proofs.Math.Nat.{mod-eq_of_lt}
use Rattle.std.proofs.lemmas.Nat.{mod_below}
use Rattle.std.proofs.lemmas.Bool.{cases_lt}
use Rattle.std.proofs.lemmas.Slice.Eq.{bytes_eq-Decides}
use Rattle.xr_types.specs.Points.{size, place, IsPoint}
use Rattle.strided_block.specs.Boxes.{zeros}
use Rattle.strided_block.specs.Steps.{dot, spot, row_steps}
use Rattle.strided_block.specs.Parts.{IsRun}
use Rattle.strided_block.specs.Views.{Seen, shown, together, stepped_sight, IsClear, IsThere}
use Rattle.strided_block.specs.Zips.{point_at}
use Rattle.strided_block.proofs.Boxes.{point_long, place_below}
use Rattle.strided_block.proofs.Holdings.{there_below, every_run, seen_cell}
use Rattle.strided_block.proofs.Splits.{point_there}
use Rattle.strided_block.proofs.Steps.{round_first, row_place, row_drop, dot_append}

pub lead_short : (ss ps : List ℕ) → IsPoint (take (length ps) ss) ps → length ps ≤ length ss
lead_short ss ps i = let l = point_long (take (length ps) ss) ps i in omega (arith, length-take (length ps) ss)

drop_past : (xs : List ℕ) (k : ℕ) → length xs ≤ k → drop k xs ≡ []
drop_past [] zero le = refl
drop_past [] (suc k) le = refl
drop_past (x ∷ xs) zero le = absurd (omega arith)
drop_past (x ∷ xs) (suc k) le = drop_past xs k (omega arith)

is_later : (n k : ℕ) (b : Bool) → k < n → leb n k || b ≡ true → b ≡ true
is_later n k b lt e = grind arith

equal_lists : (xs ys : List ℕ) → bytes_eq xs ys ≡ true → xs ≡ ys
equal_lists xs ys e = search (arith, bytes_eq-Decides xs ys)

pub zeros_place : (ns : List ℕ) → place ns (zeros ns) ≡ 0
zeros_place [] = refl
zeros_place (n ∷ ns) = let r = zeros_place ns in omega arith

-- cells that lie side by side have the steps of row order
pub same_from : (steps shape : List ℕ) (k : ℕ) → length steps ≡ length shape → leb (length shape) k || bytes_eq (drop k steps) (drop k (row_steps shape)) ≡ true → drop k steps ≡ row_steps (drop k shape)
same_from steps shape k long e = elim (cases_lt k (length shape)) [
  | inl lt ↦ equal_lists (drop k steps) (drop k (row_steps shape)) (is_later (length shape) k (bytes_eq (drop k steps) (drop k (row_steps shape))) lt e) ∙ row_drop shape k
  | inr le ↦ drop_past steps k (omega arith) ∙ sym (ap row_steps (drop_past shape k le))
]

-- a lead and a point behind it
pub join_point : (ns ps q : List ℕ) → IsPoint (take (length ps) ns) ps → IsPoint (drop (length ps) ns) q → IsPoint ns (ps ++ q)
join_point ns [] q i j = j
join_point [] (p ∷ ps) q i j = absurd i
join_point (n ∷ ns) (p ∷ ps) q i j = (i.0, join_point ns ps q i.1 j)

one_more : (a k : ℕ) → a + suc k ≡ suc (a + k)
one_more a k = omega arith

no_points : (ss q : List ℕ) → IsPoint ss q → size ss ≡ 0 → ⊥
no_points ss q i e = let b = place_below ss q i in omega arith

module _ {X : Type 0} (cells : List (Option X)) (start : ℕ) (steps shape : List ℕ) (w : Seen X) (e : stepped_sight cells start steps shape ≡ w) (clear : IsClear cells start steps shape)
    (ps : List ℕ) (i : IsPoint (take (length ps) w.shape) ps) (side : together w (length ps) ≡ true) where
  shapes : shape ≡ w.shape
  shapes = ap (λ u. u.shape) e

  now_lead : IsPoint (take (length ps) shape) ps
  now_lead = subst (λ s. IsPoint (take (length ps) s) ps) (sym shapes) i

  abbrev rest : List ℕ
  rest = drop (length ps) shape

  now_steps : drop (length ps) steps ≡ row_steps rest
  now_steps = same_from steps shape (length ps) clear.ranks (subst (λ u. together u (length ps) ≡ true) (sym e) side)

  pub lead_within : length ps ≤ length shape
  lead_within = lead_short shape ps now_lead

  pub lead_steps : length ps ≤ length steps
  lead_steps = let l = lead_within in let r = clear.ranks in omega arith

  -- where the cell of a point that begins with the lead lies
  lead_spot : (q : List ℕ) → spot start steps (ps ++ q) ≡ (spot start steps ps + place rest q) % 18446744073709551616
  lead_spot q =
      let m : ℕ = 18446744073709551616 in let a : ℕ = start + dot ps steps in
      let apart : start + (dot ps steps + dot q (drop (length ps) steps)) ≡ a + dot q (drop (length ps) steps) = omega arith in
      ap (λ d. (start + d) % m) (dot_append ps q steps) ∙ ap (λ x. x % m) apart ∙ ap (λ t. (a + dot q t) % m) now_steps ∙ row_place rest q a ∙ sym (round_first a (place rest q) m)

  reached_there : (k : ℕ) → k < size rest → IsThere cells ((spot start steps ps + k) % 18446744073709551616)
  reached_there k lt =
      let p = point_there rest k lt in let q = point_at rest k in
      subst (IsThere cells) (lead_spot q ∙ ap (λ x. (spot start steps ps + x) % 18446744073709551616) p.1) (clear.inside (ps ++ q) (join_point shape ps q now_lead p.0))

  -- the cells of the run lie side by side
  reached : (k : ℕ) → k < size rest → (spot start steps ps + k) % 18446744073709551616 < length cells
  reached k lt = there_below cells ((spot start steps ps + k) % 18446744073709551616) (reached_there k lt)

  pub walked : (k : ℕ) → k < size rest → spot start steps ps + k < length cells
  walked zero lt =
      let at : ℕ = spot start steps ps in let below : at < 18446744073709551616 = mod_below (start + dot ps steps) 18446744073709551616 (omega arith) in let r = reached 0 lt in
      let same : at + 0 ≡ at = omega arith in let whole : (at + 0) % 18446744073709551616 ≡ at + 0 = mod-eq_of_lt {n = at + 0} {m = 18446744073709551616} (omega arith) in omega (arith, r, whole, same)
  walked (suc k) lt =
      let at : ℕ = spot start steps ps in let before = walked k (omega arith) in let r = reached (suc k) lt in let s = clear.small in
      let more = one_more at k in let whole : (at + suc k) % 18446744073709551616 ≡ at + suc k = mod-eq_of_lt {n = at + suc k} {m = 18446744073709551616} (omega arith) in omega (arith, r, whole)

  all_walked : (n : ℕ) → n ≡ size rest → (0 < n) → spot start steps ps + n ≤ length cells
  all_walked zero is some = absurd (omega arith)
  all_walked (suc k) is some = let w = walked k (omega arith) in omega arith

  pub run_within : (n at : ℕ) → n ≡ size rest → 0 < n → at ≡ spot start steps ps → at + n ≤ length cells
  run_within n at is some where_at = let a = all_walked n is some in omega arith

  pub run_size : (n : ℕ) → n ≡ min (size rest) 18446744073709551615 → n ≡ size rest
  run_size n is = elim (cases_lt 0 (size rest)) [
    | inl some ↦ let a = all_walked (size rest) refl some in let s = clear.small in omega arith
    | inr none ↦ omega arith
  ]

  pub run_none : {P : Type 0} (n : ℕ) → n ≡ size rest → n ≡ 0 → (q : List ℕ) → IsPoint (drop (length ps) w.shape) q → P
  run_none n is none q j = absurd (no_points rest q (subst (λ s. IsPoint (drop (length ps) s) q) (sym shapes) j) (sym is ∙ none))

  pub all_run : (n at : ℕ) → n ≡ size rest → 0 < n → at ≡ spot start steps ps → IsRun cells at n
  all_run n at is some where_at = every_run cells at n (run_within n at is some where_at) (λ j lt.
      let in_rest : j < size rest = omega arith in let w = walked j in_rest in let s = clear.small in
      let whole : (spot start steps ps + j) % 18446744073709551616 ≡ at + j = mod-eq_of_lt {n = spot start steps ps + j} {m = 18446744073709551616} (omega arith) ∙ ap (λ a. a + j) (sym where_at) in
      subst (IsThere cells) whole (reached_there j in_rest))

  -- where the cell of a point lies in the run
  pub run_spot : (at : ℕ) → 0 < size rest → at ≡ spot start steps ps → (q : List ℕ) → IsPoint rest q → spot start steps (ps ++ q) ≡ at + place rest q
  run_spot at some where_at q k =
      let b = place_below rest q k in let step = walked (place rest q) b in let s = clear.small in
      lead_spot q ∙ ap (λ a. (a + place rest q) % 18446744073709551616) (sym where_at) ∙ mod-eq_of_lt {n = at + place rest q} {m = 18446744073709551616} (omega arith)

  pub run_cell : (n at : ℕ) → n ≡ size rest → 0 < n → at ≡ spot start steps ps → (xs : List X) → take n (drop at cells) ≡ map Some xs → (q : List ℕ) (x : X) → IsPoint (drop (length ps) w.shape) q
      → shown w (ps ++ q) ≡ Some (get_or xs (place (drop (length ps) w.shape) q) x)
  run_cell n at is some where_at xs seen q x j =
      let k : IsPoint rest q = subst (λ s. IsPoint (drop (length ps) s) q) (sym shapes) j in
      let b = place_below rest q k in
      ap (λ u. shown u (ps ++ q)) (sym e) ∙ ap (λ a. get_or cells a None) (run_spot at (omega arith) where_at q k) ∙ seen_cell cells at n xs (run_within n at is some where_at) seen (place rest q) x (omega arith)
      ∙ ap (λ s. Some (get_or xs (place (drop (length ps) s) q) x)) shapes
