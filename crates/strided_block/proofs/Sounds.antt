-- Windows: where the cells of a box lie, and what stays of a window whose cells change.
use Rattle.std.proofs.Common.{◌≡◌, ◌<◌, ◌≤◌, ◌+◌, ◌-◌, ◌*◌, ◌%◌, ℕ, zero, suc, List, [], ◌∷◌, length, map, drop, get_or, refl, sym, ap, subst, ◌∙◌, arith}
use Rattle.std.specs.Prelude.{true, ◌&&◌, ◌||◌, ltb, leb, bytes_eq, Option, Some, None, is_some, slice_set}
use Rattle.std.proofs.lemmas.List.{length-map}
use Rattle.std.proofs.Math.Nat.{mod-eq_of_lt}
use denote.RawPtr.{Ptr}
use Rattle.xr_types.specs.Points.{size, place, IsPoint}
use Rattle.strided_block.specs.Boxes.{Fits, plus, zeros, along, in_box, IsRow}
use Rattle.strided_block.specs.Deeds.{IsOwner, IsBlock}
use Rattle.strided_block.specs.Parts.{somes, IsRun, Changes, InRun, OnLine, AtPoint}
use Rattle.strided_block.specs.Steps.{dot, spot, row_steps}
use Rattle.strided_block.specs.Views.{Window, Cut, held, cell_at, shown, KeptOutside, IsWhole, IsSound, IsThere, IsClear, IsLaid, window_sight, stepped_sight, together}
use Rattle.strided_block.specs.declared.memory.Deed.{Deed}
use Rattle.strided_block.proofs.Boxes.{point_long, fits_long, plus_inside, zeros_fit, plus-zeros, place_below, one_point, along_place}
use Rattle.strided_block.proofs.Holdings.{every_run, there_below, all_there, all_some}
use Rattle.strided_block.proofs.Owned.{row_cells}
use Rattle.strided_block.proofs.Splits.{point_there}
use Rattle.strided_block.proofs.Steps.{round_first, row_place, row_long}
use Rattle.strided_block.specs.Zips.{point_at}

near : (l s p : ℕ) → p < s → leb l (l + p) && ltb (l + p) (l + s) ≡ true
near l s p lt = grind arith

pub plus_in_box : (ls ss ps : List ℕ) → length ls ≡ length ss → IsPoint ss ps → in_box ls ss (plus ls ps) ≡ true
plus_in_box [] [] ps e i = refl
plus_in_box [] (s ∷ ss) ps e i = absurd (omega arith)
plus_in_box (l ∷ ls) [] ps e i = absurd (omega arith)
plus_in_box (l ∷ ls) (s ∷ ss) [] e i = absurd i
plus_in_box (l ∷ ls) (s ∷ ss) (p ∷ ps) e i = (λ k. near l s p i.0 k && plus_in_box ls ss ps (omega arith) i.1 k)

pub plus_along : (ss ls ps : List ℕ) (j : ℕ) → length ls ≡ length ss → length ps ≡ length ss → IsPoint ss (along ps j) → plus ls (along ps j) ≡ along (plus ls ps) j
plus_along [] [] [] zero a b i = refl
plus_along [] [] [] (suc j) a b i = absurd i
plus_along [] [] (p ∷ ps) j a b i = absurd (omega arith)
plus_along [] (l ∷ ls) ps j a b i = absurd (omega arith)
plus_along (s ∷ ss) [] ps j a b i = absurd (omega arith)
plus_along (s ∷ ss) (l ∷ ls) [] j a b i = absurd (omega arith)
plus_along (s ∷ []) (l ∷ []) (p ∷ []) j a b i = ap (λ x. x ∷ []) (omega arith)
plus_along (s ∷ []) (l ∷ []) (p ∷ q ∷ ps) j a b i = absurd (omega arith)
plus_along (s ∷ []) (l ∷ m ∷ ls) ps j a b i = absurd (omega arith)
plus_along (s ∷ t ∷ ss) (l ∷ []) ps j a b i = absurd (omega arith)
plus_along (s ∷ t ∷ ss) (l ∷ m ∷ ls) (p ∷ []) j a b i = absurd (omega arith)
plus_along (s ∷ t ∷ ss) (l ∷ m ∷ ls) (p ∷ q ∷ ps) j a b i = ap (λ x. (l + p) ∷ x) (plus_along (t ∷ ss) (m ∷ ls) (q ∷ ps) j (omega arith) (omega arith) i.1)

plus_same : (ss ls ps qs : List ℕ) → length ls ≡ length ss → IsPoint ss ps → IsPoint ss qs → plus ls ps ≡ plus ls qs → ps ≡ qs
plus_same [] ls [] [] a i j e = refl
plus_same [] ls (p ∷ ps) qs a i j e = absurd i
plus_same [] ls [] (q ∷ qs) a i j e = absurd j
plus_same (s ∷ ss) [] ps qs a i j e = absurd (omega arith)
plus_same (s ∷ ss) (l ∷ ls) [] qs a i j e = absurd i
plus_same (s ∷ ss) (l ∷ ls) (p ∷ ps) [] a i j e = absurd j
plus_same (s ∷ ss) (l ∷ ls) (p ∷ ps) (q ∷ qs) a i j e =
    let head : l + p ≡ l + q = ap (λ xs. get_or xs 0 0) e in let same : p ≡ q = omega arith in
    (λ k. same k ∷ plus_same ss ls ps qs (omega arith) i.1 j.1 (ap (drop 1) e) k)

spread : (l p s a b : ℕ) → l * s + a + (p * s + b) ≡ (l + p) * s + (a + b)
spread l p s a b = grind arith

place_plus : (ns ls ps : List ℕ) → length ls ≡ length ns → length ps ≡ length ns → place ns ls + place ns ps ≡ place ns (plus ls ps)
place_plus [] [] [] a b = refl
place_plus [] [] (p ∷ ps) a b = absurd (omega arith)
place_plus [] (l ∷ ls) ps a b = absurd (omega arith)
place_plus (n ∷ ns) [] ps a b = absurd (omega arith)
place_plus (n ∷ ns) (l ∷ ls) [] a b = absurd (omega arith)
place_plus (n ∷ ns) (l ∷ ls) (p ∷ ps) a b = spread l p (size ns) (place ns ls) (place ns ps) ∙ ap (λ r. (l + p) * size ns + r) (place_plus ns ls ps (omega arith) (omega arith))

times_most : (s n a b : ℕ) → s ≤ n → a ≤ b → s * a ≤ n * b
times_most s n a b h k = grind arith

pub fits_size : (ns ls ss : List ℕ) → Fits ns ls ss → size ss ≤ size ns
fits_size [] [] [] f = omega arith
fits_size [] [] (s ∷ ss) f = absurd f
fits_size [] (l ∷ ls) ss f = absurd f
fits_size (n ∷ ns) [] ss f = absurd f
fits_size (n ∷ ns) (l ∷ ls) [] f = absurd f
fits_size (n ∷ ns) (l ∷ ls) (s ∷ ss) f = let h = f.0 in times_most s n (size ss) (size ns) (omega arith) (fits_size ns ls ss f.1)

module _ {X : Type 0} (w : Window X) (so : IsSound w) where
  pub lows : (length w.low ≡ length w.whole) × (length w.shape ≡ length w.whole)
  lows = fits_long w.whole w.low w.shape so.fits

  pub low_shape : length w.low ≡ length w.shape
  low_shape = let l = lows in omega arith

  pub point_in : (ps : List ℕ) → IsPoint w.shape ps → IsPoint w.whole (plus w.low ps)
  point_in ps i = plus_inside w.whole w.low w.shape ps so.fits i

  pub point_there_now : (ps : List ℕ) → IsPoint w.shape ps → IsThere w.slots (place w.whole (plus w.low ps))
  point_there_now ps i = so.has (plus w.low ps) (point_in ps i) ∙ plus_in_box w.low w.shape ps low_shape i

  pub whole_small : size w.whole < 9223372036854775808
  whole_small = let c = so.count in let s = so.small in omega arith

  pub win_spot : (ps : List ℕ) → IsPoint w.shape ps → spot (spot 0 (row_steps w.whole) w.low) (row_steps w.whole) ps ≡ place w.whole (plus w.low ps)
  win_spot ps i =
      let m : ℕ = 18446744073709551616 in let rs = row_steps w.whole in let l = lows in let q = point_long w.shape ps i in
      let b = place_below w.whole (plus w.low ps) (point_in ps i) in let t = whole_small in let p = place_plus w.whole w.low ps l.0 (omega arith) in
      let z : 0 + place w.whole w.low ≡ place w.whole w.low = omega arith in
      round_first (0 + dot w.low rs) (dot ps rs) m ∙ row_place w.whole ps (0 + dot w.low rs) ∙ sym (round_first (0 + dot w.low rs) (place w.whole ps) m)
      ∙ ap (λ x. (x + place w.whole ps) % m) (row_place w.whole w.low 0) ∙ round_first (0 + place w.whole w.low) (place w.whole ps) m
      ∙ ap (λ x. (x + place w.whole ps) % m) z ∙ ap (λ x. x % m) p ∙ mod-eq_of_lt {n = place w.whole (plus w.low ps)} {m = m} (omega arith)

  pub window_clear : IsClear w.slots (spot 0 (row_steps w.whole) w.low) (row_steps w.whole) w.shape
  window_clear = record {
    small = so.small;
    ranks = let l = lows in let r = row_long w.whole in omega arith;
    inside = λ ps i. subst (IsThere w.slots) (sym (win_spot ps i)) (point_there_now ps i);
  }

  pub window_laid : IsLaid w.slots (spot 0 (row_steps w.whole) w.low) (row_steps w.whole) w.shape
  window_laid = record {
    clear = window_clear;
    apart = λ p q i j e. plus_same w.shape w.low p q low_shape i j (one_point w.whole (plus w.low p) (plus w.low q) (point_in p i) (point_in q j) (sym (win_spot p i) ∙ e ∙ win_spot q j));
  }

  pub window_shown : (ps : List ℕ) → IsPoint w.shape ps → shown (window_sight w) ps ≡ cell_at w ps
  window_shown ps i = ap (λ k. get_or w.slots k None) (win_spot ps i)

  -- ---- a row

  module _ (ps : List ℕ) (n : ℕ) (row : IsRow w.shape ps n) where
    abbrev pub first : ℕ
    first = place w.whole (plus w.low ps)

    pub on_row : (j : ℕ) → j < n → place w.whole (plus w.low (along ps j)) ≡ first + j
    on_row j lt =
        let a = plus_along w.shape w.low ps j low_shape (sym (point_long w.shape ps row.starts)) (row.ends j lt) in
        ap (place w.whole) a ∙ along_place w.whole (plus w.low ps) j (point_in ps row.starts) (subst (IsPoint w.whole) a (point_in (along ps j) (row.ends j lt)))

    there_on_row : (j : ℕ) → j < n → IsThere w.slots (first + j)
    there_on_row j lt = subst (IsThere w.slots) (on_row j lt) (point_there_now (along ps j) (row.ends j lt))

    row_fits : (m : ℕ) → m ≡ n → first + m ≤ length w.slots
    row_fits zero e = let t = there_below w.slots first (point_there_now ps row.starts) in omega arith
    row_fits (suc m) e = let t = there_below w.slots (first + m) (there_on_row m (omega arith)) in omega arith

    pub row_run : IsRun w.slots first n
    row_run = every_run w.slots first n (row_fits n refl) there_on_row

    pub off_row : (cs : List ℕ) → IsPoint w.whole cs → ((j : ℕ) → j < n → ¬ (cs ≡ plus w.low (along ps j))) → ¬ (InRun first n (place w.whole cs))
    off_row cs i none within =
        let j = place w.whole cs - first in let lt : j < n = omega (arith, within.0, within.1) in let at = on_row j lt in
        none j lt (one_point w.whole cs (plus w.low (along ps j)) i (point_in (along ps j) (row.ends j lt)) (omega (arith, within.0)))

  -- ---- cells that change

  module _ (block : Ptr) (ds : List (Option X)) (P : ℕ → Type 0) (changes : Changes w.slots ds P) where
    abbrev pub changed : Window X
    changed = record { block = block; whole = w.whole; low = w.low; shape = w.shape; slots = ds }

    pub changed_sound : IsSound changed
    changed_sound = record {
      count = changes.long ∙ so.count;
      small = let s = so.small in let l = changes.long in omega arith;
      fits = so.fits;
      has = λ cs i. changes.had (place w.whole cs) ∙ so.has cs i;
    }

    pub changed_others : (cs : List ℕ) → ¬ (P (place w.whole cs)) → held changed cs ≡ held w cs
    changed_others cs none = changes.others (place w.whole cs) none

-- ---- one cell, as a row

pub along_none : (ps : List ℕ) → along ps 0 ≡ ps
along_none [] = refl
along_none (c ∷ []) = let z : c + 0 ≡ c = omega arith in ap (λ x. x ∷ []) z
along_none (c ∷ d ∷ cs) = ap (λ t. c ∷ t) (along_none (d ∷ cs))

pub one_row : (shape ps : List ℕ) → IsPoint shape ps → IsRow shape ps 1
one_row shape ps i = record { starts = i; ends = λ j lt. let z : 0 ≡ j = omega arith in subst (λ k. IsPoint shape (along ps k)) z (subst (λ p. IsPoint shape p) (sym (along_none ps)) i) }

pub not_one : (ls ps cs : List ℕ) → ¬ (cs ≡ plus ls ps) → (j : ℕ) → j < 1 → ¬ (cs ≡ plus ls (along ps j))
not_one ls ps cs none j lt same = let z : j ≡ 0 = omega arith in none (same ∙ ap (plus ls) (ap (along ps) z ∙ along_none ps))

-- ---- windows of a whole block

pub plus_origin : (ns ps : List ℕ) → IsPoint ns ps → plus (zeros ns) ps ≡ ps
plus_origin ns ps i = plus-zeros ns ps (sym (point_long ns ps i))

pub zeros_map : (ns : List ℕ) → map (λ n. 0) ns ≡ zeros ns
zeros_map [] = refl
zeros_map (n ∷ ns) = ap (λ t. 0 ∷ t) (zeros_map ns)

below_all : (c n : ℕ) → c < n → leb 0 c && ltb c (0 + n) ≡ true
below_all c n lt = grind arith

zeros_in : (ns cs : List ℕ) → IsPoint ns cs → in_box (zeros ns) ns cs ≡ true
zeros_in [] cs i = refl
zeros_in (n ∷ ns) [] i = absurd i
zeros_in (n ∷ ns) (c ∷ cs) i = (λ k. below_all c n i.0 k && zeros_in ns cs i.1 k)

module _ {X : Type 0} where
  pub whole_sound : (from at : Ptr) (slots : List (Option X)) (r : Option (Deed X)) (shape whole low : List ℕ) → IsBlock shape from at slots r → whole ≡ shape → low ≡ zeros shape
      → IsSound record { block = at; whole = whole; low = low; shape = shape; slots = slots }
  whole_sound from at slots r shape whole low is w z =
      let long : length slots ≡ length (somes slots) = ap length is.whole ∙ length-map (somes slots) Some in
      let P : List ℕ × List ℕ → Type 0 = λ t. IsSound record { block = at; whole = t.0; low = t.1; shape = shape; slots = slots } in
      subst P (λ k. (sym w k, sym z k)) (record {
        count = long ∙ is.full.count;
        small = omega (arith, long, is.full.small);
        fits = zeros_fit shape;
        has = λ cs i.
            let b = place_below shape cs i in
            ap (λ l. is_some (get_or l (place shape cs) None)) is.whole ∙ all_there (somes slots) (place shape cs) (omega (arith, is.full.count)) ∙ sym (zeros_in shape cs i);
      })

  module _ (v w : Window X) (e : v ≡ w) (so : IsSound v) (is : IsWhole w) where
    whole_now : IsWhole v
    whole_now = subst (λ u. IsWhole u) (sym e) is

    all_cells : (xs : List X) × (v.slots ≡ map Some xs)
    all_cells = all_some v.slots (λ j lt.
        let p = point_there v.whole j (omega (arith, so.count)) in
        subst (IsThere v.slots) p.1 (so.has (point_at v.whole j) p.0 ∙ (λ k. in_box (whole_now.low k) (whole_now.shape k) (point_at v.whole j)) ∙ zeros_in v.whole (point_at v.whole j) p.0))

    pub back_cells : v.slots ≡ map Some (somes v.slots)
    back_cells = all_cells.1 ∙ sym (ap (map Some) (row_cells v.slots all_cells.0 all_cells.1))

    pub back_block : (from at : Ptr) (r : Option (Deed X)) → IsOwner from at v.slots r → IsBlock v.whole from at v.slots r
    back_block from at r o =
        let long : length v.slots ≡ length (somes v.slots) = ap length back_cells ∙ length-map (somes v.slots) Some in
        record { owner = o; whole = back_cells; full = record { count = sym long ∙ so.count; small = omega (arith, long, so.small) } }

-- ---- the same of a window that was opened

module _ {X : Type 0} (v w : Window X) (e : v ≡ w) (so : IsSound v) where
  pub now_point : (ps : List ℕ) → IsPoint w.shape ps → IsPoint v.shape ps
  now_point ps i = subst (λ u. IsPoint u.shape ps) (sym e) i

  pub now_row : (ps : List ℕ) (n : ℕ) → IsRow w.shape ps n → IsRow v.shape ps n
  now_row ps n row = subst (λ u. IsRow u.shape ps n) (sym e) row

  pub now_in : (ps : List ℕ) → IsPoint w.shape ps → IsPoint v.whole (plus v.low ps)
  now_in ps i = point_in v so ps (now_point ps i)

  pub now_place : (ps : List ℕ) (at : ℕ) → at ≡ place v.whole (plus v.low ps) → at ≡ place w.whole (plus w.low ps)
  now_place ps at is = is ∙ ap (λ u. place u.whole (plus u.low ps)) e

  -- a place in the window, by that of the window that was lent
  back_place : (ps : List ℕ) (at : ℕ) → at ≡ place w.whole (plus w.low ps) → place v.whole (plus v.low ps) ≡ at
  back_place ps at is = ap (λ u. place u.whole (plus u.low ps)) e ∙ sym is

  pub now_shown : (ps : List ℕ) → IsPoint w.shape ps → shown (window_sight v) ps ≡ cell_at w ps
  now_shown ps i = window_shown v so ps (now_point ps i) ∙ ap (λ u. cell_at u ps) e

  module _ (ps : List ℕ) (at : ℕ) (is : at ≡ place w.whole (plus w.low ps)) where
    pub now_there : IsPoint w.shape ps → IsThere v.slots at
    now_there i = subst (IsThere v.slots) (back_place ps at is) (point_there_now v so ps (now_point ps i))

    pub now_run : (n : ℕ) → IsRow w.shape ps n → IsRun v.slots at n
    now_run n row = subst (λ k. IsRun v.slots k n) (back_place ps at is) (row_run v so ps n (now_row ps n row))

  module _ (block : Ptr) (ds : List (Option X)) (P : ℕ → Type 0) (changes : Changes v.slots ds P) where
    abbrev pub after : Window X
    after = changed v so block ds P changes

    pub now_sound : IsSound after
    now_sound = changed_sound v so block ds P changes

    pub now_cut : block ≡ v.block → Cut w after w.low w.shape
    now_cut same = subst (λ u. Cut u after u.low u.shape) e (record { block = same; whole = refl; low = refl; shape = refl; fits = so.fits })

    now_kept : (cs : List ℕ) → ¬ (P (place w.whole cs)) → held after cs ≡ held w cs
    now_kept cs none = changed_others v so block ds P changes cs (λ p. none (subst (λ u. P (place u.whole cs)) e p)) ∙ ap (λ u. held u cs) e

  now_whole : (cs : List ℕ) → IsPoint w.whole cs → IsPoint v.whole cs
  now_whole cs i = subst (λ u. IsPoint u.whole cs) (sym e) i

  -- a row that is written
  module _ (ds : List (Option X)) (ps : List ℕ) (n at : ℕ) (row : IsRow w.shape ps n) (is : at ≡ place w.whole (plus w.low ps)) (changes : Changes v.slots ds (InRun at n)) where
    pub row_others : (cs : List ℕ) → IsPoint w.whole cs → ((j : ℕ) → j < n → ¬ (cs ≡ plus w.low (along ps j))) → held (after v.block ds (InRun at n) changes) cs ≡ held w cs
    row_others cs i none =
        let P : ℕ × ℕ → Type 0 = λ t. InRun t.0 n t.1 in
        now_kept v.block ds (InRun at n) changes cs (λ p. off_row v so ps n (now_row ps n row) cs (now_whole cs i) (λ j lt q. none j lt (q ∙ ap (λ u. plus u.low (along ps j)) e))
        (subst P (λ k. (sym (back_place ps at is) k, place (sym e k).whole cs)) p))

    pub row_cell : (j : ℕ) → j < n → cell_at (after v.block ds (InRun at n) changes) (along ps j) ≡ get_or ds (at + j) None
    row_cell j lt = ap (λ k. get_or ds k None) (on_row v so ps n (now_row ps n row) j lt ∙ ap (λ k. k + j) (back_place ps at is))

  -- a cell that is written
  module _ (ds : List (Option X)) (ps : List ℕ) (at : ℕ) (i : IsPoint w.shape ps) (is : at ≡ place w.whole (plus w.low ps)) (changes : Changes v.slots ds (InRun at 1)) where
    pub set_others : (cs : List ℕ) → IsPoint w.whole cs → ¬ (cs ≡ plus w.low ps) → held (after v.block ds (InRun at 1) changes) cs ≡ held w cs
    set_others cs j none = row_others ds ps 1 at (one_row w.shape ps i) is changes cs j (not_one w.low ps cs none)

    pub set_cell : cell_at (after v.block ds (InRun at 1) changes) ps ≡ get_or ds at None
    set_cell = ap (λ k. get_or ds k None) (back_place ps at is)

  -- all cells of the box
  module _ (ds : List (Option X)) (start : ℕ) (steps shape : List ℕ) (is : start ≡ spot 0 (row_steps v.whole) v.low) (rows : steps ≡ row_steps v.whole) (sizes : shape ≡ v.shape)
      (changes : Changes v.slots ds (AtPoint start steps shape)) where
    spot_is : (p : List ℕ) → IsPoint v.shape p → spot start steps p ≡ place v.whole (plus v.low p)
    spot_is p i = (λ k. spot (is k) (rows k) p) ∙ win_spot v so p i

    pub all_others : KeptOutside w (after v.block ds (AtPoint start steps shape) changes)
    all_others cs i none =
        now_kept v.block ds (AtPoint start steps shape) changes cs (λ p.
        let j : IsPoint v.shape p.0 = subst (λ s. IsPoint s p.0) sizes p.1.0 in
        let same : cs ≡ plus v.low p.0 = one_point v.whole cs (plus v.low p.0) (now_whole cs i) (point_in v so p.0 j) (ap (λ u. place u.whole cs) e ∙ p.1.1 ∙ spot_is p.0 j) in
        none p.0 (subst (λ u. IsPoint u.shape p.0) e j) (same ∙ ap (λ u. plus u.low p.0) e))

    pub all_cell : (p : List ℕ) → IsPoint w.shape p → cell_at (after v.block ds (AtPoint start steps shape) changes) p ≡ get_or ds (spot start steps p) None
    all_cell p i = ap (λ k. get_or ds k None) (sym (spot_is p (now_point p i)))

    pub all_point : (p : List ℕ) → IsPoint w.shape p → IsPoint shape p
    all_point p i = subst (λ s. IsPoint s p) (sym sizes) (now_point p i)

  pub all_laid : (start : ℕ) (steps shape : List ℕ) → start ≡ spot 0 (row_steps v.whole) v.low → steps ≡ row_steps v.whole → shape ≡ v.shape → IsLaid v.slots start steps shape
  all_laid start steps shape a b c =
      let P : ℕ × List ℕ × List ℕ → Type 0 = λ t. IsLaid v.slots t.0 t.1 t.2 in subst P (λ k. (sym a k, sym b k, sym c k)) (window_laid v so)

  pub all_small : (shape : List ℕ) → shape ≡ v.shape → size shape < 9223372036854775808
  all_small shape c = let f = fits_size v.whole v.low v.shape so.fits in let n = ap size c in let m = whole_small v so in omega arith

  module _ (start : ℕ) (steps shape : List ℕ) (a : start ≡ (window_sight w).start) (b : steps ≡ row_steps v.whole) (c : shape ≡ v.shape) where
    pub start_is : start ≡ spot 0 (row_steps v.whole) v.low
    start_is = a ∙ ap (λ u. (window_sight u).start) (sym e)

    pub now_laid : IsLaid v.slots start steps shape
    now_laid = all_laid start steps shape start_is b c

    pub all_together : (k : ℕ) → together (window_sight w) k ≡ true → together (stepped_sight v.slots start steps shape) k ≡ true
    all_together k h = (λ i. leb (length (c i)) k || bytes_eq (drop k (b i)) (drop k (row_steps (c i)))) ∙ ap (λ u. together (window_sight u) k) e ∙ h

    pub view_clear : IsClear v.slots start steps shape
    view_clear = (all_laid start steps shape start_is b c).clear

    pub view_shown : (ps : List ℕ) → IsPoint w.shape ps → shown (stepped_sight v.slots start steps shape) ps ≡ cell_at w ps
    view_shown ps i = (λ k. get_or v.slots (spot (start_is k) (b k) ps) None) ∙ now_shown ps i

  pub win_together : (st own : List ℕ) (k : ℕ) → st ≡ row_steps v.whole → own ≡ row_steps v.shape → leb (length own) k || bytes_eq (drop k st) (drop k own) ≡ together (window_sight w) k
  win_together st own k a b =
      (λ i. leb (length (b i)) k || bytes_eq (drop k (a i)) (drop k (b i)))
      ∙ ap (λ n. leb n k || bytes_eq (drop k (row_steps v.whole)) (drop k (row_steps v.shape))) (row_long v.shape) ∙ ap (λ u. together (window_sight u) k) e

  -- a line that is written
  module _ (ds : List (Option X)) (ps : List ℕ) (axis first step count : ℕ) (changes : Changes v.slots ds (OnLine first step count))
      (spots : (j : ℕ) → j < count → place w.whole (plus w.low (slice_set ps axis j)) ≡ first + j * step) (inside : (j : ℕ) → j < count → IsPoint w.shape (slice_set ps axis j)) where
    pub line_others : (cs : List ℕ) → IsPoint w.whole cs → ((j : ℕ) → j < count → ¬ (cs ≡ plus w.low (slice_set ps axis j))) → held (after v.block ds (OnLine first step count) changes) cs ≡ held w cs
    line_others cs i none =
        now_kept v.block ds (OnLine first step count) changes cs (λ p.
        let point = slice_set ps axis p.0 in let within = now_in point (inside p.0 p.1.0) in
        none p.0 p.1.0 (one_point v.whole cs (plus v.low point) (now_whole cs i) within (ap (λ u. place u.whole cs) e ∙ p.1.1 ∙ sym (spots p.0 p.1.0) ∙ ap (λ u. place u.whole (plus u.low point)) (sym e)) ∙ ap (λ u. plus u.low point) e))

    pub line_cell : (j : ℕ) → j < count → cell_at (after v.block ds (OnLine first step count) changes) (slice_set ps axis j) ≡ get_or ds (first + j * step) None
    line_cell j lt = ap (λ k. get_or ds k None) (ap (λ u. place u.whole (plus u.low (slice_set ps axis j))) e ∙ spots j lt)
