-- Cells that are made from those of four views, a run after another.
use Rattle.std.proofs.Common.{◌≡◌, ◌<◌, ◌≤◌, ◌+◌, ◌-◌, ℕ, zero, suc, min, List, [], ◌∷◌, ◌++◌, length, take, drop, get_or, inl, inr, refl, sym, ap, subst, ◌∙◌, arith}
use Rattle.std.specs.Prelude.{true, Option, Some, None}
use Rattle.std.proofs.lemmas.Bool.{cases_lt}
use Rattle.std.proofs.lemmas.List.{take-append-drop}
use Rattle.xr_types.specs.Points.{size, place, IsPoint}
use Rattle.strided_block.specs.Parts.{IsRun, Changes, InRun, AtPoint}
use Rattle.strided_block.specs.Steps.{spot}
use Rattle.strided_block.specs.Views.{Seen, shown, together, stepped_sight, IsLaid}
use Rattle.strided_block.specs.Zips.{Zips, point_at}
use Rattle.strided_block.proofs.Boxes.{place_below, point_drop, one_point}
use Rattle.strided_block.proofs.Holdings.{every_run, run_there, still_there, more_changes}
use Rattle.strided_block.proofs.Leads.{all_run, run_spot, join_point}
use Rattle.strided_block.proofs.Splits.{size_split, lead_point, lead_long, lead_there, point_there, at_least}
use Rattle.std.proofs.Math.Nat.{mul_comm}

-- a cell of a list
pub record Found {X : Type 0} (xs : List X) (i : ℕ) : Type 0 where
  pub x : X
  pub is : (d : X) → get_or xs i d ≡ x

pub found : {X : Type 0} (xs : List X) (i : ℕ) → i < length xs → Found xs i
found [] i lt = absurd (omega arith)
found (x ∷ xs) zero lt = record { x = x; is = λ d. refl }
found (x ∷ xs) (suc i) lt = let r = found xs i (omega arith) in record { x = r.x; is = r.is }

-- what a view shows at a cell of a run
abbrev pub Reads : {X : Type 0} → Seen X → List ℕ → List X → Type 0
Reads {X} v lead run = (q : List ℕ) (x : X) → IsPoint (drop (length lead) v.shape) q → shown v (lead ++ q) ≡ Some (get_or run (place (drop (length lead) v.shape) q) x)

pub read_at : {X : Type 0} (v : Seen X) (shape lead q : List ℕ) (run : List X) (reads : Reads v lead run) → v.shape ≡ shape → IsPoint (drop (length lead) shape) q
    → (f : Found run (place (drop (length lead) shape) q)) → shown v (lead ++ q) ≡ Some f.x
read_at v shape lead q run reads e i f =
    let j : IsPoint (drop (length lead) v.shape) q = subst (λ s. IsPoint (drop (length lead) s) q) (sym e) i in
    reads q f.x j ∙ ap (λ s. Some (get_or run (place (drop (length lead) s) q) f.x)) e ∙ ap Some (f.is f.x)

module _ {A B C D T : Type 0} (R : A → B → C → D → T → Type 0) where
  pub zipped_at : (a : Option A) (b : Option B) (c : Option C) (d : Option D) (r : Option T) (ra : List A) (rb : List B) (rc : List C) (rd : List D) (all : List T) (j k : ℕ)
      (fa : Found ra j) (fb : Found rb j) (fc : Found rc j) (fd : Found rd j) (fr : Found all k)
      → a ≡ Some fa.x → b ≡ Some fb.x → c ≡ Some fc.x → d ≡ Some fd.x → r ≡ Some (get_or all k fr.x)
      → R (get_or ra j fa.x) (get_or rb j fb.x) (get_or rc j fc.x) (get_or rd j fd.x) (get_or all k fr.x) → Zips R a b c d r
  zipped_at a b c d r ra rb rc rd all j k fa fb fc fd fr ea eb ec ed er holds = record {
    x = fa.x;
    y = fb.x;
    u = fc.x;
    v = fd.x;
    z = fr.x;
    first = ea;
    second = eb;
    third = ec;
    fourth = ed;
    result = er ∙ ap Some (fr.is fr.x);
    holds =
        let P : A × B × C × D × T → Type 0 = λ t. R t.0 t.1 t.2 t.3 t.4 in
        subst P (λ i. (fa.is fa.x i, fb.is fb.x i, fc.is fc.x i, fd.is fd.x i, fr.is fr.x i)) holds;
  }

-- ---- a run more

take_front : (lead q : List ℕ) (k : ℕ) → length lead ≡ k → take k (lead ++ q) ≡ lead
take_front [] q zero e = refl
take_front [] q (suc k) e = absurd (omega arith)
take_front (c ∷ lead) q zero e = absurd (omega arith)
take_front (c ∷ lead) q (suc k) e = ap (λ l. c ∷ l) (take_front lead q k (omega arith))

module _ {T : Type 0} (s : List ℕ) (k row : ℕ) (start : ℕ) (steps : List ℕ) (begun cs : List (Option T)) (laid : IsLaid begun start steps s)
    (side : together (stepped_sight begun start steps s) k ≡ true) (le : k ≤ length s) (inside : row < size (take k s)) (some : 0 < size (drop k s)) where
  abbrev sight_now : Seen T
  sight_now = stepped_sight begun start steps s

  module _ (lead : List ℕ) (is : lead ≡ point_at (take k s) row) where
    pub axis : length lead ≡ k
    axis = lead_long s k row lead is le

    pub leads : IsPoint (take (length lead) s) lead
    leads = lead_there s k row lead inside is le

    pub side_by_side : together sight_now (length lead) ≡ true
    side_by_side = subst (λ m. together sight_now m ≡ true) (sym axis) side

    abbrev rest : List ℕ
    rest = drop (length lead) s

    some_rest : 0 < size rest
    some_rest = subst (λ m. 0 < size (drop m s)) (sym axis) some

    module _ (at : ℕ) (where_at : at ≡ spot start steps lead) where
      pub row_run : Changes begun cs (AtPoint start steps s) → IsRun cs at (size rest)
      row_run before =
          let r = all_run begun start steps s sight_now refl laid.clear lead leads side_by_side (size rest) at refl some_rest where_at in
          every_run cs at (size rest) (let f = r.0 in let l = before.long in omega arith) (λ j lt. still_there begun cs (AtPoint start steps s) before (at + j) (run_there begun at (size rest) r j lt))

      spot_at : (q : List ℕ) → IsPoint rest q → spot start steps (lead ++ q) ≡ at + place rest q
      spot_at q j = run_spot begun start steps s sight_now refl laid.clear lead leads side_by_side at some_rest where_at q j

      on_point : (i : ℕ) → InRun at (size rest) i → AtPoint start steps s i
      on_point i within =
          let j = i - at in let lt : j < size rest = omega (arith, within.0, within.1) in let p = point_there rest j lt in let q = point_at rest j in
          (lead ++ q, (join_point s lead q leads p.0, sym (spot_at q p.0 ∙ ap (λ x. at + x) p.1 ∙ (let b : at + j ≡ i = omega (arith, within.0) in b))))

      module _ (ds : List (Option T)) (changes : Changes cs ds (InRun at (size rest))) where
        pub row_changes : Changes begun cs (AtPoint start steps s) → Changes begun ds (AtPoint start steps s)
        row_changes before = more_changes begun cs ds (AtPoint start steps s) (InRun at (size rest)) before changes on_point

        -- a point of another row is not on this one
        off_row : (p : List ℕ) → IsPoint s p → place (take k s) (take k p) < row → ¬ (InRun at (size rest) (spot start steps p))
        off_row p i lt within =
            let h = spot start steps p in let j = h - at in let below : j < size rest = omega (arith, within.0, within.1) in let there = point_there rest j below in let q = point_at rest j in
            let same : spot start steps p ≡ spot start steps (lead ++ q) = (let b : h ≡ at + j = omega (arith, within.0) in b) ∙ ap (λ x. at + x) (sym there.1) ∙ sym (spot_at q there.0) in
            let one = laid.apart p (lead ++ q) i (join_point s lead q leads there.0) same in
            let front : take k p ≡ lead = ap (take k) one ∙ take_front lead q k axis in
            let row_is : place (take k s) (take k p) ≡ row = ap (place (take k s)) (front ∙ is) ∙ (point_there (take k s) row inside).1 in
            omega (arith, lt, row_is)

        module _ (Z : List ℕ → Option T → Type 0) (so_far : (p : List ℕ) → IsPoint s p → place (take k s) (take k p) < row → Z p (get_or cs (spot start steps p) None))
            (here : (q : List ℕ) → IsPoint rest q → Z (lead ++ q) (get_or ds (at + place rest q) None)) where
          before_row : (p : List ℕ) → IsPoint s p → place (take k s) (take k p) < row → Z p (get_or ds (spot start steps p) None)
          before_row p i lt = subst (Z p) (sym (changes.others (spot start steps p) (off_row p i lt))) (so_far p i lt)

          now_row : (p : List ℕ) → IsPoint s p → place (take k s) (take k p) ≡ row → Z p (get_or ds (spot start steps p) None)
          now_row p i same =
              let there = point_there (take k s) row inside in let q : List ℕ = drop k p in
              let front : take k p ≡ lead = one_point (take k s) (take k p) (point_at (take k s) row) (lead_point s p k i) there.0 (same ∙ sym there.1) ∙ sym is in
              let whole : lead ++ q ≡ p = ap (λ l. l ++ q) (sym front) ∙ take-append-drop k p in
              let j : IsPoint rest q = subst (λ m. IsPoint (drop m s) q) (sym axis) (point_drop s p k i) in
              let P : List ℕ × ℕ → Type 0 = λ t. Z t.0 (get_or ds t.1 None) in
              subst P (λ h. (whole h, (sym (spot_at q j) ∙ ap (spot start steps) whole) h)) (here q j)

          pub one_more : (p : List ℕ) → IsPoint s p → place (take k s) (take k p) < row + 1 → Z p (get_or ds (spot start steps p) None)
          one_more p i lt = elim (cases_lt (place (take k s) (take k p)) row) [ inl below ↦ before_row p i below | inr le ↦ now_row p i (omega arith) ]

-- ---- how many rows there are

pub lead_below : (s p : List ℕ) (k rows : ℕ) → IsPoint s p → size s < 9223372036854775808 → rows ≡ min (size (take k s)) 18446744073709551615 → place (take k s) (take k p) < rows
lead_below s p k rows i small is =
    let b = place_below (take k s) (take k p) (lead_point s p k i) in let c = place_below s p i in let e = size_split s k in
    let m = place_below (drop k s) (drop k p) (point_drop s p k i) in
    let l = at_least (size (drop k s)) (size (take k s)) (omega arith) in let turn = mul_comm (size (drop k s)) (size (take k s)) in omega arith
