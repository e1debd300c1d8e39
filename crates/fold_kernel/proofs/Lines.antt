-- Running sums along a line, from one step to all.
use Rattle.std.proofs.Common.{◌≡◌, ◌<◌, ◌+◌, ◌++◌, ℕ, ℤ, zero, suc, List, [], ◌∷◌, length, map, take, get_or, refl, sym, ap, subst, ◌∙◌, arith}
use Rattle.std.specs.Prelude.{Option, Some, None, option_map, slice_set}
use Rattle.std.specs.List.{fold, range_with_len}
use Rattle.std.proofs.lemmas.List.{get_or-map, length-map}
use Rattle.std.proofs.lemmas.List.FromFn.{length-range_with_len, get_or-range_with_len}
use Rattle.std.proofs.lemmas.List.Sums.{fold_more}
use Rattle.xr_types.specs.declared.kind.DType.{DType}
use Rattle.xr_arrays.specs.Folds.{fold_of, numbered, total_kind}
use Rattle.xr_types.specs.declared.operation.FoldKind.TheVariants.{Sum}
use Rattle.strided_block.specs.Boxes.{zeros}
use Rattle.strided_block.specs.Lines.{prior, Follows}
use Rattle.strided_block.specs.Typed.{unless_hidden}
use Rattle.fold_kernel.specs.Lines.{line_cells, with_number, SumsUp}
use Rattle.fold_kernel.specs.Partials.{Folded, StandsFor}
use Rattle.fold_kernel.proofs.Scans.{scan_sum}

-- ---- a byte of a mask

pub shows : (k : DType) (b : ℕ) (s n : ℤ) → b ≡ 0 → with_number k s (unless_hidden (Some b) (Some n)) ≡ with_number k s (Some n)
shows k zero s n is = refl
shows k (suc b) s n is = absurd (omega arith)

pub hides : (k : DType) (b : ℕ) (s n : ℤ) → (b ≡ 0 → ⊥) → with_number k s (unless_hidden (Some b) (Some n)) ≡ s
hides k zero s n some = absurd (some refl)
hides k (suc b) s n some = refl

pub ruleset byte_shows = (shows, hides)

-- ---- the cells of a line

pub line_long : (cell : List ℕ → Option ℤ) (shape : List ℕ) (axis : ℕ) → length (line_cells cell shape axis) ≡ get_or shape axis 0
line_long cell shape axis = length-map (range_with_len 0 (get_or shape axis 0)) (λ j. cell (slice_set (zeros shape) axis j)) ∙ length-range_with_len 0 (get_or shape axis 0)

from_none : (j : ℕ) → 0 + j ≡ j
from_none j = omega arith

pub line_at : (cell : List ℕ → Option ℤ) (shape : List ℕ) (axis j : ℕ) → j < get_or shape axis 0 → get_or (line_cells cell shape axis) j None ≡ cell (slice_set (zeros shape) axis j)
line_at cell shape axis j lt =
    let n : ℕ = get_or shape axis 0 in let long = length-range_with_len 0 n in let within : j < length (range_with_len 0 n) = omega arith in
    get_or-map (λ i. cell (slice_set (zeros shape) axis i)) (range_with_len 0 n) j 0 None within ∙ ap (λ i. cell (slice_set (zeros shape) axis i)) (get_or-range_with_len 0 n j 0 lt ∙ from_none j)

-- ---- one more cell

module _ (k : DType) where
  record Adds (before : Option ℤ) (cell after : Option ℤ) : Type 0 where
    pub last : ℤ
    pub earlier : before ≡ Some last
    pub sum : after ≡ Some (with_number k last cell)

  same_some : (a b : ℤ) → Some a ≡ Some b → a ≡ b
  same_some a b e = cc

  sums_up : (start : ℤ) (cells : List (Option ℤ)) (n : ℕ) (out : ℕ → Option ℤ) → n ≡ length cells → ((j : ℕ) → j < n → Adds (prior (Some start) out j) (get_or cells j None) (out j)) → (j : ℕ) → j < n → out j ≡ Some (fold (with_number k) start (take (j + 1) cells))
  sums_up start cells n out long step zero lt =
      let s = step zero lt in let is : Some start ≡ Some s.last = s.earlier in
      s.sum ∙ ap (λ v. Some (with_number k v (get_or cells zero None))) (sym (same_some start s.last is)) ∙ ap Some (sym (fold_more (with_number k) start cells zero None (omega arith)))
  sums_up start cells n out long step (suc j) lt =
      let s = step (suc j) lt in let before = sums_up start cells n out long step j (omega arith) in let more : suc j ≡ j + 1 = omega arith in
      let is : Some (fold (with_number k) start (take (j + 1) cells)) ≡ Some s.last = sym before ∙ s.earlier in
      s.sum ∙ ap (λ v. Some (with_number k v (get_or cells (suc j) None))) (sym (same_some (fold (with_number k) start (take (j + 1) cells)) s.last is))
      ∙ ap (λ i. Some (with_number k (fold (with_number k) start (take i cells)) (get_or cells (suc j) None))) (sym more) ∙ ap Some (sym (fold_more (with_number k) start cells (suc j) None (omega arith)))

-- ---- the sums of a line

-- a step's results as numbers
read_prior : {S : Type 0} (read : S → ℤ) (start : S) (out : ℕ → Option S) (j : ℕ) → option_map read (prior (Some start) out j) ≡ prior (Some (read start)) (λ i. option_map read (out i)) j
read_prior read start out zero = refl
read_prior read start out (suc j) = refl

module _ {T S : Type 0} (number : T → ℤ) (k : DType) (read : S → ℤ) where
  abbrev pub Sums : S → T → ℕ → S → Type 0
  Sums total x m z = read z ≡ with_number k (read total) (unless_hidden (Some m) (Some (number x)))

  adds : (before after : Option S) (a : Option T) (m : Option ℕ) (cell : Option ℤ) → cell ≡ unless_hidden m (option_map number a) → Follows Sums before a m after → Adds k (option_map read before) cell (option_map read after)
  adds before after a m cell is f = record {
    last = read f.last;
    earlier = ap (option_map read) f.earlier;
    sum =
        let c : cell ≡ unless_hidden (Some f.y) (Some (number f.x)) = is ∙ (λ i. unless_hidden (f.second i) (option_map number (f.first i))) in
        ap (option_map read) f.result ∙ ap Some (f.holds ∙ ap (with_number k (read f.last)) (sym c));
  }

  pub line_sums : (start : S) (a : List ℕ → Option T) (m : List ℕ → Option ℕ) (shape sizes : List ℕ) (axis n : ℕ) (out : ℕ → Option S) → shape ≡ sizes → get_or shape axis 0 ≡ n
      → ((j : ℕ) → j < n → Follows Sums (prior (Some start) out j) (a (slice_set (zeros sizes) axis j)) (m (slice_set (zeros shape) axis j)) (out j))
      → SumsUp k (read start) (line_cells (λ p. unless_hidden (m p) (option_map number (a p))) shape axis) n (λ j. option_map read (out j))
  line_sums start a m shape sizes axis n out same count follows =
      let cell : List ℕ → Option ℤ = λ p. unless_hidden (m p) (option_map number (a p)) in
      sums_up k (read start) (line_cells cell shape axis) n (λ j. option_map read (out j)) (sym (line_long cell shape axis ∙ count)) (λ j lt.
      let below : j < get_or shape axis 0 = omega (arith, count, lt) in
      subst (λ b. Adds k b (get_or (line_cells cell shape axis) j None) (option_map read (out j))) (read_prior read start out j)
      (adds (prior (Some start) out j) (out j) (a (slice_set (zeros sizes) axis j)) (m (slice_set (zeros shape) axis j)) (get_or (line_cells cell shape axis) j None)
      (line_at cell shape axis j below ∙ ap (λ s. unless_hidden (m (slice_set (zeros shape) axis j)) (option_map number (a (slice_set (zeros s) axis j)))) same) (follows j lt)))

-- numbers as they are
pub same_number : (o : Option ℤ) → option_map (λ x. x) o ≡ o
same_number None = refl
same_number (Some n) = refl

-- the sums in the words of folds
pub fold_sums : (p : Folded) (b : List (ℕ × Option ℤ)) (first : ℕ) (start : ℤ) (cells : List (Option ℤ)) (sum : ℤ) → p.kind ≡ Sum → StandsFor p b → Some start ≡ p.value → sum ≡ fold (with_number (total_kind p.of)) start cells → Some sum ≡ fold_of Sum p.of (b ++ numbered first cells)
fold_sums p b first start cells sum is h e at = scan_sum (λ n. n) p b first start sum cells is h e at ∙ ap (λ l. fold_of Sum p.of (b ++ numbered first l)) (mapped cells)
  where
    mapped : (cs : List (Option ℤ)) → map (option_map (λ n. n)) cs ≡ cs
    mapped [] = refl
    mapped (c ∷ cs) = λ i. same_number c i ∷ mapped cs i
