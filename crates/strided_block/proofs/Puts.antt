-- Cells that a caller gives as numbers or holes, as the cells of a block.
use Rattle.std.proofs.Common.{◌≡◌, ◌<◌, ℕ, ℤ, zero, suc, pos, negsuc, unsigned_abs, List, length, map, get_or, refl, sym, ap, subst, ◌∙◌, arith}
use Rattle.std.specs.Prelude.{Option, Some, None, option_map, replicate, All, Result, Ok, Err, IfOk}
use Rattle.std.proofs.lemmas.Int.{ints}
use Rattle.std.proofs.lemmas.List.{get_or-map, get_or-replicate, length-replicate}
use Rattle.std.proofs.lemmas.List.Elements.{All-get_or}
use Rattle.xr_types.specs.Cells.{again_char, again_int8, again_int16, again_int32, again_int64, again_uint16, again_uint32, again_uint64}
use Rattle.xr_types.specs.Kinds.{InRange, wrap_to}
use Rattle.xr_types.specs.declared.kind.DType.{DType}
use Rattle.xr_types.specs.declared.kind.DType.TheVariants.{Bool, Char, Int8, Int16, Int32, Int64, UInt16, UInt32, UInt64}
use Rattle.xr_arrays.specs.Arrays.{IsCell}
use Rattle.xr_types.specs.Points.{size, place, IsPoint}
use Rattle.strided_block.specs.Boxes.{plus, zeros}
use Rattle.strided_block.specs.Typed.{Box, IsWide, box_of, truth, number_or_zero}
use Rattle.strided_block.specs.Views.{Stored, Window, kept, held, cell_at, IsWhole}
use Rattle.strided_block.proofs.Boxes.{place_below}
use Rattle.strided_block.proofs.Sounds.{plus_origin}

-- ---- a number of a kind is found again

pub again_bool : (n : ℤ) → InRange Bool n → truth (unsigned_abs (wrap_to Char n)) ≡ n
again_bool (pos zero) r = refl
again_bool (pos (suc zero)) r = refl
again_bool (pos (suc (suc k))) r = let h = r.1 in absurd (omega (arith, ints))
again_bool (negsuc k) r = let h = r.0 in absurd (omega (arith, ints))

pub again_text : (n : ℤ) → InRange Char n → pos (unsigned_abs (wrap_to Char n)) ≡ n
again_text (pos k) r = ap pos (again_char k r.0 r.1)
again_text (negsuc k) r = let h = r.0 in absurd (omega (arith, ints))

pub number_uint16 : (n : ℤ) → InRange UInt16 n → pos (unsigned_abs (wrap_to UInt16 n)) ≡ n
number_uint16 (pos k) r = ap pos (again_uint16 k r.0 r.1)
number_uint16 (negsuc k) r = let h = r.0 in absurd (omega (arith, ints))

pub number_uint32 : (n : ℤ) → InRange UInt32 n → pos (unsigned_abs (wrap_to UInt32 n)) ≡ n
number_uint32 (pos k) r = ap pos (again_uint32 k r.0 r.1)
number_uint32 (negsuc k) r = let h = r.0 in absurd (omega (arith, ints))

pub number_uint64 : (n : ℤ) → InRange UInt64 n → pos (unsigned_abs (wrap_to UInt64 n)) ≡ n
number_uint64 (pos k) r = ap pos (again_uint64 k r.0 r.1)
number_uint64 (negsuc k) r = let h = r.0 in absurd (omega (arith, ints))

cell_range : (t : DType) (cells : List (Option ℤ)) (j : ℕ) (n : ℤ) → All (IsCell t) cells → j < length cells → get_or cells j None ≡ Some n → InRange t n
cell_range t cells j n all lt e = subst (IsCell t) e (All-get_or (IsCell t) cells j None lt all)

pub again_number : {X : Type 0} (t : DType) (of : ℤ → X) (read : X → ℤ) → ((n : ℤ) → InRange t n → read (of n) ≡ n) → (cells : List (Option ℤ)) (j : ℕ) (n : ℤ) → All (IsCell t) cells → j < length cells
    → get_or cells j None ≡ Some n → (r : Option X) → r ≡ Some (of (number_or_zero (get_or cells j None))) → option_map read r ≡ Some n
again_number t of read law cells j n all lt e r is = ap (option_map read) is ∙ ap (λ c. Some (read (of (number_or_zero c)))) e ∙ ap Some (law n (cell_range t cells j n all lt e))

pub at_int8 : (cells : List (Option ℤ)) (j : ℕ) (n : ℤ) → All (IsCell Int8) cells → j < length cells → get_or cells j None ≡ Some n → (r : Option ℤ) → r ≡ Some (wrap_to Int8 (number_or_zero (get_or cells j None))) → r ≡ Some n
at_int8 cells j n all lt e r is = let h = cell_range Int8 cells j n all lt e in is ∙ ap (λ c. Some (wrap_to Int8 (number_or_zero c))) e ∙ ap Some (again_int8 n h.0 h.1)

pub at_int16 : (cells : List (Option ℤ)) (j : ℕ) (n : ℤ) → All (IsCell Int16) cells → j < length cells → get_or cells j None ≡ Some n → (r : Option ℤ) → r ≡ Some (wrap_to Int16 (number_or_zero (get_or cells j None))) → r ≡ Some n
at_int16 cells j n all lt e r is = let h = cell_range Int16 cells j n all lt e in is ∙ ap (λ c. Some (wrap_to Int16 (number_or_zero c))) e ∙ ap Some (again_int16 n h.0 h.1)

pub at_int32 : (cells : List (Option ℤ)) (j : ℕ) (n : ℤ) → All (IsCell Int32) cells → j < length cells → get_or cells j None ≡ Some n → (r : Option ℤ) → r ≡ Some (wrap_to Int32 (number_or_zero (get_or cells j None))) → r ≡ Some n
at_int32 cells j n all lt e r is = let h = cell_range Int32 cells j n all lt e in is ∙ ap (λ c. Some (wrap_to Int32 (number_or_zero c))) e ∙ ap Some (again_int32 n h.0 h.1)

pub at_int64 : (cells : List (Option ℤ)) (j : ℕ) (n : ℤ) → All (IsCell Int64) cells → j < length cells → get_or cells j None ≡ Some n → (r : Option ℤ) → r ≡ Some (wrap_to Int64 (number_or_zero (get_or cells j None))) → r ≡ Some n
at_int64 cells j n all lt e r is = let h = cell_range Int64 cells j n all lt e in is ∙ ap (λ c. Some (wrap_to Int64 (number_or_zero c))) e ∙ ap Some (again_int64 n h.0 h.1)

-- 0 is kept at each width
pub zero_int8 : wrap_to Int8 (pos 0) ≡ pos 0
zero_int8 = again_int8 (pos 0) (omega (arith, ints)) (omega (arith, ints))

pub zero_int16 : wrap_to Int16 (pos 0) ≡ pos 0
zero_int16 = again_int16 (pos 0) (omega (arith, ints)) (omega (arith, ints))

pub zero_int32 : wrap_to Int32 (pos 0) ≡ pos 0
zero_int32 = again_int32 (pos 0) (omega (arith, ints)) (omega (arith, ints))

pub zero_int64 : wrap_to Int64 (pos 0) ≡ pos 0
zero_int64 = again_int64 (pos 0) (omega (arith, ints)) (omega (arith, ints))

-- ---- blocks

module _ {X : Type 0} where
  -- a block that holds one cell everywhere
  pub alike : (b : Stored X) (ns p : List ℕ) (x : X) → b ≡ record { shape = ns; cells = replicate (size ns) x } → IsPoint ns p → kept b p ≡ Some x
  alike b ns p x e i =
      let below = place_below ns p i in let lt : place ns p < length (replicate (size ns) x) = omega (arith, length-replicate (size ns) x) in
      ap (λ u. kept u p) e ∙ get_or-map Some (replicate (size ns) x) (place ns p) x None lt ∙ ap Some (get_or-replicate (size ns) (place ns p) x x below)

  -- a block whose cells are made of given ones
  pub made_kept : (f : Option ℤ → X) (cs : List (Option ℤ)) (items : List X) (ns p : List ℕ) → length items ≡ length cs → length cs ≡ size ns → ((i : ℕ) (z : X) → i < length cs → get_or items i z ≡ f (get_or cs i None))
      → IsPoint ns p → get_or (map Some items) (place ns p) None ≡ Some (f (get_or cs (place ns p) None))
  made_kept f cs items ns p long count made i =
      let below = place_below ns p i in let lt : place ns p < length items = omega arith in let in_cells : place ns p < length cs = omega arith in
      let x : X = f (get_or cs (place ns p) None) in get_or-map Some items (place ns p) x None lt ∙ ap Some (made (place ns p) x in_cells)

  -- the window of a block
  pub whole_held : (cells : List X) (shape : List ℕ) (w : Window X) (cs : List ℕ) → w.whole ≡ shape → w.slots ≡ map Some cells → held w cs ≡ get_or (map Some cells) (place shape cs) None
  whole_held cells shape w cs whole slots = λ i. get_or (slots i) (place (whole i) cs) None

  -- a block of given cells, each of which is made of one that is given
  pub block_kept : (f : Option ℤ → X) (cs : List (Option ℤ)) (items all : List X) (b : Stored X) (ns p : List ℕ) → b ≡ record { shape = ns; cells = all } → all ≡ items → length items ≡ length cs → length cs ≡ size ns
      → ((i : ℕ) (z : X) → i < length cs → get_or items i z ≡ f (get_or cs i None)) → IsPoint ns p → kept b p ≡ Some (f (get_or cs (place ns p) None))
  block_kept f cs items all b ns p e same long count made i = ap (λ u. kept u p) e ∙ ap (λ l. get_or (map Some l) (place ns p) None) same ∙ made_kept f cs items ns p long count made i

-- what holds of a result, by what is known of it
pub if_ok : {X E : Type 0} (P Q : X → Type 0) (r : Result X E) → ((x : X) → P x → Q x) → IfOk r P → IfOk r Q
if_ok P Q (Ok x) f h = f x h
if_ok P Q (Err e) f h = tt

-- the window's box, where it and another are whole
pub wide_boxes : {X : Type 0} (w : Window X) (b : Box) → IsWhole w → IsWide b → w.whole ≡ b.whole → box_of w ≡ b
wide_boxes w b m n e = λ i. record { whole = e i; low = (m.low ∙ ap zeros e ∙ sym n.low) i; shape = (m.shape ∙ e ∙ sym n.shape) i }

at_home : {X : Type 0} (w : Window X) (p : List ℕ) → IsWhole w → IsPoint w.whole p → cell_at w p ≡ held w p
at_home w p m j = ap (held w) (ap (λ l. plus l p) m.low ∙ plus_origin w.whole p j)

-- a mask that is 0 everywhere is so in the window of its block, and in the block of its window
pub whole_clear : (b : Stored ℕ) (w : Window ℕ) → IsWhole w → w.whole ≡ b.shape → w.slots ≡ map Some b.cells → ((p : List ℕ) → IsPoint b.shape p → kept b p ≡ Some 0) → (p : List ℕ) → IsPoint w.shape p → cell_at w p ≡ Some 0
whole_clear b w m e s was p i =
    let j : IsPoint w.whole p = subst (λ n. IsPoint n p) m.shape i in
    at_home w p m j ∙ whole_held b.cells b.shape w p e s ∙ was p (subst (λ n. IsPoint n p) e j)

pub block_clear_of : (b : Stored ℕ) (w : Window ℕ) → IsWhole w → b.shape ≡ w.whole → map Some b.cells ≡ w.slots → ((p : List ℕ) → IsPoint w.shape p → cell_at w p ≡ Some 0) → (p : List ℕ) → IsPoint b.shape p → kept b p ≡ Some 0
block_clear_of b w m e s was p i =
    let j : IsPoint w.whole p = subst (λ n. IsPoint n p) e i in
    sym (whole_held b.cells b.shape w p (sym e) (sym s)) ∙ sym (at_home w p m j) ∙ was p (subst (λ n. IsPoint n p) (sym m.shape) j)
