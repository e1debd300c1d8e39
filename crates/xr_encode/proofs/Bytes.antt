-- Texts as cells of type char.
use Rattle.std.proofs.Common.{◌≡◌, ◌<◌, ◌+◌, ◌-◌, ◌/◌, ◌%◌, ℕ, ℤ, pos, Bool, true, false, cond, inl, inr, List, [], ◌∷◌, ◌++◌, map, length, take, get_or, Some, refl, sym, ap, subst, ◌∙◌, All, arith}
use Rattle.std.specs.Prelude.{replicate, flat_map}
use Rattle.std.specs.Str.{IsUtf8}
use lib.Utf8.{scalar, scalars, scalar_cases, next, encode, encodes}
use borrow.Author.Tests.{ltb-true}
use lib.Dec.{ltb}
use Rattle.std.proofs.lemmas.Bool.{and_parts}
use Rattle.std.proofs.lemmas.Int.{ints}
use Rattle.std.specs.List.{list_all}
use Rattle.std.proofs.lemmas.List.{take_more}
use Rattle.std.proofs.lemmas.List.Elements.{All-head, All-tail, All-cons, All-nil, All-append, All-replicate}
use Rattle.xr_types.specs.declared.attr.NcType.TheVariants.{Char}
use Rattle.xr_types.specs.declared.kind.DType.TheVariants as kinds
use Rattle.xr_defs.specs.Encoding.{holds, holds_cell, value_bytes, filled_up, text_width, text_cells}
use Rattle.xr_encode.specs.Texts.{AreBytes}
use Rattle.xr_encode.specs.Rows.{cells_bytes}
use Rattle.xr_encode.proofs.Ranges.{and_both, in_range_is}

abbrev IsText : List ℕ → Type 0
IsText text = All (λ b. b < 256) text

all_and_one : (xs : List (List ℕ)) (x : List ℕ) → AreBytes xs → IsText x → AreBytes (xs ++ x ∷ [])
all_and_one [] x all is = (is, tt)
all_and_one (y ∷ xs) x all is = (all.0, all_and_one xs x all.1 is)

pub texts_more : (texts : List (List ℕ)) (i : ℕ) (text : List ℕ) → i < length texts → text ≡ get_or texts i text → IsText text → AreBytes (take i texts) → AreBytes (take (i + 1) texts)
texts_more texts i text lt is bytes all =
    subst AreBytes (sym (take_more texts i text lt ∙ ap (λ t. take i texts ++ t ∷ []) (sym is))) (all_and_one (take i texts) text all bytes)

filled_bytes : (w : ℕ) (text : List ℕ) → IsText text → IsText (filled_up w text)
filled_bytes w text is = All-append (λ b. b < 256) text (replicate (w - length text) 0) is (All-replicate (λ b. b < 256) (w - length text) 0 (omega arith))

rows_bytes : (w : ℕ) (texts : List (List ℕ)) → AreBytes texts → IsText (flat_map (filled_up w) texts)
rows_bytes w [] all = All-nil (λ b. b < 256)
rows_bytes w (text ∷ texts) all = All-append (λ b. b < 256) (filled_up w text) (flat_map (filled_up w) texts) (filled_bytes w text all.0) (rows_bytes w texts all.1)

-- ---- texts are UTF-8, whose bytes are below 256

pick : (b : Bool) (xs ys : List ℕ) → (b ≡ true → IsText xs) → (b ≡ false → IsText ys) → IsText (cond b xs ys)
pick true xs ys f g = f refl
pick false xs ys f g = g refl

one : (a : ℕ) (bs : List ℕ) → a < 256 → IsText bs → IsText (a ∷ bs)
one a bs lt is = All-cons (λ b. b < 256) a bs lt is

none : IsText []
none = All-nil (λ b. b < 256)

low : (c : ℕ) → scalar c ≡ true → c < 1114112
low c e = elim (scalar_cases c e) [ inl lt ↦ omega arith | inr both ↦ both.1 ]

char_bytes : (c : ℕ) → scalar c ≡ true → IsText (encode c)
unfolding encode
char_bytes c e =
    let most = low c e in
    let a : List ℕ = next c ∷ [] in
    let b : List ℕ = next (c / 64) ∷ a in
    let is_a : IsText a = one (next c) [] (omega arith) none in
    let is_b : IsText b = one (next (c / 64)) a (omega arith) is_a in
    pick (ltb c 128) _ _ (λ t. let lt = ltb-true c 128 t in one c [] (omega arith) none) (λ f.
    pick (ltb c 2048) _ _ (λ t. let lt = ltb-true c 2048 t in one (192 + c / 64) a (omega arith) is_a) (λ g.
    pick (ltb c 65536) _ _ (λ t. let lt = ltb-true c 65536 t in one (224 + c / 4096) b (omega arith) is_b)
    (λ h. one (240 + c / 262144) (next (c / 4096) ∷ b) (omega arith) (one (next (c / 4096)) b (omega arith) is_b))))

chars_bytes : (cs : List ℕ) → scalars cs ≡ true → IsText (encodes cs)
chars_bytes [] e = none
chars_bytes (c ∷ cs) e = let both = and_parts (scalar c) (scalars cs) e in All-append (λ b. b < 256) (encode c) (encodes cs) (char_bytes c both.0) (chars_bytes cs both.1)

pub utf8_bytes : (text : List ℕ) → IsUtf8 text → IsText text
utf8_bytes text u = subst IsText u.1.1 (chars_bytes u.0 u.1.0)

-- ---- as cells

-- a byte is a number of type char
byte_holds : (b : ℕ) → b < 256 → holds Char (pos b) ≡ true
byte_holds b lt = in_range_is kinds.Char (pos b) (omega (arith, ints), omega (arith, ints))

bytes_hold : (bs : List ℕ) → IsText bs → list_all (holds_cell Char) (map (λ b. Some (pos b)) bs) ≡ true
bytes_hold [] all = refl
bytes_hold (b ∷ bs) all = and_both _ _ (byte_holds b (All-head (λ b. b < 256) b bs all)) (bytes_hold bs (All-tail (λ b. b < 256) b bs all))

-- which is written as itself
byte_again : (b : ℕ) → b < 256 → value_bytes Char (pos b) ≡ b ∷ []
byte_again b lt = let e : b % 256 ≡ b = omega arith in ap (λ n. n ∷ []) e

pub bytes_again : (fill : ℤ) (bs : List ℕ) → IsText bs → cells_bytes Char fill (map (λ b. Some (pos b)) bs) ≡ bs
bytes_again fill [] all = refl
bytes_again fill (b ∷ bs) all = ap (λ l. l ++ cells_bytes Char fill (map (λ b. Some (pos b)) bs)) (byte_again b (All-head (λ b. b < 256) b bs all)) ∙ ap (λ l. b ∷ l) (bytes_again fill bs (All-tail (λ b. b < 256) b bs all))

pub texts_hold : (texts : List (List ℕ)) → AreBytes texts → list_all (holds_cell Char) (text_cells texts) ≡ true
texts_hold texts all = bytes_hold (flat_map (filled_up (text_width texts)) texts) (rows_bytes (text_width texts) texts all)

pub texts_again : (fill : ℤ) (texts : List (List ℕ)) → AreBytes texts → cells_bytes Char fill (text_cells texts) ≡ flat_map (filled_up (text_width texts)) texts
texts_again fill texts all = bytes_again fill (flat_map (filled_up (text_width texts)) texts) (rows_bytes (text_width texts) texts all)
