-- Lines of texts, and the texts of cells beside their mask.
use Rattle.std.proofs.Common.{◌≡◌, ◌==◌, Bor, ◌+◌, ◌*◌, ◌-◌, ◌/◌, ◌<◌, ◌≤◌, ℕ, ℤ, zero, suc, pos, Bool, true, false, List, [], ◌∷◌, ◌++◌, length, map, take, drop, zip, Option, Some, None, refl, sym, ap, ◌∙◌, arith, append_assoc}
use Rattle.std.specs.Prelude.{MatchOption, option_copied, codes, if◌then◌else◌}
use Rattle.std.proofs.lemmas.List.{take-map, drop-map}
use Rattle.std.specs.Fmt.{decimal, signed_decimal}
use Rattle.xr_types.specs.declared.kind.DType.{DType}
use Rattle.xr_types.specs.declared.kind.DType.TheVariants as kinds
use Rattle.xr_types.specs.declared.attr.NcType.{NcType}
use Rattle.xr_types.specs.declared.attr.NcType.TheVariants as types
use Rattle.xr_arrays.specs.Numbers.{cells_kind, is_whole}
use Rattle.xr_arrays.specs.declared.typed.Cells.{Cells}
use Rattle.xr_arrays.specs.declared.typed.Cells.TheVariants as kept
use Rattle.xr_arrays.specs.Arrays.{kind_of, wide, hidden}
use Rattle.xr_defs.specs.Text.{joined, cell_text, rows_text}
use Rattle.xr_print.specs.Pieces.{lines_text, grid_text, text_unless, texts_of, truth_of, shown, IsMaskOf}

-- ---- masks

zip-take : {X Y : Type 0} (n : ℕ) (xs : List X) (ys : List Y) → zip (take n xs) (take n ys) ≡ take n (zip xs ys)
zip-take zero xs ys = refl
zip-take (suc n) [] ys = refl
zip-take (suc n) (x ∷ xs) [] = refl
zip-take (suc n) (x ∷ xs) (y ∷ ys) = ap (λ t. (x, y) ∷ t) (zip-take n xs ys)

none_beside : {X Y : Type 0} (xs : List X) (ys : List Y) → ys ≡ [] → zip xs ys ≡ []
none_beside [] ys e = refl
none_beside (x ∷ xs) ys e = ap (zip (x ∷ xs)) e

zip-drop : {X Y : Type 0} (n : ℕ) (xs : List X) (ys : List Y) → zip (drop n xs) (drop n ys) ≡ drop n (zip xs ys)
zip-drop zero xs ys = refl
zip-drop (suc n) [] ys = refl
zip-drop (suc n) (x ∷ xs) [] = none_beside (drop n xs) _ refl
zip-drop (suc n) (x ∷ xs) (y ∷ ys) = zip-drop n xs ys

pub texts-take : {X : Type 0} (f : X → List ℕ) (n : ℕ) (xs : List X) (mask : List ℕ) → texts_of f (take n xs) (Some (take n mask)) ≡ take n (texts_of f xs (Some mask))
texts-take f n xs mask = ap (map (λ c. text_unless f c.0 c.1)) (zip-take n xs mask) ∙ sym (take-map (λ c. text_unless f c.0 c.1) n (zip xs mask))

pub texts-drop : {X : Type 0} (f : X → List ℕ) (n : ℕ) (xs : List X) (mask : List ℕ) → texts_of f (drop n xs) (Some (drop n mask)) ≡ drop n (texts_of f xs (Some mask))
texts-drop f n xs mask = ap (map (λ c. text_unless f c.0 c.1)) (zip-drop n xs mask) ∙ sym (drop-map (λ c. text_unless f c.0 c.1) n (zip xs mask))

-- ---- lines

pub one_line_more : (here behind all : List (List ℕ)) (out mid more whole : List ℕ) (n rows i : ℕ) → i < rows → here ≡ take n all → behind ≡ drop n all → mid ≡ out ++ joined (32 ∷ []) here → more ≡ mid ++ 10 ∷ []
    → out ++ lines_text (rows - i) n all ≡ whole → more ++ lines_text (rows - (i + 1)) n behind ≡ whole
one_line_more here behind all out mid more whole n rows i lt is_here is_behind is_mid is_more so_far =
    let k : rows - i ≡ suc (rows - (i + 1)) = omega arith in
    let line : List ℕ = joined (32 ∷ []) here in
    let after : List ℕ = lines_text (rows - (i + 1)) n behind in
    let one : lines_text (rows - i) n all ≡ line ++ (10 ∷ after) =
    ap (λ m. lines_text m n all) k ∙ ap (λ t. joined (32 ∷ []) t ++ (10 ∷ lines_text (rows - (i + 1)) n (drop n all))) (sym is_here)
    ∙ ap (λ t. line ++ (10 ∷ lines_text (rows - (i + 1)) n t)) (sym is_behind) in
    ap (λ m. m ++ after) (is_more ∙ ap (λ m. m ++ 10 ∷ []) is_mid)
    ∙ append_assoc (out ++ line) (10 ∷ []) after ∙ append_assoc out line (10 ∷ after) ∙ ap (λ t. out ++ t) (sym one) ∙ so_far

-- a row less is left
pub fewer : (rows i n len after : ℕ) → i < rows → after + n ≡ len → (rows - i) * n ≤ len → (rows - (i + 1)) * n ≤ after
fewer rows i n len after lt is_after le =
    let k : rows - i ≡ suc (rows - (i + 1)) = omega arith in
    let split : suc (rows - (i + 1)) * n ≡ n + (rows - (i + 1)) * n = grind arith in
    let e : (rows - i) * n ≡ n + (rows - (i + 1)) * n = ap (λ m. m * n) k ∙ split in
    omega arith

pub rows_are : (t : DType) (rows n : ℕ) (cells : List (Option ℤ)) → lines_text rows n (map (cell_text t) cells) ≡ rows_text t rows n cells
rows_are t zero n cells = refl
rows_are t (suc rows) n cells =
    ap (λ ts. joined (32 ∷ []) ts ++ (10 ∷ lines_text rows n (drop n (map (cell_text t) cells)))) (take-map (cell_text t) n cells)
    ∙ ap (λ ts. joined (32 ∷ []) (map (cell_text t) (take n cells)) ++ (10 ∷ lines_text rows n ts)) (drop-map (cell_text t) n cells)
    ∙ ap (λ text. joined (32 ∷ []) (map (cell_text t) (take n cells)) ++ (10 ∷ text)) (rows_are t rows n (drop n cells))

-- ---- typed cells

one_is : (t : DType) (n : ℤ) (text : List ℕ) (b : Bool) → cell_text t None ≡ codes "NA" → cell_text t (Some n) ≡ text → cell_text t (if b then Some n else None) ≡ (if b then text else codes "NA")
one_is t n text true none some = some
one_is t n text false none some = none

-- numbers that are kept as x, printed as f says
texts_are : {X : Type 0} (t : DType) (w : X → ℤ) (f : X → List ℕ) (xs : List X) (mask : Option (List ℕ)) → cell_text t None ≡ codes "NA" → ((x : X) → cell_text t (Some (w x)) ≡ f x) → map (cell_text t) (hidden (map w xs) mask) ≡ texts_of f xs mask
texts_are t w f [] None none same = refl
texts_are t w f (x ∷ xs) None none same = ap (λ y. y ∷ map (cell_text t) (hidden (map w xs) None)) (same x) ∙ ap (λ ts. f x ∷ ts) (texts_are t w f xs None none same)
texts_are t w f [] (Some m) none same = refl
texts_are t w f (x ∷ xs) (Some []) none same = refl
texts_are t w f (x ∷ xs) (Some (g ∷ m)) none same =
    ap (λ y. y ∷ map (cell_text t) (hidden (map w xs) (Some m))) (one_is t (w x) (f x) (g == 0) none (same x)) ∙ ap (λ ts. text_unless f x g ∷ ts) (texts_are t w f xs (Some m) none same)

themselves : (ns : List ℤ) → map (λ n. n) ns ≡ ns
themselves [] = refl
themselves (n ∷ ns) = ap (λ t. n ∷ t) (themselves ns)

signed : (t : DType) (ns : List ℤ) (mask : Option (List ℕ)) → cell_text t None ≡ codes "NA" → ((n : ℤ) → cell_text t (Some n) ≡ signed_decimal n) → texts_of signed_decimal ns mask ≡ map (cell_text t) (hidden ns mask)
signed t ns mask none same = sym (ap (λ xs. map (cell_text t) (hidden xs mask)) (sym (themselves ns)) ∙ texts_are t (λ n. n) signed_decimal ns mask none same)

pub shown_is : (cells : Cells) (mask : Option (List ℕ)) → shown cells mask ≡ map (cell_text (kind_of cells)) (hidden (wide cells) mask)
shown_is (kept.Bool v) mask = sym (texts_are kinds.Bool pos truth_of v mask refl (λ n. refl))
shown_is (kept.Char v) mask = sym (texts_are kinds.Char pos decimal v mask refl (λ n. refl))
shown_is (kept.Int8 v) mask = signed kinds.Int8 v mask refl (λ n. refl)
shown_is (kept.Int16 v) mask = signed kinds.Int16 v mask refl (λ n. refl)
shown_is (kept.Int32 v) mask = signed kinds.Int32 v mask refl (λ n. refl)
shown_is (kept.Int64 v) mask = signed kinds.Int64 v mask refl (λ n. refl)
shown_is (kept.UInt8 v) mask = sym (texts_are kinds.UInt8 pos decimal v mask refl (λ n. refl))
shown_is (kept.UInt16 v) mask = sym (texts_are kinds.UInt16 pos decimal v mask refl (λ n. refl))
shown_is (kept.UInt32 v) mask = sym (texts_are kinds.UInt32 pos decimal v mask refl (λ n. refl))
shown_is (kept.UInt64 v) mask = sym (texts_are kinds.UInt64 pos decimal v mask refl (λ n. refl))

-- ---- numbers without a sign, and the numbers of a list

pub decimals : (ns : List ℕ) → map decimal ns ≡ map signed_decimal (map pos ns)
decimals [] = refl
decimals (n ∷ ns) = ap (λ ts. decimal n ∷ ts) (decimals ns)

-- no type of a file is that of truth values
not_truths : (kind : NcType) → is_whole kind ≡ true → kinds.Bool ≡ cells_kind kind → ⊥
not_truths types.Byte whole e = absurd cc
not_truths types.Char whole e = absurd cc
not_truths types.Short whole e = absurd cc
not_truths types.Int whole e = absurd cc
not_truths types.Float whole e = absurd cc
not_truths types.Double whole e = absurd cc
not_truths types.UByte whole e = absurd cc
not_truths types.UShort whole e = absurd cc
not_truths types.UInt whole e = absurd cc
not_truths types.Int64 whole e = absurd cc
not_truths types.UInt64 whole e = absurd cc

-- cells that aren't truth values, as numbers
pub shown_numbers : (kind : NcType) (cells : Cells) → is_whole kind ≡ true → kind_of cells ≡ cells_kind kind → shown cells None ≡ map signed_decimal (wide cells)
shown_numbers kind (kept.Bool v) whole is = absurd (not_truths kind whole is)
shown_numbers kind (kept.Char v) whole is = decimals v
shown_numbers kind (kept.Int8 v) whole is = refl
shown_numbers kind (kept.Int16 v) whole is = refl
shown_numbers kind (kept.Int32 v) whole is = refl
shown_numbers kind (kept.Int64 v) whole is = refl
shown_numbers kind (kept.UInt8 v) whole is = decimals v
shown_numbers kind (kept.UInt16 v) whole is = decimals v
shown_numbers kind (kept.UInt32 v) whole is = decimals v
shown_numbers kind (kept.UInt64 v) whole is = decimals v

-- ---- an array's cells

hidden-length : (xs : List ℤ) (mask : Option (List ℕ)) → IsMaskOf (length xs) mask → length (hidden xs mask) ≡ length xs
hidden-length [] None fits = refl
hidden-length (x ∷ xs) None fits = ap suc (hidden-length xs None tt)
hidden-length [] (Some m) fits = refl
hidden-length (x ∷ xs) (Some []) fits = absurd (omega (arith, fits))
hidden-length (x ∷ xs) (Some (g ∷ m)) fits = ap suc (hidden-length xs (Some m) (omega (arith, fits)))

hidden_by : (all : List (Option ℤ)) (xs : List ℤ) (mask : Option (Bor (List ℕ))) → MatchOption mask (all ≡ hidden xs None) (λ m. all ≡ hidden xs (Some m.now)) → all ≡ hidden xs (option_copied mask)
hidden_by all xs None is = is
hidden_by all xs (Some m) is = is

pub mask_fits : (xs : List ℤ) (n : ℕ) (mask : Option (Bor (List ℕ))) → length xs ≡ n → MatchOption mask (length xs ≡ n) (λ m. length m.now ≡ n) → IsMaskOf (length xs) (option_copied mask)
mask_fits xs n None is fits = tt
mask_fits xs n (Some m) is fits = fits ∙ sym is

pub texts_shown : (t : DType) (all : List (Option ℤ)) (cells : Cells) (mask : Option (Bor (List ℕ))) → kind_of cells ≡ t → MatchOption mask (all ≡ hidden (wide cells) None) (λ m. all ≡ hidden (wide cells) (Some m.now)) → shown cells (option_copied mask) ≡ map (cell_text t) all
texts_shown t all cells mask is_kind is = shown_is cells (option_copied mask) ∙ ap (λ k. map (cell_text k) (hidden (wide cells) (option_copied mask))) is_kind ∙ ap (map (cell_text t)) (sym (hidden_by all (wide cells) mask is))

pub grid_shown : (t : DType) (all : List (Option ℤ)) (cells : Cells) (mask : Option (Bor (List ℕ))) (n size : ℕ) → kind_of cells ≡ t → MatchOption mask (all ≡ hidden (wide cells) None) (λ m. all ≡ hidden (wide cells) (Some m.now)) → length (wide cells) ≡ size
    → MatchOption mask (length (wide cells) ≡ size) (λ m. length m.now ≡ size) → grid_text n (length (wide cells)) (shown cells (option_copied mask)) ≡ rows_text t (length all / n) n all
grid_shown t all cells mask n size is_kind is long fits =
    let count : length (wide cells) ≡ length all = sym (ap length (hidden_by all (wide cells) mask is) ∙ hidden-length (wide cells) (option_copied mask) (mask_fits (wide cells) size mask long fits)) in
    ap (λ k. lines_text (k / n) n (shown cells (option_copied mask))) count ∙ ap (lines_text (length all / n) n) (texts_shown t all cells mask is_kind is) ∙ rows_are t (length all / n) n all
