-- A variable that was checked, with its values.
use Rattle.std.proofs.Common.{◌≡◌, ◌==◌, ℕ, ℤ, pos, Bool, true, false, cond, List, [], ◌∷◌, ◌++◌, map, Option, Some, None, refl, sym, ap, ◌∙◌, All}
use Rattle.std.specs.Prelude.{◌&&◌, ◌||◌, not, unwrap_or, flat_map, is_some, Ok, Err}
use Rattle.std.specs.List.{list_all}
use Rattle.std.proofs.lemmas.List.Elements.{All-cons, All-head, All-nil, All-tail}
use Rattle.xr_types.specs.declared.kind.DType.TheVariants as kinds
use Rattle.xr_types.specs.declared.attr.NcType.{NcType}
use Rattle.xr_types.specs.declared.attr.NcType.TheVariants.{Char}
use Rattle.xr_types.specs.declared.fault.Fault.TheVariants.{CannotHold}
use Rattle.xr_files.specs.declared.file.CdfDim.{CdfDim}
use Rattle.xr_files.specs.declared.file.CdfVar.{CdfVar}
use Rattle.xr_defs.specs.declared.write_options.WriteOptions.{WriteOptions}
use Rattle.xr_types.specs.Results.{◌>>=◌, unless}
use Rattle.xr_defs.specs.Encoding.{Stored, holds_cell, classic_type, own_type, type_of, fill_for, check_fill, check_fit, check_cells, text_cells, text_width, filled_up, var_of, value_bytes}
use Rattle.xr_encode.specs.declared.outline.Outline.{Outline}
use Rattle.xr_encode.specs.Outlines.{filled_with, without_cells, outline_of}
use Rattle.xr_encode.specs.Rows.{number_or, cells_bytes}
use Rattle.xr_encode.specs.Texts.{AreBytes}
use Rattle.xr_encode.specs.Walk.{var_with, written_bytes, cells_if, var_checked}
use Rattle.xr_encode.proofs.Bytes.{texts_hold, texts_again}

-- ---- where no cell may be missing

two_pass : {E : Type 0} (masked a b : Bool) (e f : E) → masked ≡ false → (unless (not (masked && a && b)) e >>= λ u. unless (not masked || b) f) ≡ Ok tt
unfolding unless
two_pass true a b e f m = cc
two_pass false a b e f m = refl

fit_by : {E : Type 0} (masked a b c d : Bool) (e f : E) → masked ≡ false → (unless (not (masked && a && b) || c) e >>= λ u. unless (not masked || d) f) ≡ Ok tt
unfolding unless
fit_by true a b c d e f m = cc
fit_by false a b c d e f m = refl

pub plain_fit : (options : WriteOptions) (o : Stored) → o.masked ≡ false → check_fit options o ≡ Ok tt
unfolding check_fit
plain_fit options o m = fit_by o.masked _ _ _ _ _ _ m

check_by : {E : Type 0} (masked a b : Bool) (e f : E) → masked ≡ false → (unless a e >>= λ u. unless (not (masked && b)) f) ≡ unless a e
unfolding unless
check_by true a b e f m = cc
check_by false true b e f m = refl
check_by false false b e f m = refl

pub plain_check : (options : WriteOptions) (o : Stored) → o.masked ≡ false → check_cells options o ≡ unless (list_all (holds_cell (type_of options.version o.kind)) o.cells) CannotHold
unfolding check_cells
plain_check options o m = check_by o.masked _ _ _ _ m

ok_where : {E : Type 0} (a : Bool) (e : E) → a ≡ true → unless a e ≡ Ok tt
unfolding unless
ok_where true e h = refl
ok_where false e h = cc

err_where : {E : Type 0} (a : Bool) (e : E) → a ≡ false → unless a e ≡ Err e
unfolding unless
err_where true e h = cc
err_where false e h = refl

-- ---- what is told of a variable

pub told_fault : (small : Bool) (dims : List CdfDim) (options : WriteOptions) (o : Outline) (cells : List (Option ℤ)) → o.masked ≡ false → list_all (holds_cell (type_of options.version o.kind)) cells ≡ false → var_checked small dims options (filled_with cells o) ≡ Err CannotHold
unfolding var_checked
told_fault small dims options o cells m h = ap (λ r. r >>= λ u. Ok (var_of dims options (cells_if small (filled_with cells o)))) (plain_check options (filled_with cells o) m ∙ err_where _ CannotHold h)

told : (small : Bool) (dims : List CdfDim) (options : WriteOptions) (o : Outline) (cells : List (Option ℤ)) → o.masked ≡ false → list_all (holds_cell (type_of options.version o.kind)) cells ≡ true → var_checked small dims options (filled_with cells o) ≡ Ok (var_of dims options (cells_if small (filled_with cells o)))
unfolding var_checked
told small dims options o cells m h = ap (λ r. r >>= λ u. Ok (var_of dims options (cells_if small (filled_with cells o)))) (plain_check options (filled_with cells o) m ∙ ok_where _ CannotHold h)

pub told_unwritten : (small : Bool) (dims : List CdfDim) (options : WriteOptions) (o : Outline) (cells : List (Option ℤ)) (v : CdfVar) (raw : List ℕ) → small ≡ false → o.masked ≡ false → list_all (holds_cell (type_of options.version o.kind)) cells ≡ true → raw ≡ [] → v ≡ var_with dims options o raw
    → var_checked small dims options (filled_with cells o) ≡ Ok v
told_unwritten small dims options o cells v raw s m h none is =
    told small dims options o cells m h ∙ ap (λ b. Ok (var_of dims options (cells_if b (filled_with cells o)))) s ∙ sym (ap Ok (is ∙ ap (var_with dims options o) none))

pub told_written : (small : Bool) (dims : List CdfDim) (options : WriteOptions) (o : Outline) (cells : List (Option ℤ)) (v : CdfVar) (raw : List ℕ) → small ≡ true → o.masked ≡ false → list_all (holds_cell (type_of options.version o.kind)) cells ≡ true → raw ≡ written_bytes options (filled_with cells o)
    → v ≡ var_with dims options o raw → var_checked small dims options (filled_with cells o) ≡ Ok v
told_written small dims options o cells v raw s m h bytes is =
    told small dims options o cells m h ∙ ap (λ b. Ok (var_of dims options (cells_if b (filled_with cells o)))) s ∙ sym (ap Ok (is ∙ ap (var_with dims options o) bytes))

-- ---- bytes of cells and of texts

pub all_seen : (ns : List ℤ) → All (λ c. is_some c ≡ true) (map Some ns)
all_seen [] = All-nil (λ c. is_some c ≡ true)
all_seen (n ∷ ns) = All-cons (λ c. is_some c ≡ true) (Some n) (map Some ns) refl (all_seen ns)

same_number : (f g : ℤ) (c : Option ℤ) → is_some c ≡ true → number_or f c ≡ number_or g c
same_number f g None seen = cc
same_number f g (Some n) seen = refl

-- where no cell is missing, no number stands for one
same_bytes : (t : NcType) (f g : ℤ) (cells : List (Option ℤ)) → All (λ c. is_some c ≡ true) cells → cells_bytes t f cells ≡ cells_bytes t g cells
same_bytes t f g [] seen = refl
same_bytes t f g (c ∷ cells) seen =
    ap (λ n. value_bytes t n ++ cells_bytes t f cells) (same_number f g c (All-head (λ c. is_some c ≡ true) c cells seen)) ∙ ap (λ l. value_bytes t (number_or g c) ++ l) (same_bytes t f g cells (All-tail (λ c. is_some c ≡ true) c cells seen))

pub seen_written : (options : WriteOptions) (o : Outline) (cells : List (Option ℤ)) → All (λ c. is_some c ≡ true) cells → cells_bytes (type_of options.version o.kind) (pos 0) cells ≡ written_bytes options (filled_with cells o)
seen_written options o cells seen = same_bytes (type_of options.version o.kind) (pos 0) (unwrap_or (fill_for options (without_cells o)) (pos 0)) cells seen

pub cells_written : (options : WriteOptions) (o : Outline) (t : NcType) (fill : ℤ) (cells : List (Option ℤ)) → t ≡ type_of options.version o.kind → fill ≡ unwrap_or (fill_for options (without_cells o)) (pos 0)
    → cells_bytes t fill cells ≡ written_bytes options (filled_with cells o)
cells_written options o t fill cells k is = ap (λ u. cells_bytes u fill cells) k ∙ ap (λ f. cells_bytes (type_of options.version o.kind) f cells) is

char_by : (b : Bool) → (cond b (own_type kinds.Char) (classic_type kinds.Char)) ≡ Char
char_by true = refl
char_by false = refl

-- each version writes texts as char
char_is : (options : WriteOptions) (o : Outline) → o.kind ≡ kinds.Char → type_of options.version o.kind ≡ Char
char_is options o k = ap (type_of options.version) k ∙ char_by (options.version == 5)

pub texts_checked : (options : WriteOptions) (o : Outline) (texts : List (List ℕ)) → o.kind ≡ kinds.Char → AreBytes texts → list_all (holds_cell (type_of options.version o.kind)) (text_cells texts) ≡ true
texts_checked options o texts k bytes = ap (λ t. list_all (holds_cell t) (text_cells texts)) (char_is options o k) ∙ texts_hold texts bytes

pub texts_written : (options : WriteOptions) (o : Outline) (texts : List (List ℕ)) → o.kind ≡ kinds.Char → AreBytes texts → flat_map (filled_up (text_width texts)) texts ≡ written_bytes options (filled_with (text_cells texts) o)
texts_written options o texts k bytes =
    let fill : ℤ = unwrap_or (fill_for options (without_cells o)) (pos 0) in
    sym (ap (λ t. cells_bytes t fill (text_cells texts)) (char_is options o k) ∙ texts_again fill texts bytes)

-- the check of fill numbers looks at no cells
pub same_fit : (options : WriteOptions) (o : Stored) → check_fit options (without_cells (outline_of o)) ≡ check_fit options o
unfolding check_fit
same_fit options o = refl

pub same_fill : (options : WriteOptions) (o : Stored) → check_fill options (without_cells (outline_of o)) ≡ check_fill options o
unfolding check_fill
same_fill options o = refl
