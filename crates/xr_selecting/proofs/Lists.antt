-- Lists of values and of positions, one after the other.
use Rattle.std.proofs.Common.{◌≡◌, ◌<◌, ◌+◌, ◌&&◌, ℕ, zero, suc, pos, None, List, [], ◌∷◌, ◌++◌, length, map, take, get_or, Bool, Ok, Err, refl, sym, ap, ◌∙◌, arith, add-zero}
use Rattle.std.specs.List.{list_all, range_with_len}
use Rattle.std.proofs.Math.Bool.{and-true, and_assoc}
use Rattle.std.proofs.lemmas.List.{take_more}
use Rattle.std.proofs.lemmas.List.FromFn.{get_or-range_with_len, length-range_with_len}
use Rattle.xr_types.specs.Results.{◌>>=◌}
use Rattle.xr_types.specs.declared.axis.Label.{Label}
use Rattle.xr_types.specs.declared.axis.LabelList.{LabelList}
use Rattle.xr_types.specs.declared.fault.Fault.{Fault}
use Rattle.xr_arrays.specs.declared.node.Node.{Node}
use Rattle.xr_defs.specs.Building as build
use Rattle.xr_defs.specs.Meanings as of
use Rattle.xr_defs.specs.Meanings.{Values, NoValue, With, Number, Slice}
use Rattle.xr_defs.specs.declared.slice.Part.TheVariants.{At}
use Rattle.xr_operations.specs.Selection.{as_label, as_labels, in_row, listed}
use Rattle.xr_values.specs.declared.value.Value.{Value}
use Rattle.xr_values.specs.Meaning.{meaning, values, all_values}
use Rattle.xr_values.proofs.Meaning.{all_more}
use Rattle.xr_arguments.proofs.Listed.{read_on, read_err}

-- ---- values that pass a test

all_from : (test : of.Value → Bool) (ws : Values) (vs : List of.Value) → build.all_values test (values ws vs) ≡ (build.all_values test ws && list_all test vs)
all_from test ws [] = sym (and-true (build.all_values test ws))
all_from test ws (v ∷ vs) = all_from test (With ws v) vs ∙ and_assoc (build.all_values test ws) (test v) (list_all test vs)

pub all_are : (test : of.Value → Bool) (nodes : List Node) (vs : List Value) → build.all_values test (all_values nodes vs) ≡ list_all test (map (meaning nodes) vs)
unfolding all_values
all_are test nodes vs = all_from test NoValue (map (meaning nodes) vs)

-- ---- labels

labels_more : (list : LabelList) (vs : Values) (v : of.Value) → as_labels list (With vs v) ≡ (as_labels list vs >>= λ ls. as_label list v >>= λ l. Ok (ls ++ l ∷ []))
unfolding as_labels
labels_more list vs v = refl

pub label_on : (list : LabelList) (nodes : List Node) (vs : List Value) (i : ℕ) (v : Value) (out new : List Label) (l : Label) → i < length vs → v ≡ get_or vs i v → as_labels list (all_values nodes (take i vs)) ≡ Ok out → as_label list (meaning nodes v) ≡ Ok l → new ≡ out ++ l ∷ []
    → as_labels list (all_values nodes (take (i + 1) vs)) ≡ Ok new
label_on list = read_on (as_labels list) (as_label list) (labels_more list)

pub label_err : (list : LabelList) (nodes : List Node) (vs : List Value) (i : ℕ) (v : Value) (out : List Label) (e : Fault) → i < length vs → v ≡ get_or vs i v → as_labels list (all_values nodes (take i vs)) ≡ Ok out → as_label list (meaning nodes v) ≡ Err e → as_labels list (all_values nodes vs) ≡ Err e
label_err list = read_err (as_labels list) (as_label list) (labels_more list)

-- ---- positions

pub listed_more : (ps : List ℕ) (p : ℕ) (vs : Values) → listed (ps ++ p ∷ []) vs ≡ With (listed ps vs) (Number (pos p))
listed_more [] p vs = refl
listed_more (q ∷ ps) p vs = listed_more ps p (With vs (Number (pos q)))

pub listed_on : (nodes : List Node) (vs new : List Value) (v : Value) (ps : List ℕ) (i : ℕ) → i < length ps → new ≡ vs ++ v ∷ [] → meaning nodes v ≡ Number (pos (get_or ps i 0))
    → all_values nodes vs ≡ listed (take i ps) NoValue → all_values nodes new ≡ listed (take (i + 1) ps) NoValue
listed_on nodes vs new v ps i lt pushed here so_far =
    ap (all_values nodes) pushed ∙ all_more nodes vs v ∙ ap (λ ws. With ws (meaning nodes v)) so_far ∙ ap (With (listed (take i ps) NoValue)) here
    ∙ sym (listed_more (take i ps) (get_or ps i 0) NoValue) ∙ ap (λ qs. listed qs NoValue) (sym (take_more ps i 0 lt))

-- positions in a row, from the first to the one behind the last
pub row_is : (first n : ℕ) → (n ≡ 0 → first ≡ 0) → in_row (range_with_len first n) ≡ Slice (At (pos first)) (At (pos (first + n))) None
row_is first zero none = sym (ap (λ k. Slice (At (pos k)) (At (pos (k + 0))) None) (none refl))
row_is first (suc n) none =
    ap (λ k. Slice (At (pos k)) (At (pos (k + length (range_with_len first (suc n))))) None) (get_or-range_with_len first (suc n) 0 0 (omega arith) ∙ add-zero first)
    ∙ ap (λ k. Slice (At (pos first)) (At (pos (first + k))) None) (length-range_with_len first (suc n))
