-- One array alone, after which no other stands.
use Rattle.std.proofs.Common.{◌≡◌, ◌<◌, ◌+◌, ◌-◌, ℕ, ℤ, zero, suc, List, [], ◌∷◌, length, map, drop, set, sum, get_or, None, refl, sym, ap, ◌∙◌, arith}
use Rattle.std.proofs.lemmas.List.{take_all}
use Rattle.xr_types.specs.declared.attr.NcType.{NcType}
use Rattle.xr_types.specs.Points.{size, tab, place, IsPoint}
use Rattle.xr_arrays.specs.Arrays.{Array, at}
use Rattle.xr_arrays.specs.Nodes.{along, end_to_end, concatenated, first_array}
use Rattle.plan_core.proofs.Tabs.{tab_same, tab_part}
use Rattle.plan_core.proofs.Joins.{when_below, sum_total}
use Rattle.plan_core.proofs.Blocks.{array}
use Rattle.row_concat.specs.Spelt.{AllSpell}
use Rattle.row_concat.proofs.Whole.{whole}

set_same : (s : List ℕ) (axis : ℕ) → set s axis (get_or s axis 0) ≡ s
set_same [] axis = refl
set_same (x ∷ s) zero = refl
set_same (x ∷ s) (suc k) = ap (λ t. x ∷ t) (set_same s k)

axis_in : (s : List ℕ) (axis : ℕ) (p : List ℕ) → axis < length s → IsPoint s p → get_or p axis 0 < get_or s axis 0
axis_in [] axis p lt inside = absurd (omega arith)
axis_in (x ∷ s) zero [] lt inside = absurd inside
axis_in (x ∷ s) zero (i ∷ p) lt inside = inside.0
axis_in (x ∷ s) (suc k) [] lt inside = absurd inside
axis_in (x ∷ s) (suc k) (i ∷ p) lt inside = axis_in s k p (omega arith) inside.1

one : (a : Array) (axis : ℕ) → axis < length a.shape → length a.cells ≡ size a.shape → a ≡ concatenated (a ∷ []) axis
one a axis lt long =
    let s : List ℕ = a.shape in
    let n = get_or s axis 0 in
    let f = λ (p : List ℕ). end_to_end (a ∷ []) axis p (get_or p axis 0) in
    let only : sum (n ∷ []) ≡ n = sum_total (n ∷ []) ∙ omega arith in
    let same : set s axis (sum (n ∷ [])) ≡ s = ap (set s axis) only ∙ set_same s axis in
    let each : (p : List ℕ) → IsPoint s p → f p ≡ get_or a.cells (0 + place s p) None = λ p inside.
    let i = get_or p axis 0 in
    let first : 0 + place s p ≡ place s p = omega arith in
    when_below i n (at a (along axis i p)) (end_to_end [] axis p (i - n)) (axis_in s axis p lt inside) ∙ ap (λ (q : List ℕ). at a q) (set_same p axis) ∙ sym (ap (λ k. get_or a.cells k None) first) in
    let cells : tab (set s axis (sum (n ∷ []))) f ≡ a.cells =
    ap (λ (t : List ℕ). tab t f) same ∙ tab_same s f (λ p. get_or a.cells (0 + place s p) None) each ∙ tab_part s 0 a.cells None (omega (arith, long)) ∙ take_all (size s) (drop 0 a.cells) (omega (arith, long)) in
    sym (ap (λ (t : List ℕ). array a.kind t (tab (set s axis (sum (n ∷ []))) f)) same ∙ ap (array a.kind s) cells)

pub alone : {B : Type 0} (now : B → Array) (xs : List B) (x : B) (axis : ℕ) (kind : NcType) (fills : List ℤ) (raws : List (List ℕ)) → length xs ≡ 1 → x ≡ get_or xs 0 x → axis < length (first_array (map now xs)).shape → AllSpell kind fills raws (map now xs) → now x ≡ concatenated (map now xs) axis
alone now [] x axis kind fills raws one_is is lt spell = absurd (omega arith)
alone now (y ∷ []) x axis kind fills [] one_is is lt spell = absurd spell
alone now (y ∷ []) x axis kind fills (raw ∷ raws) one_is is lt spell = ap now is ∙ one (now y) axis lt (whole kind fills raw (now y) spell.0)
alone now (y ∷ (z ∷ xs)) x axis kind fills raws one_is is lt spell = absurd (omega arith)
