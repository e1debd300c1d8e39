-- What operations on each cell of lists are for the arrays whose cells they are.
use Rattle.std.proofs.Common.{◌≡◌, ℕ, ℤ, List, map, Option, None, refl, sym, ap, subst, ◌∙◌}
use Rattle.std.specs.List.{zip}
use Rattle.xr_types.specs.declared.kind.DType.{DType}
use Rattle.xr_types.specs.declared.operation.OpKind.{OpKind}
use Rattle.xr_types.specs.Points.{tab}
use Rattle.xr_arrays.specs.Arrays.{Array, at, IsArray}
use Rattle.xr_arrays.specs.Elements.{elem, choose, unary_of, binary_of, choose_of, unary_kind, result_kind}
use Rattle.plan_core.proofs.Tabs.{tab-map, tab-zip, tab_read}

-- ---- arrays by their points

combined : {X Y Z : Type 0} (g : X → Y → Z) (s : List ℕ) (f : List ℕ → X) (h : List ℕ → Y) → map (λ c. g c.0 c.1) (zip (tab s f) (tab s h)) ≡ tab s (λ p. g (f p) (h p))
combined g s f h = ap (map (λ c. g c.0 c.1)) (tab-zip s f h) ∙ tab-map (λ c. g c.0 c.1) s (λ p. (f p, h p))

-- the cells by their points
by_points : (a : Array) (s : List ℕ) → IsArray a → a.shape ≡ s → a.cells ≡ tab s (at a)
by_points a s is same = subst (λ (t : List ℕ). a.cells ≡ tab t (at a)) same (sym (tab_read a.shape a.cells None is.whole))

pub unary_cells : (op : OpKind) (kind : DType) (a : Array) (xs : List (Option ℤ)) → IsArray a → xs ≡ a.cells → map (λ x. elem op (unary_kind op kind a.kind) x None) xs ≡ (unary_of op kind a).cells
unary_cells op kind a xs is same = ap (map (λ x. elem op (unary_kind op kind a.kind) x None)) (same ∙ by_points a a.shape is refl) ∙ tab-map (λ x. elem op (unary_kind op kind a.kind) x None) a.shape (at a)

pub binary_cells : (op : OpKind) (t : DType) (a b : Array) (xs ys : List (Option ℤ)) → IsArray a → IsArray b → b.shape ≡ a.shape → t ≡ a.kind → xs ≡ a.cells → ys ≡ b.cells → map (λ c. elem op t c.0 c.1) (zip xs ys) ≡ (binary_of op (result_kind op a.kind) a b).cells
binary_cells op t a b xs ys is also shape kind same same_b =
    (λ i. map (λ c. elem op (kind i) c.0 c.1) (zip ((same ∙ by_points a a.shape is refl) i) ((same_b ∙ by_points b a.shape also shape) i))) ∙ combined (elem op a.kind) a.shape (at a) (at b)

pub choose_is : (c a b : Array) (cs xs ys : List (Option ℤ)) → IsArray c → IsArray a → IsArray b → c.shape ≡ a.shape → b.shape ≡ a.shape → cs ≡ c.cells → xs ≡ a.cells → ys ≡ b.cells
    → map (λ t. choose t.0 t.1.0 t.1.1) (zip cs (zip xs ys)) ≡ (choose_of c a b).cells
choose_is c a b cs xs ys test is also tests shape same_c same same_b =
    let s : List ℕ = a.shape in
    (λ i. map (λ t. choose t.0 t.1.0 t.1.1) (zip ((same_c ∙ by_points c s test tests) i) (zip ((same ∙ by_points a s is refl) i) ((same_b ∙ by_points b s also shape) i))))
    ∙ ap (λ ps. map (λ t. choose t.0 t.1.0 t.1.1) (zip (tab s (at c)) ps)) (tab-zip s (at a) (at b))
    ∙ combined (λ t p. choose t p.0 p.1) s (at c) (λ p. (at a p, at b p))
