-- What a node is computed to, and whether it fits, depends on its inputs alone.
use Rattle.std.proofs.Common.{◌≡◌, ◌<◌, ◌≤◌, ℕ, List, [], ◌∷◌, length, map, get_or, All, refl, sym, ap, subst, ◌∙◌}
use Rattle.std.proofs.lemmas.List.Elements.{All-head, All-tail}
use Rattle.xr_arrays.specs.declared.node.Node.{Node}
use Rattle.xr_arrays.specs.declared.node.Node.TheVariants.{Source, Take, Reorder, Widen, Unary, Binary, Choose, Fold, Scan, Concat, Chunk}
use Rattle.xr_arrays.specs.Arrays.{Array, IsCell}
use Rattle.xr_arrays.specs.Elements.{unary_of, binary_of, choose_of, result_kind, Gives, Suits}
use Rattle.xr_arrays.specs.Nodes.{node_of, FitsBy, AreFed, IsBelow, IsOrder, Continues, first_array, concatenated, taken_or_picked, reordered, widened, folded, scanned}
use Rattle.plan_core.specs.Needs.{inputs_of}

module _ (f g : ℕ → Array) where
  abbrev pub Same : ℕ → Type 0
  Same m = f m ≡ g m

  first : (m : ℕ) (ns : List ℕ) → All Same (m ∷ ns) → Same m
  first m ns h = All-head Same m ns h

  second : (m n : ℕ) (ns : List ℕ) → All Same (m ∷ n ∷ ns) → Same n
  second m n ns h = All-head Same n ns (All-tail Same m (n ∷ ns) h)

  third : (l m n : ℕ) → All Same (l ∷ m ∷ n ∷ []) → Same n
  third l m n h = second m n [] (All-tail Same l (m ∷ n ∷ []) h)

  map_same : (ns : List ℕ) → All Same ns → map f ns ≡ map g ns
  map_same [] h = refl
  map_same (n ∷ ns) h = ap (λ a. a ∷ map f ns) (first n ns h) ∙ ap (λ t. g n ∷ t) (map_same ns (All-tail Same n ns h))

  -- inputs of one value give the node one value
  pub node_same : (node : Node) → All Same (inputs_of node) → node_of f node ≡ node_of g node
  node_same (Source a) h = refl
  node_same (Take n axis from fill drops) h = ap (λ a. taken_or_picked drops a axis from fill) (first n [] h)
  node_same (Reorder n order) h = ap (λ a. reordered a order) (first n [] h)
  node_same (Widen n axis count) h = ap (λ a. widened a axis count) (first n [] h)
  node_same (Unary op kind n) h = ap (unary_of op kind) (first n [] h)
  node_same (Binary op m n) h = ap (λ (a : Array). binary_of op (result_kind op a.kind) a (f n)) (first m (n ∷ []) h) ∙ ap (binary_of op (result_kind op (g m).kind) (g m)) (second m n [] h)
  node_same (Choose c m n) h =
      ap (λ a. choose_of a (f m) (f n)) (first c (m ∷ n ∷ []) h) ∙ ap (λ a. choose_of (g c) a (f n)) (second c m (n ∷ []) h) ∙ ap (choose_of (g c) (g m)) (third c m n h)
  node_same (Fold k n feeds) h = ap (folded k feeds) (first n [] h)
  node_same (Scan k n axis) h = ap (λ a. scanned k a axis) (first n [] h)
  node_same (Concat ns axis) h = ap (λ bs. concatenated bs axis) (map_same ns h)
  node_same (Chunk n sizes) h = first n [] h

  -- and it fits in both plans
  pub fits_same : (i : ℕ) (node : Node) → All Same (inputs_of node) → FitsBy i f node → FitsBy i g node
  fits_same i (Source a) h fits = fits
  fits_same i (Take n axis from fill drops) h fits =
      let e = first n [] h in
      (fits.0, subst (λ (a : Array). axis < length a.shape) e fits.1, subst (λ (a : Array). All (IsBelow (get_or a.shape axis 0)) from) e fits.2, subst (λ (a : Array). IsCell a.kind fill) e fits.3, fits.4)
  fits_same i (Reorder n order) h fits = (fits.0, subst (λ (a : Array). IsOrder (length a.shape) order) (first n [] h) fits.1)
  fits_same i (Widen n axis count) h fits = (fits.0, subst (λ (a : Array). axis ≤ length a.shape) (first n [] h) fits.1)
  fits_same i (Unary op kind n) h fits = let e = first n [] h in (fits.0, fits.1, subst (λ (a : Array). Gives op kind a.kind) e fits.2, subst (λ (a : Array). Suits op a.kind) e fits.3)
  fits_same i (Binary op m n) h fits =
      let d = first m (n ∷ []) h in
      let e = second m n [] h in
      (fits.0, fits.1, fits.2, ap (λ (a : Array). a.shape) (sym e) ∙ fits.3 ∙ ap (λ (a : Array). a.shape) d, ap (λ (a : Array). a.kind) (sym e) ∙ fits.4 ∙ ap (λ (a : Array). a.kind) d, subst (λ (a : Array). Suits op a.kind) d fits.5)
  fits_same i (Choose c m n) h fits =
      let b = first c (m ∷ n ∷ []) h in
      let d = second c m (n ∷ []) h in
      let e = third c m n h in (
        fits.0,
        fits.1,
        fits.2,
        ap (λ (a : Array). a.kind) (sym b) ∙ fits.3,
        ap (λ (a : Array). a.shape) (sym b) ∙ fits.4 ∙ ap (λ (a : Array). a.shape) d,
        ap (λ (a : Array). a.shape) (sym e) ∙ fits.5 ∙ ap (λ (a : Array). a.shape) d,
        ap (λ (a : Array). a.kind) (sym e) ∙ fits.6 ∙ ap (λ (a : Array). a.kind) d,
      )
  fits_same i (Fold k n feeds) h fits = let e = first n [] h in (fits.0, subst (λ (a : Array). length feeds ≡ length a.shape) e fits.1, subst (λ (a : Array). AreFed feeds a.shape) e fits.2, fits.3)
  fits_same i (Scan k n axis) h fits = (fits.0, fits.1, subst (λ (a : Array). axis < length a.shape) (first n [] h) fits.2)
  fits_same i (Concat ns axis) h fits =
      let e : map f ns ≡ map g ns = map_same ns h in (
        fits.0,
        fits.1,
        subst (λ (bs : List Array). axis < length (first_array bs).shape) e fits.2,
        λ k d lt. subst (λ (b : Array). Continues axis (first_array (map g ns)) b) (h k d lt) (subst (λ (bs : List Array). Continues axis (first_array bs) (f (get_or ns k d))) e (fits.3 k d lt)),
      )
  fits_same i (Chunk n sizes) h fits = (fits.0, subst (λ (a : Array). length sizes ≡ length a.shape) (first n [] h) fits.1, fits.2)
