-- Axes that keep their names and sizes, and what stands over them.
use Rattle.xr_parts.proofs.Common.{All, All-weaker, AreCells, Axis, Bool, Coord, IsContent, IsCoordinate, IsNodeOf, IsThere, IsVariable, List, Node, Variable, [], among, ap, are_distinct, axis_called, axis_names, bytes_eq, bytes_eq_swap, cond, false, map, refl, shape_over, subst, sym, true, ℕ, ◌||◌, ◌∙◌, ◌∷◌, ◌≡◌}
use Rattle.xr_defs.specs.Values as of
use Rattle.xr_parts.proofs.Words.{AreAmong, each_map}
use Rattle.xr_parts.proofs.Axes.{called_cons}

-- ---- each is changed

module _ (f : Axis → Axis) (keeps_name : (x : Axis) → (f x).name ≡ x.name) (keeps_size : (x : Axis) → (f x).size ≡ x.size) where
  pub names_kept : (axes : List Axis) → axis_names (map f axes) ≡ axis_names axes
  names_kept [] = refl
  names_kept (x ∷ axes) = ap (λ n. n ∷ axis_names (map f axes)) (keeps_name x) ∙ ap (λ ns. x.name ∷ ns) (names_kept axes)

  pub sizes_kept : (axes : List Axis) → shape_over (map f axes) ≡ shape_over axes
  sizes_kept [] = refl
  sizes_kept (x ∷ axes) = ap (λ n. n ∷ shape_over (map f axes)) (keeps_size x) ∙ ap (λ ns. x.size ∷ ns) (sizes_kept axes)

  pub called_kept : (axes : List Axis) (n : List ℕ) → among (axis_names axes) n ≡ true → axis_called (map f axes) n ≡ f (axis_called axes n)
  called_kept [] n has = absurd cc
  called_kept (x ∷ axes) n has =
      called_cons (f x) (map f axes) n ∙ ap (λ m. cond (bytes_eq m n) (f x) (axis_called (map f axes) n)) (keeps_name x) ∙ by (bytes_eq x.name n) (ap (λ b. b || among (axis_names axes) n) (bytes_eq_swap x.name n) ∙ has) (called_kept axes n)
      ∙ sym (ap f (called_cons x axes n))
    where
      by : (b : Bool) → (b || among (axis_names axes) n) ≡ true → (among (axis_names axes) n ≡ true → axis_called (map f axes) n ≡ f (axis_called axes n)) → cond b (f x) (axis_called (map f axes) n) ≡ f (cond b x (axis_called axes n))
      by true e rest = refl
      by false e rest = rest e

  there_kept : (axes : List Axis) (x : Axis) → IsThere axes x → IsThere (map f axes) (f x)
  there_kept axes x is =
      (ap (among (axis_names (map f axes))) (keeps_name x) ∙ ap (λ ns. among ns x.name) (names_kept axes) ∙ is.0, ap (axis_called (map f axes)) (keeps_name x) ∙ called_kept axes x.name is.0 ∙ ap f is.1)

  pub coord_kept : (axes : List Axis) (c : Coord) → IsCoordinate axes c → IsCoordinate (map f axes) (record c { axes = map f c.axes })
  coord_kept axes c is =
      record {
        name = is.name;
        over = each_map (IsThere axes) (IsThere (map f axes)) f c.axes (there_kept axes) is.over;
        distinct = ap are_distinct (names_kept c.axes) ∙ is.distinct;
        attrs = is.attrs;
        content = subst (λ s. IsContent s c.content) (sym (sizes_kept c.axes)) is.content;
      }

-- ---- the same sizes by the same names

pub size_alike : (xs ys : List Axis) → axis_names xs ≡ axis_names ys → shape_over xs ≡ shape_over ys → (d : List ℕ) → (axis_called xs d).size ≡ (axis_called ys d).size
size_alike [] [] names sizes d = refl
size_alike [] (y ∷ ys) names sizes d = absurd cc
size_alike (x ∷ xs) [] names sizes d = absurd cc
size_alike (x ∷ xs) (y ∷ ys) names sizes d =
    let name : x.name ≡ y.name = cc in
    let here : x.size ≡ y.size = cc in
    let rest_names : axis_names xs ≡ axis_names ys = cc in
    let rest_sizes : shape_over xs ≡ shape_over ys = cc in
    ap (λ (z : Axis). z.size) (called_cons x xs d) ∙ ap (λ m. (cond (bytes_eq m d) x (axis_called xs d)).size) name ∙ by (bytes_eq y.name d) here (size_alike xs ys rest_names rest_sizes d) ∙ sym (ap (λ (z : Axis). z.size) (called_cons y ys d))
  where
    by : (b : Bool) → x.size ≡ y.size → (axis_called xs d).size ≡ (axis_called ys d).size → (cond b x (axis_called xs d)).size ≡ (cond b y (axis_called ys d)).size
    by true here rest = here
    by false here rest = rest

module _ (xs ys : List Axis) (names : axis_names xs ≡ axis_names ys) (sizes : shape_over xs ≡ shape_over ys) where
  pub shapes_alike : (dims : List (List ℕ)) → map (λ d. (axis_called xs d).size) dims ≡ map (λ d. (axis_called ys d).size) dims
  shapes_alike [] = refl
  shapes_alike (d ∷ ds) = ap (λ n. n ∷ map (λ d. (axis_called xs d).size) ds) (size_alike xs ys names sizes d) ∙ ap (λ ns. (axis_called ys d).size ∷ ns) (shapes_alike ds)

  pub var_alike : (v : of.Variable) → IsVariable ys v → IsVariable xs v
  var_alike v one =
      record {
        name = one.name;
        over = subst (λ ns. AreAmong ns v.dims) (sym names) one.over;
        distinct = one.distinct;
        attrs = one.attrs;
        cells = subst (λ s. AreCells s v.kind v.masked v.cells) (sym (shapes_alike v.dims)) one.cells;
      }

  pub nodes_alike : (nodes : List Node) (vs : List Variable) → All (λ (v : Variable). IsNodeOf nodes v.node (map (λ d. (axis_called ys d).size) v.dims) v.kind) vs → All (λ (v : Variable). IsNodeOf nodes v.node (map (λ d. (axis_called xs d).size) v.dims) v.kind) vs
  nodes_alike nodes vs =
      All-weaker (λ (v : Variable). IsNodeOf nodes v.node (map (λ d. (axis_called ys d).size) v.dims) v.kind) (λ (v : Variable). IsNodeOf nodes v.node (map (λ d. (axis_called xs d).size) v.dims) v.kind)
      (λ v. subst (λ t. IsNodeOf nodes v.node t v.kind) (sym (shapes_alike v.dims))) vs
