-- An array with an operation of each of its cells and a number.
use Rattle.xr_formulas.proofs.Common.{AreAttributes, Array, Attr, Axis, Bool, Chain, ChainFits, DType, DataArray, Fills, FormulaFits, InRange, IsArrayIn, IsCell, IsOver, IsPoint, Left, List, Makes, Match, Node, OpKind, Option, Placed, Right, Side, Some, Suits, [], ap, arith, array_in, at, beside, chain_cells, chain_value, elem, elem_of_two, formula_beside, formula_cells, formula_value, length, length-map, like, literal, made, paired, placed_cell, placed_on, refl, result_kind, shape_over, size, span, span_above, subst, sym, tab, tab_same, takes_two, true, ℕ, ℤ, ◌*◌, ◌+◌, ◌∙◌, ◌≡◌, ◌≤◌}
use Rattle.xr_formulas.specs.declared.made.Formula.{Formula}
use Rattle.xr_formulas.specs.declared.made.Formula.TheVariants.{Two}
use Rattle.xr_formulas.proofs.Cells.{cell_in, cell_seen, cells_made}
use Rattle.xr_formulas.proofs.Changes.{like_makes, own_span}
use Rattle.xr_formulas.proofs.Points.{made_at}
use Rattle.xr_formulas.proofs.Spread.{literal_cells, literal_fits, literal_is, spread}

pub some_span : (axes : List Axis) → 1 ≤ span axes
some_span axes = span_above (λ n. 0) [] axes refl (λ n e. absurd cc) (λ n. omega arith)

-- the operation gives a cell of its kind
placed_in : (side : Side) (op : OpKind) (t : DType) (x : Option ℤ) (n : ℤ) → takes_two op ≡ true → InRange t n → IsCell t x → IsCell (result_kind op t) (beside side op t x n)
placed_in Left op t x n two range is = elem_of_two op t (Some n) x two range is
placed_in Right op t x n two range is = elem_of_two op t x (Some n) two is range

pub few_axes : (nodes : List Node) (a : DataArray) → IsArrayIn nodes a → length a.axes ≤ 16
few_axes nodes a is = let long = length-map a.axes (λ (y : Axis). y.size) in let low = is.formed.cells.low_rank in omega arith

module _ (nodes : List Node) (a : DataArray) (cells : Chain) (t : DType) (p : Placed) (masked : Bool) (attrs : List Attr) (own_cells : List (Option ℤ))
    (two : takes_two p.op ≡ true) (suits : Suits p.op t) (range : InRange t p.number) (fills : Fills t p masked a.masked)
    (is : IsArrayIn nodes a) (over : IsOver nodes (array_in nodes a) t own_cells cells) (are : AreAttributes attrs) where
  abbrev s : List ℕ
  s = shape_over a.axes

  abbrev over_shape : DType → List (Option ℤ) → Array
  over_shape kind cs = record { kind = kind; shape = s; cells = cs }

  abbrev own : Array
  own = over_shape t own_cells

  abbrev number : Chain
  number = literal a.axes t p.number

  abbrev numbers : Array
  numbers = spread t p.number s

  abbrev kind : DType
  kind = result_kind p.op t

  number_at : (q : List ℕ) → IsPoint s q → at numbers q ≡ Some p.number
  number_at q here = made_at t s (λ r. Some p.number) q here

  -- a formula that a plan takes, with this value, and its cells within the array's room
  abbrev Forms : Formula → Array → Type 0
  Forms f v = FormulaFits nodes f × (formula_value nodes f ≡ v) × (formula_cells nodes f ≤ 256 * span a.axes)

  pair : (c d : Chain) (xs ys : List (Option ℤ)) → ChainFits nodes c → ChainFits nodes d → chain_value nodes c ≡ over_shape t xs → chain_value nodes d ≡ over_shape t ys → chain_cells nodes c + chain_cells nodes d ≤ 17 * size s + 1
      → Forms (Two p.op c d) (paired p.op (over_shape t xs) (over_shape t ys))
  pair c d xs ys c_fits d_fits c_is d_is few =
      let match : Match p.op (over_shape t xs) (over_shape t ys) = record { op_of = two; shape = refl; kind = refl; suits = suits; small = let most = is.formed.cells.few in omega arith; low_rank = is.formed.cells.low_rank } in
      let up = own_span (array_in nodes a) is.formed in
      let some = some_span a.axes in
      let points = ap (λ (v : Array). size v.shape) c_is in
      let fits = subst (λ v. Match p.op v (chain_value nodes d)) (sym c_is) (subst (Match p.op (over_shape t xs)) (sym d_is) match) in
      let value_is = ap (λ v. paired p.op v (chain_value nodes d)) c_is ∙ ap (paired p.op (over_shape t xs)) d_is in
      ((c_fits, d_fits, fits), value_is, omega arith)

  number_fits : ChainFits nodes number
  number_fits = literal_fits t p.number nodes a.axes range is.formed.cells.few (few_axes nodes a is)

  number_is : chain_value nodes number ≡ numbers
  number_is = literal_is t p.number nodes a.axes

  few : chain_cells nodes cells + chain_cells nodes number ≤ 17 * size s + 1
  few = let one = over.few in let other = literal_cells t p.number nodes a.axes (few_axes nodes a is) in omega arith

  by : (side : Side) → Forms (formula_beside side p.op cells number) (made kind s (λ q. beside side p.op t (at own q) p.number))
  by Right =
      let both = pair cells number own_cells numbers.cells over.fits number_fits over.is number_is few in
      (both.0, both.1 ∙ ap (over_shape kind) (tab_same s (λ q. elem p.op t (at own q) (at numbers q)) (λ q. elem p.op t (at own q) (Some p.number)) (λ q here. ap (elem p.op t (at own q)) (number_at q here))), both.2)
  by Left =
      let both = pair number cells numbers.cells own_cells number_fits over.fits number_is over.is (omega (arith, few)) in
      (both.0, both.1 ∙ ap (over_shape kind) (tab_same s (λ q. elem p.op t (at numbers q) (at own q)) (λ q. elem p.op t (Some p.number) (at own q)) (λ q here. ap (λ x. elem p.op t x (at own q)) (number_at q here))), both.2)

  pub beside_makes : Makes nodes (placed_on t p masked attrs own_cells (array_in nodes a)) (like a kind masked attrs (formula_beside p.side p.op cells number))
  beside_makes =
      let made_by = by p.side in
      let whole = cells_made s kind masked (λ q. placed_cell t p (at own q)) over.whole.low_rank over.whole.few
      (λ q here. placed_in p.side p.op t (at own q) p.number two range (cell_in s t a.masked own_cells over.whole q here))
      (λ plain q here. fills plain (at own q) (λ whole. cell_seen s t a.masked own_cells over.whole whole q here)) in
      like_makes nodes a is kind masked attrs are (formula_beside p.side p.op cells number) (tab s (λ q. placed_cell t p (at own q))) made_by.0 made_by.1 whole made_by.2
