-- Arrays all of whose cells are one cell: that of a source without axes, to which axes were added.
use Rattle.std.specs.Prelude.{◌≡◌, ℕ, zero, suc, List, [], ◌∷◌, get_or, Option, Some, None, All}
use Rattle.std.specs.Option.{option_or}
use Rattle.xr_arrays.specs.declared.node.Node.{Node}
use Rattle.xr_arrays.specs.declared.node.Node.TheVariants.{Source, Take, Reorder, Widen, Unary, Binary, Choose, Fold, Scan, Concat, Chunk}
use Rattle.xr_arrays.specs.Arrays.{Array, IsArray}
use Rattle.plan_core.specs.Needs.{source_at}

-- the node to which an axis is added
abbrev pub widens : Node → Option ℕ
widens (Source a) = None
widens (Take n axis from fill drops) = None
widens (Reorder n order) = None
widens (Widen n axis count) = Some n
widens (Unary op kind n) = None
widens (Binary op m n) = None
widens (Choose c m n) = None
widens (Fold k n feeds) = None
widens (Scan k n axis) = None
widens (Concat ns axis) = None
widens (Chunk n sizes) = None

abbrev pub widens_at : List Node → ℕ → Option ℕ
widens_at [] i = None
widens_at (node ∷ nodes) zero = widens node
widens_at (node ∷ nodes) (suc i) = widens_at nodes i

abbrev pub one_cell : Array → List ℕ → Option Array
one_cell a [] = Some a
one_cell a (n ∷ ns) = None

abbrev pub without_axes : Option Array → Option Array
without_axes None = None
without_axes (Some a) = one_cell a a.shape

abbrev pub found : Option ℕ → (ℕ → Option Array) → Option Array
found None f = None
found (Some n) f = f n

-- the source whose cell the cells of a node are, found in so many steps
abbrev pub spread : ℕ → List Node → ℕ → Option Array
spread zero nodes m = None
spread (suc k) nodes m = found (widens_at nodes m) (λ n. option_or (without_axes (source_at nodes n)) (spread k nodes n))

pub record IsSpread (v a : Array) : Type 0 where
  pub array : IsArray a
  pub kind : v.kind ≡ a.kind
  pub flat : a.shape ≡ []
  pub cells : All (λ x. x ≡ get_or a.cells 0 None) v.cells
