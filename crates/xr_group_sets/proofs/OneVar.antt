-- A variable of a dataset that is grouped is an array over its own axes that is grouped.
use Rattle.std.proofs.Common.{◌≡◌, ℕ, ℤ, Bool, true, false, cond, List, [], ◌∷◌, map, Option, refl, sym, ap, subst, ◌∙◌}
use Rattle.std.specs.Str.{bytes_eq}
use Rattle.std.proofs.lemmas.Bool.{or_parts}
use Rattle.std.proofs.lemmas.List.{append-nil}
use Rattle.xr_types.specs.Names.{among, are_distinct, axis_names, shape_over}
use Rattle.xr_types.specs.declared.axis.Axis.{Axis}
use Rattle.xr_types.specs.declared.operation.FoldKind.{FoldKind}
use Rattle.xr_arrays.specs.declared.node.Feed.{Feed}
use Rattle.xr_arrays.specs.declared.node.Node.{Node}
use Rattle.xr_arrays.specs.Arrays.{Array}
use Rattle.xr_arrays.specs.Folds.{folded_kind}
use Rattle.xr_arrays.specs.Nodes.{value}
use Rattle.xr_defs.specs.Parts.{axes_called}
use Rattle.xr_defs.specs.Values as of
use Rattle.xr_defs.specs.Values.{array_of, without_fills}
use Rattle.xr_defs.specs.WellFormed.{AreCells, AreDimensions, IsDataArray, IsVariable}
use Rattle.xr_operations.specs.Reductions.{size_called}
use Rattle.xr_values.specs.declared.data_array.DataArray.{DataArray}
use Rattle.xr_values.specs.declared.variable.Variable.{Variable}
use Rattle.xr_values.specs.Stands.{array_in, variable_in, IsArrayIn, IsNodeOf}
use Rattle.xr_formulas.specs.Mades.{IsArrayOf}
use Rattle.xr_parts.proofs.Axes.{named_again, sizes_again}
use Rattle.xr_parts.proofs.Words.{AreAmong}
use Rattle.xr_reducing.proofs.Reduced.{attrs_left}
use Rattle.xr_groups.specs.declared.change.Change.{Change}
use Rattle.xr_groups.specs.declared.change.Least.{Least}
use Rattle.xr_groups.specs.Listed.{axes_by, axis_by, dim_by, dimensions, feeds_by, is_grouped, listed}
use Rattle.xr_groups.specs.Methods.{array_listed, fill_cell, masked_by}
use Rattle.xr_group_sets.specs.Listing.{variable_at, variable_filled, IsVarIn, IsVarListing}
use Rattle.xr_group_sets.specs.Own.{own_array}
use Rattle.xr_group_sets.proofs.Fed.{among_after, called_dims, distinct_some, names_by, own_after}

-- ---- what isn't grouped stays

pub dim_stays : (cs : List Change) (d : List ℕ) → among (dimensions cs) d ≡ false → dim_by cs d ≡ d
dim_stays [] d none = refl
dim_stays (c ∷ cs) d none =
    let parts = or_parts (bytes_eq d c.dimension) (among (dimensions cs) d) none in
    ap (λ b. cond b c.axis.name (dim_by cs d)) parts.0 ∙ dim_stays cs d parts.1

pub axis_stays : (cs : List Change) (x : Axis) → among (dimensions cs) x.name ≡ false → axis_by cs x ≡ x
axis_stays [] x none = refl
axis_stays (c ∷ cs) x none =
    let parts = or_parts (bytes_eq x.name c.dimension) (among (dimensions cs) x.name) none in
    ap (λ b. cond b c.axis (axis_by cs x)) parts.0 ∙ axis_stays cs x parts.1

dims_stay : (cs : List Change) (ds : List (List ℕ)) → is_grouped cs ds ≡ false → map (dim_by cs) ds ≡ ds
dims_stay cs [] none = refl
dims_stay cs (d ∷ ds) none =
    let parts = or_parts (among (dimensions cs) d) (is_grouped cs ds) none in
    ap (λ n. n ∷ map (dim_by cs) ds) (dim_stays cs d parts.0) ∙ ap (λ ns. d ∷ ns) (dims_stay cs ds parts.1)

axes_stay : (cs : List Change) (xs : List Axis) → is_grouped cs (axis_names xs) ≡ false → axes_by cs xs ≡ xs
axes_stay cs [] none = refl
axes_stay cs (x ∷ xs) none =
    let parts = or_parts (among (dimensions cs) x.name) (is_grouped cs (axis_names xs)) none in
    ap (λ y. y ∷ axes_by cs xs) (axis_stays cs x parts.0) ∙ ap (λ ys. x ∷ ys) (axes_stay cs xs parts.1)

module _ (old : List Node) (k : FoldKind) (least : Least) (cs : List Change) (fill : Option (Option ℤ)) (axes : List Axis) (v : Variable) (dims : AreDimensions axes) (distinct : are_distinct (axis_names (axes_by cs axes)) ≡ true)
    (node : IsNodeOf old v.node (map (size_called axes) v.dims) v.kind) (formed : IsVariable axes (variable_in old v)) where
  abbrev own : DataArray
  own = own_array axes v

  abbrev over : AreAmong (axis_names axes) v.dims
  over = formed.over

  pub named : axis_names (axes_called axes v.dims) ≡ v.dims
  named = named_again axes v.dims over

  sized : shape_over (axes_called axes v.dims) ≡ map (size_called axes) v.dims
  sized = sizes_again axes v.dims

  pub own_in : IsArrayIn old own
  own_in = record {
    node = subst (λ s. IsNodeOf old v.node s v.kind) (sym sized) node;
    formed = record {
      name = tt;
      axes = record { each = called_dims axes v.dims dims.each over; distinct = ap are_distinct named ∙ formed.distinct };
      coords = tt;
      distinct = ap are_distinct (append-nil (axis_names (axes_called axes v.dims))) ∙ ap are_distinct named ∙ formed.distinct;
      attrs = formed.attrs;
      cells = subst (λ s. AreCells s v.kind v.masked (value old v.node).cells) (sym sized) formed.cells;
    };
  }

  -- ---- afterwards

  abbrev after : List Axis
  after = axes_by cs axes

  abbrev new_dims : List (List ℕ)
  new_dims = map (dim_by cs) v.dims

  there : AreAmong (axis_names after) new_dims
  there = among_after cs axes distinct v.dims over

  own_axes_after : axes_by cs (axes_called axes v.dims) ≡ axes_called after new_dims
  own_axes_after = sym (own_after cs axes distinct v.dims over)

  pub distinct_dims : are_distinct new_dims ≡ true
  distinct_dims = distinct_some (dim_by cs) (axis_names axes) v.dims (ap are_distinct (sym (names_by cs axes)) ∙ distinct) over formed.distinct

  pub dims_are : axis_names (axes_by cs (axes_called axes v.dims)) ≡ new_dims
  dims_are = ap axis_names own_axes_after ∙ named_again after new_dims there

  pub sizes_are : shape_over (axes_by cs (axes_called axes v.dims)) ≡ map (size_called after) new_dims
  sizes_are = ap shape_over own_axes_after ∙ sizes_again after new_dims

  abbrev means : of.DataArray
  means = array_listed k least false cs fill (array_in old own)

  abbrev of_array : of.DataArray → of.Variable
  of_array a = record { name = v.name; dims = axis_names a.axes; kind = a.kind; masked = a.masked; attrs = a.attrs; cells = a.cells }

  means_is : of_array means ≡ variable_filled k least cs fill axes (variable_in old v)
  means_is =
      ap (λ ds. with_these ds (feeds_by cs (axis_names own.axes)) (array_of (array_in old own))) dims_are
      ∙ ap (λ ns. with_these new_dims (feeds_by cs ns) (array_of (array_in old own))) named
      ∙ ap (λ s. with_these new_dims (feeds_by cs v.dims) (record { kind = v.kind; shape = s; cells = (value old v.node).cells })) sized
    where
      with_these : List (List ℕ) → List Feed → Array → of.Variable
      with_these ds fs a = record { name = v.name; dims = ds; kind = folded_kind k v.kind; masked = masked_by k least v.masked fill; attrs = without_fills v.attrs; cells = (listed k least (fill_cell fill) fs a).cells }

  module _ (new : List Node) (b : DataArray) (e : IsArrayOf new means b) where
    abbrev made : Variable
    made = record { name = v.name; dims = axis_names b.axes; kind = b.kind; masked = b.masked; attrs = b.attrs; node = b.node }

    b_dims : axis_names b.axes ≡ new_dims
    b_dims = ap (λ (a : of.DataArray). axis_names a.axes) e.is ∙ dims_are

    b_sizes : shape_over b.axes ≡ map (size_called after) (axis_names b.axes)
    b_sizes = ap (λ (a : of.DataArray). shape_over a.axes) e.is ∙ sizes_are ∙ ap (map (size_called after)) (sym b_dims)

    array_formed : IsDataArray means
    array_formed = subst IsDataArray e.is e.inside.formed

    filled_formed : IsVariable after (variable_filled k least cs fill axes (variable_in old v))
    filled_formed = record {
      name = formed.name;
      over = there;
      distinct = distinct_dims;
      attrs = attrs_left v.attrs formed.attrs;
      cells = subst (λ (w : of.Variable). AreCells (map (size_called after) new_dims) (folded_kind k v.kind) (masked_by k least v.masked fill) w.cells) means_is
          (subst (λ s. AreCells s (folded_kind k v.kind) (masked_by k least v.masked fill) means.cells) sizes_are array_formed.cells);
    }

    pub filled_in : IsVarIn after new (variable_filled k least cs fill axes (variable_in old v)) made
    filled_in = record {
      is = ap of_array e.is ∙ means_is;
      node = subst (λ s. IsNodeOf new b.node s b.kind) b_sizes e.inside.node;
      formed = filled_formed;
    }

  module _ (none : is_grouped cs v.dims ≡ false) where
    same_dims : new_dims ≡ v.dims
    same_dims = dims_stay cs v.dims none

    same_axes : axes_by cs (axes_called axes v.dims) ≡ axes_called axes v.dims
    same_axes = axes_stay cs (axes_called axes v.dims) (ap (is_grouped cs) named ∙ none)

    same_sizes : map (size_called axes) v.dims ≡ map (size_called after) v.dims
    same_sizes = sym sized ∙ ap shape_over (sym same_axes) ∙ sizes_are ∙ ap (map (size_called after)) same_dims

    pub stays_in : IsVarIn after old (variable_in old v) v
    stays_in = record {
      is = refl;
      node = subst (λ s. IsNodeOf old v.node s v.kind) same_sizes node;
      formed = record {
        name = formed.name;
        over = subst (AreAmong (axis_names after)) same_dims there;
        distinct = formed.distinct;
        attrs = formed.attrs;
        cells = subst (λ s. AreCells s v.kind v.masked (value old v.node).cells) same_sizes formed.cells;
      };
    }

  -- ---- as it is, grouped or not

  pub at_axes : axes_by cs (axes_called axes v.dims) ≡ axes_called after (variable_at k least cs fill axes (variable_in old v)).dims
  at_axes = by (is_grouped cs v.dims) refl
    where
      by : (b : Bool) → is_grouped cs v.dims ≡ b → axes_by cs (axes_called axes v.dims) ≡ axes_called after (cond b (variable_filled k least cs fill axes (variable_in old v)) (variable_in old v)).dims
      by true e = own_axes_after
      by false e = own_axes_after ∙ ap (axes_called after) (dims_stay cs v.dims e)

  pub at_there : AreAmong (axis_names after) (variable_at k least cs fill axes (variable_in old v)).dims
  at_there = by (is_grouped cs v.dims) refl
    where
      by : (b : Bool) → is_grouped cs v.dims ≡ b → AreAmong (axis_names after) (cond b (variable_filled k least cs fill axes (variable_in old v)) (variable_in old v)).dims
      by true e = there
      by false e = subst (AreAmong (axis_names after)) (dims_stay cs v.dims e) there

-- as the code hands them on
pub own_told : (old : List Node) (k : FoldKind) (least : Least) (cs : List Change) (fill : Option (Option ℤ)) (axes : List Axis) (v : Variable) (a : DataArray) → AreDimensions axes → are_distinct (axis_names (axes_by cs axes)) ≡ true → IsVarListing old k least cs fill axes v
    → a ≡ own_array axes v → IsArrayIn old a
own_told old k least cs fill axes v a dims distinct is ea = subst (IsArrayIn old) (sym ea) (own_in old k least cs fill axes v dims distinct is.node is.formed)

pub listed_told : (old new : List Node) (k : FoldKind) (least : Least) (cs : List Change) (fill : Option (Option ℤ)) (axes : List Axis) (v : Variable) (a b : DataArray) (name : List ℕ) (names : List (List ℕ)) → AreDimensions axes → are_distinct (axis_names (axes_by cs axes)) ≡ true
    → IsVarListing old k least cs fill axes v → is_grouped cs v.dims ≡ true → a ≡ own_array axes v → IsArrayOf new (array_listed k least false cs fill (array_in old a)) b
    → name ≡ v.name → names ≡ axis_names b.axes → IsVarIn (axes_by cs axes) new (variable_at k least cs fill axes (variable_in old v)) (record { name = name; dims = names; kind = b.kind; masked = b.masked; attrs = b.attrs; node = b.node })
listed_told old new k least cs fill axes v a b name names dims distinct is some ea e en es =
    subst (λ t. IsVarIn (axes_by cs axes) new (cond t (variable_filled k least cs fill axes (variable_in old v)) (variable_in old v)) (record { name = name; dims = names; kind = b.kind; masked = b.masked; attrs = b.attrs; node = b.node })) (sym some)
    (subst (λ (n : List ℕ). IsVarIn (axes_by cs axes) new (variable_filled k least cs fill axes (variable_in old v)) (record { name = n; dims = names; kind = b.kind; masked = b.masked; attrs = b.attrs; node = b.node })) (sym en)
    (subst (λ (ns : List (List ℕ)). IsVarIn (axes_by cs axes) new (variable_filled k least cs fill axes (variable_in old v)) (record { name = v.name; dims = ns; kind = b.kind; masked = b.masked; attrs = b.attrs; node = b.node })) (sym es)
    (filled_in old k least cs fill axes v dims distinct is.node is.formed new b (subst (λ (x : DataArray). IsArrayOf new (array_listed k least false cs fill (array_in old x)) b) ea e))))

pub stays_told : (old : List Node) (k : FoldKind) (least : Least) (cs : List Change) (fill : Option (Option ℤ)) (axes : List Axis) (v w : Variable) → AreDimensions axes → are_distinct (axis_names (axes_by cs axes)) ≡ true → IsVarListing old k least cs fill axes v
    → is_grouped cs v.dims ≡ false → w ≡ v → IsVarIn (axes_by cs axes) old (variable_at k least cs fill axes (variable_in old v)) w
stays_told old k least cs fill axes v w dims distinct is none ew =
    subst (λ t. IsVarIn (axes_by cs axes) old (cond t (variable_filled k least cs fill axes (variable_in old v)) (variable_in old v)) w) (sym none)
    (subst (IsVarIn (axes_by cs axes) old (variable_in old v)) (sym ew) (stays_in old k least cs fill axes v dims distinct is.node is.formed none))
