-- The dataset of a readable file is as it has to be.
use Rattle.std.proofs.Common.{◌≡◌, ◌+◌, ◌<◌, ◌≤◌, inl, inr, ℕ, Bool, true, false, not, List, [], ◌∷◌, ◌++◌, length, map, filter, find, Option, Some, None, option_map, is_some, refl, sym, ap, subst, ◌∙◌}
use Rattle.std.specs.Prelude.{All, MatchOption, ⊤}
use Rattle.std.specs.Str.{bytes_eq}
use Rattle.std.specs.List.{list_any, AllByRecursion}
use Rattle.std.proofs.lemmas.Bool.{and_parts, or_cases, or_left, or_right, not-true, true≢false}
use Rattle.std.proofs.lemmas.List.Elements.{recursion_from_All}
use Rattle.xr_types.specs.declared.axis.Axis.{Axis}
use Rattle.xr_types.specs.declared.axis.Labels.{Labels}
use Rattle.xr_types.specs.declared.axis.LabelList.{LabelList}
use Rattle.xr_files.specs.declared.file.CdfDim.{CdfDim}
use Rattle.xr_files.specs.declared.file.CdfVar.{CdfVar}
use Rattle.xr_files.specs.declared.file.CdfFile.{CdfFile}
use Rattle.xr_defs.specs.declared.value.Coord.{Coord}
use Rattle.xr_types.specs.Names.{among}
use Rattle.xr_files.specs.Classic.{dim_at, dim_names, no_dim, is_name}
use Rattle.xr_types.specs.Names.{are_distinct}
use Rattle.xr_files.specs.Files.{positions, shape_of}
use Rattle.xr_defs.specs.Limits.{most_cells, most_variables}
use Rattle.xr_defs.specs.Selecting.{axis_called}
use Rattle.xr_types.specs.Names.{axis_names}
use Rattle.xr_defs.specs.Values.{Variable}
use Rattle.xr_defs.specs.Decoding.{is_skipped, is_index, is_coordinate, coordinate_names, labels_in, index_in, index_among, loaded_in, others_in, axis_in, var_axes, var_dims, var_shape, variable_of, coordinate_of, coordinate_over, scalar_text, coordinates_in, variables_in, is_kept, unlisted, uncoded, dataset_in}
use Rattle.xr_defs.specs.WellFormed.{IsDimension, AreDimensions, IsIndex, AreCells, IsCoordinate, IsVariable, IsDataset, names_of, variable_names, labelled}
use Rattle.xr_decode.specs.Held.{data_in}
use Rattle.xr_decode.specs.Readable.{IsReadable, IsReadableVar, var_names}
use Rattle.xr_decode.specs.Stored.{AreBytes, HoldsBytes}
use Rattle.xr_decode.proofs.Coordinates.{axes_shape, text_coordinate}
use Rattle.xr_decode.proofs.DimensionNames.{distinct_at, names_of_axes, names_at, short_at}
use Rattle.xr_decode.proofs.FormedAxes.{AreLabelsOf, labels_formed, index_formed}
use Rattle.xr_decode.proofs.FormedCells.{without_formed, variable_attrs, cells_formed}
use Rattle.xr_decode.proofs.Loaded.{loaded}
use Rattle.xr_decode.proofs.Members.{Has, has_map, has_mapped, has_filter, has_filtered, has_at, has_any, any_has, every, filter_passes, at_member, found_has, has_either, among_has, has_among, absent, same_named, distinct_both, called_one, bytes_same}
use Rattle.xr_decode.proofs.OneByOne.{distinct_filter, variable_name, variable_dims}

-- ---- the parts

abbrev coords_of : CdfFile → Bool → List Coord
coords_of f m = coordinates_in f m f.vars

abbrev vars_of : CdfFile → Bool → List Variable
vars_of f m = variables_in f m f.vars

abbrev all_axes : CdfFile → List Axis
all_axes f = map (axis_in f) f.dims

abbrev pub axes_of : CdfFile → Bool → List Axis
axes_of f m = filter (is_kept (coords_of f m) (vars_of f m)) (all_axes f)

abbrev axis_at : CdfFile → ℕ → Axis
axis_at f i = axis_in f (dim_at f.dims i)

-- a loaded variable of the file that is no index
pub record IsOther (f : CdfFile) (v : CdfVar) : Type 0 where
  pub in_file : Has f.vars v
  pub loaded : is_skipped f v ≡ false
  pub other : is_index f v ≡ false

other_at : (f : CdfFile) (v : CdfVar) → Has (others_in f f.vars) v → IsOther f v
other_at f v h =
    let a = has_filtered (λ v. not (is_index f v)) (loaded_in f f.vars) v h in
    let b = has_filtered (λ v. not (is_skipped f v)) f.vars v a.0 in
    record { in_file = b.0; loaded = not-true (is_skipped f v) b.1; other = not-true (is_index f v) a.1 }

pub data_at : (f : CdfFile) (v : CdfVar) → Has (data_in f f.vars) v → IsOther f v × (is_coordinate f v ≡ false)
data_at f v h = let a = has_filtered (λ v. not (is_coordinate f v)) (others_in f f.vars) v h in (other_at f v a.0, not-true (is_coordinate f v) a.1)

coordinate_at : (f : CdfFile) (v : CdfVar) → Has (filter (is_coordinate f) (others_in f f.vars)) v → IsOther f v × (is_coordinate f v ≡ true)
coordinate_at f v h = let a = has_filtered (is_coordinate f) (others_in f f.vars) v h in (other_at f v a.0, a.1)

-- ---- names of coordinates and variables

coordinate_by : (f : CdfFile) (m : Bool) (v : CdfVar) (o : Option (List ℕ)) → scalar_text f v ≡ o
    → coordinate_of f m v ≡ elim o [ Some t ↦ text_coordinate v t | None ↦ coordinate_over (var_axes f v) (variable_of f m v) ]
coordinate_by f m v o e = ap (λ (o : Option (List ℕ)). elim o [ Some t ↦ text_coordinate v t | None ↦ coordinate_over (var_axes f v) (variable_of f m v) ]) e

coordinate_name : (f : CdfFile) (m : Bool) (v : CdfVar) → (coordinate_of f m v).name ≡ v.name
coordinate_name f m v = by (scalar_text f v) refl
  where
    by : (o : Option (List ℕ)) → scalar_text f v ≡ o → (coordinate_of f m v).name ≡ v.name
    by (Some t) e = ap (λ (c : Coord). c.name) (coordinate_by f m v (Some t) e)
    by None e = ap (λ (c : Coord). c.name) (coordinate_by f m v None e) ∙ variable_name f m v

coordinate_names_are : (f : CdfFile) (m : Bool) (vs : List CdfVar) → names_of (map (coordinate_of f m) vs) ≡ var_names vs
coordinate_names_are f m [] = refl
coordinate_names_are f m (v ∷ vs) = ap (λ n. n ∷ names_of (map (coordinate_of f m) vs)) (coordinate_name f m v) ∙ ap (λ ns. v.name ∷ ns) (coordinate_names_are f m vs)

variable_names_are : (f : CdfFile) (m : Bool) (vs : List CdfVar) → variable_names (map (variable_of f m) vs) ≡ var_names vs
variable_names_are f m [] = refl
variable_names_are f m (v ∷ vs) = ap (λ n. n ∷ variable_names (map (variable_of f m) vs)) (variable_name f m v) ∙ ap (λ ns. v.name ∷ ns) (variable_names_are f m vs)

-- ---- the axes of a file that is readable

readable_at : (f : CdfFile) → IsReadable f → (v : CdfVar) → Has f.vars v → IsReadableVar f v
readable_at f r v h = at_member (IsReadableVar f) f.vars v (recursion_from_All (IsReadableVar f) f.vars r.vars) h

bytes_at : (f : CdfFile) → All HoldsBytes f.vars → (v : CdfVar) → Has f.vars v → AreBytes v.raw
bytes_at f bytes v h = at_member HoldsBytes f.vars v (recursion_from_All HoldsBytes f.vars bytes) h

below_at : (f : CdfFile) (v : CdfVar) → IsReadableVar f v → (i : ℕ) → Has v.dims i → i < length f.dims
below_at f v r i h = at_member (λ i. i < length f.dims) v.dims i (recursion_from_All (λ i. i < length f.dims) v.dims r.below) h

dim_has : (f : CdfFile) (v : CdfVar) → IsReadableVar f v → (i : ℕ) → Has v.dims i → Has f.dims (dim_at f.dims i)
dim_has f v r i h = has_at f.dims i no_dim (below_at f v r i h)

axes_distinct : (f : CdfFile) (m : Bool) → IsReadable f → are_distinct (axis_names (axes_of f m)) ≡ true
axes_distinct f m r = distinct_filter (λ (x : Axis). x.name) (is_kept (coords_of f m) (vars_of f m)) (all_axes f) (ap are_distinct (names_of_axes f f.dims) ∙ r.dims_distinct)

-- a dimension by its name
same_dim : (f : CdfFile) → IsReadable f → (c d : CdfDim) → Has f.dims c → Has f.dims d → c.name ≡ d.name → c ≡ d
same_dim f r c d h k e = same_named (λ (d : CdfDim). d.name) f.dims c d r.dims_distinct h k e

-- the axes of a variable are kept
abbrev AreKept : CdfFile → Bool → CdfVar → Type 0
AreKept f m v = (i : ℕ) → Has v.dims i → Has (axes_of f m) (axis_at f i)

kept_axis : (f : CdfFile) (m : Bool) (v : CdfVar) → IsReadableVar f v → (i : ℕ) → Has v.dims i → is_kept (coords_of f m) (vars_of f m) (axis_at f i) ≡ true → Has (axes_of f m) (axis_at f i)
kept_axis f m v r i h e = has_filter (is_kept (coords_of f m) (vars_of f m)) (all_axes f) (axis_at f i) (has_map (axis_in f) f.dims (dim_at f.dims i) (dim_has f v r i h)) e

name_has : (f : CdfFile) (v : CdfVar) (i : ℕ) → Has v.dims i → Has (var_dims f v) (dim_at f.dims i).name
name_has f v i h = has_map (λ i. (dim_at f.dims i).name) v.dims i h

pub data_kept : (f : CdfFile) (m : Bool) (v : CdfVar) → IsReadable f → Has (data_in f f.vars) v → AreKept f m v
data_kept f m v r h i k =
    let r1 = readable_at f r v (data_at f v h).0.in_file in
    kept_axis f m v r1 i k (or_right _ (list_any (λ (w : Variable). among w.dims (dim_at f.dims i).name) (vars_of f m))
    (has_any (λ (w : Variable). among w.dims (dim_at f.dims i).name) (vars_of f m) (variable_of f m v) (has_map (variable_of f m) (data_in f f.vars) v h)
    (ap (λ ds. among ds (dim_at f.dims i).name) (variable_dims f m v) ∙ among_has (var_dims f v) (dim_at f.dims i).name (name_has f v i k))))

coordinate_kept : (f : CdfFile) (m : Bool) (v : CdfVar) → IsReadable f → Has (filter (is_coordinate f) (others_in f f.vars)) v → scalar_text f v ≡ None → AreKept f m v
coordinate_kept f m v r h none i k =
    let r1 = readable_at f r v (coordinate_at f v h).0.in_file in
    let name = (dim_at f.dims i).name in
    let axes : (coordinate_of f m v).axes ≡ var_axes f v = ap (λ (c : Coord). c.axes) (coordinate_by f m v None none) in
    kept_axis f m v r1 i k (or_left _ (list_any (λ (w : Variable). among w.dims name) (vars_of f m)) (or_right _ (list_any (λ (c : Coord). among (axis_names c.axes) name) (coords_of f m))
    (has_any (λ (c : Coord). among (axis_names c.axes) name) (coords_of f m) (coordinate_of f m v) (has_map (coordinate_of f m) (filter (is_coordinate f) (others_in f f.vars)) v h)
    (ap (λ xs. among (axis_names xs) name) axes ∙ ap (λ ns. among ns name) (names_at f v.dims) ∙ among_has (var_dims f v) name (name_has f v i k)))))

-- ---- sizes

sizes_called : (f : CdfFile) (m : Bool) (ids : List ℕ) → IsReadable f → ((i : ℕ) → Has ids i → Has (axes_of f m) (axis_at f i))
    → map (λ d. (axis_called (axes_of f m) d).size) (map (λ i. (dim_at f.dims i).name) ids) ≡ shape_of f.dims f.numrecs ids
sizes_called f m [] r kept = refl
sizes_called f m (i ∷ ids) r kept =
    ap (λ n. n ∷ map (λ d. (axis_called (axes_of f m) d).size) (map (λ i. (dim_at f.dims i).name) ids)) (ap (λ (x : Axis). x.size) (called_one (axes_of f m) (axis_at f i) (axes_distinct f m r) (kept i (inl refl))))
    ∙ ap (λ ns. positions f.numrecs (dim_at f.dims i) ∷ ns) (sizes_called f m ids r (λ j h. kept j (inr h)))

pub shape_called : (f : CdfFile) (m : Bool) (v : CdfVar) → IsReadable f → AreKept f m v → map (λ d. (axis_called (axes_of f m) d).size) (var_dims f v) ≡ var_shape f v
shape_called f m v r kept = sizes_called f m v.dims r kept

name_kept : (f : CdfFile) (m : Bool) (i : ℕ) → Has (axes_of f m) (axis_at f i) → among (axis_names (axes_of f m)) (dim_at f.dims i).name ≡ true
name_kept f m i h = among_has (axis_names (axes_of f m)) (dim_at f.dims i).name (has_map (λ (x : Axis). x.name) (axes_of f m) (axis_at f i) h)

-- ---- variables

variable_formed : (f : CdfFile) (m : Bool) (v : CdfVar) → IsReadable f → All HoldsBytes f.vars → IsOther f v → AreKept f m v → IsVariable (axes_of f m) (variable_of f m v)
variable_formed f m v r bytes o kept =
    let r1 = readable_at f r v o.in_file in
    let l = loaded f v o.loaded in
    let dims = variable_dims f m v in
    record {
      name = ap is_name (variable_name f m v) ∙ r1.name;
      over = subst (AllByRecursion (λ d. among (axis_names (axes_of f m)) d ≡ true)) (sym dims) (every (λ d. among (axis_names (axes_of f m)) d ≡ true) (var_dims f v) (λ d h.
          let w = has_mapped (λ i. (dim_at f.dims i).name) v.dims d h in subst (λ d. among (axis_names (axes_of f m)) d ≡ true) w.2 (name_kept f m w.0 (kept w.0 w.1))));
      distinct = ap are_distinct dims ∙ distinct_at f.dims v.dims r.dims_distinct r1.below l.different;
      attrs = variable_attrs f m v r1.attrs;
      cells = subst (λ s. AreCells s (variable_of f m v).kind (variable_of f m v).masked (variable_of f m v).cells)
          (sym (ap (map (λ d. (axis_called (axes_of f m) d).size)) dims ∙ shape_called f m v r kept)) (cells_formed f m v r1 l (bytes_at f bytes v o.in_file));
    }

variables_formed : (f : CdfFile) (m : Bool) → IsReadable f → All HoldsBytes f.vars → AllByRecursion (IsVariable (axes_of f m)) (vars_of f m)
variables_formed f m r bytes = every (IsVariable (axes_of f m)) (vars_of f m) (λ x h.
    let w = has_mapped (variable_of f m) (data_in f f.vars) x h in
    subst (IsVariable (axes_of f m)) w.2 (variable_formed f m w.0 r bytes (data_at f w.0 w.1).0 (data_kept f m w.0 r w.1)))

-- ---- coordinates

text_formed : (f : CdfFile) (m : Bool) (v : CdfVar) (t : List ℕ) → IsReadableVar f v → IsCoordinate (axes_of f m) (text_coordinate v t)
text_formed f m v t r = record { name = r.name; over = tt; distinct = refl; attrs = without_formed _ v.attrs r.attrs; content = refl }

over_formed : (f : CdfFile) (m : Bool) (v : CdfVar) → IsReadable f → All HoldsBytes f.vars → IsOther f v → AreKept f m v → IsCoordinate (axes_of f m) (coordinate_over (var_axes f v) (variable_of f m v))
over_formed f m v r bytes o kept =
    let r1 = readable_at f r v o.in_file in
    let l = loaded f v o.loaded in
    record {
      name = ap is_name (variable_name f m v) ∙ r1.name;
      over = every (λ (x : Axis). (among (axis_names (axes_of f m)) x.name ≡ true) × (axis_called (axes_of f m) x.name ≡ x)) (var_axes f v) (λ x h.
          let w = has_mapped (axis_at f) v.dims x h in
          subst (λ (x : Axis). (among (axis_names (axes_of f m)) x.name ≡ true) × (axis_called (axes_of f m) x.name ≡ x)) w.2
          (name_kept f m w.0 (kept w.0 w.1), called_one (axes_of f m) (axis_at f w.0) (axes_distinct f m r) (kept w.0 w.1)));
      distinct = ap are_distinct (names_at f v.dims) ∙ distinct_at f.dims v.dims r.dims_distinct r1.below l.different;
      attrs = variable_attrs f m v r1.attrs;
      content = (refl, subst (λ s. AreCells s (variable_of f m v).kind (variable_of f m v).masked (variable_of f m v).cells) (sym (axes_shape f v)) (cells_formed f m v r1 l (bytes_at f bytes v o.in_file)));
    }

coordinate_formed : (f : CdfFile) (m : Bool) (v : CdfVar) → IsReadable f → All HoldsBytes f.vars → Has (filter (is_coordinate f) (others_in f f.vars)) v → IsCoordinate (axes_of f m) (coordinate_of f m v)
coordinate_formed f m v r bytes h = by (scalar_text f v) refl
  where
    by : (o : Option (List ℕ)) → scalar_text f v ≡ o → IsCoordinate (axes_of f m) (coordinate_of f m v)
    by (Some t) e = subst (IsCoordinate (axes_of f m)) (sym (coordinate_by f m v (Some t) e)) (text_formed f m v t (readable_at f r v (coordinate_at f v h).0.in_file))
    by None e = subst (IsCoordinate (axes_of f m)) (sym (coordinate_by f m v None e)) (over_formed f m v r bytes (coordinate_at f v h).0 (coordinate_kept f m v r h e))

coordinates_formed : (f : CdfFile) (m : Bool) → IsReadable f → All HoldsBytes f.vars → AllByRecursion (IsCoordinate (axes_of f m)) (coords_of f m)
coordinates_formed f m r bytes = every (IsCoordinate (axes_of f m)) (coords_of f m) (λ x h.
    let w = has_mapped (coordinate_of f m) (filter (is_coordinate f) (others_in f f.vars)) x h in
    subst (IsCoordinate (axes_of f m)) w.2 (coordinate_formed f m w.0 r bytes w.1))

-- ---- axes

-- the index of a dimension, by the variable that holds it
pub record HasIndex (f : CdfFile) (d : CdfDim) (l : Labels) : Type 0 where
  pub var : CdfVar
  pub in_file : Has f.vars var
  pub loaded : is_skipped f var ≡ false
  pub named : var.name ≡ d.name
  pub list : LabelList
  pub labels : labels_in f var ≡ Some list
  pub is : l ≡ record { list = list; attrs = uncoded list (unlisted var.attrs) }

index_by : (f : CdfFile) (d : CdfDim) (l : Labels) (v : CdfVar) → Has f.vars v → is_skipped f v ≡ false → v.name ≡ d.name → index_in f v ≡ Some l → HasIndex f d l
index_by f d l v h e n is = by (labels_in f v) refl is
  where
    by : (o : Option LabelList) → labels_in f v ≡ o → option_map (λ x. record { list = x; attrs = uncoded x (unlisted v.attrs) }) o ≡ Some l → HasIndex f d l
    by None a b = absurd cc
    by (Some x) a b = let same : l ≡ record { list = x; attrs = uncoded x (unlisted v.attrs) } = cc in record { var = v; in_file = h; loaded = e; named = n; list = x; labels = a; is = same }

has_index : (f : CdfFile) (d : CdfDim) (l : Labels) → index_among f d.name f.vars ≡ Some l → HasIndex f d l
has_index f d l e = by (find (λ (v : CdfVar). bytes_eq v.name d.name) (loaded_in f f.vars)) refl e
  where
    by : (o : Option CdfVar) → find (λ (v : CdfVar). bytes_eq v.name d.name) (loaded_in f f.vars) ≡ o → elim o [ None ↦ None | Some v ↦ index_in f v ] ≡ Some l → HasIndex f d l
    by None a b = absurd cc
    by (Some v) a b =
        let found = found_has (λ (v : CdfVar). bytes_eq v.name d.name) (loaded_in f f.vars) v a in
        let here = has_filtered (λ v. not (is_skipped f v)) f.vars v found.0 in
        index_by f d l v here.0 (not-true (is_skipped f v) here.1) (bytes_same v.name d.name found.1) b

-- its variable's first dimension is that one
first_is : (f : CdfFile) → IsReadable f → (d : CdfDim) (l : Labels) → Has f.dims d → (x : HasIndex f d l) → (a : AreLabelsOf f x.var x.list) → dim_at f.dims a.first.first ≡ d
first_is f r d l h x a =
    let r1 = readable_at f r x.var x.in_file in
    let at : Has x.var.dims a.first.first = subst (λ ids. Has ids a.first.first) (sym a.first.dims) (inl refl) in
    same_dim f r (dim_at f.dims a.first.first) d (dim_has f x.var r1 a.first.first at) h (a.first.named ∙ x.named)

index_at : (f : CdfFile) → IsReadable f → All HoldsBytes f.vars → (d : CdfDim) → Has f.dims d → MatchOption (index_among f d.name f.vars) ⊤ (IsIndex (positions f.numrecs d))
index_at f r bytes d h = by (index_among f d.name f.vars) refl
  where
    by : (o : Option Labels) → index_among f d.name f.vars ≡ o → MatchOption o ⊤ (IsIndex (positions f.numrecs d))
    by None e = tt
    by (Some l) e =
        let x = has_index f d l e in
        let r1 = readable_at f r x.var x.in_file in
        let a = labels_formed f x.var x.list r1 (bytes_at f bytes x.var x.in_file) x.labels in
        subst (IsIndex (positions f.numrecs d)) (sym x.is) (index_formed f x.var x.list (positions f.numrecs d) r1 a (a.count ∙ ap (positions f.numrecs) (first_is f r d l h x a)))

-- a dimension of a loaded variable isn't too long
few_in : (f : CdfFile) (v : CdfVar) (i : ℕ) → is_skipped f v ≡ false → Has v.dims i → positions f.numrecs (dim_at f.dims i) ≤ most_cells
few_in f v i e h = short_at (var_shape f v) (positions f.numrecs (dim_at f.dims i)) (loaded f v e).short (has_map (λ i. positions f.numrecs (dim_at f.dims i)) v.dims i h)

few_named : (f : CdfFile) → IsReadable f → (v : CdfVar) → Has f.vars v → is_skipped f v ≡ false → (d : CdfDim) → Has f.dims d → among (var_dims f v) d.name ≡ true → positions f.numrecs d ≤ most_cells
few_named f r v in_file e d h a =
    let w = has_mapped (λ i. (dim_at f.dims i).name) v.dims d.name (has_among (var_dims f v) d.name a) in
    let same = same_dim f r (dim_at f.dims w.0) d (dim_has f v (readable_at f r v in_file) w.0 w.1) h w.2 in
    subst (λ d. positions f.numrecs d ≤ most_cells) same (few_in f v w.0 e w.1)

few_by_index : (f : CdfFile) → IsReadable f → All HoldsBytes f.vars → (d : CdfDim) → Has f.dims d → is_some (index_among f d.name f.vars) ≡ true → positions f.numrecs d ≤ most_cells
few_by_index f r bytes d h e = by (index_among f d.name f.vars) refl e
  where
    by : (o : Option Labels) → index_among f d.name f.vars ≡ o → is_some o ≡ true → positions f.numrecs d ≤ most_cells
    by None a b = absurd cc
    by (Some l) a b =
        let x = has_index f d l a in
        let y = labels_formed f x.var x.list (readable_at f r x.var x.in_file) (bytes_at f bytes x.var x.in_file) x.labels in
        subst (λ d. positions f.numrecs d ≤ most_cells) (first_is f r d l h x y) (few_in f x.var y.first.first x.loaded (subst (λ ids. Has ids y.first.first) (sym y.first.dims) (inl refl)))

few_by_coordinate : (f : CdfFile) (m : Bool) → IsReadable f → (d : CdfDim) → Has f.dims d → list_any (λ (c : Coord). among (axis_names c.axes) d.name) (coords_of f m) ≡ true → positions f.numrecs d ≤ most_cells
few_by_coordinate f m r d h e =
    let c = any_has (λ (c : Coord). among (axis_names c.axes) d.name) (coords_of f m) e in
    let w = has_mapped (coordinate_of f m) (filter (is_coordinate f) (others_in f f.vars)) c.0 c.1 in
    let o = (coordinate_at f w.0 w.1).0 in
    by w.0 o (ap (λ (c : Coord). among (axis_names c.axes) d.name) w.2 ∙ c.2) (scalar_text f w.0) refl
  where
    by : (v : CdfVar) → IsOther f v → among (axis_names (coordinate_of f m v).axes) d.name ≡ true → (o : Option (List ℕ)) → scalar_text f v ≡ o → positions f.numrecs d ≤ most_cells
    by v o a (Some t) e = absurd (true≢false (sym a ∙ ap (λ (c : Coord). among (axis_names c.axes) d.name) (coordinate_by f m v (Some t) e)))
    by v o a None e =
        few_named f r v o.in_file o.loaded d h
        (sym (ap (λ ns. among ns d.name) (names_at f v.dims)) ∙ sym (ap (λ (c : Coord). among (axis_names c.axes) d.name) (coordinate_by f m v None e)) ∙ a)

few_by_variable : (f : CdfFile) (m : Bool) → IsReadable f → (d : CdfDim) → Has f.dims d → list_any (λ (v : Variable). among v.dims d.name) (vars_of f m) ≡ true → positions f.numrecs d ≤ most_cells
few_by_variable f m r d h e =
    let x = any_has (λ (v : Variable). among v.dims d.name) (vars_of f m) e in
    let w = has_mapped (variable_of f m) (data_in f f.vars) x.0 x.1 in
    let o = (data_at f w.0 w.1).0 in
    few_named f r w.0 o.in_file o.loaded d h (sym (ap (λ ds. among ds d.name) (variable_dims f m w.0)) ∙ ap (λ (v : Variable). among v.dims d.name) w.2 ∙ x.2)

few_at : (f : CdfFile) (m : Bool) → IsReadable f → All HoldsBytes f.vars → (d : CdfDim) → Has f.dims d → is_kept (coords_of f m) (vars_of f m) (axis_in f d) ≡ true → positions f.numrecs d ≤ most_cells
few_at f m r bytes d h e =
    elim (or_cases _ (list_any (λ (v : Variable). among v.dims d.name) (vars_of f m)) e) [
      | inr by_variable ↦ few_by_variable f m r d h by_variable
      | inl rest ↦ elim (or_cases (is_some (index_among f d.name f.vars)) (list_any (λ (c : Coord). among (axis_names c.axes) d.name) (coords_of f m)) rest) [
        | inl by_index ↦ few_by_index f r bytes d h by_index
        | inr by_coordinate ↦ few_by_coordinate f m r d h by_coordinate
      ]
    ]

axes_formed : (f : CdfFile) (m : Bool) → IsReadable f → All HoldsBytes f.vars → AreDimensions (axes_of f m)
axes_formed f m r bytes =
    record {
      each = every IsDimension (axes_of f m) (λ x h.
          let k = has_filtered (is_kept (coords_of f m) (vars_of f m)) (all_axes f) x h in
          let w = has_mapped (axis_in f) f.dims x k.0 in
          let kept = ap (is_kept (coords_of f m) (vars_of f m)) w.2 ∙ k.1 in
          subst IsDimension w.2 (record {
            name = at_member (λ (d : CdfDim). is_name d.name ≡ true) f.dims w.0 (recursion_from_All (λ (d : CdfDim). is_name d.name ≡ true) f.dims r.dims) w.1;
            few = few_at f m r bytes w.0 w.1 kept;
            index = index_at f r bytes w.0 w.1;
          }));
      distinct = axes_distinct f m r;
    }

-- ---- names in common

distinct_others : (f : CdfFile) → IsReadable f → (p : CdfVar → Bool) → are_distinct (var_names (filter p (others_in f f.vars))) ≡ true
distinct_others f r p =
    let name = λ (v : CdfVar). v.name in
    distinct_filter name p (others_in f f.vars) (distinct_filter name (λ v. not (is_index f v)) (loaded_in f f.vars) (distinct_filter name (λ v. not (is_skipped f v)) f.vars r.vars_distinct))

coords_apart : (f : CdfFile) (m : Bool) → IsReadable f → are_distinct (names_of (coords_of f m)) ≡ true
coords_apart f m r = ap are_distinct (coordinate_names_are f m (filter (is_coordinate f) (others_in f f.vars))) ∙ distinct_others f r (is_coordinate f)

vars_apart : (f : CdfFile) (m : Bool) → IsReadable f → are_distinct (variable_names (vars_of f m)) ≡ true
vars_apart f m r = ap are_distinct (variable_names_are f m (data_in f f.vars)) ∙ distinct_others f r (λ v. not (is_coordinate f v))

coordinate_named : (f : CdfFile) (m : Bool) (n : List ℕ) → Has (names_of (coords_of f m)) n → (v : CdfVar) × IsOther f v × (is_coordinate f v ≡ true) × (v.name ≡ n)
coordinate_named f m n h =
    let w = has_mapped (λ (v : CdfVar). v.name) (filter (is_coordinate f) (others_in f f.vars)) n (subst (λ ns. Has ns n) (coordinate_names_are f m (filter (is_coordinate f) (others_in f f.vars))) h) in
    let o = coordinate_at f w.0 w.1 in
    (w.0, o.0, o.1, w.2)

variable_named : (f : CdfFile) (m : Bool) (n : List ℕ) → Has (variable_names (vars_of f m)) n → (v : CdfVar) × IsOther f v × (is_coordinate f v ≡ false) × (v.name ≡ n)
variable_named f m n h =
    let w = has_mapped (λ (v : CdfVar). v.name) (data_in f f.vars) n (subst (λ ns. Has ns n) (variable_names_are f m (data_in f f.vars)) h) in
    let o = data_at f w.0 w.1 in
    (w.0, o.0, o.1, w.2)

same_var : (f : CdfFile) → IsReadable f → (v w : CdfVar) → Has f.vars v → Has f.vars w → v.name ≡ w.name → v ≡ w
same_var f r v w h k e = same_named (λ (v : CdfVar). v.name) f.vars v w r.vars_distinct h k e

-- no coordinate is named as a dimension
no_dimension : (f : CdfFile) (v : CdfVar) → is_coordinate f v ≡ true → among (map (λ (d : CdfDim). d.name) f.dims) v.name ≡ false
unfolding is_coordinate
no_dimension f v e = not-true (among (map (λ (d : CdfDim). d.name) f.dims) v.name) (and_parts (among (coordinate_names f) v.name) (not (among (map (λ (d : CdfDim). d.name) f.dims) v.name)) e).1

named_by_dim : (f : CdfFile) (m : Bool) (n : List ℕ) → Has (axis_names (axes_of f m)) n → (d : CdfDim) × Has f.dims d × (d.name ≡ n) × Has (axes_of f m) (axis_in f d)
named_by_dim f m n h =
    let x = has_mapped (λ (x : Axis). x.name) (axes_of f m) n h in
    let k = has_filtered (is_kept (coords_of f m) (vars_of f m)) (all_axes f) x.0 x.1 in
    let w = has_mapped (axis_in f) f.dims x.0 k.0 in
    (w.0, w.1, ap (λ (x : Axis). x.name) w.2 ∙ x.2, subst (Has (axes_of f m)) (sym w.2) x.1)

coords_distinct : (f : CdfFile) (m : Bool) → IsReadable f → are_distinct (axis_names (axes_of f m) ++ names_of (coords_of f m)) ≡ true
coords_distinct f m r = distinct_both (axis_names (axes_of f m)) (names_of (coords_of f m)) (axes_distinct f m r) (coords_apart f m r) (λ n h k.
    let d = named_by_dim f m n h in
    let v = coordinate_named f m n k in
    absent (dim_names f.dims) v.0.name (no_dimension f v.0 v.2) (subst (Has (dim_names f.dims)) (d.2 ∙ sym v.3) (has_map (λ (d : CdfDim). d.name) f.dims d.0 d.1)))

-- a labelled axis has an index
index_named : (f : CdfFile) (m : Bool) (n : List ℕ) → Has (axis_names (labelled (axes_of f m))) n → (v : CdfVar) × Has f.vars v × (is_index f v ≡ true) × (v.name ≡ n)
unfolding is_index
index_named f m n h =
    let x = has_mapped (λ (x : Axis). x.name) (labelled (axes_of f m)) n h in
    let l = has_filtered (λ (x : Axis). is_some x.labels) (axes_of f m) x.0 x.1 in
    let k = has_filtered (is_kept (coords_of f m) (vars_of f m)) (all_axes f) x.0 l.0 in
    let w = has_mapped (axis_in f) f.dims x.0 k.0 in
    by w.0 (ap (λ (x : Axis). x.name) w.2 ∙ x.2) (index_among f w.0.name f.vars) refl (ap (λ (x : Axis). is_some x.labels) w.2 ∙ l.1)
  where
    by : (d : CdfDim) → d.name ≡ n → (o : Option Labels) → index_among f d.name f.vars ≡ o → is_some o ≡ true → (v : CdfVar) × Has f.vars v × (is_index f v ≡ true) × (v.name ≡ n)
    by d e None a b = absurd cc
    by d e (Some l) a b = let i = has_index f d l a in (i.var, i.in_file, ap is_some i.labels, i.named ∙ e)

vars_distinct : (f : CdfFile) (m : Bool) → IsReadable f → are_distinct (axis_names (labelled (axes_of f m)) ++ (names_of (coords_of f m) ++ variable_names (vars_of f m))) ≡ true
vars_distinct f m r =
    distinct_both (axis_names (labelled (axes_of f m))) (names_of (coords_of f m) ++ variable_names (vars_of f m))
    (distinct_filter (λ (x : Axis). x.name) (λ (x : Axis). is_some x.labels) (axes_of f m) (axes_distinct f m r))
    (distinct_both (names_of (coords_of f m)) (variable_names (vars_of f m)) (coords_apart f m r) (vars_apart f m r) (λ n h k.
    let v = coordinate_named f m n h in
    let w = variable_named f m n k in
    true≢false (sym v.2 ∙ ap (is_coordinate f) (same_var f r v.0 w.0 v.1.in_file w.1.in_file (v.3 ∙ sym w.3)) ∙ w.2)))
    (λ n h k.
    let i = index_named f m n h in
    let other = λ (w : CdfVar) (o : IsOther f w) (e : w.name ≡ n). true≢false (sym i.2 ∙ ap (is_index f) (same_var f r i.0 w i.1 o.in_file (i.3 ∙ sym e)) ∙ o.other) in
    elim (has_either (names_of (coords_of f m)) (variable_names (vars_of f m)) n k) [
      | inl c ↦ let v = coordinate_named f m n c in other v.0 v.1 v.3
      | inr c ↦ let v = variable_named f m n c in other v.0 v.1 v.3
    ])

-- ---- the dataset

pub set_formed : (f : CdfFile) (m : Bool) → IsReadable f → All HoldsBytes f.vars → length (coords_of f m) + length (vars_of f m) ≤ most_variables → IsDataset (dataset_in f m)
set_formed f m r bytes few =
    record {
      axes = axes_formed f m r bytes;
      coords = coordinates_formed f m r bytes;
      vars = variables_formed f m r bytes;
      coords_distinct = coords_distinct f m r;
      vars_distinct = vars_distinct f m r;
      busy = filter_passes (is_kept (coords_of f m) (vars_of f m)) (all_axes f);
      attrs = without_formed _ f.attrs r.attrs;
      few = few;
    }
