-- The checks of a method of a grouped dataset.
use Rattle.std.proofs.Common.{◌≡◌, ℕ, ℤ, Bool, true, false, cond, List, [], ◌∷◌, ◌++◌, map, Option, Some, None, is_some, Result, Ok, Err, refl, sym, ap, subst, ◌∙◌}
use Rattle.std.specs.Prelude.{not}
use Rattle.std.specs.List.{AllByRecursion}
use Rattle.xr_types.specs.Names.{are_distinct, axis_names}
use Rattle.xr_types.specs.Results.{◌>>=◌, unless, all_of}
use Rattle.xr_types.specs.declared.axis.Axis.{Axis}
use Rattle.xr_types.specs.declared.fault.CallFault.{CallFault}
use Rattle.xr_types.specs.declared.fault.Fault.{Fault}
use Rattle.xr_types.specs.declared.fault.Fault.TheVariants.{BadArgument, WrongKind}
use Rattle.xr_types.specs.declared.kind.DType.{DType}
use Rattle.xr_types.specs.declared.operation.FoldKind.{FoldKind}
use Rattle.xr_arrays.specs.declared.node.Node.{Node}
use Rattle.xr_arrays.specs.Folds.{folded_kind}
use Rattle.xr_defs.specs.Building.{element_cell, truth_number}
use Rattle.xr_defs.specs.declared.grouping.Grouping.{Grouping}
use Rattle.xr_defs.specs.declared.grouping.Grouping.TheVariants.{Dates, Coordinate, Bins, Windows, Blocks}
use Rattle.xr_defs.specs.declared.value.Coord.{Coord}
use Rattle.xr_defs.specs.Meanings as meanings
use Rattle.xr_defs.specs.Meanings.{Given, Value}
use Rattle.xr_defs.specs.Parts.{axes_called, without_idle}
use Rattle.xr_defs.specs.Values as of
use Rattle.xr_defs.specs.Values.{without_fills}
use Rattle.xr_defs.specs.WellFormed.{labelled, names_of, variable_names, IsVariable}
use Rattle.xr_operations.specs.Arithmetic.{is_truths}
use Rattle.xr_operations.specs.CellMethods.{literal_for}
use Rattle.xr_operations.specs.Moves.{fill_called, fill_for}
use Rattle.xr_operations.specs.Reductions.{check_size, size_called}
use Rattle.xr_parts.specs.Frames.{IsFrame}
use Rattle.xr_parts.proofs.Axes.{named_again}
use Rattle.xr_parts.proofs.Words.{AreAmong}
use Rattle.xr_values.specs.Answers.{AnswersSet}
use Rattle.xr_values.specs.declared.dataset.Dataset.{Dataset}
use Rattle.xr_values.specs.declared.variable.Variable.{Variable}
use Rattle.xr_values.specs.Stands.{dataset_in, variable_in, IsDatasetIn, IsNodeOf}
use Rattle.xr_values.specs.Variables as names
use Rattle.xr_reducing.specs.declared.chars.Frame.{Frame}
use Rattle.xr_reducing.specs.Reduced.{charless, framed_in, IsFrameIn}
use Rattle.xr_reducing.specs.Sets.{IsSetOf}
use Rattle.xr_reducing.proofs.AllVariables.{charless_is}
use Rattle.xr_reducing.proofs.Reduced.{passed}
use Rattle.xr_groups.specs.declared.maker.Maker.{Maker}
use Rattle.xr_groups.specs.declared.change.Change.{Change}
use Rattle.xr_groups.specs.declared.change.Least.{Least}
use Rattle.xr_groups.specs.declared.change.Least.TheVariants.{Empty, Fewer}
use Rattle.xr_groups.specs.Calls.{grouping_over, set_grouping}
use Rattle.xr_groups.specs.Groupings.{grouped_changes}
use Rattle.xr_groups.specs.Listed.{axes_by, coords_by, dimensions, is_grouped}
use Rattle.xr_groups.specs.Methods.{check_filled, check_given, check_kind, check_literal, check_points, check_range, fill_given, fill_of, grouped_of, grouped_set, has_method, keeps_coords, least_of, set_listed, variable_by, variable_listed}
use Rattle.xr_group_sets.specs.Asked.{cell_given, check_range_at, filled_of, IsFrameGrouped}
use Rattle.xr_grouping.specs.Changes.{IsChange}
use Rattle.xr_grouping.proofs.Changed.{binned}
use Rattle.xr_group_sets.specs.Listing.{set_filled, variable_at, variable_filled, IsRolled, IsSetListing, IsVarListing}
use Rattle.xr_group_sets.proofs.Fed.{called_fed}
use Rattle.xr_group_sets.proofs.Filled.{own_change}
use Rattle.xr_group_sets.proofs.Framed.{alone_by, frame_after, methods_of}
use Rattle.xr_group_sets.proofs.Full.{full_of}
use Rattle.xr_group_sets.proofs.Named.{apart_after}
use Rattle.xr_group_sets.proofs.Rolled.{own_windows}
use Rattle.xr_group_sets.proofs.OneVar.{dims_are, distinct_dims, sizes_are}

both_ok : {X : Type 0} (check : X → Result (Unit {0}) Fault) (x : X) (xs : List X) → all_of check (x ∷ xs) ≡ Ok tt → (check x ≡ Ok tt) × (all_of check xs ≡ Ok tt)
both_ok check x xs e = by (check x) e
  where
    by : (r : Result (Unit {0}) Fault) → (r >>= λ u. all_of check xs) ≡ Ok tt → (r ≡ Ok tt) × (all_of check xs ≡ Ok tt)
    by (Ok u) e = (refl, e)
    by (Err f) e = absurd cc

-- bins are of one dimension
sole_of : (grouping : Grouping) (axes : List Axis) (coords : List Coord) (others : List (List ℕ)) (cs : List Change) → IsFrame axes coords → least_of grouping ≡ Empty → grouped_changes grouping axes coords others ≡ Ok cs → (c : Change) × (cs ≡ c ∷ []) × IsChange axes coords others c
sole_of (Dates d field) axes coords others cs frame empty e = absurd cc
sole_of (Coordinate name) axes coords others cs frame empty e = absurd cc
sole_of (Bins d freq) axes coords others cs frame empty e = let one = binned axes coords others frame cs d freq e in (one.change, one.is, one.formed)
sole_of (Windows d w center least) axes coords others cs frame empty e = absurd cc
sole_of (Blocks sizes trim how) axes coords others cs frame empty e = absurd cc

-- windows are those of the axes that a variable has
windows_of : (grouping : Grouping) (k : FoldKind) (axes : List Axis) (coords : List Coord) (others : List (List ℕ)) (cs : List Change) (dims : List (List ℕ)) → AreAmong (axis_names axes) dims → is_grouped cs dims ≡ true → has_method grouping k ≡ true
    → grouped_changes grouping axes coords others ≡ Ok cs → (m : ℕ) → least_of grouping ≡ Fewer m → IsRolled k m cs (axes_called axes dims)
windows_of (Dates d field) k axes coords others cs dims over some method e m el = absurd cc
windows_of (Coordinate name) k axes coords others cs dims over some method e m el = absurd cc
windows_of (Bins d freq) k axes coords others cs dims over some method e m el = absurd cc
windows_of (Windows d w center least) k axes coords others cs dims over some method e m el =
    let same : least ≡ m = cc in
    subst (λ n. IsRolled k n cs (axes_called axes dims)) same (record { dimension = d; width = w; center = center; is = own_windows d w center axes dims over least coords others cs some e; method = method })
windows_of (Blocks sizes trim how) k axes coords others cs dims over some method e m el = absurd cc

pub names_in : (nodes : List Node) (vs : List Variable) → variable_names (map (variable_in nodes) vs) ≡ names.names_of vs
names_in nodes [] = refl
names_in nodes (v ∷ vs) = ap (λ ns. v.name ∷ ns) (names_in nodes vs)

-- ---- what passed checks give

module _ (old : List Node) (k : FoldKind) (grouping : Grouping) (cs : List Change) (fill : Option (Option ℤ)) (s : Dataset) (f : Frame) (is : IsFrameGrouped old k grouping cs s f) where
  frame : IsFrame f.axes s.coords
  frame = record { dims = is.frame.formed.axes; over = is.frame.formed.coords; distinct = is.frame.formed.coords_distinct }

  after : IsFrame (axes_by cs f.axes) (coords_by (keeps_coords grouping) cs s.coords)
  after = frame_after grouping f.axes s.coords (names.names_of f.vars) cs frame is.is is.changes

  one_listing : (v : Variable) → IsNodeOf old v.node (map (size_called f.axes) v.dims) v.kind → IsVariable f.axes (variable_in old v) → check_filled (least_of grouping) cs (is_some fill) ≡ Ok tt → check_range_at k cs fill (variable_in old v) ≡ Ok tt
      → check_points cs f.axes (variable_in old v) ≡ Ok tt → IsVarListing old k (least_of grouping) cs fill f.axes v
  unfolding check_range_at check_points
  one_listing v node formed filled range points = record {
    node = node;
    formed = formed;
    listing = λ some. record {
      each = called_fed f.axes s.coords (names.names_of f.vars) cs v.dims frame.dims.each is.changes formed.over;
      distinct = ap are_distinct (dims_are old k (least_of grouping) cs fill f.axes v frame.dims after.dims.distinct node formed) ∙ distinct_dims old k (least_of grouping) cs fill f.axes v frame.dims after.dims.distinct node formed;
      grouped = ap (is_grouped cs) (named_again f.axes v.dims formed.over) ∙ some;
      method = methods_of grouping k is.method;
      full = λ e. full_of grouping f.axes s.coords (names.names_of f.vars) cs frame e is.is;
      sole = λ e.
          let one = sole_of grouping f.axes s.coords (names.names_of f.vars) cs frame e is.is in
          (one.0, one.1, own_change f.axes s.coords (names.names_of f.vars) frame one.0 one.2 v.dims formed.over (subst (λ ds. is_grouped ds v.dims ≡ true) one.1 some));
      windows = λ m e. windows_of grouping k f.axes s.coords (names.names_of f.vars) cs v.dims formed.over some is.method is.is m e;
      one = alone_by grouping k f.axes s.coords (names.names_of f.vars) cs is.method is.is;
      filled = filled;
      suits = subst (λ b. cond b (check_given (folded_kind k v.kind) fill) (Ok tt) ≡ Ok tt) some range;
      few = ap check_size (sizes_are old k (least_of grouping) cs fill f.axes v frame.dims after.dims.distinct node formed) ∙ points;
    };
  }

  each_listing : (vs : List Variable) → AllByRecursion (λ (v : Variable). IsNodeOf old v.node (map (size_called f.axes) v.dims) v.kind) vs → AllByRecursion (IsVariable f.axes) (map (variable_in old) vs) → check_filled (least_of grouping) cs (is_some fill) ≡ Ok tt
      → all_of (check_range_at k cs fill) (map (variable_in old) vs) ≡ Ok tt → all_of (check_points cs f.axes) (map (variable_in old) vs) ≡ Ok tt → AllByRecursion (IsVarListing old k (least_of grouping) cs fill f.axes) vs
  each_listing [] nodes formed filled ranges points = tt
  each_listing (v ∷ vs) nodes formed filled ranges points =
      let range = both_ok (check_range_at k cs fill) (variable_in old v) (map (variable_in old) vs) ranges in
      let point = both_ok (check_points cs f.axes) (variable_in old v) (map (variable_in old) vs) points in
      (one_listing v nodes.0 formed.0 filled range.0 point.0, each_listing vs nodes.1 formed.1 filled range.1 point.1)

  pub set_listing : check_filled (least_of grouping) cs (is_some fill) ≡ Ok tt → all_of (check_range_at k cs fill) (map (variable_in old) f.vars) ≡ Ok tt → all_of (check_points cs f.axes) (map (variable_in old) f.vars) ≡ Ok tt
      → IsSetListing old k (least_of grouping) (keeps_coords grouping) cs fill s f
  set_listing filled ranges points = record {
    frame = is.frame;
    after = after;
    apart = apart_after f.axes s.coords (names.names_of f.vars) (keeps_coords grouping) cs frame.dims.distinct is.changes
        (subst (λ ns. are_distinct (axis_names (labelled f.axes) ++ (names_of s.coords ++ ns)) ≡ true) (names_in old f.vars) is.frame.formed.vars_distinct) after;
    vars = each_listing f.vars is.frame.nodes_of is.frame.formed.vars filled ranges points;
  }

-- as the code hands them on
module _ (old : List Node) (k : FoldKind) (grouping : Grouping) (cs : List Change) (fill : Option (Option ℤ)) (s : Dataset) (f : Frame) (given : Bool) (least : Least) (keeps : Bool) (own : List Axis) (vs : List Variable) (is : IsFrameGrouped old k grouping cs s f)
    (eg : given ≡ is_some fill) (el : least ≡ least_of grouping) (ek : keeps ≡ keeps_coords grouping) (eo : own ≡ f.axes) (ev : vs ≡ f.vars)
    (filled : check_filled least cs given ≡ Ok tt) (ranges : all_of (check_range_at k cs fill) (map (variable_in old) vs) ≡ Ok tt) (points : all_of (check_points cs own) (map (variable_in old) vs) ≡ Ok tt) where
  filled_here : check_filled (least_of grouping) cs (is_some fill) ≡ Ok tt
  filled_here = subst (λ l. check_filled l cs (is_some fill) ≡ Ok tt) el (subst (λ b. check_filled least cs b ≡ Ok tt) eg filled)

  ranges_here : all_of (check_range_at k cs fill) (map (variable_in old) f.vars) ≡ Ok tt
  ranges_here = subst (λ us. all_of (check_range_at k cs fill) (map (variable_in old) us) ≡ Ok tt) ev ranges

  points_here : all_of (check_points cs f.axes) (map (variable_in old) f.vars) ≡ Ok tt
  points_here = subst (λ us. all_of (check_points cs f.axes) (map (variable_in old) us) ≡ Ok tt) ev (subst (λ xs. all_of (check_points cs xs) (map (variable_in old) vs) ≡ Ok tt) eo points)

  pub listing_told : IsSetListing old k least keeps cs fill s f
  listing_told =
      subst (λ l. IsSetListing old k l keeps cs fill s f) (sym el) (subst (λ b. IsSetListing old k (least_of grouping) b cs fill s f) (sym ek) (set_listing old k grouping cs fill s f is filled_here ranges_here points_here))

  pub filled_told : (new : List Node) (t : Dataset) → IsSetOf new (set_filled k least keeps cs fill (framed_in old s f)) t → (filled_of k grouping cs fill (framed_in old s f) ≡ Ok (dataset_in new t)) × IsDatasetIn new t
  unfolding filled_of
  filled_told new t set =
      let same : set_filled k (least_of grouping) (keeps_coords grouping) cs fill (framed_in old s f) ≡ dataset_in new t =
      ap (λ l. set_filled k l (keeps_coords grouping) cs fill (framed_in old s f)) (sym el) ∙ ap (λ b. set_filled k least b cs fill (framed_in old s f)) (sym ek) ∙ sym set.is in
      (rw (filled_here, ranges_here, points_here) (ap Ok same), set.inside)

-- ---- a fill that is one of the kind of each variable

ok_same : {A : Type 0} (x y : A) → ◌≡◌ {A = Result A Fault} (Ok x) (Ok y) → x ≡ y
ok_same x y e = cc

fill_is : (t : DType) (w : Value) (f : Option ℤ) → fill_for t w ≡ Ok f → f ≡ element_cell w
unfolding fill_for literal_for unless
fill_is t meanings.Missing f e = sym (ok_same None f e)
fill_is t (meanings.Truth b) f e = by (is_truths t) e
  where
    by : (c : Bool) → ((unless c WrongKind >>= λ u. Ok (truth_number b)) >>= λ n. Ok (Some n)) ≡ Ok f → f ≡ Some (truth_number b)
    by true e = sym (ok_same (Some (truth_number b)) f e)
    by false e = absurd cc
fill_is t (meanings.Number n) f e = by (is_truths t) e
  where
    by : (c : Bool) → ((unless (not c) WrongKind >>= λ u. Ok n) >>= λ m. Ok (Some m)) ≡ Ok f → f ≡ Some n
    by true e = absurd cc
    by false e = sym (ok_same (Some n) f e)
fill_is t w f e = absurd cc

abbrev done : Result (Unit {0}) Fault
done = Ok tt

own_fill : (t : DType) (v : Option Value) → (fill_called t v >>= λ f. done) ≡ done → fill_of t v ≡ cell_given v
unfolding fill_called
own_fill t None e = refl
own_fill t (Some w) e = by (fill_for t w) refl e
  where
    by : (r : Result (Option ℤ) Fault) → fill_for t w ≡ r → ((r >>= λ fill. Ok (Some fill)) >>= λ f. done) ≡ done → elim (r >>= λ fill. Ok (Some fill)) [ Err f ↦ None | Ok fill ↦ fill ] ≡ Some (element_cell w)
    by (Ok f) is e = ap Some (fill_is t w f is)
    by (Err f) is e = absurd cc

module _ (k : FoldKind) (cs : List Change) (v : Option Value) where
  same_fill : (x : of.Variable) → check_kind k (dimensions cs) v x ≡ Ok tt → is_grouped cs x.dims ≡ true → fill_of (folded_kind k x.kind) v ≡ cell_given v
  unfolding check_kind
  same_fill x kind some = own_fill (folded_kind k x.kind) v (subst (λ b. cond b (fill_called (folded_kind k x.kind) v >>= λ f. done) done ≡ done) some kind)

  same_range : (x : of.Variable) → check_kind k (dimensions cs) v x ≡ Ok tt → check_range k cs v x ≡ check_range_at k cs (cell_given v) x
  unfolding check_range check_range_at
  same_range x kind = by (is_grouped cs x.dims) refl
    where
      by : (b : Bool) → is_grouped cs x.dims ≡ b → cond b (check_given (folded_kind k x.kind) (fill_of (folded_kind k x.kind) v)) (Ok tt) ≡ cond b (check_given (folded_kind k x.kind) (cell_given v)) (Ok tt)
      by true some = ap (check_given (folded_kind k x.kind)) (same_fill x kind some)
      by false some = refl

  same_ranges : (xs : List of.Variable) → all_of (check_kind k (dimensions cs) v) xs ≡ Ok tt → all_of (check_range k cs v) xs ≡ all_of (check_range_at k cs (cell_given v)) xs
  same_ranges [] kinds = refl
  same_ranges (x ∷ xs) kinds =
      let one = both_ok (check_kind k (dimensions cs) v) x xs kinds in
      ap (λ r. r >>= λ u. all_of (check_range k cs v) xs) (same_range x one.0) ∙ ap (λ r. check_range_at k cs (cell_given v) x >>= λ u. r) (same_ranges xs one.1)

  module _ (grouping : Grouping) (axes : List Axis) where
    same_var : (x : of.Variable) → check_kind k (dimensions cs) v x ≡ Ok tt → variable_by k (least_of grouping) cs v axes x ≡ variable_at k (least_of grouping) cs (cell_given v) axes x
    same_var x kind = by (is_grouped cs x.dims) refl
      where
        with_fill : Option (Option ℤ) → of.Variable
        with_fill own = variable_filled k (least_of grouping) cs own axes x

        by : (b : Bool) → is_grouped cs x.dims ≡ b → cond b (variable_listed k (least_of grouping) cs v axes x) x ≡ cond b (variable_filled k (least_of grouping) cs (cell_given v) axes x) x
        by true some = ap with_fill (same_fill x kind some)
        by false some = refl

    same_vars : (xs : List of.Variable) → all_of (check_kind k (dimensions cs) v) xs ≡ Ok tt → map (variable_by k (least_of grouping) cs v axes) xs ≡ map (variable_at k (least_of grouping) cs (cell_given v) axes) xs
    same_vars [] kinds = refl
    same_vars (x ∷ xs) kinds =
        let one = both_ok (check_kind k (dimensions cs) v) x xs kinds in
        ap (λ y. y ∷ map (variable_by k (least_of grouping) cs v axes) xs) (same_var x one.0) ∙ ap (λ ys. variable_at k (least_of grouping) cs (cell_given v) axes x ∷ ys) (same_vars xs one.1)

  same_set : (grouping : Grouping) (s : of.Dataset) → all_of (check_kind k (dimensions cs) v) s.vars ≡ Ok tt → set_listed k (least_of grouping) (keeps_coords grouping) cs v s ≡ set_filled k (least_of grouping) (keeps_coords grouping) cs (cell_given v) s
  unfolding set_listed set_filled
  same_set grouping s kinds = ap with_vars (same_vars grouping s.axes s.vars kinds)
    where
      with_vars : List of.Variable → of.Dataset
      with_vars xs = without_idle (record { axes = axes_by cs s.axes; coords = coords_by (keeps_coords grouping) cs s.coords; vars = xs; attrs = without_fills s.attrs; skipped = s.skipped })

  given_same : is_some v ≡ is_some (cell_given v)
  given_same = by v
    where
      by : (o : Option Value) → is_some o ≡ is_some (cell_given o)
      by None = refl
      by (Some w) = refl

  filled_same : (grouping : Grouping) (s : of.Dataset) → all_of (check_kind k (dimensions cs) v) s.vars ≡ Ok tt
      → (check_filled (least_of grouping) cs (is_some v) >>= λ x. all_of (check_range k cs v) s.vars >>= λ y. all_of (check_points cs s.axes) s.vars >>= λ z. Ok (set_listed k (least_of grouping) (keeps_coords grouping) cs v s)) ≡ filled_of k grouping cs (cell_given v) s
  unfolding filled_of
  filled_same grouping s kinds =
      ap (λ b. check_filled (least_of grouping) cs b >>= λ x. all_of (check_range k cs v) s.vars >>= λ y. all_of (check_points cs s.axes) s.vars >>= λ z. Ok (set_listed k (least_of grouping) (keeps_coords grouping) cs v s)) given_same
      ∙ ap (λ r. check_filled (least_of grouping) cs (is_some (cell_given v)) >>= λ x. r >>= λ y. all_of (check_points cs s.axes) s.vars >>= λ z. Ok (set_listed k (least_of grouping) (keeps_coords grouping) cs v s)) (same_ranges s.vars kinds)
      ∙ ap (λ t. check_filled (least_of grouping) cs (is_some (cell_given v)) >>= λ x. all_of (check_range_at k cs (cell_given v)) s.vars >>= λ y. all_of (check_points cs s.axes) s.vars >>= λ z. Ok t) (same_set grouping s kinds)

pub grouped_is : (k : FoldKind) (grouping : Grouping) (s : of.Dataset) (g : Given) (v : Option Value) (cs : List Change) → unless (has_method grouping k) BadArgument ≡ Ok tt → fill_given (least_of grouping) g ≡ Ok v → check_literal v ≡ Ok tt
    → grouped_changes grouping s.axes s.coords (variable_names s.vars) ≡ Ok cs → all_of (check_kind k (dimensions cs) v) s.vars ≡ Ok tt → grouped_of k grouping s g ≡ filled_of k grouping cs (cell_given v) s
unfolding grouped_of
grouped_is k grouping s g v cs method fill literal changes kinds = rw (method, fill, literal, changes, kinds) (filled_same k cs v grouping s kinds)

-- ---- the answer

-- as the code hands them on
module _ (old : List Node) (k : FoldKind) (grouping : Grouping) (s : Dataset) (f : Frame) (own : List Axis) (coords : List Coord) (vars : List Variable) (held others : List (List ℕ)) (cs slice : List Change)
    (eo : own ≡ f.axes) (ec : coords ≡ s.coords) (ev : vars ≡ f.vars) (eh : held ≡ names.names_of vars) (en : others ≡ held) (es : slice ≡ cs) (method : unless (has_method grouping k) BadArgument ≡ Ok tt) (changes : grouped_changes grouping own coords others ≡ Ok cs) where
  names_are : others ≡ names.names_of f.vars
  names_are = en ∙ eh ∙ ap names.names_of ev

  changes_here : grouped_changes grouping f.axes s.coords (names.names_of f.vars) ≡ Ok slice
  changes_here =
      subst (λ ns. grouped_changes grouping f.axes s.coords ns ≡ Ok slice) names_are (subst (λ ys. grouped_changes grouping f.axes ys others ≡ Ok slice) ec (subst (λ xs. grouped_changes grouping xs coords others ≡ Ok slice) eo (changes ∙ ap Ok (sym es))))

  pub frame_told : IsFrameIn old s f → AllByRecursion (IsChange own coords others) cs → IsFrameGrouped old k grouping slice s f
  frame_told is each = record {
    frame = is;
    method = passed (has_method grouping k) BadArgument method;
    is = changes_here;
    changes = subst (λ ns. AllByRecursion (IsChange f.axes s.coords ns) slice) names_are
        (subst (λ ys. AllByRecursion (IsChange f.axes ys others) slice) ec (subst (λ xs. AllByRecursion (IsChange xs coords others) slice) eo (subst (AllByRecursion (IsChange own coords others)) (sym es) each)));
  }

  pub answer_told : (new : List Node) (g : Given) (v : Option Value) (least : Least) (cell : Option (Option ℤ)) (r : Result Dataset CallFault) → least ≡ least_of grouping → cell ≡ cell_given v → fill_given least g ≡ Ok v → check_literal v ≡ Ok tt
      → all_of (check_kind k (dimensions slice) v) (map (variable_in old) vars) ≡ Ok tt → AnswersSet new r (filled_of k grouping slice cell (framed_in old s f)) → AnswersSet new r (grouped_of k grouping (framed_in old s f) g)
  answer_told new g v least cell r el ecell fill literal kinds answers =
      let same = grouped_is k grouping (framed_in old s f) g v slice method (subst (λ l. fill_given l g ≡ Ok v) el fill) literal (ap (λ ns. grouped_changes grouping f.axes s.coords ns) (names_in old f.vars) ∙ changes_here)
      (subst (λ us. all_of (check_kind k (dimensions slice) v) (map (variable_in old) us) ≡ Ok tt) ev kinds) in
      subst (AnswersSet new r) (sym same) (subst (λ c. AnswersSet new r (filled_of k grouping slice c (framed_in old s f))) ecell answers)

pub frame_here : (old : List Node) (s : Dataset) (f : Frame) (own : List Axis) (coords : List Coord) → IsFrameIn old s f → own ≡ f.axes → coords ≡ s.coords → IsFrame own coords
frame_here old s f own coords is eo ec =
    subst (λ xs. IsFrame xs coords) (sym eo) (subst (IsFrame f.axes) (sym ec) (record { dims = is.formed.axes; over = is.formed.coords; distinct = is.formed.coords_distinct }))

pub set_begins : (nodes : List Node) (k : FoldKind) (grouping : Grouping) (s : Dataset) (g : Given) (f : Frame) → IsDatasetIn nodes s → f ≡ charless s → grouped_set k grouping (dataset_in nodes s) g ≡ grouped_of k grouping (framed_in nodes s f) g
unfolding grouped_set
set_begins nodes k grouping s g f is e = sym (ap (λ (h : Frame). grouped_of k grouping (framed_in nodes s h) g) e ∙ ap (λ d. grouped_of k grouping d g) (charless_is nodes s is))

-- ---- how it is grouped

pub grouping_begins : (nodes : List Node) (maker : Maker) (s : Dataset) (g : Given) (f : Frame) → IsDatasetIn nodes s → f ≡ charless s → set_grouping maker (dataset_in nodes s) g ≡ grouping_over maker f.axes s.coords (names.names_of f.vars) g
unfolding set_grouping
grouping_begins nodes maker s g f is e =
    ap (λ (d : of.Dataset). grouping_over maker d.axes d.coords (variable_names d.vars) g) (sym (charless_is nodes s is) ∙ ap (framed_in nodes s) (sym e)) ∙ ap (λ ns. grouping_over maker f.axes s.coords ns g) (names_in nodes f.vars)
