-- The ways in which the cells of a name are put together.
use Rattle.std.proofs.Common.{◌≡◌, ◌∙◌, ◌≤◌, ℕ, Bool, true, false, List, ◌∷◌, length, get_or, map, sym, ap, subst}
use Rattle.std.proofs.lemmas.Bool.{cond-false, cond-true}
use Rattle.std.proofs.lemmas.List.{map-id}
use Rattle.xr_types.specs.Names.{among}
use Rattle.xr_types.specs.declared.axis.Axis.{Axis}
use Rattle.xr_types.specs.declared.kind.DType.{DType}
use Rattle.xr_arrays.specs.Arrays.{Array}
use Rattle.xr_arrays.specs.Nodes.{concatenated, widened}
use Rattle.xr_arrays.specs.declared.node.Node.{Node}
use Rattle.xr_combination.specs.Concat.{first_array, in_kind, piece_concatenated}
use Rattle.xr_combination.specs.Pieces.{Piece, all_attrs, first_piece, is_some_masked, piece_variable}
use Rattle.xr_combining.specs.Placing.{wide, IsNodeFor}
use Rattle.xr_joint.proofs.Firsts.{whole}
use Rattle.xr_joint.specs.Joint.{joint_in, IsReady}
use Rattle.xr_joint.specs.declared.pieces.JointVariable.{JointVariable}
use Rattle.xr_merging.specs.Members.{piece_in}
use Rattle.xr_operations.specs.Reductions.{place_in}
use Rattle.xr_stacking.specs.Members.{sizes_called, AreCellsOf}
use Rattle.xr_stacking.specs.Parts.{brought, AreThere}
use Rattle.xr_stacking.specs.declared.parts.Part.{Part}
use Rattle.xr_values.specs.declared.variable.Variable.{Variable}
use Rattle.xr_concat.specs.Made.{IsJoint}

-- ---- a variable of these cells

abbrev pub piece_of : List (List ℕ) → List Piece → Array → Piece
piece_of dims ps a = record { dims = dims; array = a; masked = is_some_masked ps; attrs = all_attrs ps }

module _ (new : List Node) (name : List ℕ) (dims : List (List ℕ)) (kind : DType) (ps : List Piece) (n : ℕ) (a : Array) (is : IsNodeFor new a n) (of_kind : a.kind ≡ kind) (v : JointVariable) (made : IsJoint name dims kind ps n v) where
  joint_is : (b : Array) → a ≡ b → joint_in new v ≡ piece_variable name (piece_of dims ps b)
  joint_is b same =
      ap (joint_in new) made
      ∙ (λ i. record {
        name = name;
        dims = dims;
        kind = (sym of_kind ∙ ap (λ (x : Array). x.kind) same) i;
        masked = is_some_masked ps;
        attrs = all_attrs ps;
        cells = ap (λ (x : Array). x.cells) (is.is ∙ same) i;
      })

  pub joint_ready : (axes : List Axis) (sizes : List ℕ) → a.shape ≡ sizes → sizes ≡ sizes_called axes dims → (is_some_masked ps ≡ false → AreThere a.cells) → IsReady new axes v
  joint_ready axes sizes shape sizes_are there =
      subst (IsReady new axes) (sym made)
      (record {
        inside = is.inside;
        shape = ap (λ (x : Array). x.shape) is.is ∙ shape ∙ sizes_are;
        kind = ap (λ (x : Array). x.kind) is.is ∙ of_kind;
        seen = λ bare. subst (λ (x : Array). AreThere x.cells) (sym is.is) (there bare);
      })

-- ---- of the cells of a name

module _ (old new : List Node) (dim name : List ℕ) (kind : DType) (vs : List Variable) (parts : List Part) (cells : AreCellsOf old vs parts) (dims : List (List ℕ)) (own : dims ≡ (first_piece (map (piece_in old) vs)).dims) where
  abbrev pieces : List Piece
  pieces = map (piece_in old) vs

  abbrev arrays : List Array
  arrays = in_kind kind pieces

  brought_are : (front : Bool) → map (brought old kind dims front) parts ≡ map (wide front) arrays
  brought_are front = ap (λ ds. map (brought old kind ds front) parts) own ∙ cells.arrays kind (first_piece pieces).dims front

  narrow : map (brought old kind dims false) parts ≡ arrays
  narrow = brought_are false ∙ map-id arrays

  module _ (n : ℕ) (v : JointVariable) where
    -- along a new dimension
    pub stacked_is : (all : List (List ℕ)) → all ≡ dim ∷ dims → IsNodeFor new (concatenated (map (brought old kind dims true) parts) 0) n → (concatenated (map (brought old kind dims true) parts) 0).kind ≡ kind → IsJoint name all kind pieces n v
        → joint_in new v ≡ piece_variable name (piece_concatenated true dim kind pieces)
    stacked_is all all_are is of_kind made =
        let same : concatenated (map (brought old kind dims true) parts) 0 ≡ concatenated (map (λ a. widened a 0 1) arrays) 0 = ap (λ xs. concatenated xs 0) (brought_are true) in
        joint_is new name all kind pieces n (concatenated (map (brought old kind dims true) parts) 0) is of_kind v made (concatenated (map (λ a. widened a 0 1) arrays) 0) same
        ∙ ap (λ ds. piece_variable name (piece_of ds pieces (concatenated (map (λ a. widened a 0 1) arrays) 0))) (all_are ∙ ap (λ ds. dim ∷ ds) own)

    -- end to end
    pub lengthened_is : (axis : ℕ) → axis ≡ place_in dims dim → among (first_piece pieces).dims dim ≡ true → IsNodeFor new (concatenated (map (brought old kind dims false) parts) axis) n → (concatenated (map (brought old kind dims false) parts) axis).kind ≡ kind
        → IsJoint name dims kind pieces n v → joint_in new v ≡ piece_variable name (piece_concatenated false dim kind pieces)
    lengthened_is axis axis_is along is of_kind made =
        let p = first_piece pieces in
        let b = concatenated arrays (place_in p.dims dim) in
        let same : concatenated (map (brought old kind dims false) parts) axis ≡ b = (λ i. concatenated (narrow i) ((axis_is ∙ ap (λ ds. place_in ds dim) own) i)) in
        joint_is new name dims kind pieces n (concatenated (map (brought old kind dims false) parts) axis) is of_kind v made b same
        ∙ ap (λ ds. piece_variable name (piece_of ds pieces b)) own
        ∙ ap (piece_variable name) (sym (cond-true (among p.dims dim) (piece_of p.dims pieces b) (piece_of p.dims pieces (first_array arrays)) along))

    -- the first
    pub kept_is : (part : Part) → 1 ≤ length parts → part ≡ get_or parts 0 part → among (first_piece pieces).dims dim ≡ false → IsNodeFor new (brought old kind dims false part) n → (brought old kind dims false part).kind ≡ kind → IsJoint name dims kind pieces n v
        → joint_in new v ≡ piece_variable name (piece_concatenated false dim kind pieces)
    kept_is part some part_is constant is of_kind made =
        let p = first_piece pieces in
        let b = first_array arrays in
        let same : brought old kind dims false part ≡ b = sym (ap (λ qs. first_array (map (brought old kind dims false) qs)) (whole parts part some part_is)) ∙ ap first_array narrow in
        joint_is new name dims kind pieces n (brought old kind dims false part) is of_kind v made b same
        ∙ ap (λ ds. piece_variable name (piece_of ds pieces b)) own
        ∙ ap (piece_variable name) (sym (cond-false (among p.dims dim) (piece_of p.dims pieces (concatenated arrays (place_in p.dims dim))) (piece_of p.dims pieces b) constant))
