-- Coordinates of one name whose cells are put one after the other.
use Rattle.std.proofs.Common.{◌≡◌, ◌∙◌, ◌≤◌, ℕ, Bool, true, false, List, [], ◌∷◌, length, get_or, map, sym, ap}
use Rattle.std.specs.List.{AllByRecursion}
use Rattle.std.proofs.lemmas.Bool.{cond-true}
use Rattle.xr_types.specs.Names.{among}
use Rattle.xr_types.specs.declared.attr.Attr.{Attr}
use Rattle.xr_types.specs.declared.axis.Axis.{Axis}
use Rattle.xr_types.specs.declared.kind.DType.{DType}
use Rattle.xr_arrays.specs.Arrays.{Array, IsArray}
use Rattle.xr_arrays.specs.Nodes.{concatenated}
use Rattle.plan_core.proofs.Valued.{at_in, made_is}
use Rattle.xr_combination.specs.Concat.{first_array, in_kind, piece_concatenated, piece_coord}
use Rattle.xr_combination.specs.Pieces.{Piece, all_attrs, as_kind, first_piece, in_first_order, in_order, is_some_masked}
use Rattle.xr_defs.specs.Parts.{axes_called}
use Rattle.xr_defs.specs.declared.value.Content.TheVariants as contents
use Rattle.xr_defs.specs.declared.value.Coord.{Coord}
use Rattle.xr_merging.specs.Held.{held_piece}
use Rattle.xr_merging.specs.declared.held.Held.{Held}
use Rattle.xr_operations.specs.Reductions.{place_in}
use Rattle.xr_stacking.specs.Coords.{HoldsWhole}
use Rattle.xr_stacking.proofs.Firsts.{whole}

-- ---- in order they are arrays

all_whole : (dims : List (List ℕ)) (hs : List Held) → AllByRecursion HoldsWhole hs → AllByRecursion IsArray (map (in_order dims) (map held_piece hs))
all_whole dims [] all = tt
all_whole dims (h ∷ hs) all = (made_is h.cells.now.kind _ _ (λ p here. at_in h.cells.now all.0 _), all_whole dims hs all.1)

pub orders_whole : (hs : List Held) → AllByRecursion HoldsWhole hs → AllByRecursion IsArray (in_first_order (map held_piece hs))
orders_whole hs all = all_whole (first_piece (map held_piece hs)).dims hs all

-- ---- one after the other

abbrev piece_with : List Piece → Array → Piece
piece_with ps a = record { dims = (first_piece ps).dims; array = a; masked = is_some_masked ps; attrs = all_attrs ps }

module _ (dim name : List ℕ) (axes : List Axis) (kind : DType) (hs : List Held) (first : Held) (some : 1 ≤ length hs) (is : first ≡ get_or hs 0 first) (along : among first.dims dim ≡ true) where
  abbrev pieces : List Piece
  pieces = map held_piece hs

  own : first.dims ≡ (first_piece pieces).dims
  own = sym (ap (λ (ks : List Held). (first_piece (map held_piece ks)).dims) (whole hs first some is))

  lengthened : piece_concatenated false dim kind pieces ≡ piece_with pieces (concatenated (in_kind kind pieces) (place_in (first_piece pieces).dims dim))
  lengthened =
      cond-true (among (first_piece pieces).dims dim) (piece_with pieces (concatenated (in_kind kind pieces) (place_in (first_piece pieces).dims dim))) (piece_with pieces (first_array (in_kind kind pieces)))
      (sym (ap (λ ds. among ds dim) own) ∙ along)

  pub ended : (own_name : List ℕ) (arrays : List Array) (a : Array) (masked : Bool) (attrs : List Attr) (over : List Axis) (axis : ℕ) → own_name ≡ name → arrays ≡ in_first_order pieces → axis ≡ place_in first.dims dim → a ≡ concatenated (map (as_kind kind) arrays) axis → over ≡ axes_called axes first.dims → attrs ≡ all_attrs pieces
      → masked ≡ is_some_masked pieces → record { name = own_name; axes = over; attrs = attrs; content = contents.Cells a masked } ≡ piece_coord axes name (piece_concatenated false dim kind pieces)
  ended own_name arrays a masked attrs over axis name_is arrays_are axis_is a_is over_is attrs_are masked_is =
      (λ i. record {
        name = name_is i;
        axes = (over_is ∙ ap (axes_called axes) own) i;
        attrs = attrs_are i;
        content = contents.Cells ((a_is ∙ (λ j. concatenated (map (as_kind kind) (arrays_are j)) ((axis_is ∙ ap (λ ds. place_in ds dim) own) j))) i) (masked_is i);
      })
      ∙ ap (piece_coord axes name) (sym lengthened)
