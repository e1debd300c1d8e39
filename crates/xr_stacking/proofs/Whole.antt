-- The coordinates of a name.
use Rattle.std.proofs.Common.{◌≡◌, ◌∙◌, ◌≤◌, ◌||◌, ℕ, Bool, true, false, not, List, [], ◌∷◌, ◌++◌, length, get_or, map, cond, Option, Some, None, sym, ap, subst}
use Rattle.std.specs.Prelude.{find, flat_map, IfSome, if◌then◌else◌}
use Rattle.std.specs.Str.{bytes_eq}
use Rattle.std.specs.List.{AllByRecursion}
use Rattle.std.proofs.lemmas.List.{append-nil}
use Rattle.xr_types.specs.Names.{shape_over}
use Rattle.xr_types.specs.Points.{size}
use Rattle.xr_types.specs.declared.axis.Axis.{Axis}
use Rattle.xr_arrays.specs.declared.node.Node.{Node}
use Rattle.xr_combination.specs.Concat.{coord_of_all, has_all}
use Rattle.xr_combination.specs.Pieces.{coords_called, first_set}
use Rattle.xr_defs.specs.Values as of
use Rattle.xr_defs.specs.WellFormed.{IsContent, IsCoordinate}
use Rattle.xr_defs.specs.declared.value.Content.{Content}
use Rattle.xr_defs.specs.declared.value.Content.TheVariants as contents
use Rattle.xr_defs.specs.declared.value.Coord.{Coord}
use Rattle.xr_stacking.proofs.Firsts.{whole}
use Rattle.xr_values.specs.Stands.{dataset_in}
use Rattle.xr_values.specs.declared.dataset.Dataset.{Dataset}
use Rattle.xr_stacking.specs.Coords.{coord_found, AreWhole, HasCoordinates, IsWhole, IsWholeContent}

-- ---- their cells are arrays

whole_content : (shape : List ℕ) (content : Content) → IsContent shape content → IsWholeContent content
whole_content shape (contents.Cells a masked) is = let cells = is.1 in record { whole = cells.whole ∙ ap size (sym is.0); range = cells.range }
whole_content shape (contents.Text t) is = tt
whole_content shape (contents.Time coding t) is = tt

coord_whole : (axes : List Axis) (c : Coord) → IsCoordinate axes c → IsWhole c
coord_whole axes c is = whole_content (shape_over c.axes) c.content is.content

found_whole : (axes : List Axis) (name : List ℕ) (cs : List Coord) → AllByRecursion (IsCoordinate axes) cs → IfSome (find (λ (c : Coord). bytes_eq c.name name) cs) IsWhole
found_whole axes name [] all = tt
found_whole axes name (c ∷ cs) all = by (bytes_eq c.name name) (found_whole axes name cs all.1)
  where
    by : (b : Bool) → IfSome (find (λ (d : Coord). bytes_eq d.name name) cs) IsWhole → IfSome (cond b (Some c) (find (λ (d : Coord). bytes_eq d.name name) cs)) IsWhole
    by true rest = coord_whole axes c all.0
    by false rest = rest

pub called_whole : (name : List ℕ) (ss : List of.Dataset) → AllByRecursion HasCoordinates ss → AreWhole (coords_called name ss)
called_whole name [] all = tt
called_whole name (s ∷ ss) all = by (find (λ (c : Coord). bytes_eq c.name name) s.coords) (found_whole s.axes name s.coords all.0) (called_whole name ss all.1)
  where
    by : (o : Option Coord) → IfSome o IsWhole → AreWhole (coords_called name ss) → AreWhole (elim o [ None ↦ coords_called name ss | Some c ↦ c ∷ coords_called name ss ])
    by None one rest = rest
    by (Some c) one rest = (one, rest)

pub those_whole : (name : List ℕ) (ss : List of.Dataset) (cs : List Coord) → cs ≡ coords_called name ss → AllByRecursion HasCoordinates ss → AreWhole cs
those_whole name ss cs is all = subst AreWhole (sym is) (called_whole name ss all)

-- ---- what stands for them

-- by the tests
abbrev chosen : Bool → List Coord → List Coord
chosen b found = if b then [] else found

of_all : (dim : List ℕ) (axes : List Axis) (ss : List of.Dataset) (c : Coord) (cs : List Coord) → cs ≡ coords_called c.name ss → coord_of_all dim axes ss c ≡ chosen (bytes_eq c.name dim || not (has_all ss cs)) (coord_found dim axes c cs)
of_all dim axes ss c cs is = ap (λ ds. chosen (bytes_eq c.name dim || not (has_all ss ds)) (coord_found dim axes c ds)) (sym is)

pub none_of_all : (dim : List ℕ) (axes : List Axis) (ss : List of.Dataset) (c : Coord) (cs : List Coord) (out : List Coord) → cs ≡ coords_called c.name ss → (bytes_eq c.name dim || not (has_all ss cs)) ≡ true → out ≡ out ++ coord_of_all dim axes ss c
none_of_all dim axes ss c cs out is lacks = sym (ap (λ ds. out ++ ds) (of_all dim axes ss c cs is ∙ ap (λ b. chosen b (coord_found dim axes c cs)) lacks) ∙ append-nil out)

pub one_of_all : (dim : List ℕ) (axes : List Axis) (ss : List of.Dataset) (c : Coord) (cs : List Coord) (out new : List Coord) → cs ≡ coords_called c.name ss → (bytes_eq c.name dim || not (has_all ss cs)) ≡ false → new ≡ out ++ coord_found dim axes c cs
    → new ≡ out ++ coord_of_all dim axes ss c
one_of_all dim axes ss c cs out new is has made = made ∙ ap (λ ds. out ++ ds) (sym (of_all dim axes ss c cs is ∙ ap (λ b. chosen b (coord_found dim axes c cs)) has))

-- of those of the first
pub first_found : (nodes : List Node) (found : Coord → List Coord) (ss : List Dataset) (first : Dataset) (cs out new : List Coord) → 1 ≤ length ss → first ≡ get_or ss 0 first → out ≡ [] → cs ≡ first.coords → new ≡ out ++ flat_map found cs
    → new ≡ flat_map found (first_set (map (dataset_in nodes) ss)).coords
first_found nodes found ss first cs out new some is empty same made =
    made ∙ ap (λ os. os ++ flat_map found cs) empty ∙ ap (flat_map found) (same ∙ sym (ap (λ ts. (first_set (map (dataset_in nodes) ts)).coords) (whole ss first some is)))
