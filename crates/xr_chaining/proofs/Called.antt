-- Coordinates of a name, of one dataset after the other.
use Rattle.std.proofs.Common.{◌≡◌, ◌≤◌, ℕ, List, [], ◌∷◌, ◌++◌, Bor, Option, Some, None, Result, Ok, Err, find, get_or, length, map, refl, sym, ap, ◌∙◌, append_assoc}
use Rattle.std.specs.Prelude.{OnOk}
use Rattle.std.specs.Str.{bytes_eq}
use Rattle.xr_defs.specs.Values as of
use Rattle.xr_defs.specs.declared.value.Coord.{Coord}
use Rattle.xr_combination.specs.Pieces.{coords_called}
use Rattle.xr_chaining.proofs.Firsts.{behind, whole_list}

called_first : (name : List ℕ) (s : of.Dataset) (ss : List of.Dataset) → coords_called name (s ∷ ss) ≡ coords_called name (s ∷ []) ++ coords_called name ss
called_first name s ss = by (find (λ (c : Coord). bytes_eq c.name name) s.coords)
  where
    by : (o : Option Coord) → elim o [ None ↦ coords_called name ss | Some c ↦ c ∷ coords_called name ss ] ≡ elim o [ None ↦ [] | Some c ↦ c ∷ [] ] ++ coords_called name ss
    by None = refl
    by (Some c) = refl

pub more_called : {Y E : Type 0} (r : Result (Unit {0}) E) (name : List ℕ) (g : Y → of.Dataset) (old mid new : List (Bor Coord)) (ys : List Y) (y : Y) → 1 ≤ length ys → y ≡ get_or ys 0 y
    → map (λ (c : Bor Coord). c.now) mid ≡ map (λ (c : Bor Coord). c.now) old ++ coords_called name (g y ∷ [])
    → OnOk r (map (λ (c : Bor Coord). c.now) new ≡ map (λ (c : Bor Coord). c.now) mid ++ coords_called name (map g (behind ys)))
    → OnOk r (map (λ (c : Bor Coord). c.now) new ≡ map (λ (c : Bor Coord). c.now) old ++ coords_called name (map g ys))
more_called (Err e) name g old mid new ys y some is first told = tt
more_called (Ok u) name g old mid new ys y some is first told =
    told ∙ ap (λ cs. cs ++ coords_called name (map g (behind ys))) first ∙ append_assoc (map (λ (c : Bor Coord). c.now) old) (coords_called name (g y ∷ [])) (coords_called name (map g (behind ys)))
    ∙ ap (λ cs. map (λ (c : Bor Coord). c.now) old ++ cs) (sym (called_first name (g y) (map g (behind ys))) ∙ ap (λ zs. coords_called name (map g zs)) (sym (whole_list ys y some is)))
