-- What a grouping makes of dimensions is as it has to be.
use Rattle.std.proofs.Common.{◌≡◌, ◌<◌, ◌||◌, ℕ, Bool, true, List, [], ◌∷◌, length, Option, All, Result, Ok, refl, sym, ap, subst, ◌∙◌}
use Rattle.std.specs.Prelude.{nat_le}
use Rattle.std.specs.Str.{bytes_eq}
use Rattle.std.specs.List.{AllByRecursion}
use Rattle.xr_types.specs.Results.{◌>>=◌, unless}
use Rattle.xr_types.specs.declared.axis.Axis.{Axis}
use Rattle.xr_types.specs.declared.fault.Fault.{Fault}
use Rattle.xr_types.specs.declared.fault.Fault.TheVariants.{BadArgument, DuplicateName}
use Rattle.xr_times.specs.declared.time.Field.{Field}
use Rattle.xr_times.specs.declared.time.Freq.{Freq}
use Rattle.xr_types.specs.declared.operation.FoldKind.{FoldKind}
use Rattle.xr_defs.specs.declared.grouping.BlockSize.{BlockSize}
use Rattle.xr_defs.specs.declared.grouping.Grouping.{Grouping}
use Rattle.xr_defs.specs.declared.grouping.Grouping.TheVariants.{Dates, Coordinate, Bins, Windows, Blocks}
use Rattle.xr_defs.specs.declared.value.Coord.{Coord}
use Rattle.xr_parts.specs.Frames.{IsFrame}
use Rattle.xr_parts.proofs.Words.{each_weaker}
use Rattle.xr_groups.specs.declared.change.Change.{Change}
use Rattle.xr_groups.specs.Groupings.{bin_change, block_changes, changes_of, check_name, coordinate_change, date_change, field_name, grouped_changes, is_free, one_change, window_change}
use Rattle.xr_grouping.specs.Changes.{IsChange, Stays}
use Rattle.xr_grouping.proofs.BlockFacts as blocks
use Rattle.xr_grouping.proofs.Facts as facts
use Rattle.xr_grouping.proofs.KeyFacts as keys
use Rattle.xr_grouping.proofs.Facts.{IsWindowed}
use Rattle.xr_grouping.proofs.Steps.{binds, ok_same, passed}

-- one dimension alone
pub record IsSole (r : Result Change Fault) (g : Grouping) (axes : List Axis) (coords : List Coord) (others : List (List ℕ)) (cs : List Change) : Type 0 where
  pub change : Change
  pub is : cs ≡ change ∷ []
  pub made : r ≡ Ok change
  pub unit : Unit {0}
  pub named : check_name axes coords others g ≡ Ok unit

sole : (r : Result Change Fault) (g : Grouping) (axes : List Axis) (coords : List Coord) (others : List (List ℕ)) (cs : List Change) → changes_of g axes coords ≡ one_change r → grouped_changes g axes coords others ≡ Ok cs → IsSole r g axes coords others cs
unfolding grouped_changes
sole r g axes coords others cs er e =
    let all = binds (changes_of g axes coords) (λ ds. check_name axes coords others g >>= λ u. Ok ds) cs e in
    let named = binds (check_name axes coords others g) (λ u. Ok all.0) cs all.2 in
    let one = binds r (λ c. Ok (c ∷ [])) all.0 (sym er ∙ all.1) in
    record {
      change = one.0;
      is = sym (ok_same all.0 cs named.2) ∙ sym (ok_same (one.0 ∷ []) all.0 one.2);
      made = one.1;
      unit = named.0;
      named = named.1;
    }

module _ (axes : List Axis) (coords : List Coord) (others : List (List ℕ)) (frame : IsFrame axes coords) (cs : List Change) where
  -- one dimension, each of whose lists has positions
  pub record IsFull : Type 0 where
    pub change : Change
    pub is : cs ≡ change ∷ []
    pub formed : IsChange axes coords others change
    pub full : All (λ ps. 0 < length ps) change.lists

  pub dated : (d : List ℕ) (field : Field) → grouped_changes (Dates d field) axes coords others ≡ Ok cs → IsFull
  unfolding changes_of check_name
  dated d field e =
      let one = sole (date_change d field axes) (Dates d field) axes coords others cs refl e in
      let free = passed (bytes_eq (field_name field) d || is_free (field_name field) axes coords others) DuplicateName one.unit one.named in
      let both = facts.dated axes coords others frame.dims.each d field one.change free one.made in
      record { change = one.change; is = one.is; formed = both.0; full = both.1 }

  pub keyed : (name : List ℕ) → grouped_changes (Coordinate name) axes coords others ≡ Ok cs → IsFull
  unfolding changes_of
  keyed name e =
      let one = sole (coordinate_change name axes coords) (Coordinate name) axes coords others cs refl e in
      let both = keys.keyed axes coords others frame name one.change one.made in
      record { change = one.change; is = one.is; formed = both.0; full = both.1 }

  pub record IsOneOf : Type 0 where
    pub change : Change
    pub is : cs ≡ change ∷ []
    pub formed : IsChange axes coords others change

  pub binned : (d : List ℕ) (freq : Freq) → grouped_changes (Bins d freq) axes coords others ≡ Ok cs → IsOneOf
  unfolding changes_of
  binned d freq e =
      let one = sole (bin_change d freq axes) (Bins d freq) axes coords others cs refl e in
      record { change = one.change; is = one.is; formed = facts.binned axes coords others frame.dims.each d freq one.change one.made }

  pub record AreWindows (d : List ℕ) (w : ℕ) (center : Bool) : Type 0 where
    pub change : Change
    pub is : cs ≡ change ∷ []
    pub windowed : IsWindowed axes coords others frame.dims.each d w center change

  -- windows need a cell
  pub needs_one : (d : List ℕ) (w : ℕ) (center : Bool) (least : ℕ) → grouped_changes (Windows d w center least) axes coords others ≡ Ok cs → nat_le 1 least ≡ true
  unfolding grouped_changes changes_of
  needs_one d w center least e =
      let all = binds (unless (nat_le 1 least) BadArgument >>= λ u. one_change (window_change d w center axes)) (λ ds. check_name axes coords others (Windows d w center least) >>= λ u. Ok ds) cs e in
      let some = binds (unless (nat_le 1 least) BadArgument) (λ u. one_change (window_change d w center axes)) all.0 all.1 in
      passed (nat_le 1 least) BadArgument some.0 some.1

  pub windowed : (d : List ℕ) (w : ℕ) (center : Bool) (least : ℕ) → grouped_changes (Windows d w center least) axes coords others ≡ Ok cs → AreWindows d w center
  unfolding changes_of unless
  windowed d w center least e =
      let some = needs_one d w center least e in
      let one = sole (window_change d w center axes) (Windows d w center least) axes coords others cs (ap (λ b. unless b BadArgument >>= λ u. one_change (window_change d w center axes)) some) e in
      record { change = one.change; is = one.is; windowed = facts.windowed axes coords others frame.dims.each d w center one.change one.made }

  alone : (c : Change) → cs ≡ c ∷ [] → IsChange axes coords others c → AllByRecursion (IsChange axes coords others) cs
  alone c is formed = subst (AllByRecursion (IsChange axes coords others)) (sym is) (formed, tt)

  pub blocked : (sizes : List BlockSize) (trim : Bool) (how : Option FoldKind) → grouped_changes (Blocks sizes trim how) axes coords others ≡ Ok cs → AllByRecursion (λ c. IsChange axes coords others c × Stays axes c) cs
  unfolding grouped_changes changes_of check_name
  blocked sizes trim how e =
      let made = binds (block_changes sizes trim how axes) (λ ds. check_name axes coords others (Blocks sizes trim how) >>= λ u. Ok ds) cs e in
      subst (AllByRecursion (λ c. IsChange axes coords others c × Stays axes c)) (ok_same made.0 cs made.2) (blocks.blocked axes coords others frame.dims.each sizes trim how made.0 made.1)

  pub changes_formed : (g : Grouping) → grouped_changes g axes coords others ≡ Ok cs → AllByRecursion (IsChange axes coords others) cs
  changes_formed (Dates d field) e = let r = dated d field e in alone r.change r.is r.formed
  changes_formed (Coordinate name) e = let r = keyed name e in alone r.change r.is r.formed
  changes_formed (Bins d freq) e = let r = binned d freq e in alone r.change r.is r.formed
  changes_formed (Windows d w center least) e = let r = windowed d w center least e in alone r.change r.is r.windowed.formed
  changes_formed (Blocks sizes trim how) e = each_weaker (λ c. IsChange axes coords others c × Stays axes c) (IsChange axes coords others) cs (λ c both. both.0) (blocked sizes trim how e)
