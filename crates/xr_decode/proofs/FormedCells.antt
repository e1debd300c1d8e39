-- The attributes and cells of a loaded variable are as they have to be.
use Rattle.std.proofs.Common.{◌≡◌, ℕ, ℤ, Bool, true, false, cond, not, List, [], ◌∷◌, map, filter, Option, Some, None, option_map, is_some, refl, sym, ap, subst, ◌∙◌, arith}
use Rattle.std.specs.Prelude.{All}
use Rattle.std.proofs.lemmas.List.{length-map}
use Rattle.std.proofs.lemmas.List.Elements.{All-nil, All-cons, All-head, All-tail}
use Rattle.xr_types.specs.declared.attr.Attr.{Attr}
use Rattle.xr_files.specs.declared.file.CdfVar.{CdfVar}
use Rattle.xr_files.specs.declared.file.CdfFile.{CdfFile}
use Rattle.xr_files.specs.Classic.{dim_at}
use Rattle.xr_files.specs.Files.{positions}
use Rattle.xr_defs.specs.Decoding.{is_char_attr, without_text_attr, unlisted, is_masked, fill_numbers, is_bool, truth, var_shape, variable_of, variable_as_stored, as_truths}
use Rattle.xr_arrays.specs.Numbers.{numbers_of}
use Rattle.xr_types.specs.Points.{size}
use Rattle.xr_arrays.specs.Stored.{unless_fill}
use Rattle.stored_cells.proofs.Lengths.{numbers-length}
use Rattle.xr_defs.specs.WellFormed.{IsAttribute, AreAttributes, AreCells, AreSeen}
use Rattle.xr_decode.specs.Cells.{fills_used, attrs_as}
use Rattle.xr_decode.specs.Readable.{IsReadableVar}
use Rattle.xr_decode.specs.Stored.{AreBytes}
use Rattle.xr_decode.proofs.Loaded.{IsLoaded}
use Rattle.xr_decode.proofs.Members.{every, at_member, has_filtered}
use Rattle.xr_decode.proofs.OneByOne.{distinct_filter}
use Rattle.xr_decode.proofs.Ranges.{variable_fits, variable-length}

-- ---- attributes

pub without_formed : (name : List ℕ) (attrs : List Attr) → AreAttributes attrs → AreAttributes (without_text_attr name attrs)
without_formed name attrs are =
    let p = λ (a : Attr). not (is_char_attr name a) in
    record {
      each = every IsAttribute (filter p attrs) (λ a h. at_member IsAttribute attrs a are.each (has_filtered p attrs a h).0);
      distinct = distinct_filter (λ (a : Attr). a.name) p attrs are.distinct;
    }

pub attrs_formed : (b : Bool) (v : CdfVar) → AreAttributes v.attrs → AreAttributes (attrs_as b v)
attrs_formed true v are = without_formed _ (unlisted v.attrs) (without_formed _ v.attrs are)
attrs_formed false v are = without_formed _ v.attrs are

pub variable_attrs : (f : CdfFile) (m : Bool) (v : CdfVar) → AreAttributes v.attrs → AreAttributes (variable_of f m v).attrs
variable_attrs f m v are = by (is_bool v)
  where
    by : (b : Bool) → AreAttributes (cond b (as_truths (variable_as_stored f m v)) (variable_as_stored f m v)).attrs
    by true = attrs_formed true v are
    by false = attrs_formed false v are

-- ---- cells that are missing

abbrev IsThere : Option ℤ → Type 0
IsThere c = is_some c ≡ true

all_there : (ns : List ℤ) → All IsThere (map (unless_fill []) ns)
all_there [] = All-nil IsThere
all_there (n ∷ ns) = All-cons IsThere (Some n) (map (unless_fill []) ns) refl (all_there ns)

still_there : (c : Option ℤ) → IsThere c → IsThere (option_map truth c)
still_there None e = absurd cc
still_there (Some n) e = refl

truths_there : (cs : List (Option ℤ)) → All IsThere cs → All IsThere (map (λ c. option_map truth c) cs)
truths_there [] all = All-nil IsThere
truths_there (c ∷ cs) all =
    All-cons IsThere (option_map truth c) (map (λ c. option_map truth c) cs) (still_there c (All-head IsThere c cs all)) (truths_there cs (All-tail IsThere c cs all))

seen_as_stored : (f : CdfFile) (m : Bool) (v : CdfVar) → is_masked m v ≡ false → All IsThere (variable_as_stored f m v).cells
seen_as_stored f m v e =
    let no_fills : fills_used m v ≡ [] = ap (λ b. cond b (fill_numbers v.attrs) []) e in
    subst (λ (fs : List ℤ). All IsThere (map (unless_fill fs) (numbers_of v.kind v.raw))) (sym no_fills) (all_there (numbers_of v.kind v.raw))

seen_formed : (f : CdfFile) (m : Bool) (v : CdfVar) → AreSeen (variable_of f m v).masked (variable_of f m v).cells
seen_formed f m v = by (is_bool v)
  where
    by : (b : Bool) → let x = cond b (as_truths (variable_as_stored f m v)) (variable_as_stored f m v) in AreSeen x.masked x.cells
    by true = λ e. truths_there (variable_as_stored f m v).cells (seen_as_stored f m v e)
    by false = λ e. seen_as_stored f m v e

-- ---- cells

pub cells_formed : (f : CdfFile) (m : Bool) (v : CdfVar) → IsReadableVar f v → IsLoaded f v → AreBytes v.raw → AreCells (var_shape f v) (variable_of f m v).kind (variable_of f m v).masked (variable_of f m v).cells
cells_formed f m v r l bytes =
    record {
      whole = variable-length f m v ∙ numbers-length v.kind v.raw (size (var_shape f v)) l.whole (r.whole l.whole);
      range = variable_fits f m v l.whole bytes;
      seen = seen_formed f m v;
      low_rank = let rank = length-map v.dims (λ i. positions f.numrecs (dim_at f.dims i)) in let few = l.low_rank in omega arith;
      few = l.few;
    }
