-- Look-ups on small axes, with the positions that xarray's guide and pandas give.
use Rattle.std.proofs.Common.{◌≡◌, refl, pos, List, [], ◌∷◌, Some, None, Ok, Err, ℤ}
use Rattle.xr_types.specs.declared.axis.Label.TheVariants.{Int, Text}
use Rattle.xr_types.specs.declared.axis.LabelList.{LabelList}
use Rattle.xr_types.specs.declared.axis.LabelList.TheVariants.{Numbers, Texts}
use Rattle.xr_types.specs.declared.kind.DType.TheVariants.{Int64}
use Rattle.xr_types.specs.declared.fault.Fault.TheVariants.{LabelKind, NotUnique, NotMonotonic, NoSuchLabel}
use Rattle.xr_types.specs.declared.operation.Near.TheVariants.{Pad, Backfill, Nearest}
use Rattle.xr_arrays.specs.declared.search.Direction.TheVariants.{Ascending, Descending}
use Rattle.xr_arrays.specs.Labels.{labels_of, find_of, find_near_of, slice_of, direction_of}

abbrev numbers : List ℤ → LabelList
numbers xs = Numbers Int64 xs

-- the labels 5 4 2 1
abbrev falling : LabelList
falling = numbers (pos 5 ∷ pos 4 ∷ pos 2 ∷ pos 1 ∷ [])

falls : direction_of (labels_of falling) ≡ Descending
falls = refl

slice_falling : slice_of falling (Some (Int (pos 4))) (Some (Int (pos 1))) ≡ Ok (1 ∷ 2 ∷ 3 ∷ [])
slice_falling = refl

slice_unordered : slice_of (numbers (pos 1 ∷ pos 3 ∷ pos 2 ∷ [])) (Some (Int (pos 4))) (Some (Int (pos 1))) ≡ Err NotMonotonic
slice_unordered = refl

slice_all : slice_of (numbers (pos 1 ∷ pos 3 ∷ pos 2 ∷ [])) None None ≡ Ok (0 ∷ 1 ∷ 2 ∷ [])
slice_all = refl

-- the labels 10 20
abbrev tens : LabelList
tens = numbers (pos 10 ∷ pos 20 ∷ [])

tie : find_near_of tens (Int (pos 15)) Nearest None ≡ Ok 1
tie = refl

too_far : find_near_of tens (Int (pos 15)) Nearest (Some 4) ≡ Err NoSuchLabel
too_far = refl

pad : find_near_of tens (Int (pos 15)) Pad None ≡ Ok 0
pad = refl

backfill : find_near_of tens (Int (pos 21)) Backfill None ≡ Err NoSuchLabel
backfill = refl

pad_falling : find_near_of falling (Int (pos 3)) Pad None ≡ Err NotMonotonic
pad_falling = refl

nearest_falling : find_near_of falling (Int (pos 3)) Nearest None ≡ Ok 1
nearest_falling = refl

absent : find_of tens (Int (pos 15)) ≡ Err NoSuchLabel
absent = refl

other_kind : find_of tens (Text (49 ∷ 53 ∷ [])) ≡ Err LabelKind
other_kind = refl

twice : find_of (numbers (pos 2 ∷ pos 1 ∷ pos 2 ∷ [])) (Int (pos 2)) ≡ Err NotUnique
twice = refl

once : find_of (numbers (pos 2 ∷ pos 1 ∷ pos 2 ∷ [])) (Int (pos 1)) ≡ Ok 1
once = refl

both_ways : direction_of (Int (pos 7) ∷ Int (pos 7) ∷ []) ≡ Ascending
both_ways = refl

-- bytes, so a capital stands before a small letter
texts : direction_of (labels_of (Texts ((66 ∷ []) ∷ (97 ∷ []) ∷ (97 ∷ 98 ∷ []) ∷ []))) ≡ Ascending
texts = refl
