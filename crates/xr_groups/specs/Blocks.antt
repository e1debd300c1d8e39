-- Windows and blocks of positions, and the labels of blocks (xarray user guide, "Rolling window operations", "Coarsen large arrays").
use Rattle.std.specs.Prelude.{◌-◌, ◌/◌, ℕ, ℤ, pos, Bool, true, false, List, [], ◌∷◌, map, get_or, fold, Option, Some, None, option_map, option_and_then, if◌then◌else◌}
use Rattle.std.specs.List.{range_with_len}
use Rattle.std.specs.Ordering.{is_lt, nat_cmp}
use Rattle.std.specs.Cmp.Lexicographic.{slice_cmp}
use Rattle.xr_types.specs.declared.axis.Axis.{Axis}
use Rattle.xr_types.specs.declared.axis.Labels.{Labels}
use Rattle.xr_types.specs.declared.axis.LabelList.{LabelList}
use Rattle.xr_types.specs.declared.axis.LabelList.TheVariants.{Numbers, Times, Texts}
use Rattle.xr_types.specs.declared.kind.DType.{DType}
use Rattle.xr_types.specs.declared.kind.DType.TheVariants as kinds
use Rattle.xr_types.specs.declared.operation.FoldKind.{FoldKind}
use Rattle.xr_types.specs.declared.operation.FoldKind.TheVariants.{Sum, Prod, Min, Max, First, Last, ArgMin, ArgMax, Count, Any, All}
use Rattle.xr_arrays.specs.FeedPositions.{block, window}
use Rattle.xr_arrays.specs.Folds.{folded_kind, fold_of}

-- ---- windows

-- how far a window reaches before its position, and behind it
abbrev pub before : ℕ → Bool → ℕ
before w center = if center then (w - 1) / 2 else w - 1

abbrev pub behind : ℕ → Bool → ℕ
behind w center = if center then (w - 1) / 2 else 0

abbrev pub windows : ℕ → ℕ → Bool → List (List ℕ)
windows n w center = map (window n (before w center) (behind w center)) (range_with_len 0 n)

-- ---- blocks

abbrev pub blocks : ℕ → ℕ → List (List ℕ)
blocks n w = map (block w) (range_with_len 0 (n / w))

-- ---- the labels of blocks: their least, their greatest or their sum

abbrev pub number_or_zero : Option ℤ → ℤ
number_or_zero None = pos 0
number_or_zero (Some n) = n

abbrev pub numbers_at : List ℤ → List ℕ → List (ℕ × Option ℤ)
numbers_at ns ps = map (λ i. (i, Some (get_or ns i (pos 0)))) ps

abbrev pub block_number : FoldKind → DType → List ℤ → List ℕ → ℤ
block_number k t ns ps = number_or_zero (fold_of k t (numbers_at ns ps))

abbrev pub lower_text : List ℕ → List ℕ → List ℕ
lower_text a b = if is_lt (slice_cmp nat_cmp b a) then b else a

abbrev pub upper_text : List ℕ → List ℕ → List ℕ
upper_text a b = if is_lt (slice_cmp nat_cmp a b) then b else a

abbrev pub text_by : (List ℕ → List ℕ → List ℕ) → List (List ℕ) → List ℕ
text_by choice [] = []
text_by choice (t ∷ ts) = fold choice t ts

abbrev pub is_max : FoldKind → Bool
is_max Max = true
is_max Sum = false
is_max Prod = false
is_max Min = false
is_max First = false
is_max Last = false
is_max ArgMin = false
is_max ArgMax = false
is_max Count = false
is_max Any = false
is_max All = false

abbrev pub block_text : FoldKind → List (List ℕ) → List ℕ → List ℕ
block_text k ts ps = text_by (if is_max k then upper_text else lower_text) (map (λ i. get_or ts i []) ps)

abbrev pub block_list : FoldKind → List (List ℕ) → LabelList → LabelList
block_list k lists (Numbers kind ns) = Numbers (folded_kind k kind) (map (block_number k kind ns) lists)
block_list k lists (Times coding ts) = Times coding (map (block_number k kinds.Int64 ts) lists)
block_list k lists (Texts ts) = Texts (map (block_text k ts) lists)

abbrev pub block_labels : Option FoldKind → List (List ℕ) → Labels → Option Labels
block_labels how lists l = option_map (λ k. record l { list = block_list k lists l.list }) how

abbrev pub block_axis : Option FoldKind → ℕ → Axis → Axis
block_axis how w x = record x { size = x.size / w; labels = option_and_then (block_labels how (blocks x.size w)) x.labels }
