-- Arrays in line are put one after the other.
use Rattle.std.proofs.Common.{◌≡◌, ◌∙◌, ◌<◌, ◌≤◌, ℕ, List, [], ◌∷◌, length, map, get_or, set, sum, All, Bor, refl, sym, ap, subst, arith}
use Rattle.std.specs.List.{AllByRecursion}
use Rattle.std.proofs.lemmas.List.{length-map}
use Rattle.std.proofs.lemmas.List.Elements.{All-cons, All-head, All-nil, All-tail}
use Rattle.xr_types.specs.Points.{size}
use Rattle.xr_types.specs.declared.kind.DType.{DType}
use Rattle.xr_arrays.specs.Arrays.{Array}
use Rattle.xr_arrays.specs.Nodes.{concatenated, first_array, most_node_cells, Continues}
use Rattle.xr_combination.specs.Pieces.{as_kind}
use Rattle.xr_combining.specs.Placing.{CanJoin}
use Rattle.xr_stacking.specs.Lines.{first_shape, joined_shape, InLine, SameBut}

abbrev pub shapes_of : List Array → List (List ℕ)
shapes_of bs = map (λ (b : Array). b.shape) bs

abbrev pub AreOfKind : DType → List Array → Type 0
AreOfKind t bs = AllByRecursion (λ (b : Array). b.kind ≡ t) bs

pub cast_kinds : (t : DType) (xs : List Array) → AreOfKind t (map (as_kind t) xs)
cast_kinds t [] = tt
cast_kinds t (x ∷ xs) = (refl, cast_kinds t xs)

module _ (axis : ℕ) where
  first_is : (bs : List Array) → first_shape (shapes_of bs) ≡ (first_array bs).shape
  first_is [] = refl
  first_is (b ∷ bs) = refl

  counts_are : (bs : List Array) → map (λ (s : List ℕ). get_or s axis 0) (shapes_of bs) ≡ map (λ (b : Array). get_or b.shape axis 0) bs
  counts_are [] = refl
  counts_are (b ∷ bs) = ap (λ ns. get_or b.shape axis 0 ∷ ns) (counts_are bs)

  pub joined_is : (bs : List Array) → (concatenated bs axis).shape ≡ joined_shape axis (shapes_of bs)
  joined_is bs = (λ i. set (sym (first_is bs) i) axis (sum (sym (counts_are bs) i)))

  each_continues : (t : DType) (a : Array) (bs : List Array) → a.kind ≡ t → AreOfKind t bs → AllByRecursion (SameBut axis a.shape) (shapes_of bs) → All (Continues axis a) bs
  each_continues t a [] first kinds same = All-nil (Continues axis a)
  each_continues t a (b ∷ bs) first kinds same = All-cons (Continues axis a) b bs (kinds.0 ∙ sym first, same.0) (each_continues t a bs first kinds.1 same.1)

  pub can_join : (t : DType) (bs : List Array) → AreOfKind t bs → InLine axis (shapes_of bs) → CanJoin axis bs
  can_join t [] kinds line = let some = line.some in absurd (omega arith)
  can_join t (b ∷ bs) kinds line = record {
    some = omega arith;
    there = line.there;
    each = each_continues t b (b ∷ bs) kinds.0 kinds line.each;
    small = subst (λ (s : List ℕ). size s ≤ most_node_cells) (sym (joined_is (b ∷ bs))) line.small;
    low_rank = line.low_rank;
  }

pub kind_joined : (t : DType) (axis : ℕ) (bs : List Array) → AreOfKind t bs → 0 < length bs → (concatenated bs axis).kind ≡ t
kind_joined t axis [] kinds some = absurd (omega arith)
kind_joined t axis (b ∷ bs) kinds some = kinds.0

-- ---- arrays at hand

unmapped : {A B : Type 0} (P : B → Type 0) (f : A → B) (xs : List A) → All P (map f xs) → All (λ x. P (f x)) xs
unmapped P f [] all = All-nil (λ x. P (f x))
unmapped P f (x ∷ xs) all = All-cons (λ x. P (f x)) x xs (All-head P (f x) (map f xs) all) (unmapped P f xs (All-tail P (f x) (map f xs) all))

abbrev pub seen : List (Bor Array) → List Array
seen inputs = map (λ (a : Bor Array). a.now) inputs

module _ (axis : ℕ) (kind : DType) (xs cast : List Array) (shapes : List (List ℕ)) (inputs : List (Bor Array)) (is : cast ≡ map (as_kind kind) xs) (are : shapes ≡ shapes_of cast) (line : InLine axis shapes) (same : seen inputs ≡ cast) where
  pub inputs_join : CanJoin axis (seen inputs)
  inputs_join = subst (CanJoin axis) (sym (same ∙ is)) (can_join axis kind (map (as_kind kind) xs) (cast_kinds kind xs) (subst (InLine axis) (are ∙ ap shapes_of is) line))

  pub inputs_some : 0 < length inputs
  inputs_some = let joined = inputs_join in let some = joined.some in let long = length-map inputs (λ (a : Bor Array). a.now) in omega arith

  pub inputs_each : All (λ (a : Bor Array). Continues axis (first_array (seen inputs)) a.now) inputs
  inputs_each = let joined = inputs_join in unmapped (Continues axis (first_array (seen inputs))) (λ (a : Bor Array). a.now) inputs joined.each
