-- Folds of cells that are all there are there.
use Rattle.std.proofs.Common.{◌≡◌, ◌<◌, ℕ, suc, ℤ, true, false, List, [], ◌∷◌, length, slice_get, Option, Some, None, is_some, refl, ap, arith}
use Rattle.std.specs.Prelude.{⊤}
use Rattle.std.specs.Int.{int_min, int_max}
use Rattle.std.specs.List.{last_or}
use Rattle.xr_types.specs.declared.kind.DType.{DType}
use Rattle.xr_types.specs.declared.operation.FoldKind.{FoldKind}
use Rattle.xr_types.specs.declared.operation.FoldKind.TheVariants.{Sum, Prod, Min, Max, First, Last, ArgMin, ArgMax, Count, Any, All}
use Rattle.xr_arrays.specs.Folds.{fold_of, greatest, least, numbers, of_both, present}
use Rattle.xr_groups.specs.Methods.{of_groups}
use Rattle.xr_operations.specs.Reductions.{needs_cells}

abbrev pub AreThere : List (ℕ × Option ℤ) → Type 0
AreThere [] = ⊤
AreThere (c ∷ cs) = (is_some c.1 ≡ true) × AreThere cs

pub some_present : (cs : List (ℕ × Option ℤ)) → AreThere cs → 0 < length cs → 0 < length (present cs)
some_present [] all some = absurd (omega arith)
some_present ((p, None) ∷ cs) all some = absurd cc
some_present ((p, Some x) ∷ cs) all some = omega arith

pub all_present : (cs : List (ℕ × Option ℤ)) → AreThere cs → length (present cs) ≡ length cs
all_present [] all = refl
all_present ((p, None) ∷ cs) all = absurd cc
all_present ((p, Some x) ∷ cs) all = ap suc (all_present cs all.1)

both_there : (f : ℤ → ℤ → ℤ) (x : ℤ) (o : Option ℤ) → is_some (of_both f (Some x) o) ≡ true
both_there f x None = refl
both_there f x (Some y) = refl

least_there : (cs : List (ℕ × ℤ)) → 0 < length cs → is_some (least (numbers cs)) ≡ true
least_there [] some = absurd (omega arith)
least_there (c ∷ cs) some = both_there int_min c.1 (least (numbers cs))

greatest_there : (cs : List (ℕ × ℤ)) → 0 < length cs → is_some (greatest (numbers cs)) ≡ true
greatest_there [] some = absurd (omega arith)
greatest_there (c ∷ cs) some = both_there int_max c.1 (greatest (numbers cs))

first_there : (cs : List (ℕ × ℤ)) → 0 < length cs → is_some (slice_get (numbers cs) 0) ≡ true
first_there [] some = absurd (omega arith)
first_there (c ∷ cs) some = refl

last_from : (o : Option ℤ) (xs : List ℤ) → is_some o ≡ true → is_some (last_or o xs) ≡ true
last_from o [] some = some
last_from o (x ∷ xs) some = last_from (Some x) xs refl

last_there : (cs : List (ℕ × ℤ)) → 0 < length cs → is_some (last_or None (numbers cs)) ≡ true
last_there [] some = absurd (omega arith)
last_there (c ∷ cs) some = last_from (Some c.1) (numbers cs) refl

-- the methods of groups, of one present cell and more
pub present_there : (k : FoldKind) (t : DType) (cs : List (ℕ × Option ℤ)) → of_groups k ≡ true → 0 < length (present cs) → is_some (fold_of k t cs) ≡ true
present_there Sum t cs has some = refl
present_there Prod t cs has some = refl
present_there Min t cs has some = least_there (present cs) some
present_there Max t cs has some = greatest_there (present cs) some
present_there First t cs has some = first_there (present cs) some
present_there Last t cs has some = last_there (present cs) some
present_there ArgMin t cs has some = absurd cc
present_there ArgMax t cs has some = absurd cc
present_there Count t cs has some = refl
present_there Any t cs has some = refl
present_there All t cs has some = refl

pub fold_there : (k : FoldKind) (t : DType) (cs : List (ℕ × Option ℤ)) → of_groups k ≡ true → AreThere cs → 0 < length cs → is_some (fold_of k t cs) ≡ true
fold_there k t cs has all some = present_there k t cs has (some_present cs all some)

-- what needs no cells never misses
pub always_there : (k : FoldKind) (t : DType) (cs : List (ℕ × Option ℤ)) → needs_cells k ≡ false → is_some (fold_of k t cs) ≡ true
always_there Sum t cs plain = refl
always_there Prod t cs plain = refl
always_there Min t cs plain = absurd cc
always_there Max t cs plain = absurd cc
always_there First t cs plain = absurd cc
always_there Last t cs plain = absurd cc
always_there ArgMin t cs plain = absurd cc
always_there ArgMax t cs plain = absurd cc
always_there Count t cs plain = refl
always_there Any t cs plain = refl
always_there All t cs plain = refl
