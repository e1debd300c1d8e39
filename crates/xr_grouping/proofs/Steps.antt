-- Steps of which each went well, and lists as long as others.
use Rattle.std.proofs.Common.{◌≡◌, ◌≤◌, ◌+◌, ℕ, zero, suc, Bool, true, false, cond, List, [], ◌∷◌, length, map, filter, All, Result, Ok, Err, refl, ap, arith}
use Rattle.std.specs.List.{AllByRecursion, range_with_len}
use Rattle.xr_types.specs.Results.{◌>>=◌, unless}
use Rattle.xr_types.specs.declared.fault.Fault.{Fault}

pub binds : {A B : Type 0} (r : Result A Fault) (f : A → Result B Fault) (y : B) → (r >>= f) ≡ Ok y → (a : A) × (r ≡ Ok a) × (f a ≡ Ok y)
binds (Ok a) f y e = (a, refl, e)
binds (Err g) f y e = absurd cc

ok_or : {A : Type 0} → A → Result A Fault → A
ok_or x (Ok z) = z
ok_or x (Err g) = x

pub ok_same : {A : Type 0} (x y : A) → ◌≡◌ {A = Result A Fault} (Ok x) (Ok y) → x ≡ y
unfolding ok_or
ok_same x y e = ap (ok_or x) e

pub passed : (b : Bool) (f : Fault) (u : Unit {0}) → unless b f ≡ Ok u → b ≡ true
unfolding unless
passed true f u e = refl
passed false f u e = absurd cc

pub filter_few : {X : Type 0} (test : X → Bool) (xs : List X) → length (filter test xs) ≤ length xs
filter_few test [] = omega arith
filter_few test (x ∷ xs) = by (test x) (filter_few test xs)
  where
    by : (b : Bool) → length (filter test xs) ≤ length xs → length (cond b (x ∷ filter test xs) (filter test xs)) ≤ suc (length xs)
    by true le = omega (arith, le)
    by false le = omega (arith, le)

pub range_long : (from n : ℕ) → length (range_with_len from n) ≡ n
range_long from zero = refl
range_long from (suc n) = ap suc (range_long (from + 1) n)

pub all_by : {X : Type 0} (P : X → Type 0) (xs : List X) → AllByRecursion P xs → All P xs
all_by P [] all i x lt = absurd (omega arith)
all_by P (y ∷ ys) all zero x lt = all.0
all_by P (y ∷ ys) all (suc i) x lt = all_by P ys all.1 i x (omega arith)

pub mapped_length : {X Y : Type 0} (f : X → Y) (xs : List X) → length (map f xs) ≡ length xs
mapped_length f [] = refl
mapped_length f (x ∷ xs) = ap suc (mapped_length f xs)
