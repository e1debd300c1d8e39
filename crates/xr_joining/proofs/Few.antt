-- Tests of axes and positions.
use Rattle.std.proofs.Common.{◌≡◌, ℕ, true, List, [], ◌∷◌, Option, Some, None, arith}
use Rattle.std.specs.List.{All, list_all}
use Rattle.std.proofs.lemmas.Bool.{and_parts}
use Rattle.std.proofs.lemmas.Bool.Decides.{nat_tests}
use Rattle.std.proofs.lemmas.List.Elements.{All-cons, All-head, All-nil, All-tail}
use Rattle.xr_types.specs.declared.axis.Axis.{Axis}
use Rattle.xr_arrays.specs.Nodes.{IsBelow}
use Rattle.align_join.specs.Joined.{HasFew}
use Rattle.xr_joining.specs.Fitted.{is_below}

pub few_none : All HasFew []
few_none = All-nil HasFew

pub few_more : (x : Axis) (xs : List Axis) → HasFew x → All HasFew xs → All HasFew (x ∷ xs)
few_more x xs here rest = All-cons HasFew x xs here rest

one_below : (n : ℕ) (o : Option ℕ) → is_below n o ≡ true → IsBelow n o
one_below n None e = tt
one_below n (Some i) e = grind (arith, nat_tests)

pub each_below : (n : ℕ) (from : List (Option ℕ)) → list_all (is_below n) from ≡ true → All (IsBelow n) from
each_below n [] e = All-nil (IsBelow n)
each_below n (o ∷ from) e = let parts = and_parts (is_below n o) (list_all (is_below n) from) e in All-cons (IsBelow n) o from (one_below n o parts.0) (each_below n from parts.1)

pub few_head : (x : Axis) (xs : List Axis) → All HasFew (x ∷ xs) → HasFew x
few_head x xs all = All-head HasFew x xs all

pub few_tail : (x : Axis) (xs : List Axis) → All HasFew (x ∷ xs) → All HasFew xs
few_tail x xs all = All-tail HasFew x xs all
