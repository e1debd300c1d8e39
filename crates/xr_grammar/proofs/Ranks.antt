-- Operators in the slots of their ranks.
use Rattle.std.proofs.Common.{◌≡◌, ◌<◌, ℕ, ◌+◌, Bool, true, false, cond, Option, Some, None, refl, sym, ap, ◌∙◌, arith}
use Rattle.xr_types.specs.declared.operation.OpKind.{OpKind}
use Rattle.xr_syntax.specs.Syntax.{Tree}
use Rattle.xr_syntax.specs.Grammar.{Rank, Tight, Over}
use Rattle.xr_grammar.specs.Machine.{Slot, Slots, Free, Waiting}
use Rattle.xr_grammar.specs.Machine.{empty, joined, folded, same_rank, above, put}

abbrev height : Rank → ℕ
height Tight = 0
height (Over r) = height r + 1

same_self : (r : Rank) → same_rank r r ≡ true
same_self Tight = refl
same_self (Over r) = same_self r

same_height : (q r : Rank) → same_rank q r ≡ true → height q ≡ height r
same_height Tight Tight h = refl
same_height (Over q) (Over r) h = let k : height q ≡ height r = same_height q r h in omega (arith, k)
same_height Tight (Over r) h = cc
same_height (Over q) Tight h = cc

not_same : (q r : Rank) (b : Bool) → same_rank q r ≡ b → height q < height r → same_rank q r ≡ false
not_same q r true e h = let k : height q ≡ height r = same_height q r e in absurd (omega (arith, k, h))
not_same q r false e h = e

pub some_equal : {A : Type 0} {x y : A} → Some x ≡ Some y → x ≡ y
some_equal h = cc

pub same_equal : (q r : Rank) → same_rank q r ≡ true → q ≡ r
same_equal Tight Tight h = refl
same_equal (Over q) (Over r) h = ap Over (same_equal q r h)
same_equal Tight (Over r) h = cc
same_equal (Over q) Tight h = cc

pub above_some : (r : Rank) (s : Slot) (x : Option (Slots r)) (new : Slots (Over r)) → above s x ≡ Some new → (old : Slots r) × (x ≡ Some old) × (new ≡ Waiting r s old)
above_some r s None new h = cc
above_some r s (Some ss) new h = (ss, refl, sym (some_equal h))

below_test : (r q : Rank) (s : Slot) (ss : Slots r) (o : OpKind) (e : Tree) (new : Slots (Over r)) → ((old : Slots r) → put q o ss e ≡ Some old → height q < height r) → (b : Bool) → same_rank q r ≡ b → cond b (Some (Waiting r (Some (o, joined s (folded ss e))) (empty r))) (above s (put q o ss e)) ≡ Some new → height q < height (Over r)
below_test r q s ss o e new below true c h = let k : height q ≡ height r = same_height q r c in omega (arith, k)
below_test r q s ss o e new below false c h = let (old, g, i) = above_some r s (put q o ss e) new h in let k : height q < height r = below old g in omega (arith, k)

-- an operator is put below the rank of the slots
put_below : {r : Rank} (q : Rank) (ss : Slots r) (o : OpKind) (e : Tree) (new : Slots r) → put q o ss e ≡ Some new → height q < height r
put_below q Free o e new h = cc
put_below q (Waiting r s ss) o e new h = below_test r q s ss o e new (λ old. put_below q ss o e old) (same_rank q r) refl h

pub put_here : (r : Rank) (s : Slot) (ss : Slots r) (o : OpKind) (e : Tree) → put r o (Waiting r s ss) e ≡ Some (Waiting r (Some (o, joined s (folded ss e))) (empty r))
put_here r s ss o e = ap (λ (b : Bool). cond b (Some (Waiting r (Some (o, joined s (folded ss e))) (empty r))) (above s (put r o ss e))) (same_self r)

pub put_above : (r q : Rank) (s : Slot) (ss : Slots r) (o : OpKind) (e : Tree) (new : Slots r) → put q o ss e ≡ Some new → put q o (Waiting r s ss) e ≡ Some (Waiting r s new)
put_above r q s ss o e new g =
    ap (λ (b : Bool). cond b (Some (Waiting r (Some (o, joined s (folded ss e))) (empty r))) (above s (put q o ss e))) (not_same q r (same_rank q r) refl (put_below q ss o e new g))
    ∙ ap (λ (x : Option (Slots r)). above s x) g
