-- Times that are tested one by one.
use Rattle.std.proofs.Common.{◌≡◌, ◌<◌, ◌+◌, ℕ, ℤ, suc, List, [], ◌∷◌, length, take, get_or, All, sym, subst, arith}
use Rattle.std.proofs.Math.Seq.{take-suc}
use Rattle.std.proofs.lemmas.List.Elements.{All-append, All-cons, All-nil}
use Rattle.xr_types.specs.declared.axis.Calendar.{Calendar}
use Rattle.xr_times.specs.Times.{IsTime}

pub time_more : (c : Calendar) (ts : List ℤ) (i : ℕ) (d : ℤ) → i < length ts → All (IsTime c) (take i ts) → IsTime c (get_or ts i d) → All (IsTime c) (take (i + 1) ts)
time_more c ts i d low all one =
    let next : suc i ≡ i + 1 = omega arith in
    subst (λ n. All (IsTime c) (take n ts)) next
    (subst (All (IsTime c)) (sym (take-suc ts i d low)) (All-append (IsTime c) (take i ts) (get_or ts i d ∷ []) all (All-cons (IsTime c) (get_or ts i d) [] one (All-nil (IsTime c)))))
