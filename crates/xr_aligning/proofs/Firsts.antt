-- Lists by their first item and the rest, as a function that calls itself takes them.
use Rattle.xr_aligning.proofs.Common.{AllByRecursion, Answers, CallFault, Err, Fault, List, Ok, OnOk, Result, [], all_of, ap, append_assoc, arith, drop, get_or, length, map, refl, subst, sym, take, take_all, ◌++◌, ◌-◌, ◌>>=◌, ◌∙◌, ◌∷◌, ◌≡◌, ◌≤◌}

pub whole_list : {X : Type 0} (xs : List X) (x : X) → 1 ≤ length xs → x ≡ get_or xs 0 x → xs ≡ x ∷ take (length xs - 1) (drop 1 xs)
whole_list [] x some is = absurd (omega arith)
whole_list (y ∷ ys) x some is =
    let n : length (y ∷ ys) - 1 ≡ length ys = omega arith in
    let rest : take (length (y ∷ ys) - 1) (drop 1 (y ∷ ys)) ≡ ys = ap (λ k. take k (drop 1 (y ∷ ys))) n ∙ take_all (length ys) ys (omega arith) in
    (λ i. sym is i ∷ sym rest i)

pub each_rest : {X : Type 0} (P : X → Type 0) (xs : List X) (x : X) → 1 ≤ length xs → x ≡ get_or xs 0 x → AllByRecursion P xs → P x × AllByRecursion P (take (length xs - 1) (drop 1 xs))
each_rest P xs x some is all = subst (AllByRecursion P) (whole_list xs x some is) all
