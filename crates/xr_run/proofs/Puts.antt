-- Names that stand for values, one after another, as a loop over slices takes them.
use Rattle.std.proofs.Common.{◌≡◌, ◌≤◌, ◌<◌, ◌-◌, ◌+◌, ℕ, suc, List, ◌∷◌, length, map, get_or, take, drop, Option, All, map-id, sym, ap, ap₂, subst, ◌∙◌, arith}
use Rattle.xr_arguments.proofs.Binding.{first_and_rest}
use Rattle.xr_runs.specs.Runs.{put, put_each}
use Rattle.xr_values.proofs.Places.{from_place}

whole_list : {X : Type 0} (xs : List X) (x : X) → 1 ≤ length xs → x ≡ get_or xs 0 x → xs ≡ x ∷ take (length xs - 1) (drop 1 xs)
whole_list xs x some is = sym (map-id xs) ∙ first_and_rest (λ y. y) xs x some ∙ (λ i. sym is i ∷ map-id (take (length xs - 1) (drop 1 xs)) i)

-- one more name with its value, of those that are left
pub next_put : {X Y : Type 0} (f : Y → X) (entries : List ℕ → Option X) (names : List (List ℕ)) (i : ℕ) (ys : List Y) (whole : List ℕ → Option X) → put_each entries (drop i names) (map f ys) ≡ whole
    → (mid : List ℕ → Option X) (n : List ℕ) (y : Y) (x : X) → i < length names → n ≡ get_or names i n → 1 ≤ length ys → y ≡ get_or ys 0 y → mid ≡ put entries n x → x ≡ f y
    → put_each mid (drop (i + 1) names) (map f (take (length ys - 1) (drop 1 ys))) ≡ whole
next_put f entries names i ys whole so_far mid n y x here is some is_y puts same =
    ap (λ m. put_each m (drop (i + 1) names) (map f (take (length ys - 1) (drop 1 ys)))) (puts ∙ ap (put entries n) same)
    ∙ ap₂ (λ ns zs. put_each entries ns (map f zs)) (sym (from_place names i n here is)) (sym (whole_list ys y some is_y)) ∙ so_far

pub each_after : {X : Type 0} (P : X → Type 0) (xs : List X) (x : X) → 1 ≤ length xs → x ≡ get_or xs 0 x → All P xs → P x × All P (take (length xs - 1) (drop 1 xs))
each_after P xs x some is all =
    let whole = subst (All P) (whole_list xs x some is) all in
    (whole 0 x (omega arith), λ i d lt. whole (suc i) d (omega arith))
