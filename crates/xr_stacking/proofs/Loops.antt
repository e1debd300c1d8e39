-- A list at one of its places, as a loop over a slice takes it.
use Rattle.std.proofs.Common.{◌≡◌, ◌∙◌, ℕ, ◌<◌, ◌+◌, List, ◌∷◌, ◌++◌, length, get_or, drop, sym, ap, append_assoc}
use Rattle.xr_values.proofs.Places.{from_place}

-- what the item here gives is put behind others
pub more : {Y Z : Type 0} (ys : List Y) (i : ℕ) (y : Y) → i < length ys → y ≡ get_or ys i y → (F : List Y → List Z) (G : Y → List Z) → ((x : Y) (xs : List Y) → F (x ∷ xs) ≡ G x ++ F xs) → (whole old new : List Z) → new ≡ old ++ G y
    → old ++ F (drop i ys) ≡ whole → new ++ F (drop (i + 1) ys) ≡ whole
more ys i y inside is F G law whole old new one so_far =
    ap (λ zs. zs ++ F (drop (i + 1) ys)) one ∙ append_assoc old (G y) (F (drop (i + 1) ys)) ∙ ap (λ zs. old ++ zs) (sym (law y (drop (i + 1) ys)) ∙ ap F (sym (from_place ys i y inside is))) ∙ so_far
