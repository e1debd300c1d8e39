-- Cells of which none is missing.
use Rattle.std.proofs.Common.{◌≡◌, ◌==◌, ◌&&◌, ℕ, ℤ, zero, suc, Bool, true, false, All, List, [], ◌∷◌, map, Option, Some, None, is_some, refl, sym, subst, cond}
use Rattle.std.specs.Prelude.{zip}
use Rattle.std.specs.List.{list_all}
use Rattle.std.proofs.lemmas.Bool.{and_parts}
use Rattle.std.proofs.lemmas.List.Elements.{All-nil, All-cons}
use Rattle.xr_arrays.specs.Arrays.{cell, hidden}
use Rattle.xr_defs.specs.WellFormed.{AreSeen}

abbrev IsThere : Option ℤ → Type 0
IsThere c = is_some c ≡ true

all_there : (ns : List ℤ) → All IsThere (map Some ns)
all_there [] = All-nil IsThere
all_there (n ∷ ns) = All-cons IsThere (Some n) (map Some ns) refl (all_there ns)

one_there : (n : ℤ) (m : ℕ) → (m == 0) ≡ true → IsThere (cell (n, m))
one_there n m is = subst (λ (b : Bool). IsThere (cond b (Some n) None)) (sym is) refl

all_clear : (ns : List ℤ) (ms : List ℕ) → list_all (λ m. m == 0) ms ≡ true → All IsThere (map cell (zip ns ms))
all_clear [] ms is = All-nil IsThere
all_clear (n ∷ ns) [] is = All-nil IsThere
all_clear (n ∷ ns) (m ∷ ms) is =
    let parts = and_parts (m == 0) (list_all (λ k. k == 0) ms) is in All-cons IsThere (cell (n, m)) (map cell (zip ns ms)) (one_there n m parts.0) (all_clear ns ms parts.1)

pub masked_seen : (masked : Bool) (cells : List (Option ℤ)) → masked ≡ true → AreSeen masked cells
masked_seen masked cells is = λ not. absurd (let no : true ≡ false = cc in cc)

pub bare_seen : (masked : Bool) (ns : List ℤ) (cells : List (Option ℤ)) → cells ≡ hidden ns None → AreSeen masked cells
bare_seen masked ns cells is = λ not. subst (All IsThere) (sym is) (all_there ns)

pub clear_seen : (masked : Bool) (ns : List ℤ) (ms : List ℕ) (cells : List (Option ℤ)) → cells ≡ hidden ns (Some ms) → list_all (λ m. m == 0) ms ≡ true → AreSeen masked cells
clear_seen masked ns ms cells is clear = λ not. subst (All IsThere) (sym is) (all_clear ns ms clear)
