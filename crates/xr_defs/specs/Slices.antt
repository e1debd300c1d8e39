-- The positions of a slice (Python, "Sequence types: s[i:j:k]", and `slice.indices`).
use Rattle.std.specs.Prelude.{◌-◌, ◌%◌, ℕ, ℤ, suc, pos, negsuc, ◌&&◌, ◌==◌, List, [], filter, reverse, min, nat_lt, nat_le, Option, Some, None, if◌then◌else◌}
use Rattle.std.specs.List.{range_with_len}

-- an end of a rising slice of size n, brought into 0 to n: a negative end counts from the size
abbrev pub rising_end : ℕ → ℤ → ℕ
rising_end n (pos e) = min e n
rising_end n (negsuc e) = n - suc e

-- one more than an end of a falling slice, brought into 0 to n
abbrev pub falling_end : ℕ → ℤ → ℕ
falling_end n (pos e) = min (suc e) n
falling_end n (negsuc e) = n - e

abbrev pub given : {A B : Type 0} → B → (A → B) → Option A → B
given none f None = none
given none f (Some x) = f x

-- every k-th position from the start on, below the stop
abbrev pub rising : ℕ → ℕ → ℕ → ℕ → List ℕ
rising n start stop k = filter (λ i. nat_le start i && (nat_lt i stop && ((i - start) % k == 0))) (range_with_len 0 n)

-- every k-th position from below `above` on downwards, from `low` up
abbrev pub falling : ℕ → ℕ → ℕ → ℕ → List ℕ
falling n above low k = reverse (filter (λ i. nat_lt i above && (nat_le low i && ((above - suc i) % k == 0))) (range_with_len 0 n))

-- the positions of a slice on an axis of size n; a step that is missing is 1, and a step of 0 takes none
abbrev pub slice_positions : ℕ → Option ℤ → Option ℤ → Option ℤ → List ℕ
slice_positions n start stop None = rising n (given 0 (rising_end n) start) (given n (rising_end n) stop) 1
slice_positions n start stop (Some (pos k)) = if k == 0 then [] else rising n (given 0 (rising_end n) start) (given n (rising_end n) stop) k
slice_positions n start stop (Some (negsuc k)) = falling n (given n (falling_end n) start) (given 0 (falling_end n) stop) (suc k)
