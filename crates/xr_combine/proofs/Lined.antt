-- A grid put together along one dimension, and then along the others.
use Rattle.std.proofs.Common.{◌≡◌, ◌∙◌, ◌<◌, ◌≤◌, ◌+◌, ◌*◌, ℕ, List, [], ◌∷◌, length, map, get_or, Option, Result, Ok, refl, sym, ap, subst, arith}
use Rattle.std.specs.List.{range_with_len}
use Rattle.xr_types.specs.Points.{size}
use Rattle.xr_types.specs.Results.{◌>>=◌}
use Rattle.xr_types.specs.declared.fault.CallFault.{CallFault}
use Rattle.xr_types.specs.declared.fault.Fault.{Fault}
use Rattle.xr_types.specs.declared.operation.How.{How}
use Rattle.xr_combination.specs.Combine.{concat_sets, grid_concatenated, in_line}
use Rattle.xr_combination.specs.Pieces.{each_of, first_set, no_set}
use Rattle.xr_defs.specs.Meanings.{Value}
use Rattle.xr_defs.specs.Values.{Dataset}
use Rattle.xr_joint.proofs.Failing.{fails_on}
use Rattle.xr_joint.proofs.Firsts.{others, whole}
use Rattle.xr_values.specs.Answers.{Fails}
use Rattle.xr_combine.specs.Steps.{line_concatenated, line_of, lines_of, those_at}

-- numbers by the first and the others
whole_numbers : (ns : List ℕ) → 1 ≤ length ns → ns ≡ get_or ns 0 0 ∷ others ns
whole_numbers [] some = absurd (omega arith)
whole_numbers (n ∷ ns) some = whole (n ∷ ns) n some refl

-- a map of a map, and what each of a map gives
both_mapped : {X Y Z : Type 0} (f : Y → Z) (g : X → Y) (xs : List X) → map f (map g xs) ≡ map (λ x. f (g x)) xs
both_mapped f g [] = refl
both_mapped f g (x ∷ xs) = λ i. f (g x) ∷ both_mapped f g xs i

pub each_mapped : {X Y Z : Type 0} (f : Y → Result Z Fault) (g : X → Y) (xs : List X) → each_of f (map g xs) ≡ each_of (λ x. f (g x)) xs
unfolding each_of
each_mapped f g [] = refl
each_mapped f g (x ∷ xs) = ap (λ r. f (g x) >>= λ z. r >>= λ zs. Ok (z ∷ zs)) (each_mapped f g xs)

module _ (j : How) (fill : Option Value) (dim : List ℕ) (tiles : List Dataset) where
  line_is : (count step start : ℕ) → those_at tiles (line_of count step start) ≡ in_line count step tiles start
  line_is count step start = both_mapped (λ i. get_or tiles i no_set) (λ i. i * step + start) (range_with_len 0 count)

  line_told : (count step start : ℕ) → line_concatenated j fill dim tiles (line_of count step start) ≡ concat_sets j fill dim (in_line count step tiles start)
  unfolding line_concatenated
  line_told count step start = ap (concat_sets j fill dim) (line_is count step start)

  lines_told : (count step : ℕ) → each_of (line_concatenated j fill dim tiles) (lines_of count step) ≡ each_of (λ start. concat_sets j fill dim (in_line count step tiles start)) (range_with_len 0 step)
  lines_told count step =
      each_mapped (line_concatenated j fill dim tiles) (line_of count step) (range_with_len 0 step) ∙ (λ i. each_of (λ start. line_told count step start i) (range_with_len 0 step))

  module _ (dims : List (List ℕ)) (count : ℕ) (ns : List ℕ) (step : ℕ) (lines : List (List ℕ)) (step_is : step ≡ size ns) (lines_are : lines ≡ lines_of count step) where
    grid_told : grid_concatenated j fill (dim ∷ dims) (count ∷ ns) tiles ≡ (each_of (line_concatenated j fill dim tiles) lines >>= λ rest. grid_concatenated j fill dims ns rest)
    unfolding grid_concatenated
    grid_told =
        (λ i. each_of (λ q. concat_sets j fill dim (in_line count (sym step_is i) tiles q)) (range_with_len 0 (sym step_is i)) >>= λ rest. grid_concatenated j fill dims ns rest)
        ∙ ap (λ r. r >>= λ rest. grid_concatenated j fill dims ns rest) (sym (lines_told count step) ∙ ap (each_of (line_concatenated j fill dim tiles)) (sym lines_are))

  -- of a grid that has a first dimension
  module _ (dims : List (List ℕ)) (shape : List ℕ) (some : 1 ≤ length dims) (first : dim ≡ get_or dims 0 dim) (long : 1 ≤ length shape) (step : ℕ) (lines : List (List ℕ)) (step_is : step ≡ size (others shape)) (lines_are : lines ≡ lines_of (get_or shape 0 0) step) where
    grid_at : grid_concatenated j fill dims shape tiles ≡ (each_of (line_concatenated j fill dim tiles) lines >>= λ rest. grid_concatenated j fill (others dims) (others shape) rest)
    grid_at =
        (λ i. grid_concatenated j fill (whole dims dim some first i) (whole_numbers shape long i) tiles) ∙ grid_told (others dims) (get_or shape 0 0) (others shape) step lines step_is lines_are

    pub lines_made : (rest : List Dataset) → each_of (line_concatenated j fill dim tiles) lines ≡ Ok rest → grid_concatenated j fill dims shape tiles ≡ grid_concatenated j fill (others dims) (others shape) rest
    lines_made rest is = grid_at ∙ ap (λ r. r >>= λ ts. grid_concatenated j fill (others dims) (others shape) ts) is

    pub lines_fail : (e : CallFault) → Fails e (each_of (line_concatenated j fill dim tiles) lines) → Fails e (grid_concatenated j fill dims shape tiles)
    lines_fail e fails = subst (Fails e) (sym grid_at) (fails_on e (each_of (line_concatenated j fill dim tiles) lines) (λ rest. grid_concatenated j fill (others dims) (others shape) rest) fails)

module _ (j : How) (fill : Option Value) (tiles : List Dataset) where
  pub no_dims : (dims : List (List ℕ)) (shape : List ℕ) → length dims < 1 → grid_concatenated j fill dims shape tiles ≡ Ok (first_set tiles)
  unfolding grid_concatenated
  no_dims [] shape none = refl
  no_dims (d ∷ ds) shape none = absurd (omega arith)

  pub no_shape : (dims : List (List ℕ)) (shape : List ℕ) → length shape < 1 → grid_concatenated j fill dims shape tiles ≡ Ok (first_set tiles)
  unfolding grid_concatenated
  no_shape [] shape none = refl
  no_shape (d ∷ ds) [] none = refl
  no_shape (d ∷ ds) (n ∷ ns) none = absurd (omega arith)
