-- What a partial fold is to its callers, and the cells that it stands for.
use Rattle.std.specs.Prelude.{◌≡◌, ◌+ℤ◌, ◌*ℤ◌, ℕ, ℤ, pos, int_le, Bool, true, false, if◌then◌else◌, List, length, map, find, slice_get, Option, Some, None, option_map, option_and_then, ⊤}
use Rattle.std.specs.Int.{int_min, int_max}
use Rattle.std.specs.Ordering.{int_eq}
use Rattle.std.specs.List.{last_or, list_any, list_all}
use Rattle.xr_types.specs.Kinds.{wrap_to}
use Rattle.xr_types.specs.declared.kind.DType.{DType}
use Rattle.xr_types.specs.declared.kind.DType.TheVariants.{Int64}
use Rattle.xr_types.specs.declared.operation.FoldKind.{FoldKind}
use Rattle.xr_types.specs.declared.operation.FoldKind.TheVariants.{Sum, Prod, Min, Max, First, Last, ArgMin, ArgMax, Count, Any, All}
use Rattle.xr_arrays.specs.Folds.{fold_of, total_kind, present, numbers, first_place, least, greatest, sum_of, product_of, truth, is_nonzero}
use Rattle.fold_kernel.specs.declared.found.Found.{Found}

-- a fold so far: which one, of cells of which kind, its value, and for argmin and argmax the number at that position
pub record Folded : Type 0 where
  pub kind : FoldKind
  pub of : DType
  pub value : Option ℤ
  pub best : Option ℤ

-- the number whose position the fold gives
abbrev pub best_of : FoldKind → List (ℕ × ℤ) → Option ℤ
best_of ArgMin cs = least (numbers cs)
best_of ArgMax cs = greatest (numbers cs)
best_of k cs = None

-- the partial has folded these cells: a position and a number or None each, in ascending order of positions
pub record StandsFor (p : Folded) (cs : List (ℕ × Option ℤ)) : Type 0 where
  pub value : p.value ≡ fold_of p.kind p.of cs
  pub best : p.best ≡ best_of p.kind (present cs)

-- ---- what a partial keeps: a number for the folds that calculate, a cell for the folds that choose one

-- a sum or product is kept as a number with a sign that agrees with it in 64 bits
abbrev pub value_of : FoldKind → DType → ℤ → Option Found → Option ℤ
value_of Min t n f = option_map (λ c. c.number) f
value_of Max t n f = option_map (λ c. c.number) f
value_of First t n f = option_map (λ c. c.number) f
value_of Last t n f = option_map (λ c. c.number) f
value_of ArgMin t n f = option_map (λ c. pos c.position) f
value_of ArgMax t n f = option_map (λ c. pos c.position) f
value_of Sum t n f = Some (wrap_to (total_kind t) n)
value_of Prod t n f = Some (wrap_to (total_kind t) n)
value_of Count t n f = Some n
value_of Any t n f = Some n
value_of All t n f = Some n

abbrev pub best_number : FoldKind → Option Found → Option ℤ
best_number ArgMin f = option_map (λ c. c.number) f
best_number ArgMax f = option_map (λ c. c.number) f
best_number k f = None

abbrev pub seen : FoldKind → DType → ℤ → Option Found → Folded
seen k t n f = record { kind = k; of = t; value = value_of k t n f; best = best_number k f }

-- the number of both parts
abbrev pub joined_number : FoldKind → ℤ → ℤ → ℤ
joined_number Sum m n = wrap_to Int64 (m +ℤ n)
joined_number Prod m n = wrap_to Int64 (m *ℤ n)
joined_number Count m n = wrap_to Int64 (m +ℤ n)
joined_number Any m n = int_max m n
joined_number All m n = int_min m n
joined_number k m n = pos 0

-- whether the first of two cells is chosen
abbrev pub keeps_first : FoldKind → ℤ → ℤ → Bool
keeps_first Min x y = int_le x y
keeps_first ArgMin x y = int_le x y
keeps_first Max x y = int_le y x
keeps_first ArgMax x y = int_le y x
keeps_first First x y = true
keeps_first k x y = false

-- the cell of both parts
abbrev pub chosen : FoldKind → Option Found → Option Found → Option Found
chosen k None g = g
chosen k (Some c) None = Some c
chosen k (Some c) (Some d) = if keeps_first k c.number d.number then Some c else Some d

-- the number of some present cells
abbrev pub number_of : FoldKind → List (ℕ × ℤ) → ℤ
number_of Sum cs = wrap_to Int64 (sum_of (numbers cs))
number_of Prod cs = wrap_to Int64 (product_of (numbers cs))
number_of Count cs = wrap_to Int64 (pos (length cs))
number_of Any cs = truth (list_any is_nonzero (numbers cs))
number_of All cs = truth (list_all is_nonzero (numbers cs))
number_of k cs = pos 0

abbrev pub found : ℕ × ℤ → Found
found c = record { position = c.0; number = c.1 }

-- the first cell, the last one, and the first with this number
abbrev pub first_found : List (ℕ × ℤ) → Option Found
first_found cs = slice_get (map found cs) 0

abbrev pub last_found : List (ℕ × ℤ) → Option Found
last_found cs = last_or None (map found cs)

abbrev pub found_with : ℤ → List (ℕ × ℤ) → Option Found
found_with x cs = option_map found (find (λ c. int_eq c.1 x) cs)

-- the cell that a fold chooses of some present cells; the position of a least or greatest cell is free where the fold
-- gives its number
abbrev pub IsChosen : FoldKind → Option Found → List (ℕ × ℤ) → Type 0
IsChosen Min f cs = option_map (λ c. c.number) f ≡ least (numbers cs)
IsChosen Max f cs = option_map (λ c. c.number) f ≡ greatest (numbers cs)
IsChosen First f cs = f ≡ first_found cs
IsChosen Last f cs = f ≡ last_found cs
IsChosen ArgMin f cs = (option_map (λ c. pos c.position) f ≡ option_and_then (first_place cs) (least (numbers cs))) × (option_map (λ c. c.number) f ≡ least (numbers cs))
IsChosen ArgMax f cs = (option_map (λ c. pos c.position) f ≡ option_and_then (first_place cs) (greatest (numbers cs))) × (option_map (λ c. c.number) f ≡ greatest (numbers cs))
IsChosen k f cs = ⊤
