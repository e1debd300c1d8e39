-- What a partial keeps of a list stands for it.
use Rattle.std.proofs.Common.{◌≡◌, ◌≤◌, ◌^◌, ℕ, ℤ, pos, List, [], ◌∷◌, length, map, slice_get, Option, Some, None, option_map, arith, ap, refl, ◌∙◌}
use Rattle.std.specs.Int.{w64}
use Rattle.std.specs.List.{last_or}
use Rattle.std.proofs.lemmas.Int.{ints, int_wrap_fits}
use Rattle.xr_types.specs.declared.kind.DType.{DType}
use Rattle.xr_types.specs.declared.operation.FoldKind.{FoldKind}
use Rattle.xr_types.specs.declared.operation.FoldKind.TheVariants.{Sum, Prod, Min, Max, First, Last, ArgMin, ArgMax, Count, Any, All}
use Rattle.xr_types.specs.Kinds.{wrap_to}
use Rattle.xr_arrays.specs.Folds.{present, numbers, sum_of, product_of, total_kind}
use Rattle.fold_kernel.specs.declared.found.Found.{Found}
use Rattle.fold_kernel.specs.Partials.{StandsFor, seen, number_of, IsChosen, found, first_found}
use Rattle.fold_kernel.proofs.Joins.{length-present}
use Rattle.fold_kernel.proofs.Totals.{total_again}

first_number : (cs : List (ℕ × ℤ)) → option_map (λ c. c.number) (first_found cs) ≡ slice_get (numbers cs) 0
first_number [] = refl
first_number (c ∷ cs) = refl

last_number : (o : Option Found) (cs : List (ℕ × ℤ)) → option_map (λ c. c.number) (last_or o (map found cs)) ≡ last_or (option_map (λ c. c.number) o) (numbers cs)
last_number o [] = refl
last_number o (c ∷ cs) = last_number (Some (found c)) cs

pub kept_stands : (k : FoldKind) (t : DType) (n : ℤ) (f : Option Found) (cs : List (ℕ × Option ℤ)) → n ≡ number_of k (present cs) → IsChosen k f (present cs) → length cs ≤ 2 ^ 62 → StandsFor (seen k t n f) cs
kept_stands Sum t n f cs e h few = record { value = ap Some (ap (wrap_to (total_kind t)) e ∙ total_again t (sum_of (numbers (present cs)))); best = refl }
kept_stands Prod t n f cs e h few = record { value = ap Some (ap (wrap_to (total_kind t)) e ∙ total_again t (product_of (numbers (present cs)))); best = refl }
kept_stands Count t n f cs e h few = record { value = ap Some (e ∙ int_wrap_fits w64 (pos (length (present cs))) (omega (arith, ints, length-present cs))); best = refl }
kept_stands Any t n f cs e h few = record { value = ap Some e; best = refl }
kept_stands All t n f cs e h few = record { value = ap Some e; best = refl }
kept_stands Min t n f cs e h few = record { value = h; best = refl }
kept_stands Max t n f cs e h few = record { value = h; best = refl }
kept_stands First t n f cs e h few = record { value = ap (option_map (λ c. c.number)) h ∙ first_number (present cs); best = refl }
kept_stands Last t n f cs e h few = record { value = ap (option_map (λ c. c.number)) h ∙ last_number None (present cs); best = refl }
kept_stands ArgMin t n f cs e h few = record { value = h.0; best = h.1 }
kept_stands ArgMax t n f cs e h few = record { value = h.0; best = h.1 }
