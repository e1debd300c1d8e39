-- The dimensions and kinds of the variables of a name.
use Rattle.std.proofs.Common.{◌≡◌, ◌∙◌, ℕ, true, false, List, [], ◌∷◌, map, Option, Some, None, Result, Ok, Err, refl, sym, ap}
use Rattle.std.specs.Prelude.{find, option_map}
use Rattle.std.specs.Str.{bytes_eq}
use Rattle.xr_types.specs.Results.{◌>>=◌, unless, Answers}
use Rattle.xr_types.specs.declared.fault.CallFault.{CallFault}
use Rattle.xr_types.specs.declared.fault.CallFault.TheVariants as failing
use Rattle.xr_types.specs.declared.fault.Fault.{Fault}
use Rattle.xr_types.specs.declared.fault.Fault.TheVariants.{Conflict}
use Rattle.xr_types.specs.declared.kind.DType.{DType}
use Rattle.xr_arrays.specs.declared.node.Node.{Node}
use Rattle.xr_combination.specs.Concat.{check_kinds, pieces_called}
use Rattle.xr_combination.specs.Pieces.{common_kind_in, kinds_of, variable_piece, variables_called as those_called}
use Rattle.xr_defs.specs.Values as of
use Rattle.xr_merging.proofs.Called.{found_in, over_first}
use Rattle.xr_merging.specs.Dims.{are_over_first, is_variable_over}
use Rattle.xr_merging.specs.Members.{variables_called}
use Rattle.xr_values.specs.Stands.{dataset_in, variable_in}
use Rattle.xr_values.specs.declared.dataset.Dataset.{Dataset}
use Rattle.xr_values.specs.declared.variable.Variable.{Variable}

abbrev pub kinds : List Variable → List DType
kinds vs = map (λ (v : Variable). v.kind) vs

pub kinds_called : (nodes : List Node) (name : List ℕ) (ss : List Dataset) → kinds_of (pieces_called (map (dataset_in nodes) ss) name) ≡ kinds (variables_called name ss)
kinds_called nodes name [] = refl
kinds_called nodes name (s ∷ ss) =
    ap (λ (o : Option of.Variable). kinds_of (map variable_piece (elim o [ None ↦ those_called name (map (dataset_in nodes) ss) | Some v ↦ (dataset_in nodes s, v) ∷ those_called name (map (dataset_in nodes) ss) ]))) (found_in nodes name s.vars)
    ∙ by (find (λ (v : Variable). bytes_eq v.name name) s.vars) (kinds_called nodes name ss)
  where
    by : (o : Option Variable) → kinds_of (pieces_called (map (dataset_in nodes) ss) name) ≡ kinds (variables_called name ss)
        → kinds_of (map variable_piece (elim (option_map (variable_in nodes) o) [ None ↦ those_called name (map (dataset_in nodes) ss) | Some v ↦ (dataset_in nodes s, v) ∷ those_called name (map (dataset_in nodes) ss) ]))
        ≡ kinds (elim o [ None ↦ variables_called name ss | Some v ↦ v ∷ variables_called name ss ])
    by None rest = rest
    by (Some v) rest = ap (λ ts. v.kind ∷ ts) rest

-- what is tested of variables of the program
abbrev checked : List Variable → Result (Unit {0}) Fault
checked vs = unless (are_over_first vs) Conflict >>= λ u. common_kind_in (kinds vs) >>= λ t. Ok tt

kinds_checked : (nodes : List Node) (name : List ℕ) (ss : List Dataset) (vs : List Variable) → vs ≡ variables_called name ss → check_kinds (map (dataset_in nodes) ss) name ≡ checked vs
unfolding check_kinds is_variable_over
kinds_checked nodes name ss vs is =
    (λ i. unless (sym (over_first nodes name ss vs is) i) Conflict >>= λ u. common_kind_in ((kinds_called nodes name ss ∙ ap kinds (sym is)) i) >>= λ t. Ok tt)

pub unlike_dims : (nodes : List Node) (name : List ℕ) (ss : List Dataset) (vs : List Variable) → vs ≡ variables_called name ss → are_over_first vs ≡ false → check_kinds (map (dataset_in nodes) ss) name ≡ Err Conflict
unfolding unless
unlike_dims nodes name ss vs is unlike = kinds_checked nodes name ss vs is ∙ ap (λ b. unless b Conflict >>= λ u. common_kind_in (kinds vs) >>= λ t. Ok tt) unlike

of_kind : (nodes : List Node) (name : List ℕ) (ss : List Dataset) (vs : List Variable) → vs ≡ variables_called name ss → are_over_first vs ≡ true → check_kinds (map (dataset_in nodes) ss) name ≡ (common_kind_in (kinds vs) >>= λ t. Ok tt)
unfolding unless
of_kind nodes name ss vs is over = kinds_checked nodes name ss vs is ∙ ap (λ b. unless b Conflict >>= λ u. common_kind_in (kinds vs) >>= λ t. Ok tt) over

pub unlike_kinds : (nodes : List Node) (name : List ℕ) (ss : List Dataset) (vs : List Variable) (e : CallFault) → vs ≡ variables_called name ss → are_over_first vs ≡ true → Answers (λ (t : DType). t) (Err e) (common_kind_in (kinds vs))
    → Answers (λ u. u) (Err e) (check_kinds (map (dataset_in nodes) ss) name)
unlike_kinds nodes name ss vs (failing.Refused f) is over fails = of_kind nodes name ss vs is over ∙ ap (λ r. r >>= λ t. Ok tt) fails
unlike_kinds nodes name ss vs (failing.Declined n) is over fails = fails
unlike_kinds nodes name ss vs failing.NoMemory is over fails = tt

pub like : (nodes : List Node) (name : List ℕ) (ss : List Dataset) (vs : List Variable) (t : DType) → vs ≡ variables_called name ss → are_over_first vs ≡ true → common_kind_in (kinds vs) ≡ Ok t → check_kinds (map (dataset_in nodes) ss) name ≡ Ok tt
like nodes name ss vs t is over made = of_kind nodes name ss vs is over ∙ ap (λ r. r >>= λ t. Ok tt) made
