-- A statement that puts a variable into a dataset.
use Rattle.std.proofs.Common.{◌≡◌, ℕ, List, Result, Ok, Err, refl, sym, ap, ◌∙◌}
use Rattle.xr_types.specs.declared.fault.Fault.{Fault}
use Rattle.xr_types.specs.Results.{◌>>=◌}
use Rattle.xr_syntax.specs.Syntax.{Tree, Placed}
use Rattle.xr_defs.specs.Stores.{Files}
use Rattle.xr_defs.specs.Meanings as of
use Rattle.xr_relations.specs.Aligning.{value_assigned}
use Rattle.xr_runs.specs.Evaluation.{Names, named, value_of}
use Rattle.xr_runs.specs.Runs.{step, with_name}
use Rattle.xr_arrays.specs.declared.node.Node.{Node}
use Rattle.xr_values.specs.Meaning.{meaning}
use Rattle.xr_run.specs.declared.stopped.Stopped.{Stopped}
use Rattle.xr_run.specs.declared.stopped.Stopped.TheVariants.{Refused, Storage, NoMemory}
use Rattle.xr_run.specs.Answers.{Gives}
use Rattle.xr_run.specs.Arguments.{placed_of}
use Rattle.xr_run.specs.Steps.{at, EffectIs}

in_turn : {A B C : Type 0} (m : Result A Fault) (f : A → Result B Fault) (k : B → Result C Fault) → (m >>= λ x. f x >>= k) ≡ ((m >>= f) >>= k)
in_turn (Err e) f k = refl
in_turn (Ok x) f k = refl

module _ (names mid : Names) (files : Files) (name variable : List ℕ) (e : Tree) (v : of.Value) (first : value_of names files e ≡ Ok v) (same : mid ≡ names) (text : List ℕ) where
  so_far : step (Placed name variable e) (at names files text) ≡ ((named mid name >>= λ w. value_assigned w variable v) >>= λ t. Ok (with_name (at names files text) name t))
  unfolding step
  so_far =
      ap (λ o. o >>= λ u. named names name >>= λ w. value_assigned w variable u >>= λ t. Ok (with_name (at names files text) name t)) first
      ∙ in_turn (named names name) (λ w. value_assigned w variable v) (λ t. Ok (with_name (at names files text) name t))
      ∙ ap (λ ns. (named ns name >>= λ w. value_assigned w variable v) >>= λ t. Ok (with_name (at names files text) name t)) (sym same)

  pub placed_done : (t : of.Value) → (named mid name >>= λ w. value_assigned w variable v) ≡ Ok t → step (Placed name variable e) (at names files text) ≡ Ok (with_name (at names files text) name t)
  placed_done t is = so_far ∙ ap (λ o. o >>= λ t. Ok (with_name (at names files text) name t)) is

  pub placed_refused : (f : Fault) → (named mid name >>= λ w. value_assigned w variable v) ≡ Err f → step (Placed name variable e) (at names files text) ≡ Err f
  placed_refused f is = so_far ∙ ap (λ o. o >>= λ t. Ok (with_name (at names files text) name t)) is

pub placed_first : (names : Names) (files : Files) (name variable : List ℕ) (e : Tree) (f : Fault) (text : List ℕ) → value_of names files e ≡ Err f → step (Placed name variable e) (at names files text) ≡ Err f
unfolding step
placed_first names files name variable e f text is = ap (λ o. o >>= λ u. named names name >>= λ w. value_assigned w variable u >>= λ t. Ok (with_name (at names files text) name t)) is

module _ (new : List Node) (names mid : Names) (files : Files) (name variable : List ℕ) (e : Tree) (v : of.Value) (first : value_of names files e ≡ Ok v) (same : mid ≡ names) where
  pub placed_stops : (stopped : Stopped) → Gives (meaning new) (Err stopped) (placed_of mid name variable v) → EffectIs new (Placed name variable e) names files (Err stopped)
  placed_stops (Refused f) told = λ text. placed_refused names mid files name variable e v first same text f told
  placed_stops Storage told = tt
  placed_stops NoMemory told = tt
