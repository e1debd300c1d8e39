-- One statement: what it does is found, and then done.
use Rattle.std.proofs.Common.{◌≡◌, ◌∙◌, ℕ, Bool, List, ◌++◌, Result, Ok, Err, refl, sym, ap, subst}
use Rattle.xr_types.specs.declared.text.TextBytes.{TextBytes}
use Rattle.xr_types.specs.declared.fault.Fault.{Fault}
use Rattle.xr_arrays.specs.declared.node.Node.{Node}
use Rattle.xr_types.specs.Results.{◌>>=◌}
use Rattle.xr_defs.specs.Stores.{Files}
use Rattle.xr_syntax.specs.Syntax as tree
use Rattle.xr_syntax.specs.Syntax.{Tree, Args, Line}
use Rattle.xr_defs.specs.Meanings as of
use Rattle.xr_defs.specs.Meanings.{Given}
use Rattle.xr_runs.specs.Calls.{set_written}
use Rattle.xr_runs.specs.Evaluation.{Names, value_of, given_of}
use Rattle.xr_runs.specs.Runs.{State, step, with_file, written_by}
use Rattle.xr_run.specs.declared.effect.Effect.{Effect}
use Rattle.xr_run.specs.declared.effect.Effect.TheVariants.{Bind, BindEach, Print, Write}
use Rattle.xr_run.specs.declared.stopped.Stopped.{Stopped}
use Rattle.xr_run.specs.declared.stopped.Stopped.TheVariants.{Refused, Storage, NoMemory}
use Rattle.xr_run.specs.Answers.{Gives, GivesOrFails}
use Rattle.xr_run.specs.Steps.{at, done, EffectIs, EffectFits, PerformIs, PerformKeeps, PerformTallied, StepIs, StepKeeps}

-- ---- to_netcdf

written_is : (e : Tree) (s : State) → step (tree.Written e) s ≡ (written_by s.names s.files e >>= λ w. Ok (with_file s w.0 w.1))
unfolding step
written_is e s = refl

asked_is : (names : Names) (files : Files) (e : Tree) (f : List ℕ) (gs : Args) → written_by names files (tree.Method e f gs) ≡ (value_of names files e >>= λ v. given_of names files gs >>= λ g. set_written v g)
unfolding written_by
asked_is names files e f gs = refl

refused : (nodes : List Node) (names : Names) (files : Files) (e : Tree) (fault : Fault) → written_by names files e ≡ Err fault → EffectIs nodes (tree.Written e) names files (Err (Refused fault))
refused nodes names files e fault h = λ text. written_is e (at names files text) ∙ ap (λ x. x >>= λ w. Ok (with_file (at names files text) w.0 w.1)) h

-- a receiver and arguments that are found, by the plan as it is then
module _ (nodes : List Node) (names mid_names : Names) (files mid : Files) (e : Tree) (f : List ℕ) (gs : Args) (v later : of.Value)
    (value : value_of names files e ≡ Ok v) (same_names : mid_names ≡ names) (same : mid ≡ files) where
  receiver_found : written_by names files (tree.Method e f gs) ≡ (given_of names files gs >>= λ g. set_written v g)
  receiver_found = asked_is names files e f gs ∙ ap (λ x. x >>= λ u. given_of names files gs >>= λ g. set_written u g) value

  fault_given : {A : Type 0} (given : A → Given) (s : Stopped) → GivesOrFails given (Err s) (given_of names files gs) → EffectIs nodes (tree.Written (tree.Method e f gs)) names files (Err s)
  fault_given given (Refused fault) h = refused nodes names files (tree.Method e f gs) fault (receiver_found ∙ ap (λ x. x >>= λ g. set_written v g) h)
  fault_given given Storage h = tt
  fault_given given NoMemory h = tt

  pub unargued : {A : Type 0} (given : A → Given) (s : Stopped) → GivesOrFails given (Err s) (given_of mid_names mid gs) → EffectIs nodes (tree.Written (tree.Method e f gs)) names files (Err s)
  unargued given s h =
      fault_given given s (subst (λ (ns : Names). GivesOrFails given (Err s) (given_of ns files gs)) same_names (subst (λ (fs : Files). GivesOrFails given (Err s) (given_of mid_names fs gs)) same h))

  module _ (g : Given) (has : given_of mid_names mid gs ≡ Ok g) (kept : later ≡ v) where
    both_found : written_by names files (tree.Method e f gs) ≡ set_written later g
    both_found =
        let here : given_of names files gs ≡ Ok g = subst (λ (ns : Names). given_of ns files gs ≡ Ok g) same_names (subst (λ (fs : Files). given_of mid_names fs gs ≡ Ok g) same has) in
        receiver_found ∙ ap (λ x. x >>= λ y. set_written v y) here ∙ ap (λ u. set_written u g) (sym kept)

    pub put_file : (name : TextBytes) (bytes : List ℕ) → Gives (λ w. w) (Ok (name, bytes)) (set_written later g) → written_by names files (tree.Method e f gs) ≡ Ok (name, bytes)
    put_file name bytes h = both_found ∙ h

    pub wrote_file : (name : TextBytes) (bytes : List ℕ) → Gives (λ w. w) (Ok (name, bytes)) (set_written later g) → EffectIs nodes (tree.Written (tree.Method e f gs)) names files (Ok (Write name bytes))
    wrote_file name bytes h = λ text. written_is (tree.Method e f gs) (at names files text) ∙ ap (λ x. x >>= λ w. Ok (with_file (at names files text) w.0 w.1)) (put_file name bytes h)

    pub unwritten : (s : Stopped) → Gives (λ w. w) (Err s) (set_written later g) → EffectIs nodes (tree.Written (tree.Method e f gs)) names files (Err s)
    unwritten (Refused fault) h = refused nodes names files (tree.Method e f gs) fault (both_found ∙ h)
    unwritten Storage h = tt
    unwritten NoMemory h = tt

-- ---- a statement, done

pub performed : (nodes : List Node) (l : Line) (e : Effect) (names mid_names after : Names) (files mid files_after : Files) (told : Bool) (taken now : List ℕ) (a b x y : ℕ) (r : Result (Unit {0}) Stopped)
    → mid_names ≡ names → mid ≡ files → EffectIs nodes l names files (Ok e) → PerformIs nodes e mid_names after mid files_after told taken now r → PerformTallied a b x y r
    → StepIs l names after files files_after told taken now r
performed nodes l e names mid_names after files mid files_after told taken now a b x y (Ok u) same_names same found is counts = (
  is.0,
  is.1,
  λ text.
      let here : done nodes e (at names files text) ≡ at after files_after (text ++ is.0) =
      subst (λ (ns : Names). done nodes e (at ns files text) ≡ at after files_after (text ++ is.0)) same_names
      (subst (λ (fs : Files). done nodes e (at mid_names fs text) ≡ at after files_after (text ++ is.0)) same (is.2 text)) in
      found text ∙ ap Ok here,
)
performed nodes l e names mid_names after files mid files_after told taken now a b x y (Err (Refused f)) same_names same found is counts = absurd counts
performed nodes l e names mid_names after files mid files_after told taken now a b x y (Err Storage) same_names same found is counts = tt
performed nodes l e names mid_names after files mid files_after told taken now a b x y (Err NoMemory) same_names same found is counts = tt

pub unperformed : (nodes : List Node) (l : Line) (names after : Names) (files files_after : Files) (told : Bool) (taken : List ℕ) (s : Stopped)
    → after ≡ names → files_after ≡ files → EffectIs nodes l names files (Err s) → StepIs l names after files files_after told taken taken (Err s)
unperformed nodes l names after files files_after told taken (Refused f) same_names same found = (same_names, same, refl, found)
unperformed nodes l names after files files_after told taken Storage same_names same found = tt
unperformed nodes l names after files files_after told taken NoMemory same_names same found = tt

-- a file that only to_netcdf puts
pub kept_by : (l : Line) (e : Effect) (names : Names) (files mid after : Files) → mid ≡ files → EffectFits names files l (Ok e) → PerformKeeps e mid after → StepKeeps l names files after
kept_by l (Bind name value) names files mid after same fits keeps = λ n none. ap (λ (fs : Files). fs n) (keeps ∙ same)
kept_by l (BindEach targets values) names files mid after same fits keeps = λ n none. ap (λ (fs : Files). fs n) (keeps ∙ same)
kept_by l (Print text) names files mid after same fits keeps = λ n none. ap (λ (fs : Files). fs n) (keeps ∙ same)
kept_by (tree.Written e) (Write name bytes) names files mid after same fits keeps = λ n none.
    keeps n (λ is. none (bytes, fits ∙ ap (λ (m : List ℕ). Ok (m, bytes)) (sym is))) ∙ ap (λ (fs : Files). fs n) same
kept_by (tree.Assigned name e) (Write n bytes) names files mid after same fits keeps = absurd fits
kept_by (tree.Aligned ns e) (Write n bytes) names files mid after same fits keeps = absurd fits
kept_by (tree.Placed name v e) (Write n bytes) names files mid after same fits keeps = absurd fits
kept_by (tree.Printed e) (Write n bytes) names files mid after same fits keeps = absurd fits

pub kept_whole : (l : Line) (names : Names) (files after : Files) → after ≡ files → StepKeeps l names files after
kept_whole l names files after same = λ n none. ap (λ (fs : Files). fs n) same
