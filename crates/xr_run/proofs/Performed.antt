-- What statements do, done.
use Rattle.std.proofs.Common.{◌≡◌, ◌≢◌, ℕ, Bool, true, false, cond, List, [], Option, Some, Ok, map, refl, sym, ap, ap₂, subst, ◌∙◌}
use Rattle.std.specs.Str.{bytes_eq}
use Rattle.std.proofs.Math.Path.{fun_ext}
use Rattle.std.proofs.lemmas.Bool.{false≢true}
use Rattle.std.proofs.lemmas.List.{append-nil}
use Rattle.std.proofs.lemmas.Slice.Eq.{bytes_eq-Decides}
use Rattle.xr_types.specs.declared.text.TextBytes.{TextBytes}
use Rattle.xr_defs.specs.Stores.{Files}
use Rattle.xr_runs.specs.Evaluation.{Names}
use Rattle.xr_runs.specs.Runs.{put, put_each}
use Rattle.xr_arrays.specs.declared.node.Node.{Node}
use Rattle.xr_values.specs.declared.value.Value.{Value}
use Rattle.xr_values.specs.Meaning.{meaning}
use Rattle.xr_run.specs.declared.effect.Effect.{Effect}
use Rattle.xr_run.specs.declared.effect.Effect.TheVariants.{Bind, BindEach, Write}
use Rattle.xr_outside.specs.Outside.{OthersSame}
use Rattle.xr_run.specs.Steps.{at, PerformIs}

-- a map of which one name has a new entry
pub put_is : {X : Type 0} (old new : List ℕ → Option X) (name : List ℕ) (x : X) → new name ≡ Some x → ((n : List ℕ) → n ≢ name → new n ≡ old n) → new ≡ put old name x
put_is old new name x here others =
    fun_ext (λ n.
    let at_n : (b : Bool) → bytes_eq n name ≡ b → new n ≡ cond b (Some x) (old n) = λ b.
    elim b as (λ v. bytes_eq n name ≡ v → new n ≡ cond v (Some x) (old n)) [
      | true ↦ λ e. ap new ((bytes_eq-Decides n name).0 e) ∙ here
      | false ↦ λ e. others n (λ q. false≢true (sym e ∙ (bytes_eq-Decides n name).1 q))
    ] in
    at_n (bytes_eq n name) refl)

pub bound : (nodes : List Node) (e : Effect) (name : TextBytes) (value : Value) (names after : Names) (files : Files) (told : Bool) (taken : List ℕ) → e ≡ Bind name value → after ≡ put names name (meaning nodes value)
    → PerformIs nodes e names after files files told taken taken (Ok tt)
bound nodes e name value names after files told taken is same =
    subst (λ (x : Effect). PerformIs nodes x names after files files told taken taken (Ok tt)) (sym is)
    ([], λ t. sym (append-nil taken), λ text. ap₂ (λ (ns : Names) (w : List ℕ). at ns files w) (sym same) (sym (append-nil text)))

pub bound_each : (nodes : List Node) (e : Effect) (targets : List TextBytes) (values : List Value) (names after : Names) (files : Files) (told : Bool) (taken : List ℕ) → e ≡ BindEach targets values
    → after ≡ put_each names targets (map (meaning nodes) values) → PerformIs nodes e names after files files told taken taken (Ok tt)
bound_each nodes e targets values names after files told taken is same =
    subst (λ (x : Effect). PerformIs nodes x names after files files told taken taken (Ok tt)) (sym is)
    ([], λ t. sym (append-nil taken), λ text. ap₂ (λ (ns : Names) (w : List ℕ). at ns files w) (sym same) (sym (append-nil text)))

pub wrote : (nodes : List Node) (e : Effect) (name : TextBytes) (bytes : List ℕ) (names : Names) (files after : Files) (told : Bool) (taken : List ℕ) → e ≡ Write name bytes
    → after name ≡ Some bytes → OthersSame name files after → PerformIs nodes e names names files after told taken taken (Ok tt)
wrote nodes e name bytes names files after told taken is here others =
    subst (λ (x : Effect). PerformIs nodes x names names files after told taken taken (Ok tt)) (sym is)
    ([], λ t. sym (append-nil taken), λ text. ap₂ (λ (fs : Files) (w : List ℕ). at names fs w) (sym (put_is files after name bytes here others)) (sym (append-nil text)))
