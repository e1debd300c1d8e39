-- A run has one end.
use Rattle.std.proofs.Common.{◌≡◌, ℕ, List, Option, Some, None, refl, sym, ap, subst, ◌∙◌}
use Rattle.xr_types.specs.declared.status.ScriptFault.{ScriptFault}
use Rattle.xr_types.specs.declared.status.Status.TheVariants.{BadScript}
use Rattle.xr_defs.specs.Stores.{Files}
use Rattle.xr_syntax.specs.Syntax.{Line}
use Rattle.xr_syntax.specs.Scripts.{IsScriptText, IsFirstFault}
use Rattle.xr_runs.specs.Runs.{Ended, ended, start, run_from, Run, no_words, no_script, script, ScriptRun, not_begun, begun}

abbrev pub OneTree : Type 0
OneTree = (bytes : List ℕ) (ls ms : List Line) → IsScriptText bytes ls → IsScriptText bytes ms → ls ≡ ms

abbrev pub OneFault : Type 0
OneFault = (bytes : List ℕ) (f g : ScriptFault) → IsFirstFault bytes f → IsFirstFault bytes g → f ≡ g

abbrev pub NotBoth : Type 0
NotBoth = (bytes : List ℕ) (ls : List Line) (f : ScriptFault) → IsScriptText bytes ls → IsFirstFault bytes f → ⊥

one_script_end : OneTree → OneFault → NotBoth → (files : Files) (bytes : List ℕ) (d e : Ended) → ScriptRun files bytes d → ScriptRun files bytes e → d ≡ e
one_script_end tree fault either files bytes d e (not_begun f p) (not_begun g q) = ap (λ h. ended (BadScript h) (start files)) (fault bytes f g p q)
one_script_end tree fault either files bytes d e (not_begun f p) (begun ls q) = absurd (either bytes ls f q p)
one_script_end tree fault either files bytes d e (begun ls p) (not_begun f q) = absurd (either bytes ls f p q)
one_script_end tree fault either files bytes d e (begun ls p) (begun ms q) = ap (λ xs. run_from 1 xs (start files)) (tree bytes ls ms p q)

some_is : (a b : List ℕ) → Some a ≡ Some b → a ≡ b
some_is a b e = cc

none_some : (a : List ℕ) → None ≡ Some a → ⊥
none_some a e = cc

pub one_end : OneTree → OneFault → NotBoth → (files : Files) (word : Option (List ℕ)) (d e : Ended) → Run files word d → Run files word e → d ≡ e
one_end tree fault either files word d e no_words no_words = refl
one_end tree fault either files word d e (no_script name p) (no_script m q) = refl
one_end tree fault either files word d e (no_script name p) (script m bytes f q r) = absurd (none_some bytes (sym p ∙ q))
one_end tree fault either files word d e (script name bytes f q r) (no_script m p) = absurd (none_some bytes (sym p ∙ q))
one_end tree fault either files word d e (script name bytes f p r) (script m others g q t) =
    one_script_end tree fault either files bytes f g r (subst (λ (x : List ℕ). ScriptRun files x g) (some_is others bytes (sym q ∙ p)) t)
