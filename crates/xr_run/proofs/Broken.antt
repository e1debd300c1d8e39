-- Where a run is broken off.
use Rattle.std.proofs.Common.{◌≡◌, ◌≢◌, ℕ, Bool, true, false, List, [], ◌∷◌, ◌++◌, take, Option, Some, Result, Ok, Err, inl, inr, refl, sym, ap, subst, ◌∙◌}
use Rattle.std.specs.Prelude.{IsTrue}
use Rattle.std.proofs.lemmas.Bool.{false≢true}
use Rattle.std.proofs.lemmas.List.{append-nil}
use Rattle.xr_types.specs.declared.text.TextBytes.{TextBytes}
use Rattle.xr_types.specs.declared.status.Status.{Status}
use Rattle.xr_arrays.specs.declared.node.Node.{Node}
use Rattle.xr_defs.specs.Stores.{Files}
use Rattle.xr_defs.specs.Messages.{status_line}
use Rattle.xr_syntax.specs.Syntax as tree
use Rattle.xr_syntax.specs.Syntax.{Line}
use Rattle.xr_syntax.specs.Scripts.{IsScriptText}
use Rattle.xr_runs.specs.Evaluation.{Names}
use Rattle.xr_runs.specs.Runs.{State, step}
use Rattle.xr_outside.specs.Outside.{MayHold, OthersSame, Rose}
use Rattle.xr_run.specs.declared.effect.Effect.{Effect}
use Rattle.xr_run.specs.declared.effect.Effect.TheVariants.{Bind, BindEach, Print, Write}
use Rattle.xr_run.specs.declared.stopped.Stopped.{Stopped}
use Rattle.xr_run.specs.Steps.{at, EffectIs, EffectFits}
use Rattle.xr_run.specs.Broken.{Reached, reached_none, reached_more, nothing_done, printing, putting, IsPart, IsPartOf, PerformBroken, StepBroken, ScriptLeft, CommandLeft, Left, IsLine}

-- ---- one statement

pub part_none : (l : Line) (names : Names) (files after : Files) (told : Bool) (taken now : List ℕ) → after ≡ files → now ≡ taken → IsPart l names files after told taken now
part_none l names files after told taken now same nothing = ([], λ t. nothing ∙ sym (append-nil taken), λ ls text. nothing_done same (append-nil text))

-- how much of a text a sink took, where it tells
front : (told : Bool) (whole taken now : List ℕ) → (IsTrue told → (k : ℕ) × (now ≡ taken ++ take k whole)) → (k : ℕ) × (IsTrue told → now ≡ taken ++ take k whole)
front true whole taken now h = let p = h refl in (p.0, λ t. p.1)
front false whole taken now h = (0, λ t. absurd (false≢true t))

part_of : (nodes : List Node) (l : Line) (e : Effect) (names : Names) (files mid after : Files) (told : Bool) (taken now : List ℕ) → mid ≡ files → EffectIs nodes l names files (Ok e) → EffectFits names files l (Ok e)
    → IsPartOf e mid after told taken now → IsPart l names files after told taken now
part_of nodes l (Bind name value) names files mid after told taken now same found fits part = part_none l names files after told taken now (part.0 ∙ same) part.1
part_of nodes l (BindEach targets values) names files mid after told taken now same found fits part = part_none l names files after told taken now (part.0 ∙ same) part.1
part_of nodes (tree.Printed e) (Print text) names files mid after told taken now same found fits part =
    let p = front told text.items taken now part.1 in
    (take p.0 text.items, p.1, λ ls before. printing e ls text.items p.0 refl (found before) (part.0 ∙ same) refl)
part_of nodes (tree.Assigned name e) (Print text) names files mid after told taken now same found fits part = absurd fits
part_of nodes (tree.Aligned ns e) (Print text) names files mid after told taken now same found fits part = absurd fits
part_of nodes (tree.Placed name v e) (Print text) names files mid after told taken now same found fits part = absurd fits
part_of nodes (tree.Written e) (Print text) names files mid after told taken now same found fits part = absurd fits
part_of nodes (tree.Written e) (Write name bytes) names files mid after told taken now same found fits part = (
  [],
  λ t. part.2 ∙ sym (append-nil taken),
  λ ls before.
      putting e ls name bytes refl fits (subst (λ (fs : Files). MayHold bytes (fs name) (after name)) same part.0) (subst (λ (fs : Files). OthersSame name fs after) same part.1) (append-nil before),
)
part_of nodes (tree.Assigned name e) (Write n bytes) names files mid after told taken now same found fits part = absurd fits
part_of nodes (tree.Aligned ns e) (Write n bytes) names files mid after told taken now same found fits part = absurd fits
part_of nodes (tree.Placed name v e) (Write n bytes) names files mid after told taken now same found fits part = absurd fits
part_of nodes (tree.Printed e) (Write n bytes) names files mid after told taken now same found fits part = absurd fits

-- an effect is found, and isn't done whole
pub broken_off : (nodes : List Node) (l : Line) (e : Effect) (names : Names) (files mid after : Files) (told : Bool) (taken now : List ℕ) (r : Result (Unit {0}) Stopped)
    → mid ≡ files → EffectIs nodes l names files (Ok e) → EffectFits names files l (Ok e) → PerformBroken e mid after told taken now r → StepBroken l names files after told taken now r
broken_off nodes l e names files mid after told taken now (Ok u) same found fits part = tt
broken_off nodes l e names files mid after told taken now (Err stopped) same found fits part = part_of nodes l e names files mid after told taken now same found fits part

-- ---- statements

-- the next statement leads on
pub reached_next : (ls : List Line) (s : State) (l : Line) (rest more : List Line) (u t : State) → Reached ls s more u → more ≡ l ∷ rest → step l u ≡ Ok t → Reached ls s rest t
reached_next ls s l rest more u t (reached_none xs v) is e = subst (λ (ys : List Line). Reached ys v rest t) (sym is) (reached_more l rest rest v t t e (reached_none rest t))
reached_next ls s l rest more u t (reached_more m ms xs v w z f so_far) is e = reached_more m ms rest v w t f (reached_next ms w l rest more u t so_far is e)

-- ---- the script and the command

pub script_unbegun : (files : Files) (bytes : List ℕ) (told : Bool) (before : List ℕ) → ScriptLeft files bytes files told before before
script_unbegun files bytes told before = inl (refl, refl)

pub script_left : (files after : Files) (bytes before taken : List ℕ) (told : Bool) (ls : List Line) → IsScriptText bytes ls → Left ls files after told before taken → ScriptLeft files bytes after told before taken
script_left files after bytes before taken told ls is left = inr (ls, is, left)

pub command_unbegun : (files after : Files) (script : Option (List ℕ)) (told : Bool) (before taken : List ℕ) → after ≡ files → taken ≡ before → CommandLeft files script after told before taken
command_unbegun files after script told before taken same nothing = inl (same, nothing)

-- the script is found by a call that leaves the files as they are
pub found_left : (files mid after : Files) (name bytes given before taken : List ℕ) (told : Bool) → given ≡ bytes → mid ≡ files → files name ≡ Some bytes → ScriptLeft mid given after told before taken
    → CommandLeft files (Some name) after told before taken
found_left files mid after name bytes given before taken told is same held (inl none) = inl (none.0 ∙ same, none.1)
found_left files mid after name bytes given before taken told is same held (inr left) =
    inr (name, bytes, left.0, refl, held, subst (λ (xs : List ℕ). IsScriptText xs left.0) is left.1, subst (λ (fs : Files). Left left.0 fs after told before taken) same left.2)

pub named_left : (files after : Files) (w : Option (List ℕ)) (name before taken : List ℕ) (told : Bool) → w ≡ Some name → CommandLeft files (Some name) after told before taken → CommandLeft files w after told before taken
named_left files after w name before taken told is left = subst (λ (v : Option (List ℕ)). CommandLeft files v after told before taken) (sym is) left

-- ---- the line

pub line_said : (w : Option (List ℕ)) (before after text : List ℕ) (p q : ℕ) (status : Status) → text ≡ status_line w status → after ≡ before ++ text → IsLine w before after p q status
line_said w before after text p q status is said = inl (said ∙ ap (λ (t : List ℕ). before ++ t) is)

pub line_broken : (w : Option (List ℕ)) (before after text : List ℕ) (p q : ℕ) (status other : Status) → text ≡ status_line w other → Rose p q → ((k : ℕ) × (after ≡ before ++ take k text)) → IsLine w before after p q status
line_broken w before after text p q status other is rose part = inr (rose, (other, part.0, part.1 ∙ ap (λ (t : List ℕ). before ++ take part.0 t) is))
