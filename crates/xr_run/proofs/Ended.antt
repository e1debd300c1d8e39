-- How a run ends, by its status.
use Rattle.std.proofs.Common.{◌≡◌, ◌<◌, ◌++◌, ℕ, Bool, List, length, Option, Some, None, inl, inr, ltb, true, refl, sym, subst, rules, tests}
use Rattle.std.specs.Prelude.{MatchOption}
use Rattle.std.proofs.lemmas.List.{append-nil}
use Rattle.xr_types.specs.declared.status.ScriptFault.{ScriptFault}
use Rattle.xr_types.specs.declared.status.ScriptKind.TheVariants.{TooMany}
use Rattle.xr_types.specs.declared.status.Status.{Status}
use Rattle.xr_types.specs.declared.status.Status.TheVariants.{Done, Refused, BadWords, NoScript, BadScript, Storage, NoMemory}
use Rattle.xr_defs.specs.Stores.{Files}
use Rattle.xr_defs.specs.Messages.{status_line}
use Rattle.xr_syntax.specs.Syntax.{Line}
use Rattle.xr_syntax.specs.Tokens.{text_fault, tokens_of}
use Rattle.xr_syntax.specs.Scripts.{IsScriptText, IsFirstFault, FirstFault}
use Rattle.xr_runs.specs.Runs.{ended, start, run_from, no_words, no_script, script, not_begun, begun as run_begun, put_by}
use Rattle.xr_run.specs.declared.stopped.Stopped.{Stopped}
use Rattle.xr_run.specs.declared.stopped.Stopped.TheVariants as stops
use Rattle.xr_outside.specs.Outside.{Rose}
use Rattle.xr_run.specs.Ends.{Ends, ScriptEnds, CommandEnds, StatementsKeep, ScriptKeeps, CommandKeeps, StatusTallied, Untouched, status_of}
use Rattle.xr_run.specs.Top.{RunEnds, RunCounted, unsaid}

abbrev pub too_long : ScriptFault
too_long = record { kind = TooMany; line = 0 }

pub said : (files after : Files) (script_word : Option (List ℕ)) (told : Bool) (o p e f : List ℕ) (status : Status) → told ≡ true → CommandEnds files script_word after told o p status → f ≡ e ++ status_line script_word status
    → RunEnds files script_word after o p e f status
said files after w told o p e f Done t h line = (subst (λ (b : Bool). CommandEnds files w after b o p Done) t h, line)
said files after w told o p e f (Refused n g) t h line = (subst (λ (b : Bool). CommandEnds files w after b o p (Refused n g)) t h, line)
said files after w told o p e f BadWords t h line = (subst (λ (b : Bool). CommandEnds files w after b o p BadWords) t h, line)
said files after w told o p e f NoScript t h line = (subst (λ (b : Bool). CommandEnds files w after b o p NoScript) t h, line)
said files after w told o p e f (BadScript g) t h line = (subst (λ (b : Bool). CommandEnds files w after b o p (BadScript g)) t h, line)
said files after w told o p e f Storage t h line = tt
said files after w told o p e f NoMemory t h line = tt

pub not_said : (files after : Files) (w : Option (List ℕ)) (o p e f : List ℕ) (status : Status) → RunEnds files w after o p e f (unsaid status)
not_said files after w o p e f Done = tt
not_said files after w o p e f (Refused n g) = tt
not_said files after w o p e f BadWords = tt
not_said files after w o p e f NoScript = tt
not_said files after w o p e f (BadScript g) = tt
not_said files after w o p e f Storage = tt
not_said files after w o p e f NoMemory = tt

pub counted : (a b x y p q : ℕ) (status : Status) → StatusTallied a b x y status → q ≡ p → RunCounted a b x y p q status
counted a b x y p q Done h same = (h.0, h.1, same)
counted a b x y p q (Refused n g) h same = (h.0, h.1, same)
counted a b x y p q BadWords h same = (h.0, h.1, same)
counted a b x y p q NoScript h same = (h.0, h.1, same)
counted a b x y p q (BadScript g) h same = (h.0, h.1, same)
counted a b x y p q Storage h same = elim h.0 [ inl r ↦ inl r | inr r ↦ inr (inl r) ]
counted a b x y p q NoMemory h same = tt

pub counted_unsaid : (a b x y p q : ℕ) (status : Status) → Rose p q → RunCounted a b x y p q (unsaid status)
counted_unsaid a b x y p q Done rose = inr (inr rose)
counted_unsaid a b x y p q (Refused n g) rose = inr (inr rose)
counted_unsaid a b x y p q BadWords rose = inr (inr rose)
counted_unsaid a b x y p q NoScript rose = inr (inr rose)
counted_unsaid a b x y p q (BadScript g) rose = inr (inr rose)
counted_unsaid a b x y p q Storage rose = inr (inr rose)
counted_unsaid a b x y p q NoMemory rose = tt

pub untouched_unsaid : (o p : List ℕ) (status : Status) → Untouched o p (unsaid status)
untouched_unsaid o p Done = tt
untouched_unsaid o p (Refused n g) = tt
untouched_unsaid o p BadWords = tt
untouched_unsaid o p NoScript = tt
untouched_unsaid o p (BadScript g) = tt
untouched_unsaid o p Storage = tt
untouched_unsaid o p NoMemory = tt

-- a statement has begun
pub begun : (o p : List ℕ) (e : Stopped) (n : ℕ) → Untouched o p (status_of e n)
begun o p (stops.Refused f) n = tt
begun o p stops.Storage n = tt
begun o p stops.NoMemory n = tt

-- the statements of a script's text lead to the end of its run
pub of_script : (files after : Files) (bytes before taken : List ℕ) (told : Bool) (ls : List Line) (status : Status) → IsScriptText bytes ls → Ends (run_from 1 ls (start files)) after told before taken status
    → ScriptEnds files bytes after told before taken status
of_script files after bytes before taken told ls Done is h = (run_from 1 ls (start files), run_begun ls is, h)
of_script files after bytes before taken told ls (Refused n g) is h = (run_from 1 ls (start files), run_begun ls is, h)
of_script files after bytes before taken told ls BadWords is h = (run_from 1 ls (start files), run_begun ls is, h)
of_script files after bytes before taken told ls NoScript is h = (run_from 1 ls (start files), run_begun ls is, h)
of_script files after bytes before taken told ls (BadScript g) is h = (run_from 1 ls (start files), run_begun ls is, h)
of_script files after bytes before taken told ls Storage is h = tt
of_script files after bytes before taken told ls NoMemory is h = tt

-- a text that is no script runs no statement
pub of_fault : (files : Files) (bytes before : List ℕ) (told : Bool) (f : ScriptFault) → IsFirstFault bytes f → ScriptEnds files bytes files told before before (BadScript f)
of_fault files bytes before told f is = (ended (BadScript f) (start files), not_begun f is, record { status_is = refl; files_are = refl; text_is = λ t. sym (append-nil before) })

pub long_fault : (bytes : List ℕ) → 1048576 < length bytes → IsFirstFault bytes too_long
long_fault bytes long =
    let t : ltb 1048576 (length bytes) ≡ true = search (rules, tests) in
    let e : text_fault bytes ≡ Some too_long = rw t refl in
    subst (λ (o : Option ScriptFault). MatchOption o (FirstFault (tokens_of bytes) too_long) (λ g. g ≡ too_long)) (sym e) refl

-- the run of the command over a script that the store holds
pub of_command : (files after : Files) (w : Option (List ℕ)) (name bytes before taken : List ℕ) (told : Bool) (status : Status) → w ≡ Some name → files name ≡ Some bytes → ScriptEnds files bytes after told before taken status
    → CommandEnds files w after told before taken status
of_command files after w name bytes before taken told Done is held h =
    subst (λ (v : Option (List ℕ)). CommandEnds files v after told before taken Done) (sym is) (h.0, script name bytes h.0 held h.1, h.2)
of_command files after w name bytes before taken told (Refused n g) is held h =
    subst (λ (v : Option (List ℕ)). CommandEnds files v after told before taken (Refused n g)) (sym is) (h.0, script name bytes h.0 held h.1, h.2)
of_command files after w name bytes before taken told BadWords is held h =
    subst (λ (v : Option (List ℕ)). CommandEnds files v after told before taken BadWords) (sym is) (h.0, script name bytes h.0 held h.1, h.2)
of_command files after w name bytes before taken told NoScript is held h =
    subst (λ (v : Option (List ℕ)). CommandEnds files v after told before taken NoScript) (sym is) (h.0, script name bytes h.0 held h.1, h.2)
of_command files after w name bytes before taken told (BadScript g) is held h =
    subst (λ (v : Option (List ℕ)). CommandEnds files v after told before taken (BadScript g)) (sym is) (h.0, script name bytes h.0 held h.1, h.2)
of_command files after w name bytes before taken told Storage is held h = tt
of_command files after w name bytes before taken told NoMemory is held h = tt

pub command_keeps : (files after : Files) (w : Option (List ℕ)) (name bytes : List ℕ) → w ≡ Some name → files name ≡ Some bytes → ScriptKeeps files bytes after → CommandKeeps files w after
command_keeps files after w name bytes is held keeps =
    subst (λ (v : Option (List ℕ)). CommandKeeps files v after) (sym is) (λ n none. keeps n (λ ls text put. none (put_by name bytes n ls held text put)))

pub script_keeps : (files after : Files) (bytes : List ℕ) (ls : List Line) → IsScriptText bytes ls → StatementsKeep ls files after → ScriptKeeps files bytes after
script_keeps files after bytes ls is keeps n none = keeps n (none ls is)

pub of_no_words : (files : Files) (w : Option (List ℕ)) (before : List ℕ) (told : Bool) → w ≡ None → CommandEnds files w files told before before BadWords
of_no_words files w before told is =
    subst (λ (v : Option (List ℕ)). CommandEnds files v files told before before BadWords) (sym is)
    (ended BadWords (start files), no_words, record { status_is = refl; files_are = refl; text_is = λ t. sym (append-nil before) })

pub of_no_script : (files : Files) (w : Option (List ℕ)) (name before : List ℕ) (told : Bool) → w ≡ Some name → files name ≡ None → CommandEnds files w files told before before NoScript
of_no_script files w name before told is none =
    subst (λ (v : Option (List ℕ)). CommandEnds files v files told before before NoScript) (sym is)
    (ended NoScript (start files), no_script name none, record { status_is = refl; files_are = refl; text_is = λ t. sym (append-nil before) })

-- the same, where the script is found by a call that leaves the files as they are
pub found_ends : (files mid after : Files) (name bytes given before taken : List ℕ) (told : Bool) (status : Status) → given ≡ bytes → mid ≡ files → files name ≡ Some bytes → ScriptEnds mid given after told before taken status
    → CommandEnds files (Some name) after told before taken status
found_ends files mid after name bytes given before taken told status is same held h =
    of_command files after (Some name) name bytes before taken told status refl held
    (subst (λ (fs : Files). ScriptEnds fs bytes after told before taken status) same (subst (λ (xs : List ℕ). ScriptEnds mid xs after told before taken status) is h))

pub found_keeps : (files mid after : Files) (name bytes given : List ℕ) → given ≡ bytes → mid ≡ files → files name ≡ Some bytes → ScriptKeeps mid given after → CommandKeeps files (Some name) after
found_keeps files mid after name bytes given is same held h =
    command_keeps files after (Some name) name bytes refl held (subst (λ (fs : Files). ScriptKeeps fs bytes after) same (subst (λ (xs : List ℕ). ScriptKeeps mid xs after) is h))

pub absent_ends : (files after : Files) (name before : List ℕ) (told : Bool) → after ≡ files → files name ≡ None → CommandEnds files (Some name) after told before before NoScript
absent_ends files after name before told same none =
    subst (λ (fs : Files). CommandEnds files (Some name) fs told before before NoScript) (sym same) (of_no_script files (Some name) name before told refl none)

pub long_ends : (files after : Files) (name bytes before : List ℕ) (told : Bool) → after ≡ files → files name ≡ Some bytes → 1048576 < length bytes → CommandEnds files (Some name) after told before before (BadScript too_long)
long_ends files after name bytes before told same held long =
    subst (λ (fs : Files). CommandEnds files (Some name) fs told before before (BadScript too_long)) (sym same)
    (of_command files files (Some name) name bytes before before told (BadScript too_long) refl held (of_fault files bytes before told too_long (long_fault bytes long)))
