-- The statements of a run, one after the other.
use Rattle.std.proofs.Common.{◌≡◌, ℕ, suc, ◌+◌, ◌<◌, ◌≤◌, Bool, List, [], ◌∷◌, ◌++◌, length, map, get_or, drop, None, Ok, Err, refl, sym, ap, ◌∙◌, subst, arith, add-one, drop-cons, zero-add, append_assoc}
use Rattle.std.specs.Prelude.{IsTrue}
use Rattle.std.proofs.lemmas.List.{append-nil, nil_from_length, length-drop}
use Rattle.xr_types.specs.declared.fault.Fault.{Fault}
use Rattle.xr_types.specs.declared.status.Status.TheVariants as statuses
use Rattle.xr_syntax.specs.declared.syntax.Statement.{Statement}
use Rattle.xr_syntax.specs.Syntax as tree
use Rattle.xr_syntax.specs.Syntax.{Line, line_of}
use Rattle.xr_defs.specs.Stores.{Files}
use Rattle.xr_runs.specs.Evaluation.{Names}
use Rattle.xr_runs.specs.Runs.{State, step, run_from, start, Ended, ended, IsPut, put_now, put_later}
use Rattle.xr_run.specs.declared.stopped.Stopped.{Stopped}
use Rattle.xr_run.specs.declared.stopped.Stopped.TheVariants.{Refused, Storage, NoMemory}
use Rattle.xr_run.specs.Broken.{Reached, reached_none, IsPart, StepBroken, Left, nothing_done}
use Rattle.xr_run.specs.Steps.{at, StepIs, StepKeeps, PutsName, BothTallied}
use Rattle.xr_run.specs.Ends.{IsEnd, Ends, StatusTallied, StatementsKeep, status_of}
use Rattle.xr_run.proofs.Broken.{reached_next}

abbrev pub lines : List Statement → List Line
lines ss = map line_of ss

-- the first so many statements lead from the files at the start to these names and files, and a sink that tells has gained
-- the text
pub record Leads (ss : List Statement) (from : Files) (told : Bool) (before : List ℕ) (i : ℕ) (names : Names) (files : Files) (taken : List ℕ) : Type 0 where
  pub text : List ℕ
  pub text_is : IsTrue told → taken ≡ before ++ text
  pub rest : run_from 1 (lines ss) (start from) ≡ run_from (i + 1) (lines (drop i ss)) (at names files text)
  pub reached : Reached (lines ss) (start from) (lines (drop i ss)) (at names files text)
  pub puts : (n : List ℕ) → IsPut (lines (drop i ss)) (at names files text) n → IsPut (lines ss) (start from) n
  pub keeps : (n : List ℕ) → (IsPut (lines ss) (start from) n → ⊥) → files n ≡ from n

pub leads_none : (ss : List Statement) (from : Files) (told : Bool) (before : List ℕ) (names : Names) → names ≡ (λ name. None) → Leads ss from told before 0 names from before
leads_none ss from told before names none =
    subst (λ (m : Names). Leads ss from told before 0 m from before) (sym none)
    (record { text = []; text_is = λ t. sym (append-nil before); rest = rw zero-add refl; reached = reached_none (lines ss) (start from); puts = λ n p. p; keeps = λ n p. refl })

-- names that stand for the same lead as far
pub leads_same : (ss : List Statement) (from : Files) (told : Bool) (before : List ℕ) (i : ℕ) (names after : Names) (files : Files) (taken : List ℕ) → Leads ss from told before i names files taken → after ≡ names → Leads ss from told before i after files taken
leads_same ss from told before i names after files taken so_far same = subst (λ (m : Names). Leads ss from told before i m files taken) (sym same) so_far

here : (ss : List Statement) (i : ℕ) (s : Statement) → i < length ss → s ≡ get_or ss i s → lines (drop i ss) ≡ line_of s ∷ lines (drop (i + 1) ss)
here ss i s lt e = rw add-one (ap (map line_of) (subst (λ y. drop i ss ≡ y ∷ drop (suc i) ss) (sym e) (drop-cons ss i s lt)))

goes_on : (n : ℕ) (l : Line) (ls : List Line) (s t : State) → step l s ≡ Ok t → run_from n (l ∷ ls) s ≡ run_from (n + 1) ls t
unfolding run_from
goes_on n l ls s t e = rw (e, run_from) refl

stops : (n : ℕ) (l : Line) (ls : List Line) (s : State) (f : Fault) → step l s ≡ Err f → run_from n (l ∷ ls) s ≡ ended (statuses.Refused n f) s
unfolding run_from
stops n l ls s f e = rw (e, run_from) refl

ends : (n : ℕ) (s : State) → run_from n [] s ≡ ended statuses.Done s
unfolding run_from
ends n s = refl

-- a name that the next statement puts
puts_next : (l : Line) (ls : List Line) (names : Names) (files : Files) (text n : List ℕ) → PutsName l names files n → IsPut (l ∷ ls) (at names files text) n
puts_next (tree.Assigned name e) ls names files text n h = absurd h
puts_next (tree.Aligned ms e) ls names files text n h = absurd h
puts_next (tree.Placed name v e) ls names files text n h = absurd h
puts_next (tree.Printed e) ls names files text n h = absurd h
puts_next (tree.Written e) ls names files text n h = put_now e ls (at names files text) n h.0 h.1

-- the names that no put names hold what they held, behind the next statement too
pub keeps_more : (ss : List Statement) (from : Files) (told : Bool) (before : List ℕ) (i : ℕ) (names : Names) (files after : Files) (taken : List ℕ) (s : Statement)
    → Leads ss from told before i names files taken → i < length ss → s ≡ get_or ss i s → StepKeeps (line_of s) names files after → StatementsKeep (lines ss) from after
keeps_more ss from told before i names files after taken s so_far lt is step_keeps n none =
    let p : IsPut (line_of s ∷ lines (drop (i + 1) ss)) (at names files so_far.text) n → IsPut (lines ss) (start from) n =
    λ q. so_far.puts n (subst (λ (xs : List Line). IsPut xs (at names files so_far.text) n) (sym (here ss i s lt is)) q) in
    step_keeps n (λ h. none (p (puts_next (line_of s) (lines (drop (i + 1) ss)) names files so_far.text n h))) ∙ so_far.keeps n none

pub leads_more : (ss : List Statement) (from : Files) (told now_told : Bool) (before : List ℕ) (i : ℕ) (names after : Names) (files files_after : Files) (taken now : List ℕ) (s : Statement)
    → Leads ss from told before i names files taken → i < length ss → s ≡ get_or ss i s → now_told ≡ told → StepKeeps (line_of s) names files files_after
    → StepIs (line_of s) names after files files_after now_told taken now (Ok tt) → Leads ss from told before (i + 1) after files_after now
leads_more ss from told now_told before i names after files files_after taken now s so_far lt is same step_keeps st =
    let l : Line = line_of s in
    let rest : List Line = lines (drop (i + 1) ss) in
    let old : State = at names files so_far.text in
    let new : State = at after files_after (so_far.text ++ st.0) in
    record {
      text = so_far.text ++ st.0;
      text_is = λ t.
          st.1 (subst (λ (b : Bool). IsTrue b) (sym same) t) ∙ ap (λ (w : List ℕ). w ++ st.0) (so_far.text_is t) ∙ append_assoc before so_far.text st.0;
      rest = so_far.rest ∙ ap (λ (xs : List Line). run_from (i + 1) xs old) (here ss i s lt is) ∙ goes_on (i + 1) l rest old new (st.2 so_far.text);
      reached = reached_next (lines ss) (start from) l rest (lines (drop i ss)) old new so_far.reached (here ss i s lt is) (st.2 so_far.text);
      puts = λ n p. so_far.puts n (subst (λ (xs : List Line). IsPut xs old n) (sym (here ss i s lt is)) (put_later l rest old new n (st.2 so_far.text) p));
      keeps = keeps_more ss from told before i names files files_after taken s so_far lt is step_keeps;
    }

leads_refused : (ss : List Statement) (from : Files) (told now_told : Bool) (before : List ℕ) (i n : ℕ) (names after : Names) (files files_after : Files) (taken now : List ℕ) (s : Statement) (f : Fault)
    → Leads ss from told before i names files taken → i < length ss → s ≡ get_or ss i s → n ≡ i + 1
    → (after ≡ names) × (files_after ≡ files) × (now ≡ taken) × ((text : List ℕ) → step (line_of s) (at names files text) ≡ Err f) → IsEnd (run_from 1 (lines ss) (start from)) (statuses.Refused n f) files_after told before now
leads_refused ss from told now_told before i n names after files files_after taken now s f so_far lt is e st =
    let old : State = at names files so_far.text in
    let end : run_from 1 (lines ss) (start from) ≡ ended (statuses.Refused (i + 1) f) old =
    so_far.rest ∙ ap (λ (xs : List Line). run_from (i + 1) xs old) (here ss i s lt is) ∙ stops (i + 1) (line_of s) (lines (drop (i + 1) ss)) old f (st.3 so_far.text) in
    record {
      status_is = ap (λ (r : Ended). r.status) end ∙ ap (λ m. statuses.Refused m f) (sym e);
      files_are = st.1 ∙ ap (λ (r : Ended). r.files) (sym end);
      text_is = λ t. st.2 ∙ so_far.text_is t ∙ ap (λ (r : Ended). before ++ r.text) (sym end);
    }

pub leads_all : (ss : List Statement) (from : Files) (told : Bool) (before : List ℕ) (i : ℕ) (names : Names) (files : Files) (taken : List ℕ) → Leads ss from told before i names files taken → length ss ≤ i
    → IsEnd (run_from 1 (lines ss) (start from)) statuses.Done files told before taken
leads_all ss from told before i names files taken so_far le =
    let old : State = at names files so_far.text in
    let none : drop i ss ≡ [] = nil_from_length (drop i ss) (omega (arith, length-drop i ss)) in
    let end : run_from 1 (lines ss) (start from) ≡ ended statuses.Done old =
    so_far.rest ∙ ap (λ (xs : List Statement). run_from (i + 1) (lines xs) old) none ∙ ends (i + 1) old in
    record {
      status_is = ap (λ (r : Ended). r.status) end;
      files_are = ap (λ (r : Ended). r.files) (sym end);
      text_is = λ t. so_far.text_is t ∙ ap (λ (r : Ended). before ++ r.text) (sym end);
    }

pub leads_stopped : (ss : List Statement) (from : Files) (told now_told : Bool) (before : List ℕ) (i n : ℕ) (names after : Names) (files files_after : Files) (taken now : List ℕ) (s : Statement) (e : Stopped)
    → Leads ss from told before i names files taken → i < length ss → s ≡ get_or ss i s → n ≡ i + 1
    → StepIs (line_of s) names after files files_after now_told taken now (Err e) → Ends (run_from 1 (lines ss) (start from)) files_after told before now (status_of e n)
leads_stopped ss from told now_told before i n names after files files_after taken now s (Refused f) so_far lt is number st =
    leads_refused ss from told now_told before i n names after files files_after taken now s f so_far lt is number st
leads_stopped ss from told now_told before i n names after files files_after taken now s Storage so_far lt is number st = tt
leads_stopped ss from told now_told before i n names after files files_after taken now s NoMemory so_far lt is number st = tt

pub tallied_stopped : (a0 a b x0 x y n : ℕ) (e : Stopped) → a ≡ a0 → x ≡ x0 → BothTallied {T = Unit {0}} a b x y (Err e) → StatusTallied a0 b x0 y (status_of e n)
tallied_stopped a0 a b x0 x y n (Refused f) p q h = (h.0 ∙ p, h.1 ∙ q)
tallied_stopped a0 a b x0 x y n Storage p q h =
    (rw (sym p, sym q) h.0, rw (sym p) h.1, rw (sym q) h.2)
tallied_stopped a0 a b x0 x y n NoMemory p q h = (h.0 ∙ p, h.1 ∙ q)

-- nothing of the next statement is done
pub left_so_far : (ss : List Statement) (from : Files) (told : Bool) (before : List ℕ) (i : ℕ) (names : Names) (files : Files) (taken : List ℕ) → Leads ss from told before i names files taken → Left (lines ss) from files told before taken
left_so_far ss from told before i names files taken so_far =
    record { rest = lines (drop i ss); state = at names files so_far.text; text = so_far.text; reached = so_far.reached; broken = nothing_done refl refl; text_is = so_far.text_is }

part_left : (ss : List Statement) (from : Files) (told now_told : Bool) (before : List ℕ) (i : ℕ) (names : Names) (files files_after : Files) (taken now : List ℕ) (s : Statement)
    → Leads ss from told before i names files taken → i < length ss → s ≡ get_or ss i s → now_told ≡ told
    → IsPart (line_of s) names files files_after now_told taken now → Left (lines ss) from files_after told before now
part_left ss from told now_told before i names files files_after taken now s so_far lt is same part =
    record {
      rest = line_of s ∷ lines (drop (i + 1) ss);
      state = at names files so_far.text;
      text = so_far.text ++ part.0;
      reached = subst (λ (xs : List Line). Reached (lines ss) (start from) xs (at names files so_far.text)) (here ss i s lt is) so_far.reached;
      broken = part.2 (lines (drop (i + 1) ss)) so_far.text;
      text_is = λ t.
          part.1 (subst (λ (b : Bool). IsTrue b) (sym same) t) ∙ ap (λ (w : List ℕ). w ++ part.0) (so_far.text_is t) ∙ append_assoc before so_far.text part.0;
    }

pub left_broken : (ss : List Statement) (from : Files) (told now_told : Bool) (before : List ℕ) (i : ℕ) (names : Names) (files files_after : Files) (taken now : List ℕ) (s : Statement) (e : Stopped)
    → Leads ss from told before i names files taken → i < length ss → s ≡ get_or ss i s → now_told ≡ told
    → StepBroken (line_of s) names files files_after now_told taken now (Err e) → Left (lines ss) from files_after told before now
left_broken ss from told now_told before i names files files_after taken now s e so_far lt is same part = part_left ss from told now_told before i names files files_after taken now s so_far lt is same part
