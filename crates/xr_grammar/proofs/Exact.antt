-- The machine takes exactly the viable lists, and ends at exactly the scripts.
use Rattle.std.proofs.Common.{◌++◌, append_assoc, append-nil, ◌≡◌, List, [], ◌∷◌, Bool, true, false, cond, Option, Some, None, refl, sym, subst, ap, ◌∙◌}
use Rattle.xr_syntax.specs.Syntax.{Tree, Variable, Index}
use Rattle.xr_syntax.specs.Syntax.{plain_only, Line}
use Rattle.xr_syntax.specs.Grammar.{Terminal, End}
use Rattle.xr_syntax.specs.Grammar.{AnAtom, Reads, Statement, Lines, IsScript, Viable}
use Rattle.xr_grammar.specs.Machine.{Pend, In, Alone, Bare, InRound, InItems, InEntry, InPlain, InKeyed, Writing, Around, On, Printing, Inside}
use Rattle.xr_grammar.specs.Machine.{Place, Have, Dotted, Asked, Indexed, Indexing, AtItem, AtEntry, AtKey, AtArg, AtName, State, Named, NamedOpen, NamedText, NamedIndex, Several, Target, Joint, Aligns, Prints, Closed, Need, Signed, Fresh, At}
use Rattle.xr_grammar.specs.Machine.{Next, Go, Done, fresh, whole, begin, close, after_operand, after, step_at, step, Point, Between, Within, Spot, settled, move, runs_from, runs}
use Rattle.xr_syntax.specs.Grammar.{write, no_more, blank, line}
use Rattle.xr_grammar.proofs.Meaning.{statement_then, means, stepped}
use Rattle.xr_grammar.proofs.Follows.{step_to, begin_to}
use Rattle.xr_grammar.proofs.Leads.{step_from, begin_from, fine}
use Rattle.xr_grammar.proofs.Rests.{rest, fine_next, fine_begin, fine_step, complete}

-- ---- a line's end ends a statement

abbrev stops : Option Next → Type 0
stops (Some (Go s)) = ⊥
stops _ = Unit {0}

close_stops : (u : Around) (e : Tree) → stops (close u e End)
close_stops (On b) e = tt
close_stops Printing e = tt
close_stops (Inside InRound p u) e = tt
close_stops (Inside (InItems xs) p u) e = tt
close_stops (Inside (InEntry es x) p u) e = tt
close_stops (Inside (InPlain g gs) p u) e = tt
close_stops (Inside (InKeyed g gs n) p u) e = tt

cond_stops : (b : Bool) (o : Option Next) → stops o → stops (cond b o None)
cond_stops true o h = h
cond_stops false o h = tt

after_stops : (p : Pend) (u : Around) (e : Tree) → stops (after p u e End)
after_stops (In w) u e = close_stops u (whole w e)
after_stops (Alone l) u e = cond_stops l (close u e End) (close_stops u e)
after_stops Bare u e = close_stops u e

place_stops : (x : Place) (p : Pend) (u : Around) → stops (step_at x p u End)
place_stops (Have e) p u = after_stops p u e
place_stops (Dotted e) p u = tt
place_stops (Asked e n) p u = tt
place_stops (Indexed e) p u = tt
place_stops (Indexing e x) p u = tt
place_stops (AtItem xs) p u = tt
place_stops (AtEntry es) p u = tt
place_stops (AtKey es x) p u = tt
place_stops (AtArg g gs) p u = cond_stops (plain_only gs) None tt
place_stops (AtName g gs n) p u = cond_stops (plain_only gs) (after_operand fresh (Inside (InPlain g gs) p u) (Variable n) End) (close_stops (Inside (InPlain g gs) p u) (whole fresh (Variable n)))

step_stops : (s : State) → stops (step s End)
step_stops (Named n) = tt
step_stops (NamedOpen n) = tt
step_stops (NamedText n x) = tt
step_stops (NamedIndex n x) = after_stops (Alone false) (On Writing) (Index (Variable n) x)
step_stops (Several ns) = tt
step_stops (Target ns n) = tt
step_stops (Joint ns n) = tt
step_stops (Aligns ns n a) = tt
step_stops Prints = tt
step_stops (Closed e) = tt
step_stops (Need w u) = tt
step_stops (Signed w u) = tt
step_stops (Fresh n w u) = close_stops u (whole w (Variable n))
step_stops (At x p u) = place_stops x p u

settled_between : (z : List Line) (o : Option Next) (x : Spot) → stops o → settled z o ≡ Some x → x.1 ≡ Between
settled_between z None x h e = cc
settled_between z (Some (Go s)) x h e = absurd h
settled_between z (Some (Done l)) x h e = let k : Some (z ++ l ∷ [], Between) ≡ Some x = e in let j : (z ++ l ∷ [], Between) ≡ x = cc in ap (λ (y : Spot). y.1) (sym j)

pub end_between : (z : List Line) (p : Point) (x : Spot) → move z p End ≡ Some x → x.1 ≡ Between
end_between z Between x e = let k : Some (z, Between) ≡ Some x = e in let j : (z, Between) ≡ x = cc in ap (λ (y : Spot). y.1) (sym j)
end_between z (Within s) x e = settled_between z (step s End) x (step_stops s) e

-- ---- what a spot still takes

abbrev pub spot_means : List Line → Point → List Terminal → List Line → Type 0
spot_means z Between ts f = Lines z ts f
spot_means z (Within s) ts f = means (rest z f) s ts

abbrev pub moved : Option Spot → List Terminal → List Line → Type 0
moved None ts f = ⊥
moved (Some x) ts f = spot_means x.0 x.1 ts f

settled_to : (z f : List Line) (o : Option Next) (ts : List Terminal) → stepped (rest z f) o ts → moved (settled z o) ts f
settled_to z f None ts h = h
settled_to z f (Some (Go s)) ts h = h
settled_to z f (Some (Done l)) ts h = h

settled_from : (z f : List Line) (o : Option Next) (ts : List Terminal) → moved (settled z o) ts f → stepped (rest z f) o ts
settled_from z f None ts h = h
settled_from z f (Some (Go s)) ts h = h
settled_from z f (Some (Done l)) ts h = h

between_to : (z f : List Line) (t : Terminal) (ts : List Terminal) → stepped (rest z f) (begin t) ts → moved (move z Between t) ts f
between_to z f End ts h = absurd h
between_to z f t ts h = settled_to z f (begin t) ts h

lines_to : (z f : List Line) {t : Terminal} {ts : List Terminal} → Lines z (t ∷ ts) f → moved (move z Between t) ts f
lines_to z f (blank h) = h
lines_to z f {t = t} {ts = ts} (line d q) = between_to z f t ts (begin_to (rest z f) d q)

lines_from : (z f : List Line) (t : Terminal) (ts : List Terminal) → moved (move z Between t) ts f → Lines z (t ∷ ts) f
lines_from z f End ts h = blank h
lines_from z f t ts h = begun (begin_from (rest z f) t ts (settled_from z f (begin t) ts h))
  where
    begun : statement_then (rest z f) (t ∷ ts) → Lines z (t ∷ ts) f
    begun (us, l, d, q) = line d q

move_to : (z f : List Line) (p : Point) (t : Terminal) (ts : List Terminal) → spot_means z p (t ∷ ts) f → moved (move z p t) ts f
move_to z f Between t ts h = lines_to z f h
move_to z f (Within s) t ts h = settled_to z f (step s t) ts (step_to (rest z f) s t ts h)

abbrev pub fine_point : Point → Type 0
fine_point Between = Unit {0}
fine_point (Within s) = fine s

abbrev pub fine_spot : Option Spot → Type 0
fine_spot None = Unit {0}
fine_spot (Some x) = fine_point x.1

move_from : (z f : List Line) (p : Point) (t : Terminal) (ts : List Terminal) → fine_point p → moved (move z p t) ts f → spot_means z p (t ∷ ts) f
move_from z f Between t ts ok h = lines_from z f t ts h
move_from z f (Within s) t ts ok h = step_from (rest z f) s t ts ok (settled_from z f (step s t) ts h)

settled_fine : (z : List Line) (o : Option Next) → fine_next o → fine_spot (settled z o)
settled_fine z None h = tt
settled_fine z (Some (Go s)) h = h
settled_fine z (Some (Done l)) h = tt

move_fine : (z : List Line) (p : Point) (t : Terminal) → fine_point p → fine_spot (move z p t)
move_fine z Between End ok = tt
move_fine z Between t ok = settled_fine z (begin t) (fine_begin t)
move_fine z (Within s) t ok = settled_fine z (step s t) (fine_step s t ok)

-- ---- runs

runs_none : (ts : List Terminal) → runs_from ts None ≡ None
runs_none [] = refl
runs_none (t ∷ ts) = refl

fine_runs : (ts : List Terminal) (o : Option Spot) → fine_spot o → fine_spot (runs_from ts o)
fine_runs [] o h = h
fine_runs (t ∷ ts) None h = tt
fine_runs (t ∷ ts) (Some x) h = fine_runs ts (move x.0 x.1 t) (move_fine x.0 x.1 t h)

moved_run : (ts : List Terminal) (o : Option Spot) (us : List Terminal) (f : List Line) → moved o (ts ++ us) f → (x : Spot) × (runs_from ts o ≡ Some x) × spot_means x.0 x.1 us f
moved_run [] None us f h = absurd h
moved_run [] (Some x) us f h = (x, refl, h)
moved_run (t ∷ ts) None us f h = absurd h
moved_run (t ∷ ts) (Some x) us f h = moved_run ts (move x.0 x.1 t) us f (move_to x.0 f x.1 t (ts ++ us) h)

run_moved : (ts : List Terminal) (o : Option Spot) (x : Spot) (us : List Terminal) (f : List Line) → fine_spot o → runs_from ts o ≡ Some x → spot_means x.0 x.1 us f → moved o (ts ++ us) f
run_moved [] o x us f ok e h = subst (λ (y : Option Spot). moved y us f) (sym e) h
run_moved (t ∷ ts) None x us f ok e h = cc
run_moved (t ∷ ts) (Some y) x us f ok e h = move_from y.0 f y.1 t (ts ++ us) ok (run_moved ts (move y.0 y.1 t) x us f (move_fine y.0 y.1 t ok) e h)

pub viable_runs : (ts : List Terminal) → Viable ts → (x : Spot) × (runs ts ≡ Some x)
viable_runs ts (us, f, h) =
    let k : Lines [] (ts ++ (us ++ End ∷ [])) f = subst (λ (l : List Terminal). Lines [] l f) (append_assoc ts us (End ∷ [])) h in
    let (x, e, m) = moved_run ts (Some ([], Between)) (us ++ End ∷ []) f k in (x, e)

spot_rest : (z : List Line) (p : Point) → fine_point p → (us : List Terminal) × (f : List Line) × spot_means z p (us ++ End ∷ []) f
spot_rest z Between ok = ([], z, blank no_more)
spot_rest z (Within s) ok = complete z s ok

pub runs_viable : (ts : List Terminal) (x : Spot) → runs ts ≡ Some x → Viable ts
runs_viable ts x e =
    let (us, f, h) = spot_rest x.0 x.1 (subst fine_spot e (fine_runs ts (Some ([], Between)) tt)) in
    let k : Lines [] (ts ++ (us ++ End ∷ [])) f = run_moved ts (Some ([], Between)) x (us ++ End ∷ []) f tt e h in
    (us, f, subst (λ (l : List Terminal). Lines [] l f) (sym (append_assoc ts us (End ∷ []))) k)

pub runs_more : (ts : List Terminal) (o : Option Spot) (x : Spot) (t : Terminal) → runs_from ts o ≡ Some x → runs_from (ts ++ t ∷ []) o ≡ move x.0 x.1 t
runs_more [] o x t e = rw e refl
runs_more (y ∷ ts) None x t e = cc
runs_more (y ∷ ts) (Some z) x t e = runs_more ts (move z.0 z.1 y) x t e

-- the terminal at which the machine stops is the first that no script goes on with
pub first_fault : (good : List Terminal) (t : Terminal) (x : Spot) → runs good ≡ Some x → move x.0 x.1 t ≡ None → Viable (good ++ t ∷ []) → ⊥
first_fault good t x e n v =
    let (y, g) = viable_runs (good ++ t ∷ []) v in
    let m : runs (good ++ t ∷ []) ≡ move x.0 x.1 t = runs_more good (Some ([], Between)) x t e in cc

no_atom : {us : List Terminal} {e : Tree} → Reads AnAtom [] us e → ⊥
no_atom d = elim d [ ]

no_statement : {us : List Terminal} {l : Line} → Statement [] us l → ⊥
no_statement (write d q) = no_atom d

no_lines : (z f : List Line) → Lines z [] f → z ≡ f
no_lines z f no_more = refl
no_lines z f (line d q) = absurd (no_statement d)

between_means : (z f : List Line) (p : Point) → p ≡ Between → spot_means z p [] f → let x : Spot = (z, p) in let y : Spot = (f, Between) in x ≡ y
between_means z f Between e h = ap at_start (no_lines z f h)
  where
    at_start : List Line → Spot
    at_start y = (y, Between)
between_means z f (Within s) e h = cc

-- the terminals of a script, and the line's end behind them
pub script_moves : (ts : List Terminal) (f : List Line) (x : Spot) → IsScript ts f → runs ts ≡ Some x → move x.0 x.1 End ≡ Some (f, Between)
script_moves ts f x h e =
    let (y, g, m) = moved_run (ts ++ End ∷ []) (Some ([], Between)) [] f (rw append-nil h) in
    let k : move x.0 x.1 End ≡ Some y = sym (runs_more ts (Some ([], Between)) x End e) ∙ g in
    k ∙ ap Some (between_means y.0 f y.1 (end_between x.0 x.1 y k) m)

pub runs_script : (ts : List Terminal) (f : List Line) → runs (ts ++ End ∷ []) ≡ Some (f, Between) → IsScript ts f
runs_script ts f e =
    let h : Lines [] ((ts ++ End ∷ []) ++ []) f = run_moved (ts ++ End ∷ []) (Some ([], Between)) (f, Between) [] f tt e no_more in
    rw append-nil at h

pub moves_script : (ts : List Terminal) (f : List Line) (x : Spot) → runs ts ≡ Some x → move x.0 x.1 End ≡ Some (f, Between) → IsScript ts f
moves_script ts f x e g = runs_script ts f (runs_more ts (Some ([], Between)) x End e ∙ g)

pub script_viable : (ts : List Terminal) (f : List Line) → IsScript ts f → Viable ts
script_viable ts f h = ([], f, rw append-nil h)

-- a list of terminals has one tree
pub one_script : (ts : List Terminal) (f g : List Line) → IsScript ts f → IsScript ts g → f ≡ g
one_script ts f g a b =
    let (x, e) = viable_runs ts (script_viable ts f a) in
    let i : move x.0 x.1 End ≡ Some (f, Between) = script_moves ts f x a e in
    let j : move x.0 x.1 End ≡ Some (g, Between) = script_moves ts g x b e in
    let k : Some (f, Between) ≡ Some (g, Between) = sym i ∙ j in
    let m : (f, Between) ≡ (g, Between) = cc in
    ap (λ (y : Spot). y.0) m
