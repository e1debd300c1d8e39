-- Scripts read token by token.
use Rattle.std.proofs.Common.{◌≡◌, ◌∙◌, ℕ, ◌+◌, ◌<◌, ◌≤◌, Bool, get_or, drop, List, [], ◌∷◌, ◌++◌, length, Option, Some, Result, Ok, Err, IfOk, sym, subst, refl, ap}
use Rattle.std.proofs.lemmas.List.{map-append, drop-map}
use Rattle.xr_types.specs.declared.status.ScriptFault.{ScriptFault}
use Rattle.xr_syntax.specs.declared.syntax.Statement.{Statement}
use Rattle.xr_syntax.specs.declared.syntax.Script.{Script}
use Rattle.xr_syntax.specs.declared.token.Placed.{Placed}
use Rattle.xr_syntax.specs.declared.scan.Scan.{Scan}
use Rattle.xr_syntax.specs.declared.scan.ScanEnd.{ScanEnd}
use Rattle.xr_syntax.specs.declared.scan.ScanEnd.TheVariants as end
use Rattle.xr_syntax.specs.declared.tally.Tally.{Tally}
use Rattle.xr_syntax.specs.Syntax.{Line, line_of}
use Rattle.xr_syntax.specs.Grammar.{End, terminal_of, starts_number}
use Rattle.xr_syntax.specs.Scripts.{terminals, terminal_at, no_tally, passes, tallied, IsParsed, FirstFault}
use Rattle.xr_grammar.specs.Machine.{Spot, Between, move, settled, begin}
use Rattle.xr_grammar.proofs.Reading.{IsRead, nothing_read, read_more, fault_first, end_parsed, end_bad, end_cut}
use Rattle.xr_script.specs.declared.terminal.Terminal.{Terminal}
use Rattle.xr_script.specs.declared.terminal.Terminal.TheVariants as terminal-variants
use Rattle.xr_script.specs.declared.progress.Walk.{Walk}
use Rattle.xr_script.specs.declared.fault.ParseFault.{ParseFault}
use Rattle.xr_script.specs.declared.fault.ParseFault.TheVariants as faults
use Rattle.xr_script.specs.Terminals.{terminal}
use Rattle.xr_script.specs.declared.progress.Progress.{Progress}
use Rattle.xr_script.specs.declared.state.Stop.{Stop}
use Rattle.xr_script.specs.Progress.{lines_of, spot_of, moved, Moves, Walks, Ends}

pub lines_more : (ss : List Statement) (s : Statement) → lines_of (ss ++ s ∷ []) ≡ lines_of ss ++ line_of s ∷ []
lines_more ss s = map-append line_of ss (s ∷ [])

between_goes : (z : List Line) (t : Terminal) → (t ≡ terminal-variants.End → ⊥) → move z Between (terminal t) ≡ settled z (begin (terminal t))
between_goes z terminal-variants.End h = absurd (h refl)
between_goes z _ h = refl

pub between_moves : (r : Result Progress Stop) (z : List Line) (t : Terminal) → (t ≡ terminal-variants.End → ⊥) → Moves r (settled z (begin (terminal t))) → Moves r (move z Between (terminal t))
between_moves r z t h m = subst (λ (o : Option Spot). Moves r o) (sym (between_goes z t h)) m

pub nothing_walked : (ps : List Placed) (ss : List Statement) (y : Tally) → ss ≡ [] → y ≡ no_tally → IsRead (terminals ps) 0 (lines_of ss, Between) y
nothing_walked ps ss y e c = nothing_read (terminals ps) (lines_of ss) y (ap (λ (v : List Statement). lines_of v) e) c

-- what the tokens behind one begin with
pub number_next : (ps us : List Placed) (i : ℕ) (n : Bool) → us ≡ drop (i + 1) ps → n ≡ starts_number (terminals us) → n ≡ starts_number (drop (i + 1) (terminals ps))
number_next ps us i n e q = q ∙ (ap (λ (v : List Placed). starts_number (terminals v)) e ∙ ap starts_number (sym (drop-map terminal_at (i + 1) ps)))

pub walked_more : (ps : List Placed) (i : ℕ) (p : Placed) (walk w : Walk) (n : Bool) → p ≡ get_or ps i p → i < length ps → n ≡ starts_number (drop (i + 1) (terminals ps)) → IsRead (terminals ps) i (spot_of walk.progress) walk.tally → Walks (Ok w) (moved walk.progress (terminal_of p.token)) (passes walk.tally (terminal_of p.token) n) (tallied walk.tally (terminal_of p.token) n) p.line → IsRead (terminals ps) (i + 1) (spot_of w.progress) w.tally
walked_more ps i p walk w n e h q r (m, l, c) = read_more ps i p (spot_of walk.progress) (spot_of w.progress) walk.tally w.tally n e h q r m l c

pub walk_stops : (s : Scan) (i : ℕ) (p : Placed) (walk : Walk) (n : Bool) (g : ParseFault) (f : ScriptFault) → p ≡ get_or s.tokens i p → i < length s.tokens → n ≡ starts_number (drop (i + 1) (terminals s.tokens)) → IsRead (terminals s.tokens) i (spot_of walk.progress) walk.tally → Walks (Err g) (moved walk.progress (terminal_of p.token)) (passes walk.tally (terminal_of p.token) n) (tallied walk.tally (terminal_of p.token) n) p.line → g ≡ faults.Script f → FirstFault s f
walk_stops s i p walk n (faults.Script k) f e h q r w g = let j : k ≡ f = cc in fault_first s i p (spot_of walk.progress) walk.tally n f e h q r (w ∙ ap Some j)
walk_stops s i p walk n faults.NoMemory f e h q r w g = cc

parsed_by : (s : Scan) (i : ℕ) (x : Spot) (y : Tally) (ls : List Line) → length s.tokens ≤ i → IsRead (terminals s.tokens) i x y → (v : Script) → lines_of v.statements.items ≡ ls → (e : ScanEnd) → s.end ≡ e → Ends (Ok v) e (move x.0 x.1 End) → IsParsed s ls
parsed_by s i x y ls h r v q (end.Bad n) e k = absurd k
parsed_by s i x y ls h r v q (end.Whole n) e k = subst (IsParsed s) q (end_parsed s i x y (lines_of v.statements.items) n h r e k)

pub ends_parsed : (s : Scan) (i : ℕ) (x : Spot) (y : Tally) (r : Result Script ParseFault) → length s.tokens ≤ i → IsRead (terminals s.tokens) i x y → Ends r s.end (move x.0 x.1 End) → IfOk r (λ v. IsParsed s (lines_of v.statements.items))
ends_parsed s i x y (Err f) h r g = tt
ends_parsed s i x y (Ok v) h r g = parsed_by s i x y (lines_of v.statements.items) h r v refl s.end refl g

fault_by : (s : Scan) (i : ℕ) (x : Spot) (y : Tally) (f : ScriptFault) → length s.tokens ≤ i → IsRead (terminals s.tokens) i x y → (e : ScanEnd) → s.end ≡ e → Ends (Err (faults.Script f)) e (move x.0 x.1 End) → FirstFault s f
fault_by s i x y f h r (end.Bad n) e k = subst (FirstFault s) (sym k) (end_bad s i x y n h r e)
fault_by s i x y f h r (end.Whole n) e (k, never) = subst (FirstFault s) (sym k) (end_cut s i x y n h r e never)

pub ends_fault : (s : Scan) (i : ℕ) (x : Spot) (y : Tally) (r : Result Script ParseFault) (f : ScriptFault) → length s.tokens ≤ i → IsRead (terminals s.tokens) i x y → Ends r s.end (move x.0 x.1 End) → r ≡ Err (faults.Script f) → FirstFault s f
ends_fault s i x y r f h q g e = fault_by s i x y f h q s.end refl (subst (λ (z : Result Script ParseFault). Ends z s.end (move x.0 x.1 End)) e g)
