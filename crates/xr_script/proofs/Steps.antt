-- What a place does with the terminals that it hands on.
use Rattle.std.proofs.Common.{◌≡◌, ℕ, ℤ, List, [], ◌∷◌, ◌++◌, reverse, Option, None, Result, false, cond, ap, sym, refl, subst}
use Rattle.std.proofs.lemmas.List.{reverse-append}
use Rattle.xr_types.specs.declared.text.TextBytes.{TextBytes}
use Rattle.xr_types.specs.declared.operation.OpKind.{OpKind}
use Rattle.xr_types.specs.declared.operation.OpKind.TheVariants as op
use Rattle.xr_syntax.specs.Syntax.{Tree, Trees, Args, Variable, Index, plain_only}
use Rattle.xr_syntax.specs.Grammar.{Head}
use Rattle.xr_grammar.specs.Machine as machine
use Rattle.xr_script.specs.declared.terminal.Level.{Level}
use Rattle.xr_script.specs.declared.terminal.Terminal.{Terminal}
use Rattle.xr_script.specs.declared.terminal.Terminal.TheVariants as terminals
use Rattle.xr_script.specs.declared.state.Frame.{Frame}
use Rattle.xr_script.specs.declared.state.Seat.{Seat}
use Rattle.xr_script.specs.declared.state.Seat.TheVariants as seat
use Rattle.xr_script.specs.declared.state.Next.{Next}
use Rattle.xr_script.specs.declared.state.Stop.{Stop}
use Rattle.xr_script.specs.Terminals.{terminal}
use Rattle.xr_script.specs.States.{Follows, around_from, bracket_of, wait_of, pend_of}

pub reverse_more : (os : List OpKind) (o : OpKind) → reverse (os ++ o ∷ []) ≡ o ∷ reverse os
reverse_more os o = reverse-append os (o ∷ [])

pub around_more : (u : machine.Around) (fs : List Frame) (f : Frame) → around_from u (fs ++ f ∷ []) ≡ machine.Inside (bracket_of f.bracket) (machine.In (wait_of f.wait)) (around_from u fs)
around_more u [] f = refl
around_more u (g ∷ fs) f = around_more (machine.Inside (bracket_of g.bracket) (machine.In (wait_of g.wait)) u) fs f

pub indexes_seat : (s : Seat) → machine.indexes (pend_of s) ≡ pend_of s
indexes_seat (seat.In w u) = refl
indexes_seat seat.Alone = refl

-- an answer to one question is that to an equal one
pub carry : (r : Result Next Stop) (x y : Option machine.Next) → y ≡ x → Follows r x → Follows r y
carry r x y e h = subst (λ (o : Option machine.Next). Follows r o) (sym e) h

pub operand_goes : (w : machine.Wait) (u : machine.Around) (t : Terminal) → ((n : TextBytes) → t ≡ terminals.Name n → ⊥) → (t ≡ terminals.Minus → ⊥) → (t ≡ terminals.Tilde → ⊥) → machine.operand w u (terminal t) ≡ machine.atom (machine.In w) u (terminal t)
operand_goes w u (terminals.Name n) a b c = absurd (a n refl)
operand_goes w u terminals.Minus a b c = absurd (b refl)
operand_goes w u terminals.Tilde a b c = absurd (c refl)
operand_goes w u _ a b c = refl

pub begin_goes : (t : Terminal) → ((n : TextBytes) → t ≡ terminals.Name n → ⊥) → (t ≡ terminals.Print → ⊥) → machine.begin (terminal t) ≡ machine.atom (machine.Alone false) (machine.On machine.Writing) (terminal t)
begin_goes (terminals.Name n) a b = absurd (a n refl)
begin_goes terminals.Print a b = absurd (b refl)
begin_goes _ a b = refl

pub after_goes : (w : machine.Wait) (u : machine.Around) (e : Tree) (t : Terminal) → (t ≡ terminals.Dot → ⊥) → (t ≡ terminals.Left → ⊥) → ((l : Level) (o : OpKind) → t ≡ terminals.Oper l o → ⊥) → (t ≡ terminals.Minus → ⊥) → ((o : OpKind) → t ≡ terminals.Compare o → ⊥) → machine.after_operand w u e (terminal t) ≡ machine.close u (machine.whole w e) (terminal t)
after_goes w u e terminals.Dot a b c d f = absurd (a refl)
after_goes w u e terminals.Left a b c d f = absurd (b refl)
after_goes w u e (terminals.Oper l o) a b c d f = absurd (c l o refl)
after_goes w u e terminals.Minus a b c d f = absurd (d refl)
after_goes w u e (terminals.Compare o) a b c d f = absurd (f o refl)
after_goes w u e _ a b c d f = refl

pub item_goes : (p : machine.Pend) (u : machine.Around) (xs : Trees) (t : Terminal) → (t ≡ terminals.Right → ⊥) → machine.step_at (machine.AtItem xs) p u (terminal t) ≡ machine.operand machine.fresh (machine.Inside (machine.InItems xs) p u) (terminal t)
item_goes p u xs terminals.Right a = absurd (a refl)
item_goes p u xs _ a = refl

pub arg_goes : (p : machine.Pend) (u : machine.Around) (h : Head) (gs : Args) (t : Terminal) → (t ≡ terminals.Close → ⊥) → ((n : TextBytes) → t ≡ terminals.Name n → ⊥) → machine.step_at (machine.AtArg h gs) p u (terminal t) ≡ cond (plain_only gs) (machine.operand machine.fresh (machine.Inside (machine.InPlain h gs) p u) (terminal t)) None
arg_goes p u h gs terminals.Close a b = absurd (a refl)
arg_goes p u h gs (terminals.Name n) a b = absurd (b n refl)
arg_goes p u h gs _ a b = refl

pub name_goes : (p : machine.Pend) (u : machine.Around) (h : Head) (gs : Args) (n : List ℕ) (t : Terminal) → (t ≡ terminals.Is → ⊥) → (t ≡ terminals.Open → ⊥) → machine.step_at (machine.AtName h gs n) p u (terminal t) ≡ cond (plain_only gs) (machine.after_operand machine.fresh (machine.Inside (machine.InPlain h gs) p u) (Variable n) (terminal t)) None
name_goes p u h gs n terminals.Is a b = absurd (a refl)
name_goes p u h gs n terminals.Open a b = absurd (b refl)
name_goes p u h gs n _ a b = refl

pub index_goes : (n x : List ℕ) (t : Terminal) → (t ≡ terminals.Is → ⊥) → machine.step (machine.NamedIndex n x) (terminal t) ≡ machine.after (machine.Alone false) (machine.On machine.Writing) (Index (Variable n) x) (terminal t)
index_goes n x terminals.Is a = absurd (a refl)
index_goes n x _ a = refl

pub signed_goes : (w : machine.Wait) (u : machine.Around) (t : Terminal) → ((n : ℤ) → t ≡ terminals.Number n → ⊥) → machine.step (machine.Signed w u) (terminal t) ≡ machine.operand (machine.with_sign op.Negate w) u (terminal t)
signed_goes w u (terminals.Number n) a = absurd (a n refl)
signed_goes w u _ a = refl

pub fresh_goes : (n : List ℕ) (w : machine.Wait) (u : machine.Around) (v : Tree) (t : Terminal) → v ≡ Variable n → (t ≡ terminals.Open → ⊥) → machine.step (machine.Fresh n w u) (terminal t) ≡ machine.after_operand w u v (terminal t)
fresh_goes n w u v terminals.Open q a = absurd (a refl)
fresh_goes n w u v t q a = ap (λ (y : Tree). machine.after_operand w u y (terminal t)) (sym q)
