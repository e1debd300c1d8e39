-- The machine: where it is in a statement, what waits for the operand, and the brackets around it.
use Rattle.std.specs.Prelude.{ℕ, pos, ◌-ℤ◌, List, [], ◌∷◌, ◌++◌, Bool, true, false, cond, Option, Some, None}
use Rattle.xr_types.specs.declared.operation.OpKind.{OpKind}
use Rattle.xr_types.specs.declared.operation.OpKind.TheVariants as op
use Rattle.xr_syntax.specs.Syntax.{Tree, Variable, Whole, Words, Constantly, Unary, Binary, Index, Items, Table}
use Rattle.xr_syntax.specs.Syntax.{Trees, NoItem, Item, Entries, NoEntry, Entry, Args, NoArg, Plain, Keyed, plain_only, uses, has_entry, Line, Assigned, Aligned, Placed, Printed, Written}
use Rattle.xr_syntax.specs.Grammar.{Rank, Tight, Over, term, bitor, Terminal, Name, Number, Text, Literal, Print, Oper, Compare, Minus, Tilde, Dot, Open, Close, Left, Right, LeftBrace, RightBrace, Comma, Colon, Is, End}
use Rattle.xr_syntax.specs.Grammar.{Head, Func, Of, called, is_align, is_write}

-- an operator with its left side
abbrev pub Slot : Type 0
Slot = Option (OpKind × Tree)

-- for each rank below one, the operator that waits for its right side, the loosest first
pub data Slots : Rank → Type 0 where
  Free : Slots Tight
  Waiting : (r : Rank) → Slot → Slots r → Slots (Over r)

-- what waits for an operand: a comparison, operators by their ranks, and signs, the innermost first
pub data Wait : Type 0 where
  Waits : Slot → Slots bitor → List OpKind → Wait

-- what an atom stands in: an expression; the receiver of a statement that writes, and whether its last part is the call that writes; or nothing
pub data Pend : Type 0 where
  In : Wait → Pend
  Alone : Bool → Pend
  Bare : Pend

pub data Bracket : Type 0 where
  InRound : Bracket
  InItems : Trees → Bracket
  InEntry : Entries → List ℕ → Bracket
  InPlain : Head → Args → Bracket
  InKeyed : Head → Args → List ℕ → Bracket

-- a statement that its expression ends
pub data Base : Type 0 where
  Assigning : List ℕ → Base
  Placing : List ℕ → List ℕ → Base
  Aligning : List (List ℕ) → Base
  Writing : Base

-- what stands around an expression
pub data Around : Type 0 where
  On : Base → Around
  Printing : Around
  Inside : Bracket → Pend → Around → Around

pub data Place : Type 0 where
  Have : Tree → Place
  Dotted : Tree → Place
  Asked : Tree → List ℕ → Place
  Indexed : Tree → Place
  Indexing : Tree → List ℕ → Place
  AtItem : Trees → Place
  AtEntry : Entries → Place
  AtKey : Entries → List ℕ → Place
  AtArg : Head → Args → Place
  AtName : Head → Args → List ℕ → Place

-- where a statement has come to
pub data State : Type 0 where
  Named : List ℕ → State
  NamedOpen : List ℕ → State
  NamedText : List ℕ → List ℕ → State
  NamedIndex : List ℕ → List ℕ → State
  Several : List (List ℕ) → State
  Target : List (List ℕ) → List ℕ → State
  Joint : List (List ℕ) → List ℕ → State
  Aligns : List (List ℕ) → List ℕ → List ℕ → State
  Prints : State
  Closed : Tree → State
  Need : Wait → Around → State
  Signed : Wait → Around → State
  Fresh : List ℕ → Wait → Around → State
  At : Place → Pend → Around → State

-- the statement goes on, or has ended
pub data Next : Type 0 where
  Go : State → Next
  Done : Line → Next

abbrev pub go : State → Option Next
go s = Some (Go s)

abbrev pub empty : (r : Rank) → Slots r
empty Tight = Free
empty (Over r) = Waiting r None (empty r)

abbrev pub fresh : Wait
fresh = Waits None (empty bitor) []

abbrev pub joined : Slot → Tree → Tree
joined None e = e
joined (Some (o, a)) e = Binary o a e

-- an operand with the signs before it, with the operators of ranks that wait for it, and with all that waits for it
abbrev pub signed : List OpKind → Tree → Tree
signed [] e = e
signed (o ∷ os) e = signed os (Unary o e)

abbrev pub folded : {r : Rank} → Slots r → Tree → Tree
folded Free e = e
folded (Waiting r s ss) e = joined s (folded ss e)

unfoldable pub whole : Wait → Tree → Tree
whole (Waits c ss os) e = joined c (folded ss (signed os e))

abbrev pub with_sign : OpKind → Wait → Wait
with_sign o (Waits c ss os) = Waits c ss (o ∷ os)

abbrev pub same_rank : Rank → Rank → Bool
same_rank Tight Tight = true
same_rank (Over q) (Over r) = same_rank q r
same_rank _ _ = false

abbrev pub above : {r : Rank} → Slot → Option (Slots r) → Option (Slots (Over r))
above s None = None
above {r} s (Some ss) = Some (Waiting r s ss)

-- an operator of a rank takes what was read as its left side
abbrev pub put : {r : Rank} → Rank → OpKind → Slots r → Tree → Option (Slots r)
put q o Free e = None
put q o (Waiting r s ss) e = cond (same_rank q r) (Some (Waiting r (Some (o, joined s (folded ss e))) (empty r))) (above s (put q o ss e))

-- an atom that doesn't begin with a name
abbrev pub atom : Pend → Around → Terminal → Option Next
atom p u (Number n) = go (At (Have (Whole n)) p u)
atom p u (Text t) = go (At (Have (Words t)) p u)
atom p u (Literal c) = go (At (Have (Constantly c)) p u)
atom p u Open = go (Need fresh (Inside InRound p u))
atom p u Left = go (At (AtItem NoItem) p u)
atom p u LeftBrace = go (At (AtEntry NoEntry) p u)
atom p u _ = None

abbrev pub operand : Wait → Around → Terminal → Option Next
operand w u (Name n) = go (Fresh n w u)
operand w u Minus = go (Signed w u)
operand w u Tilde = go (Need (with_sign op.Invert w) u)
operand w u t = atom (In w) u t

abbrev pub begin : Terminal → Option Next
begin (Name n) = go (Named n)
begin Print = go Prints
begin t = atom (Alone false) (On Writing) t

abbrev pub line_on : Base → Tree → Line
line_on (Assigning n) e = Assigned n e
line_on (Placing n t) e = Placed n t e
line_on (Aligning ns) e = Aligned ns e
line_on Writing e = Written e

-- an argument ends
abbrev pub end_arg : Head → Args → Pend → Around → Terminal → Option Next
end_arg h gs p u Comma = go (At (AtArg h gs) p u)
end_arg h gs p u Close = go (At (Have (called h gs)) p u)
end_arg h gs p u _ = None

-- an expression ends
abbrev pub close : Around → Tree → Terminal → Option Next
close (On b) e End = Some (Done (line_on b e))
close Printing e Close = go (Closed e)
close (Inside InRound p u) e Close = go (At (Have e) p u)
close (Inside (InItems xs) p u) e Comma = go (At (AtItem (Item xs e)) p u)
close (Inside (InItems xs) p u) e Right = go (At (Have (Items (Item xs e))) p u)
close (Inside (InEntry es t) p u) e Comma = go (At (AtEntry (Entry es t e)) p u)
close (Inside (InEntry es t) p u) e RightBrace = go (At (Have (Table (Entry es t e))) p u)
close (Inside (InPlain h gs) p u) e t = end_arg h (Plain gs e) p u t
close (Inside (InKeyed h gs n) p u) e t = end_arg h (Keyed gs n e) p u t
close _ e _ = None

-- an operand has ended, and is the left side of a comparison
unfoldable pub compare : Wait → Around → Tree → OpKind → Option Next
compare (Waits None ss os) u e o = go (Need (Waits (Some (o, folded ss (signed os e))) (empty bitor) []) u)
compare (Waits (Some a) ss os) u e o = None

-- an operator waits in its slot
abbrev pub placed : Slot → Around → Option (Slots bitor) → Option Next
placed c u None = None
placed c u (Some ss) = go (Need (Waits c ss []) u)

-- an operand has ended, and is the left side of an operator
unfoldable pub join : Wait → Around → Tree → Rank → OpKind → Option Next
join (Waits c ss os) u e r o = placed c u (put r o ss (signed os e))

abbrev pub after_operand : Wait → Around → Tree → Terminal → Option Next
after_operand w u e Dot = go (At (Dotted e) (In w) u)
after_operand w u e Left = go (At (Indexed e) (In w) u)
after_operand w u e (Oper r o) = join w u e r o
after_operand w u e Minus = join w u e term op.Subtract
after_operand w u e (Compare o) = compare w u e o
after_operand w u e t = close u (whole w e) t

-- an atom with its parts so far has ended; one more part is no call that writes until it is one
abbrev pub after : Pend → Around → Tree → Terminal → Option Next
after (In w) u e t = after_operand w u e t
after (Alone l) u e Dot = go (At (Dotted e) (Alone false) u)
after (Alone l) u e Left = go (At (Indexed e) (Alone false) u)
after (Alone l) u e t = cond l (close u e t) None
after Bare u e t = close u e t

-- of a receiver, whether its last part, a method or an index, is the call that writes
abbrev pub asks : List ℕ → Pend → Pend
asks n (Alone l) = Alone (is_write n)
asks n p = p

abbrev pub indexes : Pend → Pend
indexes (Alone l) = Alone false
indexes p = p

abbrev pub step_at : Place → Pend → Around → Terminal → Option Next
step_at (Have e) p u t = after p u e t
step_at (Dotted e) p u (Name n) = go (At (Asked e n) p u)
step_at (Dotted e) p u _ = None
step_at (Asked e n) p u Open = go (At (AtArg (Of e n) NoArg) (asks n p) u)
step_at (Asked e n) p u _ = None
step_at (Indexed e) p u (Text t) = go (At (Indexing e t) p u)
step_at (Indexed e) p u _ = None
step_at (Indexing e t) p u Right = go (At (Have (Index e t)) (indexes p) u)
step_at (Indexing e t) p u _ = None
step_at (AtItem xs) p u Right = go (At (Have (Items xs)) p u)
step_at (AtItem xs) p u t = operand fresh (Inside (InItems xs) p u) t
step_at (AtEntry es) p u RightBrace = go (At (Have (Table es)) p u)
step_at (AtEntry es) p u (Text t) = cond (has_entry es t) None (go (At (AtKey es t) p u))
step_at (AtEntry es) p u _ = None
step_at (AtKey es t) p u Colon = go (Need fresh (Inside (InEntry es t) p u))
step_at (AtKey es t) p u _ = None
step_at (AtArg h gs) p u Close = go (At (Have (called h gs)) p u)
step_at (AtArg h gs) p u (Name n) = cond (plain_only gs) (go (At (AtName h gs n) p u)) (cond (uses gs n) None (go (At (AtName h gs n) p u)))
step_at (AtArg h gs) p u t = cond (plain_only gs) (operand fresh (Inside (InPlain h gs) p u) t) None
step_at (AtName h gs n) p u Is = cond (uses gs n) None (go (Need fresh (Inside (InKeyed h gs n) p u)))
step_at (AtName h gs n) p u Open = cond (plain_only gs) (go (At (AtArg (Func n) NoArg) (In fresh) (Inside (InPlain h gs) p u))) None
step_at (AtName h gs n) p u t = cond (plain_only gs) (after_operand fresh (Inside (InPlain h gs) p u) (Variable n) t) None

abbrev pub step : State → Terminal → Option Next
step (Named n) Is = go (Need fresh (On (Assigning n)))
step (Named n) Comma = go (Several (n ∷ []))
step (Named n) Left = go (NamedOpen n)
step (Named n) Open = go (At (AtArg (Func n) NoArg) (Alone false) (On Writing))
step (Named n) Dot = go (At (Dotted (Variable n)) (Alone false) (On Writing))
step (Named n) _ = None
step (NamedOpen n) (Text t) = go (NamedText n t)
step (NamedOpen n) _ = None
step (NamedText n t) Right = go (NamedIndex n t)
step (NamedText n t) _ = None
step (NamedIndex n t) Is = go (Need fresh (On (Placing n t)))
step (NamedIndex n t) k = after (Alone false) (On Writing) (Index (Variable n) t) k
step (Several ns) (Name n) = go (Target ns n)
step (Several ns) _ = None
step (Target ns n) Comma = go (Several (ns ++ n ∷ []))
step (Target ns n) Is = go (Joint ns n)
step (Target ns n) _ = None
step (Joint ns n) (Name a) = cond (is_align a) (go (Aligns ns n a)) None
step (Joint ns n) _ = None
step (Aligns ns n a) Open = go (At (AtArg (Func a) NoArg) Bare (On (Aligning (ns ++ n ∷ []))))
step (Aligns ns n a) _ = None
step Prints Open = go (Need fresh Printing)
step Prints _ = None
step (Closed e) End = Some (Done (Printed e))
step (Closed e) _ = None
step (Need w u) t = operand w u t
step (Signed w u) (Number n) = go (At (Have (Whole (pos 0 -ℤ n))) (In w) u)
step (Signed w u) t = operand (with_sign op.Negate w) u t
step (Fresh n w u) Open = go (At (AtArg (Func n) NoArg) (In w) u)
step (Fresh n w u) t = after_operand w u (Variable n) t
step (At x p u) t = step_at x p u t

-- between statements, or in one
pub data Point : Type 0 where
  Between : Point
  Within : State → Point

-- the statements so far, and where the machine is behind them
abbrev pub Spot : Type 0
Spot = List Line × Point

abbrev pub settled : List Line → Option Next → Option Spot
settled z None = None
settled z (Some (Go s)) = Some (z, Within s)
settled z (Some (Done l)) = Some (z ++ l ∷ [], Between)

abbrev pub move : List Line → Point → Terminal → Option Spot
move z Between End = Some (z, Between)
move z Between t = settled z (begin t)
move z (Within s) t = settled z (step s t)

-- the spot behind all terminals
abbrev pub runs_from : List Terminal → Option Spot → Option Spot
runs_from [] o = o
runs_from (t ∷ ts) None = None
runs_from (t ∷ ts) (Some x) = runs_from ts (move x.0 x.1 t)

abbrev pub runs : List Terminal → Option Spot
runs ts = runs_from ts (Some ([], Between))
