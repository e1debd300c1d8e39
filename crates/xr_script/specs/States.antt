-- What the program's states stand for.
use Rattle.std.specs.Prelude.{◌≡◌, List, [], ◌∷◌, reverse, true, false, Option, Some, None, Result, Ok, Err, ⊤, Box, codes}
use Rattle.std.specs.declared.alloc.Global.{Global}
use Rattle.xr_types.specs.declared.operation.OpKind.{OpKind}
use Rattle.xr_syntax.specs.declared.syntax.Expr.{Expr}
use Rattle.xr_syntax.specs.Syntax.{tree_of, all_trees, all_entries, all_arguments, line_of, Call, Method}
use Rattle.xr_syntax.specs.Grammar as grammar
use Rattle.xr_syntax.specs.Grammar.{unary, term, sum, bitand, bitxor, bitor}
use Rattle.xr_grammar.specs.Machine as machine
use Rattle.xr_script.specs.declared.state.Levels.{Levels}
use Rattle.xr_script.specs.declared.state.Waiting.{Waiting}
use Rattle.xr_script.specs.declared.state.Head.{Head}
use Rattle.xr_script.specs.declared.state.Head.TheVariants as head
use Rattle.xr_script.specs.declared.state.Bracket.{Bracket}
use Rattle.xr_script.specs.declared.state.Bracket.TheVariants as bracket
use Rattle.xr_script.specs.declared.state.Frame.{Frame}
use Rattle.xr_script.specs.declared.state.Base.{Base}
use Rattle.xr_script.specs.declared.state.Base.TheVariants as base
use Rattle.xr_script.specs.declared.state.Around.{Around}
use Rattle.xr_script.specs.declared.state.Seat.{Seat}
use Rattle.xr_script.specs.declared.state.Seat.TheVariants as seat
use Rattle.xr_script.specs.declared.state.Place.{Place}
use Rattle.xr_script.specs.declared.state.Place.TheVariants as place
use Rattle.xr_script.specs.declared.state.State.{State}
use Rattle.xr_script.specs.declared.state.State.TheVariants as state
use Rattle.xr_script.specs.declared.state.Next.{Next}
use Rattle.xr_script.specs.declared.state.Next.TheVariants as next
use Rattle.xr_script.specs.declared.state.Stop.{Stop}
use Rattle.xr_script.specs.declared.state.Stop.TheVariants as stop

abbrev pub slot_of : Option (OpKind × Box Expr Global) → machine.Slot
slot_of None = None
slot_of (Some p) = Some (p.0, tree_of p.1.value)

abbrev pub levels_of : Levels → machine.Slots bitor
levels_of l = machine.Waiting bitxor (slot_of l.bit_or) (machine.Waiting bitand (slot_of l.bit_xor) (machine.Waiting sum (slot_of l.bit_and) (machine.Waiting term (slot_of l.sum) (machine.Waiting unary (slot_of l.product) machine.Free))))

abbrev pub waiting_of : Waiting → machine.Wait
waiting_of w = machine.Waits (slot_of w.compare) (levels_of w.levels) (reverse w.signs.items)

abbrev pub wait_of : Option (Box Waiting Global) → machine.Wait
wait_of None = machine.fresh
wait_of (Some b) = waiting_of b.value

abbrev pub head_of : Head → grammar.Head
head_of (head.Func n) = grammar.Func n
head_of (head.Of e n) = grammar.Of (tree_of e.value) n
head_of (head.Write e) = grammar.Of (tree_of e.value) (codes "to_netcdf")
head_of (head.Align ns) = grammar.Func (codes "align")

abbrev pub bracket_of : Bracket → machine.Bracket
bracket_of bracket.Round = machine.InRound
bracket_of (bracket.Items xs) = machine.InItems (all_trees xs.items)
bracket_of (bracket.Entry es t) = machine.InEntry (all_entries es.list.items) t
bracket_of (bracket.Plain h gs) = machine.InPlain (head_of h) (all_arguments gs.list.items)
bracket_of (bracket.Named h gs n) = machine.InKeyed (head_of h) (all_arguments gs.list.items) n

-- ---- a call that stands in no expression

abbrev pub alone_pend : Head → machine.Pend
alone_pend (head.Write e) = machine.Alone true
alone_pend (head.Align ns) = machine.Bare
alone_pend h = machine.Alone false

abbrev pub alone_around : Head → machine.Around
alone_around (head.Align ns) = machine.On (machine.Aligning ns)
alone_around h = machine.On machine.Writing

abbrev pub base_pend : Bracket → machine.Pend
base_pend (bracket.Plain h gs) = alone_pend h
base_pend (bracket.Named h gs n) = alone_pend h
base_pend b = machine.Alone false

abbrev pub base_around : Bracket → machine.Around
base_around (bracket.Plain h gs) = alone_around h
base_around (bracket.Named h gs n) = alone_around h
base_around b = machine.On machine.Writing

abbrev pub base_of : Base → machine.Around
base_of (base.Assigning n) = machine.On (machine.Assigning n)
base_of (base.Placing n t) = machine.On (machine.Placing n t)
base_of base.Printing = machine.Printing
base_of (base.Inside b) = machine.Inside (bracket_of b) (base_pend b) (base_around b)

-- ---- around an expression

abbrev pub around_from : machine.Around → List Frame → machine.Around
around_from u [] = u
around_from u (f ∷ fs) = around_from (machine.Inside (bracket_of f.bracket) (machine.In (wait_of f.wait)) u) fs

abbrev pub around_of : Around → machine.Around
around_of u = around_from (base_of u.base.value) u.stack.items

abbrev pub pend_of : Seat → machine.Pend
pend_of (seat.In w u) = machine.In (wait_of w)
pend_of seat.Alone = machine.Alone false

abbrev pub seat_around : Seat → machine.Around
seat_around (seat.In w u) = around_of u
seat_around seat.Alone = machine.On machine.Writing

-- the same of a call
abbrev pub pend_for : Head → Seat → machine.Pend
pend_for h (seat.In w u) = machine.In (wait_of w)
pend_for h seat.Alone = alone_pend h

abbrev pub around_for : Head → Seat → machine.Around
around_for h (seat.In w u) = around_of u
around_for h seat.Alone = alone_around h

-- the same of what stands in a bracket
abbrev pub pend_in : Bracket → Seat → machine.Pend
pend_in (bracket.Plain h gs) s = pend_for h s
pend_in (bracket.Named h gs n) s = pend_for h s
pend_in b s = pend_of s

abbrev pub around_in : Bracket → Seat → machine.Around
around_in (bracket.Plain h gs) s = around_for h s
around_in (bracket.Named h gs n) s = around_for h s
around_in b s = seat_around s

abbrev pub inside : Bracket → Seat → machine.Around
inside b s = machine.Inside (bracket_of b) (pend_in b s) (around_in b s)

-- ---- states

abbrev pub place_of : Place → machine.Place
place_of (place.Have e) = machine.Have (tree_of e)
place_of (place.Dotted e) = machine.Dotted (tree_of e)
place_of (place.Asked e n) = machine.Asked (tree_of e) n
place_of (place.Indexed e) = machine.Indexed (tree_of e)
place_of (place.Indexing e t) = machine.Indexing (tree_of e) t
place_of (place.AtItem xs) = machine.AtItem (all_trees xs.items)
place_of (place.AtEntry es) = machine.AtEntry (all_entries es.list.items)
place_of (place.AtKey es t) = machine.AtKey (all_entries es.list.items) t
place_of (place.AtArg h gs) = machine.AtArg (head_of h) (all_arguments gs.list.items)
place_of (place.AtName h gs n) = machine.AtName (head_of h) (all_arguments gs.list.items) n

abbrev pub pend_at : Place → Seat → machine.Pend
pend_at (place.AtArg h gs) s = pend_for h s
pend_at (place.AtName h gs n) s = pend_for h s
pend_at x s = pend_of s

abbrev pub around_at : Place → Seat → machine.Around
around_at (place.AtArg h gs) s = around_for h s
around_at (place.AtName h gs n) s = around_for h s
around_at x s = seat_around s

abbrev pub state_of : State → machine.State
state_of (state.Named n) = machine.Named n
state_of (state.NamedOpen n) = machine.NamedOpen n
state_of (state.NamedText n t) = machine.NamedText n t
state_of (state.NamedIndex n t) = machine.NamedIndex n t
state_of (state.Several ns) = machine.Several ns
state_of (state.Target ns n) = machine.Target ns n
state_of (state.Joint ns n) = machine.Joint ns n
state_of (state.Aligns ns n) = machine.Aligns ns n (codes "align")
state_of state.Prints = machine.Prints
state_of (state.Closed e) = machine.Closed (tree_of e)
state_of (state.Need w u) = machine.Need (wait_of w) (around_of u)
state_of (state.Signed w u) = machine.Signed (wait_of w) (around_of u)
state_of (state.Fresh n w u) = machine.Fresh n (wait_of w) (around_of u)
state_of (state.At x s) = machine.At (place_of x) (pend_at x s) (around_at x s)
state_of (state.Wrote e gs) = machine.At (machine.Have (Method (tree_of e.value) (codes "to_netcdf") (all_arguments gs.items))) (machine.Alone true) (machine.On machine.Writing)
state_of (state.Joined ns gs) = machine.At (machine.Have (Call (codes "align") (all_arguments gs.items))) machine.Bare (machine.On (machine.Aligning ns))

abbrev pub next_of : Next → machine.Next
next_of (next.Go s) = machine.Go (state_of s)
next_of (next.Done l) = machine.Done (line_of l)

-- an answer is the machine's, and Syntax is where it has none; want of memory is free
abbrev pub Follows : Result Next Stop → Option machine.Next → Type 0
Follows (Ok n) o = o ≡ Some (next_of n)
Follows (Err stop.Syntax) o = o ≡ None
Follows (Err stop.Memory) o = ⊤
