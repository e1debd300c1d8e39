-- What each state of the machine still takes: the rest of the statement that the grammar gives it, and then what may follow the statement.
use Rattle.std.proofs.Common.{ℕ, List, ◌∷◌, Bool, true, false, Option, Some, None, ◌⊎◌}
use Rattle.xr_syntax.specs.Syntax.{Tree, Binary, Items, Table}
use Rattle.xr_syntax.specs.Syntax.{Item, Entry, Plain, Keyed, Line, Printed}
use Rattle.xr_syntax.specs.Grammar.{Rank, bitor, Terminal, Name, Text, Print, Compare, Minus, Dot, Close, Left, Right, RightBrace, Comma, Is, End}
use Rattle.xr_syntax.specs.Grammar.{called, Anywhere, InWrite}
use Rattle.xr_syntax.specs.Grammar.{Sort, Phrase, Tail, AUnary, Parts, ItemsTail, EntriesTail, ArgsTail, Reads, Targets, Statement}
use Rattle.xr_grammar.specs.Machine.{Slot, Slots, Free, Waiting, Wait, Waits, Pend, In, Alone, Bare, Bracket, InRound, InItems, InEntry, InPlain, InKeyed, Around, On, Printing, Inside}
use Rattle.xr_grammar.specs.Machine.{Have, Dotted, Asked, Indexed, Indexing, AtItem, AtEntry, AtKey, AtArg, AtName, State, Named, NamedOpen, NamedText, NamedIndex, Several, Target, Joint, Aligns, Prints, Closed, Need, Signed, Fresh, At}
use Rattle.xr_grammar.specs.Machine.{Next, Go, Done, joined, signed, line_on}

-- what may follow a tree, and what may follow a statement
abbrev pub Cont : Type 1
Cont = Tree → List Terminal → Type 0

abbrev pub Rest : Type 1
Rest = Line → List Terminal → Type 0

abbrev pub piece_then : Sort → Cont → List Terminal → Type 0
piece_then s k ts = (us : List Terminal) × (e : Tree) × Reads s ts us e × k e us

abbrev pub compare_then : Cont → Cont
compare_then k e (Compare o ∷ ts) = piece_then (Phrase bitor) (λ b us. k (Binary o e b) us) ts
compare_then k e _ = ⊥

abbrev pub compares : Slot → Cont → Cont
compares (Some (o, a)) k e ts = k (Binary o a e) ts
compares None k e ts = k e ts ⊎ compare_then k e ts

-- the operators of each rank go on, the tightest first
abbrev pub within : {r : Rank} → Slots r → Cont → Cont
within Free k = k
within (Waiting r s ss) k = within ss (λ e us. piece_then (Tail r (joined s e)) k us)

abbrev pub after_unary : Wait → Cont → Cont
after_unary (Waits c ss os) k e ts = within ss (compares c k) (signed os e) ts

-- the parts of an atom go on
abbrev pub parts_then : Pend → Cont → Cont
parts_then (In w) k e ts = piece_then (Parts Anywhere e) (after_unary w k) ts
parts_then (Alone l) k e ts = piece_then (Parts InWrite e) k ts
parts_then Bare k e ts = ⊥

abbrev pub or_ends : Bool → Cont → Cont
or_ends true k e ts = k e ts
or_ends false k e ts = ⊥

abbrev pub after_atom : Pend → Cont → Cont
after_atom (In w) k e ts = parts_then (In w) k e ts
after_atom (Alone l) k e ts = parts_then (Alone l) k e ts ⊎ or_ends l k e ts
after_atom Bare k e ts = k e ts

abbrev pub closes : Bracket → Cont → Cont
closes InRound k e (Close ∷ ts) = k e ts
closes (InItems xs) k e (Right ∷ ts) = k (Items (Item xs e)) ts
closes (InItems xs) k e (Comma ∷ ts) = piece_then (ItemsTail (Item xs e)) k ts
closes (InEntry es t) k e (RightBrace ∷ ts) = k (Table (Entry es t e)) ts
closes (InEntry es t) k e (Comma ∷ ts) = piece_then (EntriesTail (Entry es t e)) k ts
closes (InPlain h gs) k e (Close ∷ ts) = k (called h (Plain gs e)) ts
closes (InPlain h gs) k e (Comma ∷ ts) = piece_then (ArgsTail h (Plain gs e)) k ts
closes (InKeyed h gs n) k e (Close ∷ ts) = k (called h (Keyed gs n e)) ts
closes (InKeyed h gs n) k e (Comma ∷ ts) = piece_then (ArgsTail h (Keyed gs n e)) k ts
closes _ k e _ = ⊥

abbrev pub ends : Rest → Around → Cont
ends f (On b) e (End ∷ ts) = f (line_on b e) ts
ends f Printing e (Close ∷ End ∷ ts) = f (Printed e) ts
ends f (Inside b p u) e ts = closes b (after_atom p (ends f u)) e ts
ends f _ e _ = ⊥

abbrev pub statement_then : Rest → List Terminal → Type 0
statement_then f ts = (us : List Terminal) × (l : Line) × Statement ts (End ∷ us) l × f l us

abbrev pub targets_then : Rest → List (List ℕ) → List Terminal → Type 0
targets_then f ns ts = (us : List Terminal) × (l : Line) × Targets ns ts (End ∷ us) l × f l us

abbrev pub means : Rest → State → List Terminal → Type 0
means f (Named n) ts = statement_then f (Name n ∷ ts)
means f (NamedOpen n) ts = statement_then f (Name n ∷ Left ∷ ts)
means f (NamedText n t) ts = statement_then f (Name n ∷ Left ∷ Text t ∷ ts)
means f (NamedIndex n t) ts = statement_then f (Name n ∷ Left ∷ Text t ∷ Right ∷ ts)
means f (Several ns) ts = targets_then f ns ts
means f (Target ns n) ts = targets_then f ns (Name n ∷ ts)
means f (Joint ns n) ts = targets_then f ns (Name n ∷ Is ∷ ts)
means f (Aligns ns n a) ts = targets_then f ns (Name n ∷ Is ∷ Name a ∷ ts)
means f Prints ts = statement_then f (Print ∷ ts)
means f (Closed e) ts = ends f Printing e (Close ∷ ts)
means f (Need w u) ts = piece_then AUnary (after_unary w (ends f u)) ts
means f (Signed w u) ts = piece_then AUnary (after_unary w (ends f u)) (Minus ∷ ts)
means f (Fresh n w u) ts = piece_then AUnary (after_unary w (ends f u)) (Name n ∷ ts)
means f (At (Have e) p u) ts = after_atom p (ends f u) e ts
means f (At (Dotted e) p u) ts = parts_then p (ends f u) e (Dot ∷ ts)
means f (At (Asked e n) p u) ts = parts_then p (ends f u) e (Dot ∷ Name n ∷ ts)
means f (At (Indexed e) p u) ts = parts_then p (ends f u) e (Left ∷ ts)
means f (At (Indexing e t) p u) ts = parts_then p (ends f u) e (Left ∷ Text t ∷ ts)
means f (At (AtItem xs) p u) ts = piece_then (ItemsTail xs) (after_atom p (ends f u)) ts
means f (At (AtEntry es) p u) ts = piece_then (EntriesTail es) (after_atom p (ends f u)) ts
means f (At (AtKey es t) p u) ts = piece_then (EntriesTail es) (after_atom p (ends f u)) (Text t ∷ ts)
means f (At (AtArg h gs) p u) ts = piece_then (ArgsTail h gs) (after_atom p (ends f u)) ts
means f (At (AtName h gs n) p u) ts = piece_then (ArgsTail h gs) (after_atom p (ends f u)) (Name n ∷ ts)

-- the same after a step
abbrev pub stepped : Rest → Option Next → List Terminal → Type 0
stepped f None ts = ⊥
stepped f (Some (Go s)) ts = means f s ts
stepped f (Some (Done l)) ts = f l ts
