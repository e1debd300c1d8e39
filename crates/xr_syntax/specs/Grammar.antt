-- The grammar of scripts. `Reads sort ts us e`: the terminals ts begin with a piece of that sort, us follows it, and e is its tree.
-- The precedence of operators is Python's (The Python Language Reference, "Operator precedence"), without chains of comparisons.
use Rattle.std.specs.Prelude.{◌≡◌, ℕ, ℤ, pos, ◌-ℤ◌, List, [], ◌∷◌, ◌++◌, Bool, true, false, codes}
use Rattle.std.specs.Str.{bytes_eq}
use Rattle.xr_types.specs.declared.operation.OpKind.{OpKind}
use Rattle.xr_types.specs.declared.operation.OpKind.TheVariants as op
use Rattle.xr_syntax.specs.declared.syntax.Constant.{Constant}
use Rattle.xr_syntax.specs.declared.syntax.Constant.TheVariants as constant
use Rattle.xr_syntax.specs.declared.token.Token.{Token}
use Rattle.xr_syntax.specs.declared.token.Token.TheVariants as token
use Rattle.xr_syntax.specs.declared.token.Reserved.TheVariants as reserved
use Rattle.xr_syntax.specs.declared.token.Mark.TheVariants as mark
use Rattle.xr_syntax.specs.Syntax.{Tree, Variable, Whole, Words, Constantly, Unary, Binary, Call, Method, Index, Items, Table}
use Rattle.xr_syntax.specs.Syntax.{Trees, NoItem, Item, Entries, NoEntry, Entry, Args, NoArg, Plain, Keyed, plain_only, uses, has_entry, Line, Assigned, Aligned, Placed, Printed, Written}

-- how tightly the operators bind that have been read: an operator's rank is that of the phrases on its two sides
pub data Rank : Type 0 where
  Tight : Rank
  Over : Rank → Rank

abbrev pub unary : Rank
unary = Tight

abbrev pub term : Rank
term = Over unary

abbrev pub sum : Rank
sum = Over term

abbrev pub bitand : Rank
bitand = Over sum

abbrev pub bitxor : Rank
bitxor = Over bitand

abbrev pub bitor : Rank
bitor = Over bitxor

-- what the grammar tells apart of tokens
pub data Terminal : Type 0 where
  Name : List ℕ → Terminal
  Number : ℤ → Terminal
  Text : List ℕ → Terminal
  Literal : Constant → Terminal
  Print : Terminal
  -- an operator between two phrases of a rank
  Oper : Rank → OpKind → Terminal
  Compare : OpKind → Terminal
  Minus : Terminal
  Tilde : Terminal
  Dot : Terminal
  Open : Terminal
  Close : Terminal
  Left : Terminal
  Right : Terminal
  LeftBrace : Terminal
  RightBrace : Terminal
  Comma : Terminal
  Colon : Terminal
  Is : Terminal
  End : Terminal

abbrev pub terminal_of : Token → Terminal
terminal_of (token.Name n) = Name n
terminal_of (token.Number n) = Number n
terminal_of (token.Text t) = Text t
terminal_of (token.Word reserved.Print) = Print
terminal_of (token.Word reserved.True) = Literal constant.True
terminal_of (token.Word reserved.False) = Literal constant.False
terminal_of (token.Word reserved.None) = Literal constant.None
terminal_of (token.Word reserved.Na) = Literal constant.Na
terminal_of (token.Mark mark.OpenRound) = Open
terminal_of (token.Mark mark.CloseRound) = Close
terminal_of (token.Mark mark.OpenSquare) = Left
terminal_of (token.Mark mark.CloseSquare) = Right
terminal_of (token.Mark mark.OpenBrace) = LeftBrace
terminal_of (token.Mark mark.CloseBrace) = RightBrace
terminal_of (token.Mark mark.Comma) = Comma
terminal_of (token.Mark mark.Colon) = Colon
terminal_of (token.Mark mark.Dot) = Dot
terminal_of (token.Mark mark.Assign) = Is
terminal_of (token.Mark mark.EqualEqual) = Compare op.Equal
terminal_of (token.Mark mark.NotEqual) = Compare op.NotEqual
terminal_of (token.Mark mark.Less) = Compare op.Less
terminal_of (token.Mark mark.LessEqual) = Compare op.LessEqual
terminal_of (token.Mark mark.Greater) = Compare op.Greater
terminal_of (token.Mark mark.GreaterEqual) = Compare op.GreaterEqual
terminal_of (token.Mark mark.Bar) = Oper bitxor op.Or
terminal_of (token.Mark mark.Caret) = Oper bitand op.Xor
terminal_of (token.Mark mark.Ampersand) = Oper sum op.And
terminal_of (token.Mark mark.Plus) = Oper term op.Add
terminal_of (token.Mark mark.Minus) = Minus
terminal_of (token.Mark mark.Star) = Oper unary op.Multiply
terminal_of (token.Mark mark.SlashSlash) = Oper unary op.FloorDivide
terminal_of (token.Mark mark.Percent) = Oper unary op.Remainder
terminal_of (token.Mark mark.Slash) = Oper unary op.Divide
terminal_of (token.Mark mark.Tilde) = Tilde
terminal_of token.LineEnd = End

-- the operators between two phrases of a rank; a "-" may stand between two terms too
pub data Joins : Terminal → Rank → OpKind → Type 0 where
  by_operator : {r : Rank} {o : OpKind} → Joins (Oper r o) r o
  by_minus : Joins Minus term op.Subtract

-- what is called: a function, or a method of a receiver
pub data Head : Type 0 where
  Func : List ℕ → Head
  Of : Tree → List ℕ → Head

abbrev pub called : Head → Args → Tree
called (Func n) gs = Call n gs
called (Of e n) gs = Method e n gs

abbrev pub starts_number : List Terminal → Bool
starts_number (Number n ∷ ts) = true
starts_number _ = false

abbrev pub is_align : List ℕ → Bool
is_align n = bytes_eq n (codes "align")

abbrev pub is_write : List ℕ → Bool
is_write n = bytes_eq n (codes "to_netcdf")

-- how the parts behind an atom end: anywhere, or in a call of to_netcdf
pub data Ending : Type 0 where
  Anywhere : Ending
  InWrite : Ending

pub data Sort : Type 0 where
  AnExpr : Sort
  Phrase : Rank → Sort
  -- operators of a rank and their right sides, behind what was read so far
  Tail : Rank → Tree → Sort
  AUnary : Sort
  APostfix : Sort
  Parts : Ending → Tree → Sort
  AnAtom : Sort
  ItemsTail : Trees → Sort
  EntriesTail : Entries → Sort
  ArgsTail : Head → Args → Sort

pub data Reads : Sort → List Terminal → List Terminal → Tree → Type 0 where
  -- expr = bitor [("=="|"!="|"<"|"<="|">"|">=") bitor]
  expr_one : {ts us : List Terminal} {e : Tree} → Reads (Phrase bitor) ts us e → Reads AnExpr ts us e
  expr_compare : {ts us vs : List Terminal} {o : OpKind} {a b : Tree} → Reads (Phrase bitor) ts (Compare o ∷ us) a → Reads (Phrase bitor) us vs b → Reads AnExpr ts vs (Binary o a b)
  -- bitor = bitxor {"|" bitxor}, bitxor = bitand {"^" bitand}, bitand = sum {"&" sum}, sum = term {("+"|"-") term}, term = unary {("*"|"//"|"%"|"/") unary}
  phrase_unary : {ts us : List Terminal} {e : Tree} → Reads AUnary ts us e → Reads (Phrase unary) ts us e
  phrase_of : {r : Rank} {ts us vs : List Terminal} {a e : Tree} → Reads (Phrase r) ts us a → Reads (Tail r a) us vs e → Reads (Phrase (Over r)) ts vs e
  tail_end : {r : Rank} {ts : List Terminal} {a : Tree} → Reads (Tail r a) ts ts a
  tail_more : {r : Rank} {t : Terminal} {o : OpKind} {ts us vs : List Terminal} {a b e : Tree} → Joins t r o → Reads (Phrase r) ts us b → Reads (Tail r (Binary o a b)) us vs e → Reads (Tail r a) (t ∷ ts) vs e
  -- unary = {"-"|"~"} postfix, and a "-" before a number belongs to it
  unary_minus : {ts us : List Terminal} {e : Tree} → starts_number ts ≡ false → Reads AUnary ts us e → Reads AUnary (Minus ∷ ts) us (Unary op.Negate e)
  unary_tilde : {ts us : List Terminal} {e : Tree} → Reads AUnary ts us e → Reads AUnary (Tilde ∷ ts) us (Unary op.Invert e)
  unary_below : {ts us : List Terminal} {n : ℤ} {e : Tree} → Reads (Parts Anywhere (Whole (pos 0 -ℤ n))) ts us e → Reads AUnary (Minus ∷ Number n ∷ ts) us e
  unary_post : {ts us : List Terminal} {e : Tree} → Reads APostfix ts us e → Reads AUnary ts us e
  -- postfix = atom {"." name "(" args ")" | "[" text "]"}
  postfix : {ts us vs : List Terminal} {a e : Tree} → Reads AnAtom ts us a → Reads (Parts Anywhere a) us vs e → Reads APostfix ts vs e
  parts_end : {ts : List Terminal} {a : Tree} → Reads (Parts Anywhere a) ts ts a
  part_method : {w : Ending} {ts us vs : List Terminal} {n : List ℕ} {a b e : Tree} → Reads (ArgsTail (Of a n) NoArg) ts us b → Reads (Parts w b) us vs e → Reads (Parts w a) (Dot ∷ Name n ∷ Open ∷ ts) vs e
  part_index : {w : Ending} {ts us : List Terminal} {t : List ℕ} {a e : Tree} → Reads (Parts w (Index a t)) ts us e → Reads (Parts w a) (Left ∷ Text t ∷ Right ∷ ts) us e
  part_write : {ts us : List Terminal} {n : List ℕ} {a b : Tree} → is_write n ≡ true → Reads (ArgsTail (Of a n) NoArg) ts us b → Reads (Parts InWrite a) (Dot ∷ Name n ∷ Open ∷ ts) us b
  -- atoms
  atom_name : {ts : List Terminal} {n : List ℕ} → Reads AnAtom (Name n ∷ ts) ts (Variable n)
  atom_call : {ts us : List Terminal} {n : List ℕ} {e : Tree} → Reads (ArgsTail (Func n) NoArg) ts us e → Reads AnAtom (Name n ∷ Open ∷ ts) us e
  atom_number : {ts : List Terminal} {n : ℤ} → Reads AnAtom (Number n ∷ ts) ts (Whole n)
  atom_text : {ts : List Terminal} {t : List ℕ} → Reads AnAtom (Text t ∷ ts) ts (Words t)
  atom_literal : {ts : List Terminal} {c : Constant} → Reads AnAtom (Literal c ∷ ts) ts (Constantly c)
  atom_round : {ts us : List Terminal} {e : Tree} → Reads AnExpr ts (Close ∷ us) e → Reads AnAtom (Open ∷ ts) us e
  atom_list : {ts us : List Terminal} {e : Tree} → Reads (ItemsTail NoItem) ts us e → Reads AnAtom (Left ∷ ts) us e
  atom_table : {ts us : List Terminal} {e : Tree} → Reads (EntriesTail NoEntry) ts us e → Reads AnAtom (LeftBrace ∷ ts) us e
  -- items and "]", behind those read so far
  items_end : {ts : List Terminal} {xs : Trees} → Reads (ItemsTail xs) (Right ∷ ts) ts (Items xs)
  items_last : {ts us : List Terminal} {xs : Trees} {e : Tree} → Reads AnExpr ts (Right ∷ us) e → Reads (ItemsTail xs) ts us (Items (Item xs e))
  items_more : {ts us vs : List Terminal} {xs : Trees} {e w : Tree} → Reads AnExpr ts (Comma ∷ us) e → Reads (ItemsTail (Item xs e)) us vs w → Reads (ItemsTail xs) ts vs w
  -- entries and "}", behind those read so far; no text stands twice as a key
  entries_end : {ts : List Terminal} {es : Entries} → Reads (EntriesTail es) (RightBrace ∷ ts) ts (Table es)
  entries_last : {ts us : List Terminal} {es : Entries} {t : List ℕ} {e : Tree} → has_entry es t ≡ false → Reads AnExpr ts (RightBrace ∷ us) e → Reads (EntriesTail es) (Text t ∷ Colon ∷ ts) us (Table (Entry es t e))
  entries_more : {ts us vs : List Terminal} {es : Entries} {t : List ℕ} {e w : Tree} → has_entry es t ≡ false → Reads AnExpr ts (Comma ∷ us) e → Reads (EntriesTail (Entry es t e)) us vs w → Reads (EntriesTail es) (Text t ∷ Colon ∷ ts) vs w
  -- arguments and ")", behind those read so far; no plain one after a keyword, no keyword twice
  args_end : {ts : List Terminal} {h : Head} {gs : Args} → Reads (ArgsTail h gs) (Close ∷ ts) ts (called h gs)
  args_last : {ts us : List Terminal} {h : Head} {gs : Args} {e : Tree} → plain_only gs ≡ true → Reads AnExpr ts (Close ∷ us) e → Reads (ArgsTail h gs) ts us (called h (Plain gs e))
  args_more : {ts us vs : List Terminal} {h : Head} {gs : Args} {e w : Tree} → plain_only gs ≡ true → Reads AnExpr ts (Comma ∷ us) e → Reads (ArgsTail h (Plain gs e)) us vs w → Reads (ArgsTail h gs) ts vs w
  keys_last : {ts us : List Terminal} {h : Head} {gs : Args} {n : List ℕ} {e : Tree} → uses gs n ≡ false → Reads AnExpr ts (Close ∷ us) e → Reads (ArgsTail h gs) (Name n ∷ Is ∷ ts) us (called h (Keyed gs n e))
  keys_more : {ts us vs : List Terminal} {h : Head} {gs : Args} {n : List ℕ} {e w : Tree} → uses gs n ≡ false → Reads AnExpr ts (Comma ∷ us) e → Reads (ArgsTail h (Keyed gs n e)) us vs w → Reads (ArgsTail h gs) (Name n ∷ Is ∷ ts) vs w

-- {"," name} "=" "align" "(" args ")" from a name on, behind the names read so far
pub data Targets : List (List ℕ) → List Terminal → List Terminal → Line → Type 0 where
  target_more : {ns : List (List ℕ)} {n : List ℕ} {ts us : List Terminal} {l : Line} → Targets (ns ++ n ∷ []) ts us l → Targets ns (Name n ∷ Comma ∷ ts) us l
  target_last : {ns : List (List ℕ)} {n a : List ℕ} {ts us : List Terminal} {e : Tree} → is_align a ≡ true → Reads (ArgsTail (Func a) NoArg) ts us e → Targets ns (Name n ∷ Is ∷ Name a ∷ Open ∷ ts) us (Aligned (ns ++ n ∷ []) e)

pub data Statement : List Terminal → List Terminal → Line → Type 0 where
  assign : {ts us : List Terminal} {n : List ℕ} {e : Tree} → Reads AnExpr ts us e → Statement (Name n ∷ Is ∷ ts) us (Assigned n e)
  align : {ts us : List Terminal} {n : List ℕ} {l : Line} → Targets (n ∷ []) ts us l → Statement (Name n ∷ Comma ∷ ts) us l
  place : {ts us : List Terminal} {n t : List ℕ} {e : Tree} → Reads AnExpr ts us e → Statement (Name n ∷ Left ∷ Text t ∷ Right ∷ Is ∷ ts) us (Placed n t e)
  print : {ts us : List Terminal} {e : Tree} → Reads AnExpr ts (Close ∷ us) e → Statement (Print ∷ Open ∷ ts) us (Printed e)
  write : {ts us vs : List Terminal} {a e : Tree} → Reads AnAtom ts us a → Reads (Parts InWrite a) us vs e → Statement ts vs (Written e)

-- `Lines before ts all`: the terminals are the statements of all that follow those before, each with its line's end, and empty lines
pub data Lines : List Line → List Terminal → List Line → Type 0 where
  no_more : {z : List Line} → Lines z [] z
  blank : {z f : List Line} {ts : List Terminal} → Lines z ts f → Lines z (End ∷ ts) f
  line : {z f : List Line} {l : Line} {ts us : List Terminal} → Statement ts (End ∷ us) l → Lines (z ++ l ∷ []) us f → Lines z ts f

-- the end of a text ends a line too
abbrev pub IsScript : List Terminal → List Line → Type 0
IsScript ts f = Lines [] (ts ++ End ∷ []) f

-- some script begins with these terminals
abbrev pub Viable : List Terminal → Type 0
Viable ts = (us : List Terminal) × (f : List Line) × IsScript (ts ++ us) f
