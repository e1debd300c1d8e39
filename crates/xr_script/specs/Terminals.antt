-- The terminals of the program are those of the grammar.
use Rattle.xr_syntax.specs.Grammar as grammar
use Rattle.xr_syntax.specs.Grammar.{Rank}
use Rattle.xr_script.specs.declared.terminal.Level.{Level}
use Rattle.xr_script.specs.declared.terminal.Level.TheVariants as level
use Rattle.xr_script.specs.declared.terminal.Terminal.{Terminal}
use Rattle.xr_script.specs.declared.terminal.Terminal.TheVariants as terminals

abbrev pub rank_of : Level → Rank
rank_of level.Product = grammar.unary
rank_of level.Sum = grammar.term
rank_of level.BitAnd = grammar.sum
rank_of level.BitXor = grammar.bitand
rank_of level.BitOr = grammar.bitxor

abbrev pub terminal : Terminal → grammar.Terminal
terminal (terminals.Name n) = grammar.Name n
terminal (terminals.Number n) = grammar.Number n
terminal (terminals.Text t) = grammar.Text t
terminal (terminals.Literal c) = grammar.Literal c
terminal terminals.Print = grammar.Print
terminal (terminals.Oper l o) = grammar.Oper (rank_of l) o
terminal (terminals.Compare o) = grammar.Compare o
terminal terminals.Minus = grammar.Minus
terminal terminals.Tilde = grammar.Tilde
terminal terminals.Dot = grammar.Dot
terminal terminals.Open = grammar.Open
terminal terminals.Close = grammar.Close
terminal terminals.Left = grammar.Left
terminal terminals.Right = grammar.Right
terminal terminals.LeftBrace = grammar.LeftBrace
terminal terminals.RightBrace = grammar.RightBrace
terminal terminals.Comma = grammar.Comma
terminal terminals.Colon = grammar.Colon
terminal terminals.Is = grammar.Is
terminal terminals.End = grammar.End
