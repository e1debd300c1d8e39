-- The lexical grammar: which bytes spell which token. A token is the longest that can be formed.
-- Python, "Lexical analysis": identifiers and keywords, string literals, integer literals, operators, delimiters.
use Rattle.std.specs.Prelude.{◌≡◌, ℕ, ◌^◌, ◌≤◌, true, false, ◌==◌, List, [], ◌∷◌, ◌++◌, length, take, Some, pos, codes, ⊤}
use Rattle.std.specs.List.{list_all, take_while}
use Rattle.std.specs.Char.{is_ascii_digit}
use Rattle.std.specs.Str.Parse.{digits_value}
use Rattle.xr_syntax.specs.declared.token.Token.{Token}
use Rattle.xr_syntax.specs.declared.token.Token.TheVariants as token
use Rattle.xr_syntax.specs.declared.token.Mark.{Mark}
use Rattle.xr_syntax.specs.declared.token.Mark.TheVariants as mark
use Rattle.xr_syntax.specs.declared.scan.Front.{Front}
use Rattle.xr_syntax.specs.declared.scan.Front.TheVariants as front
use Rattle.xr_syntax.specs.Tokens.{begins_name, in_name, is_control, is_quote, escape_of, reserved_of, named}

-- how a mark is written
abbrev pub written : Mark → List ℕ
written mark.OpenRound = codes "("
written mark.CloseRound = codes ")"
written mark.OpenSquare = codes "["
written mark.CloseSquare = codes "]"
written mark.OpenBrace = codes "{"
written mark.CloseBrace = codes "}"
written mark.Comma = codes ","
written mark.Colon = codes ":"
written mark.Dot = codes "."
written mark.Assign = codes "="
written mark.EqualEqual = codes "=="
written mark.NotEqual = codes "!="
written mark.Less = codes "<"
written mark.LessEqual = codes "<="
written mark.Greater = codes ">"
written mark.GreaterEqual = codes ">="
written mark.Bar = codes "|"
written mark.Caret = codes "^"
written mark.Ampersand = codes "&"
written mark.Plus = codes "+"
written mark.Minus = codes "-"
written mark.Star = codes "*"
written mark.SlashSlash = codes "//"
written mark.Percent = codes "%"
written mark.Slash = codes "/"
written mark.Tilde = codes "~"

-- what bytes between two quotes q mean: each stands for itself, or an escape for what it means
pub data Means : ℕ → List ℕ → List ℕ → Type 0 where
  nothing : {q : ℕ} → Means q [] []
  itself : {q c : ℕ} {w s : List ℕ} → (c == q) ≡ false → (c == 92) ≡ false → is_control c ≡ false → Means q w s → Means q (c ∷ w) (c ∷ s)
  escape : {q d e : ℕ} {w s : List ℕ} → escape_of d ≡ Some e → Means q w s → Means q (92 ∷ d ∷ w) (e ∷ s)

-- the token that these bytes spell; digits spell a number of any size
pub data Spells : List ℕ → Token → Type 0 where
  word : {c : ℕ} {w : List ℕ} → begins_name c ≡ true → list_all in_name w ≡ true → Spells (c ∷ w) (named (c ∷ w) (reserved_of (c ∷ w)))
  zero_digit : Spells (48 ∷ []) (token.Number (pos 0))
  number : {c : ℕ} {w : List ℕ} → is_ascii_digit c ≡ true → (c == 48) ≡ false → list_all is_ascii_digit w ≡ true → Spells (c ∷ w) (token.Number (pos (digits_value 10 (c ∷ w))))
  quoted_text : {q : ℕ} {w s : List ℕ} → is_quote q ≡ true → Means q w s → Spells (q ∷ (w ++ q ∷ [])) (token.Text s)
  mark_of : {m : Mark} → Spells (written m) (token.Mark m)

-- a token at the front of a text is spelled by the bytes that it takes
abbrev pub IsSpelled : List ℕ → Front → Type 0
IsSpelled text (front.Piece t n) = Spells (take n text) t
IsSpelled text f = ⊤

-- at the front of a text that begins with bytes which spell a token stands a token at least as long; or none,
-- where the text begins with digits that write a number past 2^127 - 1
abbrev pub IsAsLong : List ℕ → List ℕ → Front → Type 0
IsAsLong spelled text (front.Piece t n) = length spelled ≤ n
IsAsLong spelled text front.Bad = 2 ^ 127 ≤ digits_value 10 (take_while is_ascii_digit text)
IsAsLong spelled text f = ⊥
