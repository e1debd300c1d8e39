-- The tokens of a script's text with their lines, up to the first place where none can be formed.
-- Python, "Lexical analysis", has the comments, the line ends that brackets swallow, names, decimal integers,
-- texts, and that a token is the longest that can be formed. In the rest this language is its own: names are
-- ASCII, blanks at the front of a line mean nothing, no backslash joins lines, numbers end at 2^127 - 1, a text
-- lies in one line without control characters, and an escape that isn't listed here is refused.
use Rattle.std.specs.Prelude.{◌≡◌, ℕ, zero, suc, ◌+◌, ◌-◌, ◌^◌, Bool, ◌&&◌, ◌||◌, not, ◌==◌, nat_lt, if◌then◌else◌, List, [], ◌∷◌, length, take, drop, Option, Some, None, pos, codes, count_by}
use Rattle.std.specs.List.{take_while, prefix_len}
use Rattle.std.specs.Str.{is_utf8, bytes_eq}
use Rattle.std.specs.Str.Lossy.{utf8_valid_len}
use Rattle.std.specs.Str.Parse.{digits_value}
use Rattle.std.specs.Char.{is_ascii_alphabetic, is_ascii_alphanumeric, is_ascii_digit}
use Rattle.xr_types.specs.declared.limits.TheConstants.{MOST_SCRIPT_BYTES}
use Rattle.xr_types.specs.declared.status.ScriptFault.{ScriptFault}
use Rattle.xr_types.specs.declared.status.ScriptKind.TheVariants as fault
use Rattle.xr_syntax.specs.declared.token.Token.{Token}
use Rattle.xr_syntax.specs.declared.token.Token.TheVariants as token
use Rattle.xr_syntax.specs.declared.token.Reserved.{Reserved}
use Rattle.xr_syntax.specs.declared.token.Reserved.TheVariants as word
use Rattle.xr_syntax.specs.declared.token.Mark.{Mark}
use Rattle.xr_syntax.specs.declared.token.Mark.TheVariants as mark
use Rattle.xr_syntax.specs.declared.token.Placed.{Placed}
use Rattle.xr_syntax.specs.declared.scan.Front.{Front}
use Rattle.xr_syntax.specs.declared.scan.Front.TheVariants as front
use Rattle.xr_syntax.specs.declared.scan.Scan.{Scan}
use Rattle.xr_syntax.specs.declared.scan.ScanEnd.{ScanEnd}
use Rattle.xr_syntax.specs.declared.scan.ScanEnd.TheVariants as end

-- ---- bytes

-- a space, a tab or a carriage return
abbrev pub is_blank : ℕ → Bool
is_blank c = c == 32 || (c == 9 || c == 13)

-- all but a line feed
abbrev pub in_comment : ℕ → Bool
in_comment c = not (c == 10)

-- an ASCII letter or `_`, and behind it a digit too
abbrev pub begins_name : ℕ → Bool
begins_name c = is_ascii_alphabetic c || c == 95

abbrev pub in_name : ℕ → Bool
in_name c = is_ascii_alphanumeric c || c == 95

abbrev pub is_control : ℕ → Bool
is_control c = nat_lt c 32 || c == 127

-- `"` or `'`
abbrev pub is_quote : ℕ → Bool
is_quote c = c == 34 || c == 39

-- what a byte behind a backslash stands for: `\`, `"` and `'` for themselves, `n` for a line feed, `t` for a tab
abbrev pub escape_of : ℕ → Option ℕ
escape_of c =
    if c == 92 then Some 92
    else (if c == 34 then Some 34
    else (if c == 39 then Some 39
    else (if c == 110 then Some 10
    else (if c == 116 then Some 9
    else None))))

-- ---- tokens

abbrev pub reserved_of : List ℕ → Option Reserved
reserved_of w =
    if bytes_eq w (codes "print") then Some word.Print
    else (if bytes_eq w (codes "True") then Some word.True
    else (if bytes_eq w (codes "False") then Some word.False
    else (if bytes_eq w (codes "None") then Some word.None
    else (if bytes_eq w (codes "NA") then Some word.Na
    else None))))

abbrev pub named : List ℕ → Option Reserved → Token
named w (Some r) = token.Word r
named w None = token.Name w

-- the mark that two characters make: `==`, `!=`, `<=`, `>=` and `//`
abbrev pub long_mark : ℕ → ℕ → Option Mark
long_mark c d =
    if d == 61 then
    (if c == 61 then Some mark.EqualEqual
    else (if c == 33 then Some mark.NotEqual
    else (if c == 60 then Some mark.LessEqual
    else (if c == 62 then Some mark.GreaterEqual
    else None))))
    else (if c == 47 && d == 47 then Some mark.SlashSlash
    else None)

-- the mark that one character makes: `(`, `)`, `[`, `]`, `{`, `}`, `,`, `:`, `.`, `=`, `<`, `>`, `|`, `^`, `&`,
-- `+`, `-`, `*`, `%`, `/` and `~`
abbrev pub short_mark : ℕ → Option Mark
short_mark c =
    if c == 40 then Some mark.OpenRound
    else (if c == 41 then Some mark.CloseRound
    else (if c == 91 then Some mark.OpenSquare
    else (if c == 93 then Some mark.CloseSquare
    else (if c == 123 then Some mark.OpenBrace
    else (if c == 125 then Some mark.CloseBrace
    else (if c == 44 then Some mark.Comma
    else (if c == 58 then Some mark.Colon
    else (if c == 46 then Some mark.Dot
    else (if c == 61 then Some mark.Assign
    else (if c == 60 then Some mark.Less
    else (if c == 62 then Some mark.Greater
    else (if c == 124 then Some mark.Bar
    else (if c == 94 then Some mark.Caret
    else (if c == 38 then Some mark.Ampersand
    else (if c == 43 then Some mark.Plus
    else (if c == 45 then Some mark.Minus
    else (if c == 42 then Some mark.Star
    else (if c == 37 then Some mark.Percent
    else (if c == 47 then Some mark.Slash
    else (if c == 126 then Some mark.Tilde
    else None))))))))))))))))))))

-- one more byte of a text, which takes n bytes as it is written
abbrev pub one_more : ℕ → ℕ → Option (List ℕ × ℕ) → Option (List ℕ × ℕ)
one_more c n None = None
one_more c n (Some t) = Some (c ∷ t.0, n + t.1)

abbrev pub escaped : Option ℕ → Option (List ℕ × ℕ) → Option (List ℕ × ℕ)
escaped None rest = None
escaped (Some c) rest = one_more c 2 rest

-- what stands between an opening quote and the quote q that closes it, its escapes resolved, and how many bytes
-- it takes with the closing quote; None where no text can be formed
unfoldable pub quoted : ℕ → List ℕ → Option (List ℕ × ℕ)
quoted q [] = None
quoted q (c ∷ []) = if c == q then Some ([], 1) else None
quoted q (c ∷ d ∷ ds) =
    if c == q then Some ([], 1)
    else (if c == 92 then escaped (escape_of d) (quoted q ds)
    else (if is_control c then None
    else one_more c 1 (quoted q (d ∷ ds))))

-- ---- the front of a text

-- a name or a reserved word: the longest run of bytes of a name
abbrev pub name_front : List ℕ → Front
name_front text = front.Piece (named (take_while in_name text) (reserved_of (take_while in_name text))) (prefix_len in_name text)

-- numbers end at 2^127 - 1
abbrev pub fitting : ℕ → Option ℕ
fitting n = if nat_lt n (2 ^ 127) then Some n else None

abbrev pub numbered : ℕ → Option ℕ → Front
numbered len None = front.Bad
numbered len (Some n) = front.Piece (token.Number (pos n)) len

-- the number that these digits write
abbrev pub number_front : List ℕ → Front
number_front digits = numbered (length digits) (fitting (digits_value 10 digits))

abbrev pub text_front : Option (List ℕ × ℕ) → Front
text_front None = front.Bad
text_front (Some t) = front.Piece (token.Text t.0) (1 + t.1)

abbrev pub marked : ℕ → Option Mark → Front → Front
marked n None otherwise = otherwise
marked n (Some m) otherwise = front.Piece (token.Mark m) n

-- a mark of two characters goes before one of one
abbrev pub mark_front : ℕ → List ℕ → Front
mark_front c [] = marked 1 (short_mark c) front.Bad
mark_front c (d ∷ ds) = marked 2 (long_mark c d) (marked 1 (short_mark c) front.Bad)

-- a number is `0`, or the longest run of digits that doesn't begin with 0
abbrev pub token_front : ℕ → List ℕ → Front
token_front c bs =
    if begins_name c then name_front (c ∷ bs)
    else (if c == 48 then front.Piece (token.Number (pos 0)) 1
    else (if is_ascii_digit c then number_front (take_while is_ascii_digit (c ∷ bs))
    else (if is_quote c then text_front (quoted c bs)
    else mark_front c bs)))

-- what stands at the front of a text; `#` begins a comment
unfoldable pub front_of : List ℕ → Front
front_of [] = front.End
front_of (c ∷ bs) =
    if is_blank c then front.Blank (prefix_len is_blank (c ∷ bs))
    else (if c == 35 then front.Blank (prefix_len in_comment (c ∷ bs))
    else (if c == 10 then front.LineFeed
    else token_front c bs))

-- ---- the tokens of a text

-- how many brackets are open behind a token; a closing bracket without an open one leaves none
abbrev pub deeper : Token → ℕ → ℕ
deeper (token.Mark mark.OpenRound) depth = depth + 1
deeper (token.Mark mark.OpenSquare) depth = depth + 1
deeper (token.Mark mark.OpenBrace) depth = depth + 1
deeper (token.Mark mark.CloseRound) depth = depth - 1
deeper (token.Mark mark.CloseSquare) depth = depth - 1
deeper (token.Mark mark.CloseBrace) depth = depth - 1
deeper _ depth = depth

abbrev pub placed : Token → ℕ → Placed
placed t line = record { token = t; line = line }

-- a token before those of a scan
abbrev pub before : Token → ℕ → Scan → Scan
before t line s = record { tokens = placed t line ∷ s.tokens; end = s.end }

-- a line feed outside brackets ends a statement, and inside brackets it is a blank
abbrev pub at_line_feed : ℕ → ℕ → Scan → Scan
at_line_feed zero line s = before token.LineEnd line s
at_line_feed (suc depth) line s = s

-- the tokens of what is left of a text, behind n bytes of it, where so many brackets are open, in this line
unfoldable pub scan_from : ℕ → ℕ → ℕ → List ℕ → Scan
scan_from n depth line [] = record { tokens = []; end = end.Whole line }
scan_from (suc n) depth line (c ∷ bs) = scan_from n depth line bs
scan_from zero depth line (c ∷ bs) =
    elim (front_of (c ∷ bs)) [
      | front.End ↦ record { tokens = []; end = end.Whole line }
      | front.Bad ↦ record { tokens = []; end = end.Bad line }
      | front.Blank n ↦ scan_from (n - 1) depth line bs
      | front.LineFeed ↦ at_line_feed depth line (scan_from 0 depth (line + 1) bs)
      | front.Piece t n ↦ before t line (scan_from (n - 1) (deeper t depth) line bs)
    ]

-- the tokens of a text: no bracket is open at its start, and lines are counted from 1
abbrev pub tokens_of : List ℕ → Scan
tokens_of text = scan_from 0 0 1 text

-- how a text is made of its tokens, without a count of bytes: the tokens of what is left of it, where so many
-- brackets are open, in this line, and how they end
pub data Lexes : ℕ → ℕ → List ℕ → List Placed → ScanEnd → Type 0 where
  text_end : {depth line : ℕ} {bs : List ℕ} → front_of bs ≡ front.End → Lexes depth line bs [] (end.Whole line)
  bad_token : {depth line : ℕ} {bs : List ℕ} → front_of bs ≡ front.Bad → Lexes depth line bs [] (end.Bad line)
  blank : {depth line n : ℕ} {bs : List ℕ} {ts : List Placed} {e : ScanEnd} → front_of bs ≡ front.Blank n → Lexes depth line (drop n bs) ts e → Lexes depth line bs ts e
  statement_end : {line : ℕ} {bs : List ℕ} {ts : List Placed} {e : ScanEnd} → front_of bs ≡ front.LineFeed → Lexes 0 (line + 1) (drop 1 bs) ts e → Lexes 0 line bs (placed token.LineEnd line ∷ ts) e
  line_in_brackets : {depth line : ℕ} {bs : List ℕ} {ts : List Placed} {e : ScanEnd} → front_of bs ≡ front.LineFeed → Lexes (suc depth) (line + 1) (drop 1 bs) ts e → Lexes (suc depth) line bs ts e
  one_token : {depth line n : ℕ} {t : Token} {bs : List ℕ} {ts : List Placed} {e : ScanEnd} → front_of bs ≡ front.Piece t n → Lexes (deeper t depth) line (drop n bs) ts e → Lexes depth line bs (placed t line ∷ ts) e

-- these are the tokens of a text
abbrev pub Tokens : List ℕ → Scan → Type 0
Tokens text s = Lexes 0 1 text s.tokens s.end

-- ---- what makes bytes a text

-- the line in which the byte behind n bytes stands
abbrev pub line_behind : ℕ → List ℕ → ℕ
line_behind n bytes = 1 + count_by (λ c. c == 10) (take n bytes)

-- why bytes are no text of a script, before any token is looked at: too many, or not UTF-8, at the line of the
-- first byte of the first bad sequence
abbrev pub text_fault : List ℕ → Option ScriptFault
text_fault bytes =
    if nat_lt MOST_SCRIPT_BYTES (length bytes) then Some (record { kind = fault.TooMany; line = 0 })
    else (if is_utf8 bytes then None
    else Some (record { kind = fault.NotUtf8; line = line_behind (utf8_valid_len bytes) bytes }))
