-- Scripts from their text: the tree of one, or the first fault. The limits are the program's own.
use Rattle.std.specs.Prelude.{◌≡◌, ℕ, zero, suc, ◌+◌, ◌-◌, ◌<◌, nat_lt, not, ◌&&◌, ◌||◌, Bool, true, false, if◌then◌else◌, List, [], ◌∷◌, take, length, get_or, map, Option, Some, None, MatchOption}
use Rattle.xr_types.specs.declared.status.ScriptFault.{ScriptFault}
use Rattle.xr_types.specs.declared.status.ScriptKind.{ScriptKind}
use Rattle.xr_types.specs.declared.status.ScriptKind.TheVariants as kind
use Rattle.xr_types.specs.declared.limits.TheConstants.{MOST_OPEN_BRACKETS, MOST_STATEMENT_ELEMENTS, MOST_STATEMENTS}
use Rattle.xr_syntax.specs.declared.token.Placed.{Placed}
use Rattle.xr_syntax.specs.declared.scan.Scan.{Scan}
use Rattle.xr_syntax.specs.declared.scan.ScanEnd.TheVariants as end
use Rattle.xr_syntax.specs.declared.tally.Tally.{Tally}
use Rattle.xr_syntax.specs.Syntax.{Line}
use Rattle.xr_syntax.specs.Tokens.{tokens_of, text_fault}
use Rattle.xr_syntax.specs.Grammar.{Terminal, Name, Number, Text, Literal, Print, Oper, Compare, Minus, Tilde, Open, Close, Left, Right, LeftBrace, RightBrace, End, terminal_of, starts_number, IsScript, Viable}

-- ---- limits

abbrev pub no_tally : Tally
no_tally = record { statements = 0; elements = 0; brackets = 0; in_statement = false; behind_operand = false; behind_callee = false }

-- a name, a number, a text, a constant or a closing bracket ends an operand
abbrev pub ends_operand : Terminal → Bool
ends_operand (Name n) = true
ends_operand (Number n) = true
ends_operand (Text t) = true
ends_operand (Literal c) = true
ends_operand Close = true
ends_operand Right = true
ends_operand RightBrace = true
ends_operand t = false

-- a bracket behind it holds the arguments of a call
abbrev pub is_callee : Terminal → Bool
is_callee (Name n) = true
is_callee Print = true
is_callee t = false

abbrev pub opens : Terminal → Bool
opens Open = true
opens Left = true
opens LeftBrace = true
opens t = false

abbrev pub closes : Terminal → Bool
closes Close = true
closes Right = true
closes RightBrace = true
closes t = false

abbrev pub is_end : Terminal → Bool
is_end End = true
is_end t = false

-- a counted element: an operator, the `(` of a call and the `[` of an index; but not a `-` that makes a number negative
abbrev pub counts : Tally → Terminal → Bool → Bool
counts y (Oper r o) number_next = true
counts y (Compare o) number_next = true
counts y Tilde number_next = true
counts y Minus number_next = y.behind_operand || not number_next
counts y Open number_next = y.behind_callee
counts y Left number_next = y.behind_operand
counts y t number_next = false

abbrev pub begins : Tally → Terminal → Bool
begins y t = not (y.in_statement || is_end t)

abbrev pub one_if : Bool → ℕ
one_if b = if b then 1 else 0

-- the counts behind a terminal
abbrev pub tallied : Tally → Terminal → Bool → Tally
tallied y t number_next = record {
  statements = y.statements + one_if (begins y t);
  elements = if is_end t then 0 else y.elements + one_if (counts y t number_next);
  brackets = y.brackets + one_if (opens t) - one_if (closes t);
  in_statement = not (is_end t);
  behind_operand = ends_operand t;
  behind_callee = is_callee t;
}

-- the limit that a terminal passes
abbrev pub passes : Tally → Terminal → Bool → Option ScriptKind
passes y t number_next =
    if opens t && not (nat_lt y.brackets MOST_OPEN_BRACKETS) then Some kind.TooDeep
    else (if counts y t number_next && not (nat_lt y.elements MOST_STATEMENT_ELEMENTS) then Some kind.TooMany
    else (if begins y t && not (nat_lt y.statements MOST_STATEMENTS) then Some kind.TooMany
    else None))

-- the limit that the terminal at a place passes
abbrev pub limit_from : Tally → List Terminal → ℕ → Option ScriptKind
limit_from y [] k = None
limit_from y (t ∷ ts) zero = passes y t (starts_number ts)
limit_from y (t ∷ ts) (suc k) = limit_from (tallied y t (starts_number ts)) ts k

unfoldable pub limit_at : List Terminal → ℕ → Option ScriptKind
limit_at ts k = limit_from no_tally ts k

-- ---- a script, and the first fault of what is none

abbrev pub terminal_at : Placed → Terminal
terminal_at p = terminal_of p.token

abbrev pub terminals : List Placed → List Terminal
terminals ps = map terminal_at ps

-- the first tokens, so many, begin a script and pass no limit
pub record IsGood (ts : List Terminal) (k : ℕ) : Type 0 where
  pub viable : Viable (take k ts)
  pub within : (j : ℕ) → j < k → limit_at ts j ≡ None

-- the tokens of a whole text are those of a script
pub record IsParsed (s : Scan) (ls : List Line) : Type 0 where
  pub line : ℕ
  pub whole : s.end ≡ end.Whole line
  pub script : IsScript (terminals s.tokens) ls
  pub within : (j : ℕ) → limit_at (terminals s.tokens) j ≡ None

-- The first fault: at the first token with which no script goes on, or else that passes a limit; then where no token can be
-- formed, or at the end of the text.
pub data FirstFault (s : Scan) : ScriptFault → Type 0 where
  no_script : (k : ℕ) (p : Placed) → IsGood (terminals s.tokens) k → k < length s.tokens → p ≡ get_or s.tokens k p → (Viable (take (k + 1) (terminals s.tokens)) → ⊥) → FirstFault s (record { kind = kind.BadSyntax; line = p.line })
  a_limit : (k : ℕ) (p : Placed) (x : ScriptKind) → IsGood (terminals s.tokens) k → k < length s.tokens → p ≡ get_or s.tokens k p → Viable (take (k + 1) (terminals s.tokens)) → limit_at (terminals s.tokens) k ≡ Some x → FirstFault s (record { kind = x; line = p.line })
  no_token : (n : ℕ) → IsGood (terminals s.tokens) (length s.tokens) → s.end ≡ end.Bad n → FirstFault s (record { kind = kind.BadToken; line = n })
  no_end : (n : ℕ) → IsGood (terminals s.tokens) (length s.tokens) → s.end ≡ end.Whole n → ((ls : List Line) → IsScript (terminals s.tokens) ls → ⊥) → FirstFault s (record { kind = kind.BadSyntax; line = n })

-- ---- bytes

-- the bytes are a text, and its tokens are those of a script
abbrev pub IsScriptText : List ℕ → List Line → Type 0
IsScriptText bytes ls = (text_fault bytes ≡ None) × IsParsed (tokens_of bytes) ls

-- what makes the bytes no text, or else the first fault of the text's tokens
abbrev pub IsFirstFault : List ℕ → ScriptFault → Type 0
IsFirstFault bytes f = MatchOption (text_fault bytes) (FirstFault (tokens_of bytes) f) (λ g. g ≡ f)
