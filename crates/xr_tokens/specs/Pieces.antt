-- The pieces of a text in quotes.
use Rattle.std.specs.Prelude.{ℕ, ◌+◌, Bool, false, ◌&&◌, not, ◌==◌, if◌then◌else◌, List, [], ◌∷◌, ◌++◌, Option, Some, None}
use Rattle.xr_syntax.specs.Tokens.{is_control, escape_of}

-- a byte that stands for itself in a text that this quote closes
abbrev pub is_plain : ℕ → ℕ → Bool
is_plain quote c = not (c == quote) && (not (c == 92) && not (is_control c))

-- what the escape at the front stands for
abbrev pub escape_at : List ℕ → Option ℕ
escape_at [] = None
escape_at (c ∷ []) = None
escape_at (c ∷ d ∷ ds) = if c == 92 then escape_of d else None

abbrev pub begins : ℕ → List ℕ → Bool
begins quote [] = false
begins quote (c ∷ cs) = c == quote

-- a text behind one that is written in n bytes
abbrev pub behind : List ℕ → ℕ → Option (List ℕ × ℕ) → Option (List ℕ × ℕ)
behind text n None = None
behind text n (Some t) = Some (text ++ t.0, n + t.1)
