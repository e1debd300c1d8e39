-- Where a line ends.
use Rattle.std.specs.Prelude.{ℕ, zero, suc, List, [], ◌∷◌}
use Rattle.xr_syntax.specs.declared.token.Token.TheVariants.{LineEnd}
use Rattle.xr_syntax.specs.declared.token.Placed.{Placed}
use Rattle.xr_syntax.specs.Tokens.{placed}

-- what a line feed adds to the tokens where so many brackets are open
abbrev pub line_end : ℕ → ℕ → List Placed
line_end zero line = placed LineEnd line ∷ []
line_end (suc depth) line = []
