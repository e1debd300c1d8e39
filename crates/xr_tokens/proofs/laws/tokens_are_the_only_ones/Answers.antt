use Rattle.xr_tokens.proofs.Lexing.{formed_tokens, only_tokens}
use Rattle.xr_tokens.proofs.laws.tokens_are_the_only_ones.Goals as goal

pub returns-clause-formed : goal.returns-clause-formed
returns-clause-formed c = formed_tokens

pub returns-clause-only : goal.returns-clause-only
returns-clause-only c = only_tokens
