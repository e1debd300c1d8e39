use Rattle.std.proofs.Common.{◌∙◌, sym, subst}
use Rattle.xr_decode.specs.Listed.{Lists}
use Rattle.xr_decode.proofs.ListedNames.{no_word, one_word}
use Rattle.xr_decode.proofs.listed.add_word.Goals as goal

pub returns-then-is_empty : goal.returns-then-is_empty
returns-then-is_empty c = λ names lists. subst (Lists c.args.listed.now) (no_word c.args.text.now names (sym c.is_empty.ensures ∙ c.if-is_empty.true)) lists

pub returns : goal.returns
returns c = λ names lists. subst (Lists c.add.new.listed) (one_word c.args.text.now names (sym c.is_empty.ensures ∙ c.if-is_empty.false)) (c.in_ok-add.ensures names lists)
