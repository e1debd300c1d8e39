use Rattle.std.proofs.Common.{◌≡◌, Some, subst, sym, arith, ◌∙◌}
use Rattle.xr_syntax.specs.Tokens.{quoted}
use Rattle.xr_tokens.proofs.Fits.{Closes, quoted_closes}
use Rattle.xr_tokens.proofs.quotes.text_front.Goals as goal

pub overflow_add-result : goal.overflow_add-result
overflow_add-result c =
    let e : quoted c.args.quote c.args.rest.now ≡ Some (c.in-Some.text, c.in-Some.len) = sym c.in_ok-text.ensures ∙ c.in-Some.is in
    let closes = subst (Closes c.args.quote c.args.rest.now) e (quoted_closes c.args.quote c.args.rest.now) in
    omega (arith, closes.1, c.requires.size)
