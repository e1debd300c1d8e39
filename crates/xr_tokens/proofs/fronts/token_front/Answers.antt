use Rattle.std.proofs.Common.{◌≡◌, ◌<◌, ℕ, length, List, sym, arith, ap, get_or, ◌∙◌}
use Rattle.xr_tokens.proofs.Cuts.{cut_behind}
use Rattle.xr_tokens.proofs.Fits.{quote_is_ascii}
use Rattle.xr_tokens.proofs.fronts.token_front.Goals as goal

pub split_at-requires : goal.split_at-requires
split_at-requires c =
    let quote : c.args.c < 128 = quote_is_ascii c.args.c (sym c.is_quote.ensures ∙ c.if-is_quote.true) in
    let first : get_or c.args.text.now 0 0 ≡ c.args.c = ap (λ (bs : List ℕ). get_or bs 0 0) c.requires.parts in
    let long = ap (length {A = ℕ}) c.requires.parts in
    cut_behind c.args.text.now 1 c.utf8.text (omega arith) (omega (arith, long)) (omega (arith, first, quote))
