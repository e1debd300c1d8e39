use Rattle.std.proofs.Common.{◌+◌, ℕ, sym, ap, ◌∙◌}
use Rattle.cdf_reader.specs.Sizes.{capped}
use Rattle.cdf_reader.proofs.Placed.{pieces_more}
use Rattle.cdf_reader.proofs.data.gathered.Goals as goal

pub loop-r-preserved : goal.loop-r-preserved
loop-r-preserved c =
    let at = c.saturating_add-at.result in
    let more = pieces_more c.args.bytes.now c.args.begin c.args.step c.args.n c.loop-r.r at c.requires (c.saturating_add-at.ensures ∙ ap (λ (n : ℕ). capped (c.args.begin + n)) c.saturating_mul-in-loop-r.ensures) in
    rw (c.in_ok-extend_from_slice.ensures.items, c.front_at.ensures.front, c.loop-r.invariant) (sym more)
