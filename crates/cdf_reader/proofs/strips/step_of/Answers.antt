use Rattle.std.proofs.Common.{◌∙◌, sym, ap, ℕ}
use Rattle.xr_arrays.specs.Pieces.{pieces}
use Rattle.xr_arrays.proofs.Together.{one_piece}
use Rattle.cdf_reader.proofs.strips.step_of.Goals as goal

pub returns-then-strip-eq1 : goal.returns-then-strip-eq1
returns-then-strip-eq1 c = λ bytes.
    let s = c.args.strip in
    let single = c.if-strip-eq1.true in
    ap (λ (n : ℕ). pieces bytes s.begin s.size s.size n) single
    ∙ one_piece bytes s.begin s.size s.size
    ∙ sym (one_piece bytes s.begin c.args.distance s.size)
    ∙ sym (ap (λ (n : ℕ). pieces bytes s.begin c.args.distance s.size n) single)
