use Rattle.std.proofs.Common.{◌*◌, ℕ, take, drop, sym, ap, ◌∙◌, arith, length-drop}
use Rattle.xr_arrays.specs.Pieces.{pieces}
use Rattle.cdf_reader.proofs.Placed.{take_capped}
use Rattle.cdf_reader.proofs.Columns.{contiguous}
use Rattle.xr_arrays.proofs.Together.{one_piece}
use Rattle.cdf_reader.proofs.strips.records_at.Goals as goal

pub returns-then-size-places : goal.returns-then-size-places
returns-then-size-places c = λ bytes short.
    let begin = c.args.begin in
    let size = c.args.size in
    let numrecs = c.args.places.numrecs in
    one_piece bytes begin c.args.places.distance c.saturating_mul.result
    ∙ ap (λ (n : ℕ). take n (drop begin bytes)) c.saturating_mul.ensures
    ∙ take_capped (size * numrecs) (drop begin bytes) (omega (arith, length-drop begin bytes))
    ∙ sym (contiguous bytes begin size numrecs)
    ∙ ap (λ (step : ℕ). pieces bytes begin step size numrecs) c.if-size-places.true
