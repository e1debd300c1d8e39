use Rattle.std.proofs.Common.{◌*◌, ℕ, ap, arith}
use Rattle.xr_arrays.proofs.pieces.Pieces.run.Goals as goal

pub overflow_mul-end : goal.overflow_mul-end
overflow_mul-end c =
    let e = ap (λ (w : ℕ). c.place-place.result.count * w) c.width.ensures in
    omega (arith, c.place-place.ensures.end, e)

pub overflow_add-end : goal.overflow_add-end
overflow_add-end c =
    let e = ap (λ (w : ℕ). c.place-place.result.count * w) c.width.ensures in
    omega (arith, c.place-place.ensures.end, e)
