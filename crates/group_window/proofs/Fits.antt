-- Blocks end within their axis.
use Rattle.std.proofs.Common.{◌<◌, ◌*◌, ◌/◌, ◌^◌, ℕ, arith}

pub blocks_end : (n w : ℕ) → 0 < w → n < 2 ^ 64 → n / w * w < 2 ^ 64
blocks_end n w some few = grind (arith, some, few)
