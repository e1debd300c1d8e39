use Rattle.std.proofs.Common.{◌≡◌, ◌==◌, ℕ, drop}
use Rattle.std.specs.List.{list_all}
use Rattle.xr_joint.proofs.cells.hides_none.Given as goal

abbrev pub invariant-loop-byte : goal.invariant-loop-byte
invariant-loop-byte l = list_all (λ (n : ℕ). n == 0) (drop l.byte-index l.mask) ≡ list_all (λ (n : ℕ). n == 0) l.mask
