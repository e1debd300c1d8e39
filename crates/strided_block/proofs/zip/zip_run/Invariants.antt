use Rattle.std.proofs.Common.{◌≡◌, ◌+◌, ◌<◌, ◌≤◌, ℕ, get_or, ◌⊎◌}
use Rattle.strided_block.proofs.zip.zip_run.Given as goal

abbrev pub invariant-loop-i : goal.invariant-loop-i
invariant-loop-i g l =
    ((i : ℕ) (x : _) (y : _) (u : _) (v : _) (z : _) → i < l.i → goal.F-post g l.f (get_or l.a i x) (get_or l.b i y) (get_or l.c i u) (get_or l.d i v) (get_or l.all (l.at + i) z))
    × ((k : ℕ) (z : _) → (k < l.at) ⊎ (l.at + l.i ≤ k) → get_or l.all k z ≡ get_or l.fn.all k z)
