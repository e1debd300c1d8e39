use Rattle.std.proofs.Common.{◌≡◌, ◌≤◌, ◌-◌, ◌*◌, ◌++◌, take, drop}
use Rattle.xr_types.specs.Widths.{width}
use Rattle.xr_arrays.specs.Pieces.{together}
use Rattle.row_concat.proofs.blocks.push_values.Given as goal

abbrev pub invariant-loop-done : goal.invariant-loop-done
invariant-loop-done l = record {
  within : l.done ≤ l.n;
  so_far : l.out.items ≡ l.fn.out.items ++ take (l.done * width l.kind) (drop (l.from * width l.kind) (together l.kind l.pieces));
}

abbrev pub decreases-loop-done : goal.decreases-loop-done
decreases-loop-done l = l.n - l.done
