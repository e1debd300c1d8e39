use Rattle.std.proofs.Common.{◌≡◌, ℤ, List, Option, drop}
use Rattle.xr_types.specs.Results.{all_of}
use Rattle.xr_arrays.specs.declared.node.Node.{Node}
use Rattle.xr_relations.specs.Aligning.{check_size}
use Rattle.xr_aligning.specs.declared.coming.Coming.{Coming}
use Rattle.xr_aligning.specs.Coming.{come}
use Rattle.xr_aligning.proofs.sizes.check_sizes.Given as goal

abbrev pub invariant-loop-one : goal.invariant-loop-one
invariant-loop-one l = (nodes : List Node) (fill : Option ℤ) → all_of (λ (m : Coming). check_size (come nodes fill m)) (drop l.one-index l.coming) ≡ all_of (λ (m : Coming). check_size (come nodes fill m)) l.coming
