use Rattle.xr_aligning.proofs.Common.{AllByRecursion, Dataset, IsVarHere, List, Node, Option, all_of, check_set, dataset_in, drop, fitted_set, map, ℤ, ◌≡◌}
use Rattle.xr_aligning.proofs.sizes.check_fitted_sizes.Given as goal

abbrev pub invariant-loop-set : goal.invariant-loop-set
invariant-loop-set l = (nodes : List Node) (fill : Option ℤ) → AllByRecursion (λ (s : Dataset). AllByRecursion (IsVarHere nodes s.axes) s.vars) l.sets
    → all_of check_set (map (fitted_set l.joined fill) (map (dataset_in nodes) (drop l.set-index l.sets))) ≡ all_of check_set (map (fitted_set l.joined fill) (map (dataset_in nodes) l.sets))
