use Rattle.std.proofs.Common.{◌≡◌, ◌++◌, List, map, drop}
use Rattle.xr_arrays.specs.declared.node.Node.{Node}
use Rattle.xr_combination.specs.Pieces.{Piece}
use Rattle.xr_merging.specs.Members.{piece_in}
use Rattle.xr_values.specs.Carrying.{the_attrs}
use Rattle.xr_concat.proofs.variables.push_attrs.Given as goal

abbrev pub invariant-loop-var : goal.invariant-loop-var
invariant-loop-var l = (nodes : List Node)
    → the_attrs l.out ++ map (λ (p : Piece). p.attrs) (map (piece_in nodes) (map (λ v. v.now) (drop l.var-index l.vars))) ≡ the_attrs l.fn.out ++ map (λ (p : Piece). p.attrs) (map (piece_in nodes) (map (λ v. v.now) l.vars))
