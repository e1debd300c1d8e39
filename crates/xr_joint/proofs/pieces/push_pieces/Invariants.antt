use Rattle.std.proofs.Common.{◌≡◌, ◌++◌, map, drop}
use Rattle.xr_merging.specs.Held.{merged_piece}
use Rattle.xr_merging.specs.Members.{piece_in}
use Rattle.xr_joint.proofs.pieces.push_pieces.Given as goal

abbrev pub invariant-loop-var : goal.invariant-loop-var
invariant-loop-var g l = map merged_piece l.out ++ map (piece_in l.plan) (map (λ v. v.now) (drop l.var-index l.vars)) ≡ map merged_piece l.fn.out ++ map (piece_in l.plan) (map (λ v. v.now) l.vars)
