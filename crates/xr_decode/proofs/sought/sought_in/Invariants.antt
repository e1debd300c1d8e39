use Rattle.std.proofs.Common.{◌≡◌, ◌++◌, map, filter, drop}
use denote.Ref.{Bor}
use Rattle.xr_files.specs.declared.file.VarHead.{VarHead}
use Rattle.xr_decode.specs.Sought.{is_sought}
use Rattle.xr_decode.proofs.sought.sought_in.Given as goal

abbrev pub invariant-loop-var : goal.invariant-loop-var
invariant-loop-var l = map (λ (v : Bor VarHead). v.now) l.sought.items ++ filter (is_sought l.head) (drop l.var-index l.heads) ≡ filter (is_sought l.head) l.heads
