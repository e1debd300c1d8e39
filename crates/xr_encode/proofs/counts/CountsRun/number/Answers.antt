use Rattle.std.proofs.Common.{◌<◌, pos, length, get_or, w64, FitsSigned, subst, rules}
use Rattle.std.proofs.lemmas.Int.{to_z-of_z}
use Rattle.std.proofs.lemmas.List.{length-map}
use Rattle.xr_times.specs.Counts.{IsCount}
use Rattle.xr_encode.proofs.Counted.{count_at}
use Rattle.xr_encode.proofs.counts.CountsRun.number.Goals as goal

pub returns : goal.returns
returns c =
    let ts = c.args.self.times.now in
    let lt : c.args.i < length ts = simp length-map at c.requires in
    let fits : FitsSigned w64 (get_or ts c.args.i (pos 0)) = search rules in
    count_at c.args.self.units ts c.args.i c.count.result lt c.args.self.whole (subst (λ t. IsCount c.args.self.units t c.count.result) (to_z-of_z w64 (get_or ts c.args.i (pos 0)) fits) c.count.ensures)
