use Rattle.std.proofs.Common.{◌<◌, length, arith}
use Rattle.fold_kernel.specs.Rows.{with_cell}
use Rattle.fold_kernel.proofs.Scans.{scanned_total, scanned_sums}
use Rattle.fold_kernel.proofs.running.scan_row.Goals as goal

pub loop-i-preserved : goal.loop-i-preserved
loop-i-preserved g c =
    let number = g.S.Elem.number in
    let f = with_cell g.S.Elem.kind g.T.Elem.number in
    let inside : c.loop-i.i < length (g.R.Row.items c.args.row) = omega (arith, c.requires) in
    let written : c.loop-i.i < length c.loop-i.out = omega arith in
    let total = scanned_total f _ (g.R.Row.items c.args.row) c.loop-i.i (number c.loop-i.total) c.get.result _ inside c.loop-i.invariant.total c.get.ensures c.more-sum.ensures in
    record {
      total = total;
      sums = scanned_sums number f _ (g.R.Row.items c.args.row) c.loop-i.out c.loop-i.i _ written total c.loop-i.invariant.sums;
    }
