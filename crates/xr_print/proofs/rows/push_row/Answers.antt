use Rattle.std.proofs.Common.{ap, map}
use Rattle.xr_print.proofs.Pushed.{on_ok, row_is}
use Rattle.xr_print.proofs.rows.push_row.Goals as goal

pub returns : goal.returns
returns g c =
    let f = g.P.CellText.text in
    on_ok c.push_after_blanks.result _ _
    (row_is (f c.in-Some.first.now) (map f c.in-Some.rest.now) (map f c.args.row.now) c.args.out.now.items c.push.new.out.items c.push_after_blanks.new.out.items (ap (map f) c.in-Some.ensures.cases.0) c.in_ok-push.ensures)
    c.push_after_blanks.ensures
