use Rattle.std.proofs.Common.{ap, sym, map, length, ◌∙◌}
use Rattle.std.proofs.lemmas.List.{take-map, drop-map}
use Rattle.xr_print.proofs.Lines.{one_line_more, fewer}
use Rattle.xr_print.proofs.rows.push_lines.Goals as goal

pub loop-preserved : goal.loop-preserved
loop-preserved g c =
    let f = g.P.CellText.text in
    let rest = c.loop.rest.now in
    record {
      so_far = one_line_more (map f c.split_at.result.0.now) (map f c.split_at.result.1.now) (map f rest) c.loop.out.items c.push_row.new.out.items c.push.new.self.items _ c.args.n c.args.rows c.loop.counter c.loop-test.true
          (ap (map f) c.split_at.ensures.front ∙ sym (take-map f c.args.n rest)) (ap (map f) c.split_at.ensures.back ∙ sym (drop-map f c.args.n rest)) c.in_ok-push_row.ensures c.in_ok-push.ensures.items c.loop.invariant.so_far;
      whole = fewer c.args.rows c.loop.counter c.args.n (length rest) (length c.split_at.result.1.now) c.loop-test.true c.split_at.ensures.back_len c.loop.invariant.whole;
    }
