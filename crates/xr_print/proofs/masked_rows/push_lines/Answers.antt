use Rattle.std.proofs.Common.{ap, length, take, drop, ◌∙◌, Some, arith}
use Rattle.xr_print.specs.Pieces.{texts_of}
use Rattle.xr_print.proofs.Lines.{one_line_more, fewer, texts-take, texts-drop}
use Rattle.xr_print.proofs.masked_rows.push_lines.Goals as goal

pub loop-preserved : goal.loop-preserved
loop-preserved g c =
    let f = g.P.CellText.text in
    let rest = c.loop.rest.now in
    let gaps = c.loop.gaps.now in
    let row = c.split_at.ensures in
    let gap = c.split_at-in-loop.ensures in
    record {
      so_far = one_line_more (texts_of f c.split_at.result.0.now (Some c.split_at-in-loop.result.0.now)) (texts_of f c.split_at.result.1.now (Some c.split_at-in-loop.result.1.now)) (texts_of f rest (Some gaps)) c.loop.out.items c.push_row.new.out.items c.push.new.self.items _ c.args.n c.args.rows c.loop.counter c.loop-test.true
          (ap (λ xs. texts_of f xs (Some c.split_at-in-loop.result.0.now)) row.front ∙ ap (λ m. texts_of f (take c.args.n rest) (Some m)) gap.front ∙ texts-take f c.args.n rest gaps)
          (ap (λ xs. texts_of f xs (Some c.split_at-in-loop.result.1.now)) row.back ∙ ap (λ m. texts_of f (drop c.args.n rest) (Some m)) gap.back ∙ texts-drop f c.args.n rest gaps)
          c.in_ok-push_row.ensures c.in_ok-push.ensures.items c.loop.invariant.so_far;
      same = omega (arith, row.back_len, gap.back_len, c.loop.invariant.same);
      whole = fewer c.args.rows c.loop.counter c.args.n (length rest) (length c.split_at.result.1.now) c.loop-test.true row.back_len c.loop.invariant.whole;
    }
