use Rattle.std.proofs.Common.{◌++◌, take, to_z, of_z, ap, ◌∙◌, arith}
use mir.Syntax.{w128}
use Rattle.xr_encode.specs.Rows.{cells_bytes}
use Rattle.xr_encode.proofs.Runs.{strips_more}
use Rattle.xr_encode.proofs.run.bytes_of.Goals as goal

pub strips-preserved : goal.strips-preserved
strips-preserved g c =
    let cells = g.R.Run.cells c.args.run in
    let fill = to_z w128 (of_z w128 c.args.fill) in
    record {
      inside = omega (arith, c.lesser-n.ensures, c.strips.invariant.inside, c.strips-test.true);
      room = omega (arith, c.fill_strip.ensures.room, c.strips.invariant.room);
      bytes = c.in_ok-extend_from_slice.ensures.items ∙ ap (λ l. l ++ c.as_flattened.result.now) c.strips.invariant.bytes ∙ ap (λ l. cells_bytes g.W.Written.kind fill (take c.strips.from cells) ++ l) c.as_flattened.ensures.value
          ∙ strips_more g.W.Written.kind fill cells c.strips.from c.lesser-n.result c.fill_strip.new.strip c.fill_strip.ensures.bytes;
    }
