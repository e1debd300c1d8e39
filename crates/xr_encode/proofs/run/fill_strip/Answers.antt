use Rattle.std.proofs.Common.{◌<◌, ◌+◌, length, to_z, of_z, ap, ◌∙◌, arith, rules}
use Rattle.std.proofs.lemmas.Int.{to_z-of_z}
use mir.Syntax.{w128}
use Rattle.xr_defs.specs.Encoding.{value_bytes}
use Rattle.xr_encode.specs.Rows.{number_or, are_held}
use Rattle.xr_encode.proofs.Runs.{a_few_bytes, held_at, strip_more}
use Rattle.xr_encode.proofs.run.fill_strip.Goals as goal

pub cell_bytes-requires : goal.cell_bytes-requires
cell_bytes-requires g c =
    let cells = g.R.Run.cells c.args.run in
    let lt : c.args.from + c.loop-i.i < length cells = omega (arith, c.requires.inside, c.loop-i-test.true) in
    let held = ap (λ f. are_held g.W.Written.kind f cells) (to_z-of_z w128 c.args.fill c.ranges.fill) ∙ c.requires.held in
    (a_few_bytes _ c.requires.width, held_at g.W.Written.kind (to_z w128 (of_z w128 c.args.fill)) cells (c.args.from + c.loop-i.i) c.number.result held lt c.number.ensures)

pub loop-i-preserved : goal.loop-i-preserved
loop-i-preserved g c =
    let cells = g.R.Run.cells c.args.run in
    let lt : c.args.from + c.loop-i.i < length cells = omega (arith, c.requires.inside, c.loop-i-test.true) in
    let fill = to_z w128 (of_z w128 c.args.fill) in
    record {
      room = search rules;
      bytes = strip_more (λ d. value_bytes g.W.Written.kind (number_or fill d)) cells c.loop-i.strip c.args.from c.loop-i.i c.number.result c.cell_bytes.result lt (omega (arith, c.requires.room, c.loop-i.invariant.room, c.loop-i-test.true)) c.number.ensures c.cell_bytes.ensures c.loop-i.invariant.bytes;
    }
