use Rattle.std.proofs.Common.{◌≡◌, ◌≤◌, ◌<◌, ◌+◌, ◌∙◌, ap, arith, length, take, drop, to_z, of_z}
use Rattle.std.proofs.lemmas.Int.{to_z-of_z, ints}
use Rattle.std.proofs.lemmas.List.{take_all}
use Rattle.std.specs.Int.{int_wrap, w64}
use Rattle.xr_types.specs.Points.{size}
use Rattle.xr_arrays.specs.Folds.{sum_of}
use Rattle.xr_arrays.specs.Pieces.{together}
use Rattle.stored_cells.proofs.Lengths.{whole_stored}
use Rattle.plan_core.specs.Rows.{those}
use Rattle.row_concat.proofs.Values.{few_values}
use Rattle.plan_whole.proofs.Totals.{part_more, run_sum}
use Rattle.plan_whole.proofs.total.total_stored.Goals as goal

pub loop-from-preserved : goal.loop-from-preserved
loop-from-preserved c =
    let a = c.args.array.now in
    let parts = c.parts-parts.result in
    let p = parts.pieces.now in
    let raw = together parts.kind p in
    let from = c.loop-from.from in
    let n = c.run-run.result.count in
    let few = few_values parts.kind p c.parts-parts.ensures.inside in
    let many = c.parts-parts.ensures.many in
    let within : from + n ≤ size a.shape = omega (arith, c.run-run.ensures.within, many) in
    let shape = ap size c.shape.ensures in
    let before : to_z w64 c.loop-from.total-bits ≡ int_wrap w64 (sum_of (those (take from a.cells))) = c.loop-from.invariant.sum in
    let part : to_z w64 (of_z w64 c.sum.result) ≡ int_wrap w64 (sum_of (those (take n (drop from a.cells)))) =
    to_z-of_z w64 c.sum.result (omega (arith, ints))
    ∙ run_sum a parts.kind raw c.run-run.result.bytes.now parts.fills.now from n c.sum.result c.parts-parts.ensures.is c.parts-parts.ensures.whole within c.run-run.ensures.values c.sum.ensures in
    record {
      inside = omega (arith, within, c.points-count.ensures, shape, few, many);
      sum = to_z-of_z w64 c.added-total.result (omega (arith, ints)) ∙ part_more a.cells from n _ _ c.added-total.result before part c.added-total.ensures;
    }

pub returns-clause-whole : goal.returns-clause-whole
returns-clause-whole c =
    let parts = c.parts-parts.result in
    whole_stored c.args.array.now parts.kind (together parts.kind parts.pieces.now) parts.fills.now c.parts-parts.ensures.is c.parts-parts.ensures.whole

pub returns-clause-sum : goal.returns-clause-sum
returns-clause-sum c =
    let a = c.args.array.now in
    let parts = c.parts-parts.result in
    let few = few_values parts.kind parts.pieces.now c.parts-parts.ensures.inside in
    let many = c.parts-parts.ensures.many in
    let long = whole_stored a parts.kind (together parts.kind parts.pieces.now) parts.fills.now c.parts-parts.ensures.is c.parts-parts.ensures.whole in
    let shape = ap size c.shape.ensures in
    let all : length a.cells ≤ c.loop-from.from = omega (arith, long, c.points-count.ensures, shape, few, many, c.loop-from-test.false) in
    c.loop-from.invariant.sum ∙ ap (λ t. int_wrap w64 (sum_of (those t))) (take_all c.loop-from.from a.cells all)
