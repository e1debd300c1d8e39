use Rattle.std.proofs.Common.{◌*◌, ◌≤◌, ◌++◌, ◌∙◌, ℕ, List, sym, ap, take, drop, refl, append_assoc, arith, mul-le-mul_right}
use Rattle.xr_types.specs.Widths.{width}
use Rattle.xr_arrays.specs.Pieces.{together}
use Rattle.xr_arrays.proofs.Together.{grown}
use Rattle.std.proofs.lemmas.List.{length-take-le}
use Rattle.row_concat.proofs.blocks.push_values.Goals as goal

pub slice_bounds-extend_from_slice-end : goal.slice_bounds-extend_from_slice-end
slice_bounds-extend_from_slice-end c =
    let more = c.min-more.result in
    let le : more ≤ c.run-run.result.count = omega (arith, c.min-more.ensures) in
    let fits : more * width c.args.kind ≤ c.run-run.result.count * width c.args.kind = mul-le-mul_right (width c.args.kind) le in
    let e = ap (λ (w : ℕ). more * w) c.width-width.ensures in
    sym (length-take-le (more * c.width-width.result) c.run-run.result.bytes.now (omega (arith, fits, e, c.run-run.ensures.long)))

pub loop-done-preserved : goal.loop-done-preserved
loop-done-preserved c =
    let more = c.min-more.result in
    let le : more ≤ c.run-run.result.count = omega (arith, c.min-more.ensures) in
    let all = together c.args.kind c.args.pieces.now in
    let w = width c.args.kind in
    let before = c.args.out.now.items in
    let got = take (c.loop-done.done * w) (drop (c.args.from * w) all) in
    record {
      within = omega (arith, c.min-more.ensures, c.loop-done.invariant.within);
      so_far = c.in_ok-extend_from_slice.ensures.items
          ∙ ap (λ (n : ℕ). c.loop-done.out.items ++ take (more * n) c.run-run.result.bytes.now) c.width-width.ensures
          ∙ ap (λ (l : List ℕ). l ++ take (more * w) c.run-run.result.bytes.now) c.loop-done.invariant.so_far
          ∙ append_assoc before got (take (more * w) c.run-run.result.bytes.now)
          ∙ ap (λ (l : List ℕ). before ++ l) (grown all c.run-run.result.bytes.now got w c.args.from c.loop-done.done c.run-run.result.count more refl c.run-run.ensures.values le);
    }
