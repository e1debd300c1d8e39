use Rattle.std.proofs.Common.{◌*◌, ◌≤◌, ◌++◌, ℕ, sym, ap, ◌∙◌, take, arith, mul-le-mul_right}
use Rattle.xr_types.specs.Widths.{width}
use Rattle.xr_arrays.specs.Pieces.{together}
use Rattle.xr_arrays.proofs.Together.{grown}
use Rattle.std.proofs.lemmas.List.{length-take-le}
use Rattle.xr_arrays.proofs.pieces.Pieces.gathered.Goals as goal

pub slice_bounds-extend_from_slice-end : goal.slice_bounds-extend_from_slice-end
slice_bounds-extend_from_slice-end c =
    let more = c.min-more.result in
    let le : more ≤ c.run-run.result.count = omega (arith, c.min-more.ensures) in
    let fits : more * width c.args.kind ≤ c.run-run.result.count * width c.args.kind = mul-le-mul_right (width c.args.kind) le in
    let e = ap (λ (w : ℕ). more * w) c.width-width.ensures in
    sym (length-take-le (more * c.width-width.result) c.run-run.result.bytes.now (omega (arith, fits, e, c.run-run.ensures.long)))

pub loop-done-preserved : goal.loop-done-preserved
loop-done-preserved c =
    let more = c.min-more.result in
    let le : more ≤ c.run-run.result.count = omega (arith, c.min-more.ensures) in
    record {
      within = omega (arith, c.min-more.ensures, c.loop-done.invariant.within);
      so_far = c.in_ok-extend_from_slice.ensures.items
          ∙ ap (λ (w : ℕ). c.loop-done.gathered.items ++ take (more * w) c.run-run.result.bytes.now) c.width-width.ensures
          ∙ grown (together c.args.kind c.args.self.now) c.run-run.result.bytes.now c.loop-done.gathered.items (width c.args.kind) c.args.from c.loop-done.done c.run-run.result.count more c.loop-done.invariant.so_far c.run-run.ensures.values le;
    }
