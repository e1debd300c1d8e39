use Rattle.std.proofs.Common.{◌<◌, ◌++◌, ◌∙◌, [], ◌∷◌, ap, arith, map, zip, length, get_or}
use Rattle.xr_arrays.specs.Arrays.{cell}
use Rattle.plan_core.proofs.Steps.{first_at, first_is, zipped_more}
use Rattle.xr_grouping.proofs.cells.widened_masked.Goals as goal

pub loop-i-preserved : goal.loop-i-preserved
loop-i-preserved g c =
    let number = g.T.Elem.number in
    let cells = c.args.cells.now in
    let mask = c.args.mask.now in
    let i = c.loop-i.i in
    let x = c.index-cells-i.result in
    let out = c.loop-i.keys.items in
    let long = c.requires in
    let lt = c.loop-i-test.true in
    let below : i < length mask = omega (arith, long, lt) in
    zipped_more number cell cells mask i x (get_or mask i 0) out c.push.new.self.items (map cell (zip (map number cells) mask)) (first_is cells i x lt c.index-cells-i.is) (first_at mask i 0 below)
    (c.in_ok-push.ensures.items ∙ ap (λ n. out ++ n ∷ []) c.shown.ensures) c.loop-i.invariant
