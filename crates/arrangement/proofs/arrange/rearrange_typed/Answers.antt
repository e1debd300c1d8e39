use Rattle.std.proofs.Common.{◌∙◌, ap, refl, option_map, arith}
use Rattle.std.proofs.lemmas.Int.{to_z-of_z, ints}
use Rattle.std.specs.Int.{w128}
use Rattle.plan_core.specs.Arrangements.{rearranged, arranged_cells}
use Rattle.plan_core.proofs.Arrangements.{IsMade, rearranged_here, parts_of, mask_asked}
use Rattle.arrangement.proofs.arrange.rearrange_typed.Given as given
use Rattle.arrangement.proofs.arrange.rearrange_typed.Goals.{In_ok-new_cells}
use Rattle.arrangement.proofs.arrange.rearrange_typed.Goals as goal

made : (g : given.Over) (c : In_ok-new_cells g) → IsMade (rearranged c.args.typed.now (g.A.Arrangement.to c.args.by.now) (g.A.Arrangement.point c.args.by.now) c.args.fill) c.in_ok-shape.shape c.in_ok-new_cells.new_cells c.in_ok-new_mask.new_mask
made g c =
    let e = c.parts.ensures in
    rearranged_here c.args.typed.now c.parts.result.0.now c.in_ok-new_cells.new_cells (option_map (λ m. m.now) c.parts.result.1) c.in_ok-new_mask.new_mask (g.A.Arrangement.from c.args.by.now) (g.A.Arrangement.to c.args.by.now) c.in_ok-shape.shape (g.A.Arrangement.point c.args.by.now) c.has_holes.result c.args.fill c.filling.result
    c.requires.shape (parts_of (λ m. m.now) c.args.typed.now c.args.typed.now c.parts.result.0.now c.parts.result.1 refl e.kind e.range e.cells e.whole e.mask) c.requires.inside c.has_holes.ensures c.requires.fill c.filling.ensures (c.in_ok-new_cells.ensures ∙ ap (λ k. arranged_cells (g.A.Arrangement.from c.args.by.now) (g.A.Arrangement.to c.args.by.now) (g.A.Arrangement.point c.args.by.now) k c.parts.result.0.now) (to_z-of_z w128 c.filling.result (omega (arith, ints)))) c.in_ok-new_mask.ensures c.in_ok-shape.ensures

pub of-requires-clause-cells : goal.of-requires-clause-cells
of-requires-clause-cells g c = (made g c).whole

pub of-requires-clause-range : goal.of-requires-clause-range
of-requires-clause-range g c = (made g c).range

pub of-requires-clause-mask : goal.of-requires-clause-mask
of-requires-clause-mask g c = mask_asked _ c.in_ok-shape.shape c.in_ok-new_cells.new_cells c.in_ok-new_mask.new_mask (made g c)

pub returns : goal.returns
returns g c =
    let e = c.parts.ensures in
    c.of.ensures
    ∙ (rearranged_here c.args.typed.now c.parts.result.0.now c.in_ok-new_cells.new_cells (option_map (λ m. m.now) c.parts.result.1) c.in_ok-new_mask.new_mask (g.A.Arrangement.from c.args.by.now) (g.A.Arrangement.to c.args.by.now) c.in_ok-shape.shape (g.A.Arrangement.point c.args.by.now) c.has_holes.result c.args.fill c.filling.result
    c.requires.shape (parts_of (λ m. m.now) c.args.typed.now c.args.typed.now c.parts.result.0.now c.parts.result.1 refl e.kind e.range e.cells e.whole e.mask) c.requires.inside c.has_holes.ensures c.requires.fill c.filling.ensures (c.in_ok-new_cells.ensures ∙ ap (λ k. arranged_cells (g.A.Arrangement.from c.args.by.now) (g.A.Arrangement.to c.args.by.now) (g.A.Arrangement.point c.args.by.now) k c.parts.result.0.now) (to_z-of_z w128 c.filling.result (omega (arith, ints)))) c.in_ok-new_mask.ensures c.in_ok-shape.ensures).is
