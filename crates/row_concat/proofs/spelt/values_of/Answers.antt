use Rattle.std.proofs.Common.{◌≡◌, ◌∙◌, ap, arith, subst, sym}
use Rattle.xr_types.specs.Points.{size}
use Rattle.xr_arrays.specs.Arrays.{Array}
use Rattle.xr_arrays.specs.Pieces.{together, values_in, AreInside}
use Rattle.row_concat.proofs.Values.{few_values}
use Rattle.row_concat.proofs.Whole.{spells}
use Rattle.row_concat.proofs.spelt.values_of.Goals as goal

pub returns-else-not-alike-clause-spells : goal.returns-else-not-alike-clause-spells
returns-else-not-alike-clause-spells c =
    let parts = c.parts-parts.result in
    let kind = c.alike.ensures.kind c.if-not-alike.false in
    spells c.args.kind parts.kind c.args.fills.now parts.fills.now (together c.args.kind parts.pieces.now) (together parts.kind parts.pieces.now) c.args.array.now c.in-Stored.stored.now c.in-Stored.ensures kind (c.alike.ensures.fills c.if-not-alike.false) (ap (λ k. together k parts.pieces.now) (sym kind)) c.parts-parts.ensures.is c.parts-parts.ensures.whole

pub returns-else-not-alike-clause-counted : goal.returns-else-not-alike-clause-counted
returns-else-not-alike-clause-counted c =
    let parts = c.parts-parts.result in
    let few = few_values parts.kind parts.pieces.now c.parts-parts.ensures.inside in
    let all : size c.shape.result.now ≡ values_in parts.pieces.now = ap size (c.shape.ensures ∙ ap (λ (a : Array). a.shape) (sym c.in-Stored.ensures)) ∙ sym c.parts-parts.ensures.many in
    let n = c.points.ensures in
    record {
      inside = subst (λ k. AreInside k parts.pieces.now) (c.alike.ensures.kind c.if-not-alike.false) c.parts-parts.ensures.inside;
      counted = omega (arith, few, all, n);
    }
