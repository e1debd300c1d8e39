use Rattle.std.proofs.Common.{Some, ℕ, List, length, subst, ap, sym, get_or, ◌≡◌, ◌∙◌, ◌<◌}
use Rattle.std.proofs.lemmas.Int.{to_z-of_z}
use Rattle.xr_arrays.specs.Arrays.{wide}
use Rattle.xr_types.specs.Points.{size}
use Rattle.xr_merging.proofs.Masked.{in_some, missing_cell, present_cell}
use Rattle.xr_merging.proofs.cells.cell_at.Goals as goal
use mir.Syntax.{w128}

pub bounds-as_slice-at : goal.bounds-as_slice-at
bounds-as_slice-at c =
    subst (λ (bs : List ℕ). c.args.at < length bs) (sym c.as_slice.ensures)
    (in_some c.args.array.now.cells (wide c.parts.result.0.now) c.parts.result.1 c.in-Some.bytes (size c.args.array.now.shape) c.args.at c.in-Some.is c.parts.ensures.cells c.parts.ensures.whole c.parts.ensures.mask c.requires).byte_inside

pub number_at-requires-then-as_slice-at-eq0 : goal.number_at-requires-then-as_slice-at-eq0
number_at-requires-then-as_slice-at-eq0 c =
    (in_some c.args.array.now.cells (wide c.parts.result.0.now) c.parts.result.1 c.in-Some.bytes (size c.args.array.now.shape) c.args.at c.in-Some.is c.parts.ensures.cells c.parts.ensures.whole c.parts.ensures.mask c.requires).number_inside

pub returns-then-as_slice-at-eq0 : goal.returns-then-as_slice-at-eq0
returns-then-as_slice-at-eq0 c =
    let all = in_some c.args.array.now.cells (wide c.parts.result.0.now) c.parts.result.1 c.in-Some.bytes (size c.args.array.now.shape) c.args.at c.in-Some.is c.parts.ensures.cells c.parts.ensures.whole c.parts.ensures.mask c.requires in
    let zero : get_or c.in-Some.bytes.now c.args.at 0 ≡ 0 = ap (λ (bs : List ℕ). get_or bs c.args.at 0) (sym c.as_slice.ensures) ∙ c.if-as_slice-at-eq0.true in
    ap Some (to_z-of_z w128 c.number_at-then-as_slice-at-eq0.result (record { sfits = c.number_at-then-as_slice-at-eq0.type_inv }) ∙ c.number_at-then-as_slice-at-eq0.ensures)
    ∙ sym (present_cell _ _ zero) ∙ sym all.is

pub returns-else-as_slice-at-eq0 : goal.returns-else-as_slice-at-eq0
returns-else-as_slice-at-eq0 c =
    let all = in_some c.args.array.now.cells (wide c.parts.result.0.now) c.parts.result.1 c.in-Some.bytes (size c.args.array.now.shape) c.args.at c.in-Some.is c.parts.ensures.cells c.parts.ensures.whole c.parts.ensures.mask c.requires in
    sym (missing_cell _ _ (λ e. c.if-as_slice-at-eq0.false (ap (λ (bs : List ℕ). get_or bs c.args.at 0) c.as_slice.ensures ∙ e))) ∙ sym all.is
