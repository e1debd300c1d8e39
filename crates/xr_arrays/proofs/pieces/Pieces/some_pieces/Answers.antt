use Rattle.std.proofs.Common.{◌≡◌, ◌-◌, ◌*◌, ◌/◌, ◌∙◌, ℕ, List, ap, length, arith}
use Rattle.std.proofs.lemmas.List.{take_all}
use Rattle.xr_types.specs.Widths.{width}
use Rattle.xr_arrays.specs.Pieces.{pieces}
use Rattle.xr_arrays.proofs.Cut.{whole_pieces}
use Rattle.xr_arrays.proofs.pieces.Pieces.some_pieces.Goals as goal

pub returns-clause-values : goal.returns-clause-values
returns-clause-values c =
    let p = c.args.self.now in
    let cut = whole_pieces c.args.kind p c.args.from c.args.n c.place-place.result.byte c.requires.inside c.requires.cells c.requires.from c.requires.whole c.requires.within c.place-place.ensures.byte in
    let all = c.in_ok-slice.ensures.ok ∙ take_all (length p.bytes - 0) p.bytes (omega arith) in
    ap (λ (bytes : List ℕ). pieces bytes c.place-place.result.byte p.step (p.cells * width c.args.kind) (c.args.n / p.cells)) all ∙ cut.values

pub returns-clause-inside : goal.returns-clause-inside
returns-clause-inside c =
    let p = c.args.self.now in
    let cut = whole_pieces c.args.kind p c.args.from c.args.n c.place-place.result.byte c.requires.inside c.requires.cells c.requires.from c.requires.whole c.requires.within c.place-place.ensures.byte in
    let all = c.in_ok-slice.ensures.ok ∙ take_all (length p.bytes - 0) p.bytes (omega arith) in
    let long : length c.in_ok-slice.field-0 ≡ length p.bytes = ap length all in
    record {
      inside = λ r lt. let h = cut.inside r lt in omega (arith, h, long);
      few = omega (arith, cut.few, long);
      short = omega (arith, c.requires.inside.short, long);
    }
