use Rattle.std.proofs.Common.{◌+◌, ◌-◌, ◌*◌, ◌/◌, ◌%◌, ℕ, ap, ◌∙◌, take, drop, arith}
use Rattle.xr_types.specs.Widths.{width}
use Rattle.xr_arrays.proofs.Together.{stands, stand_together}
use Rattle.xr_arrays.proofs.pieces.Pieces.place.Goals as goal

pub overflow_mul-result : goal.overflow_mul-result
overflow_mul-result c = let s = stands c.args.kind c.args.self.now c.args.from c.requires.inside c.requires.from in omega (arith, s.inside)

pub overflow_add-result : goal.overflow_add-result
overflow_add-result c = let s = stands c.args.kind c.args.self.now c.args.from c.requires.inside c.requires.from in omega (arith, s.inside)

pub overflow_mul-result-2 : goal.overflow_mul-result-2
overflow_mul-result-2 c =
    let s = stands c.args.kind c.args.self.now c.args.from c.requires.inside c.requires.from in
    let e = ap (λ (w : ℕ). c.args.from % c.args.self.now.cells * w) c.width.ensures in
    omega (arith, s.inside, s.split, e)

pub overflow_add-result-2 : goal.overflow_add-result-2
overflow_add-result-2 c =
    let s = stands c.args.kind c.args.self.now c.args.from c.requires.inside c.requires.from in
    let e = ap (λ (w : ℕ). c.args.from % c.args.self.now.cells * w) c.width.ensures in
    omega (arith, s.inside, s.split, e)

pub returns-clause-within : goal.returns-clause-within
returns-clause-within c = (stands c.args.kind c.args.self.now c.args.from c.requires.inside c.requires.from).behind

pub returns-clause-end : goal.returns-clause-end
returns-clause-end c =
    let s = stands c.args.kind c.args.self.now c.args.from c.requires.inside c.requires.from in
    let e = ap (λ (w : ℕ). c.args.from % c.args.self.now.cells * w) c.width.ensures in
    omega (arith, s.inside, s.split, e)

pub returns-clause-values : goal.returns-clause-values
returns-clause-values c =
    let p = c.args.self.now in
    let from = c.args.from in
    let m = (p.cells - from % p.cells) * width c.args.kind in
    ap (λ (w : ℕ). take m (drop (p.begin + from / p.cells * p.step + from % p.cells * w) p.bytes)) c.width.ensures
    ∙ stand_together c.args.kind p from c.requires.inside c.requires.from
