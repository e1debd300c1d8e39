use Rattle.std.proofs.Common.{◌≡◌, ◌-◌, ◌*◌, ◌∙◌, ap, sym, arith, length, length-drop, take}
use Rattle.plan_core.proofs.Takes.{run_is, run_of, run_inside, parts_inside, appended}
use Rattle.arrangement.proofs.taking.push_block.Goals as goal

pub overflow_mul-q : goal.overflow_mul-q
overflow_mul-q g c =
    let fits = run_inside c.in-Some.q c.args.n c.args.row c.args.from.now (run_of c.args.run c.in-Some.q c.args.from.now c.in-Some.is c.requires.run) c.requires.inside in
    let small = c.requires.small in
    omega (arith, fits, small)

pub split_at-requires : goal.split_at-requires
split_at-requires g c =
    let fits = run_inside c.in-Some.q c.args.n c.args.row c.args.from.now (run_of c.args.run c.in-Some.q c.args.from.now c.in-Some.is c.requires.run) c.requires.inside in
    let long = c.requires.cells in
    omega (arith, fits, long)

pub overflow_mul-from : goal.overflow_mul-from
overflow_mul-from g c =
    let fits = run_inside c.in-Some.q c.args.n c.args.row c.args.from.now (run_of c.args.run c.in-Some.q c.args.from.now c.in-Some.is c.requires.run) c.requires.inside in
    let small = c.requires.small in
    omega (arith, fits, small)

pub split_at-requires-in-Some : goal.split_at-requires-in-Some
split_at-requires-in-Some g c =
    let fits = run_inside c.in-Some.q c.args.n c.args.row c.args.from.now (run_of c.args.run c.in-Some.q c.args.from.now c.in-Some.is c.requires.run) c.requires.inside in
    let left : length c.split_at.result.1.now ≡ length c.args.cells.now - c.in-Some.q * c.args.row = ap length c.split_at.ensures.back ∙ length-drop (c.in-Some.q * c.args.row) c.args.cells.now in
    let long = c.requires.cells in
    omega (arith, fits, left, long)

pub push_parts-requires : goal.push_parts-requires
push_parts-requires g c = parts_inside c.args.n c.args.row c.args.cells.now c.args.from.now c.requires.cells c.requires.inside

pub returns-in-Some : goal.returns-in-Some
returns-in-Some g c =
    let count = length c.args.from.now * c.args.row in
    let run = run_of c.args.run c.in-Some.q c.args.from.now c.in-Some.is c.requires.run in
    appended c.extend_from_slice.result c.extend_from_slice.new.self.items c.args.out.now.items c.split_at-in-Some.result.0.now _ c.extend_from_slice.ensures.items
    (c.split_at-in-Some.ensures.front ∙ ap (take count) c.split_at.ensures.back ∙ sym (run_is c.args.row c.in-Some.q c.args.from.now c.args.hole c.args.cells.now run.1))
