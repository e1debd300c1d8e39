use Rattle.std.proofs.Common.{◌≡◌, ◌-◌, ◌∙◌, ap, arith, length, length-drop, take}
use Rattle.plan_core.proofs.Takes.{appended}
use Rattle.plan_core.proofs.Strides.{run_fits, run_cells}
use Rattle.arrangement.proofs.stride.push_run.Goals as goal

pub split_at-requires : goal.split_at-requires
split_at-requires g c = let fits = run_fits c.args.count c.args.start (length c.args.cells.now) c.requires.some c.requires.inside in omega (arith, fits)

pub split_at-requires-2 : goal.split_at-requires-2
split_at-requires-2 g c =
    let fits = run_fits c.args.count c.args.start (length c.args.cells.now) c.requires.some c.requires.inside in
    let left : length c.split_at.result.1.now ≡ length c.args.cells.now - c.args.start = ap length c.split_at.ensures.back ∙ length-drop c.args.start c.args.cells.now in
    omega (arith, fits, left)

pub returns : goal.returns
returns g c other =
    let fits = run_fits c.args.count c.args.start (length c.args.cells.now) c.requires.some c.requires.inside in
    appended c.extend_from_slice.result c.extend_from_slice.new.self.items c.args.out.now.items c.split_at-2.result.0.now _ c.extend_from_slice.ensures.items
    (c.split_at-2.ensures.front ∙ ap (take c.args.count) c.split_at.ensures.back ∙ run_cells c.args.count c.args.start other c.args.cells.now fits)
