use Rattle.std.proofs.Common.{◌≡◌, ◌*◌, length, true, refl, sym, subst, rules, List, Option, ℤ}
use Rattle.std.specs.List.{All}
use Rattle.xr_arrays.specs.Arrays.{Array, IsCell}
use Rattle.xr_types.specs.Widths.{width}
use Rattle.xr_types.specs.Points.{size}
use Rattle.xr_arrays.specs.Numbers.{is_whole}
use Rattle.xr_arrays.specs.Stored.{stored_array}
use Rattle.stored_cells.proofs.Lengths.{whole_stored}
use Rattle.plan_tests.proofs.plans.in_file.Goals as goal

pub returns-clause-array : goal.returns-clause-array
returns-clause-array c =
    let kind = c.args.kind in
    let raw = c.args.bytes.now in
    let shape = c.args.shape.now in
    let fills = c.args.fills.now in
    let whole : is_whole kind ≡ true = search rules in
    let long : length raw ≡ size shape * width kind = search rules in
    record {
      whole = subst (λ (a : Array). length a.cells ≡ size a.shape) (sym c.in_ok-array.ensures) (whole_stored (stored_array shape kind raw fills) kind raw fills refl (record { whole = whole; long = long }));
      range = subst (λ (cs : List (Option ℤ)). All (IsCell c.in_ok-array.array.kind) cs) c.in_ok-numbers_of.ensures.cells c.in_ok-numbers_of.ensures.range;
    }
