use Rattle.std.proofs.Common.{◌∷◌, [], sym, subst, arith}
use Rattle.xr_types.specs.Points.{size}
use Rattle.xr_defs.specs.Decoding.{var_shape}
use Rattle.plan_core.proofs.Added.{adds_up}
use Rattle.xr_decode.specs.declared.role.Role.TheVariants.{Data}
use Rattle.xr_decode.specs.Held.{AreHeld, data_cells}
use Rattle.xr_decode.specs.Roles.{IsRole}
use Rattle.xr_decode.proofs.OneByOne.{data_one}
use Rattle.xr_decode.proofs.Rooms.{cells_one}
use Rattle.xr_decode.proofs.parts.add_variable.Goals as goal

pub returns-in_ok-put-in-Data-clause-adds : goal.returns-in_ok-put-in-Data-clause-adds
returns-in_ok-put-in-Data-clause-adds c =
    let f = c.args.source.now in
    let v = c.args.var.now in
    let x = c.in_ok-variable-in-Data.variable in
    let role : IsRole f v Data = subst (IsRole f v) c.in-Data.is c.in_ok-role_of.ensures in
    record {
      more = x ∷ [];
      put = c.in_ok-put-in-Data.ensures.ok;
      held = subst (AreHeld f c.args.mask c.variable_of.new.plan (x ∷ [])) (sym (data_one f v Data role))
          (record { stands = c.in_ok-variable-in-Data.ensures.variable; node = c.in_ok-variable-in-Data.ensures.node }, tt);
    }

pub returns-in_ok-put-in-Data-clause-cells : goal.returns-in_ok-put-in-Data-clause-cells
returns-in_ok-put-in-Data-clause-cells c =
    let f = c.args.source.now in
    let v = c.args.var.now in
    let role : IsRole f v Data = subst (IsRole f v) c.in-Data.is c.in_ok-role_of.ensures in
    let one = cells_one f v role in
    adds_up c.args.plan.now c.variable_of.new.plan (size (var_shape f v)) (data_cells f (v ∷ [])) (omega arith) c.in_ok-variable-in-Data.ensures.cells
