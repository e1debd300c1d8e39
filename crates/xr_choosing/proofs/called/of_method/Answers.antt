use Rattle.xr_choosing.specs.declared.branches.Branch.TheVariants as branches
use Rattle.xr_choosing.proofs.Operated.{method_answers}
use Rattle.std.proofs.Common.{refl}
use Rattle.xr_choosing.proofs.called.of_method.Goals as goal

pub returns : goal.returns
returns c = λ nodes own is second. method_answers nodes c.args.on (branches.Array c.args.on) c.args.cond.now c.args.y c.chosen.result refl (c.chosen.ensures nodes is own second)
