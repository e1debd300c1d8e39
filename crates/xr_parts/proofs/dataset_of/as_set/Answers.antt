use Rattle.xr_parts.proofs.Common.{rules, sym}
use Rattle.xr_parts.proofs.Alone.{set_alone}
use Rattle.xr_parts.proofs.dataset_of.as_set.Goals as goal

pub returns : goal.returns
returns c = λ nodes is named. set_alone nodes c.args.on.now c.args.name.now is named (sym c.if-is_taken.ensures) c.in_ok-set_of.field-0 (search rules) c.in_ok-set_of.ensures
