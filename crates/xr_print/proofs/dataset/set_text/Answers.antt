use Rattle.std.proofs.Common.{◌∙◌}
use Rattle.xr_print.proofs.Pushed.{if_ok}
use Rattle.xr_print.proofs.Whole.{set_is}
use Rattle.xr_print.proofs.dataset.set_text.Goals as goal

pub returns : goal.returns
returns c = if_ok c.whole_text.result _ _ (λ text e nodes. e ∙ set_is nodes c.args.set.now) c.whole_text.ensures
