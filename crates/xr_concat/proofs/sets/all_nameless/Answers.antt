use Rattle.std.proofs.Common.{sym, subst}
use Rattle.xr_concat.specs.Named.{AreHeldIn}
use Rattle.xr_concat.proofs.sets.all_nameless.Goals as goal

pub returns-clause-held : goal.returns-clause-held
returns-clause-held c = λ nodes held. c.in_ok-push_nameless.ensures.held nodes held (subst (AreHeldIn nodes) (sym c.new-out.ensures) tt)
