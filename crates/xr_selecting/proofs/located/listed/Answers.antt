use Rattle.std.proofs.Common.{◌∙◌, ap, refl, rules}
use Rattle.xr_defs.specs.Meanings.{Number}
use Rattle.xr_arguments.proofs.Variants.{is_number}
use Rattle.xr_selecting.proofs.Lists.{listed_on}
use Rattle.xr_selecting.proofs.located.listed.Goals as goal

pub loop-p-preserved : goal.loop-p-preserved
loop-p-preserved c = λ nodes. listed_on nodes c.loop-p.out.items c.push.new.self.items _ c.args.ps.now c.loop-p.p-index c.loop-p-test.true c.in_ok-push.ensures.items (is_number nodes _ _ refl ∙ ap Number (search rules)) (c.loop-p.invariant nodes)
