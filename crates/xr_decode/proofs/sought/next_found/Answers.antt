use Rattle.std.proofs.Common.{sym, ◌∙◌}
use Rattle.xr_decode.proofs.Found.{found_next, found_later}
use Rattle.xr_decode.proofs.sought.next_found.Goals as goal

pub returns-then-is_sought : goal.returns-then-is_sought
returns-then-is_sought c = λ bytes rest all.
    found_next bytes c.args.head.now c.args.var.now rest c.args.found.now.items c.pop.new.self.items c.pop.result _ _ (sym c.is_sought.ensures ∙ c.if-is_sought.true)
    c.pop.ensures.items c.pop.ensures.rest c.pop.ensures.cases all

pub returns-else-is_sought : goal.returns-else-is_sought
returns-else-is_sought c = λ bytes rest all.
    (tt, found_later bytes c.args.head.now c.args.var.now rest c.args.found.now.items (sym c.is_sought.ensures ∙ c.if-is_sought.false) all)
