use Rattle.std.proofs.Common.{◌≡◌, ◌+◌, true, length, ap, ◌∙◌, rules, tests, arith}
use Rattle.xr_outside.specs.Stores.{Files}
use Rattle.xr_outside.specs.PutLog.{found_in, ends_bare}
use Rattle.xr_outside.proofs.Puts.{added_to, put_here, put_other, bare_held}
use Rattle.xr_outside.proofs.roomy_log.RoomyLog.put.Goals as goal

pub returns-then-ends_bare-clause-here : goal.returns-then-ends_bare-clause-here
returns-then-ends_bare-clause-here c =
    let bare : ends_bare c.args.self.now.log.puts.items ≡ true = search (rules, tests) in
    let none : length c.args.name.now + length c.args.bytes.now ≡ 0 = search (arith, tests) in
    bare_held c.args.self.now.log.pool.items c.args.name.now c.args.bytes.now c.args.self.now.log.puts.items bare none

pub returns-clause-here : goal.returns-clause-here
returns-clause-here c =
    let old : Files = found_in c.args.self.now.log.pool.items c.args.self.now.log.puts.items in
    ap (λ (f : Files). f c.args.name.now) (added_to c.args.self.now.log.pool.items _ c.args.name.now c.args.bytes.now c.args.self.now.log.puts.items _ c.in-Ok.ensures.pool c.in-Ok.ensures.puts) ∙ put_here old c.args.name.now c.args.bytes.now

pub returns-clause-others : goal.returns-clause-others
returns-clause-others c = λ n apart.
    let old : Files = found_in c.args.self.now.log.pool.items c.args.self.now.log.puts.items in
    ap (λ (f : Files). f n) (added_to c.args.self.now.log.pool.items _ c.args.name.now c.args.bytes.now c.args.self.now.log.puts.items _ c.in-Ok.ensures.pool c.in-Ok.ensures.puts) ∙ put_other old c.args.name.now c.args.bytes.now n apart
