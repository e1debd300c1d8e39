use Rattle.std.proofs.Common.{Bool, sym, subst}
use Rattle.std.specs.Prelude.{IsTrue}
use Rattle.xr_run.proofs.Ended.{found_ends, found_keeps, absent_ends, long_ends}
use Rattle.xr_run.proofs.top.run_named.Goals as goal

pub returns-in-Ok-Found-clause-ends : goal.returns-in-Ok-Found-clause-ends
returns-in-Ok-Found-clause-ends g c = λ s.
    let told = subst (λ (b : Bool). IsTrue b) (sym c.in-Ok-Found.ensures.tells) s in
    let got = rw c.in-Ok-Found.field-0-is at (c.in-Ok-Found.ensures.answer s) in
    found_ends _ _ _ c.args.name.now c.in-Ok-Found.bytes.items _ _ _ _ c.run_bytes.result c.deref.ensures.value (c.in-Ok-Found.ensures.keeps s) got.0 (c.run_bytes.ensures.ends told)

pub returns-in-Ok-Found-clause-keeps : goal.returns-in-Ok-Found-clause-keeps
returns-in-Ok-Found-clause-keeps g c = λ s.
    let told = subst (λ (b : Bool). IsTrue b) (sym c.in-Ok-Found.ensures.tells) s in
    let got = rw c.in-Ok-Found.field-0-is at (c.in-Ok-Found.ensures.answer s) in
    found_keeps _ _ _ c.args.name.now c.in-Ok-Found.bytes.items _ c.deref.ensures.value (c.in-Ok-Found.ensures.keeps s) got.0 (c.run_bytes.ensures.keeps told)

pub returns-in-Ok-Absent-clause-ends : goal.returns-in-Ok-Absent-clause-ends
returns-in-Ok-Absent-clause-ends g c = λ s.
    absent_ends _ _ c.args.name.now _ _ (c.in-Ok-Absent.ensures.keeps s) (rw c.in-Ok-Absent.field-0-is at (c.in-Ok-Absent.ensures.answer s))

pub returns-in-Ok-TooLong-clause-ends : goal.returns-in-Ok-TooLong-clause-ends
returns-in-Ok-TooLong-clause-ends g c = λ s.
    let long = rw c.in-Ok-TooLong.field-0-is at (c.in-Ok-TooLong.ensures.answer s) in
    long_ends _ _ c.args.name.now long.0 _ _ (c.in-Ok-TooLong.ensures.keeps s) long.1 long.2
