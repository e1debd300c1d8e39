use Rattle.std.proofs.Common.{ap, map, sym, subst, Err}
use Rattle.xr_syntax.specs.Syntax.{line_of}
use Rattle.xr_syntax.specs.Scripts.{IsScriptText}
use Rattle.xr_run.proofs.Ended.{of_script, of_fault}
use Rattle.xr_run.proofs.top.run_bytes.Goals as goal

pub returns-in-Ok-clause-ends : goal.returns-in-Ok-clause-ends
returns-in-Ok-clause-ends g c = λ s.
    let is = subst (λ xs. IsScriptText c.args.bytes.now (map line_of xs)) (sym c.as_slice.ensures.value) c.in-Ok.ensures.script in
    of_script _ _ c.args.bytes.now _ _ _ (map line_of c.as_slice.result.now) c.run_statements.result is (c.run_statements.ensures.ends s)

pub returns-in-Err-Script-clause-ends : goal.returns-in-Err-Script-clause-ends
returns-in-Err-Script-clause-ends g c = λ s.
    let is = c.in-Err-Script.ensures.fault c.in-Err-Script.fault (ap Err c.in-Err-Script.field-0-is) in
    rw c.in-Err-Script.field-0-is (of_fault _ c.args.bytes.now _ _ c.in-Err-Script.fault is)
