use Rattle.std.proofs.Common.{arith, ◌∙◌}
use Rattle.xr_tokens.proofs.Bytes.{text_has_no_fault, fault_of_bytes}
use Rattle.xr_tokens.proofs.text.text_of.Goals as goal

pub returns-in-Ok-clause-cases : goal.returns-in-Ok-clause-cases
returns-in-Ok-clause-cases c =
    let text = c.in-Ok.ensures.cases in
    (text.0, text_has_no_fault c.args.bytes.now (omega arith) text.1)

pub returns-in-Err-clause-cases : goal.returns-in-Err-clause-cases
returns-in-Err-clause-cases c =
    let fault = fault_of_bytes c.args.bytes.now c.valid_up_to.result (omega arith) c.in-Err.ensures.cases.0 (c.valid_up_to.ensures ∙ c.in-Err.ensures.valid_len) in
    rw (← c.line_of.ensures) at fault
