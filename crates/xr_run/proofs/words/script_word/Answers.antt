use Rattle.std.proofs.Common.{ap, map, ◌∙◌}
use Rattle.std.proofs.lemmas.Result.{IfOk-weaker}
use Rattle.xr_run.proofs.Parse.{named, not_named}
use Rattle.xr_run.proofs.words.script_word.Goals as goal

pub returns-in-Ok-parsed : goal.returns-in-Ok-parsed
returns-in-Ok-parsed c =
    let given = ap (map (λ t. t.now)) c.deref.ensures.value ∙ c.in-Ok.ensures in
    IfOk-weaker c.script_of.result _ _ (λ script is. named c.args.words.now _ c.in-Ok-parsed.matches script given c.in-Ok-parsed.ensures is) c.script_of.ensures

pub returns-in-Err-NotTaken : goal.returns-in-Err-NotTaken
returns-in-Err-NotTaken c =
    let given = ap (map (λ t. t.now)) c.deref.ensures.value ∙ c.in-Ok.ensures in
    not_named c.args.words.now _ c.in-Err-NotTaken.field-0 given c.in-Err-NotTaken.field-0-is c.in-Err-NotTaken.ensures
