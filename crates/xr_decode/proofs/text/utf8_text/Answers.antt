use Rattle.std.proofs.Common.{◌≡◌, Bool, true, false, cond, Some, None, sym, ap, ◌∙◌}
use Rattle.std.specs.Str.{is_utf8}
use Rattle.std.proofs.lemmas.Bool.{false_from_ne_true}
use Rattle.std.proofs.lemmas.Str.{IsUtf8-from_is_utf8, is_utf8-from_IsUtf8}
use Rattle.xr_decode.proofs.text.utf8_text.Goals as goal

pub returns-in-Ok : goal.returns-in-Ok
returns-in-Ok c =
    let bytes = c.args.bytes.now in
    let valid : is_utf8 bytes ≡ true = is_utf8-from_IsUtf8 _ c.in-Ok.ensures.cases.1 in
    ap Some c.in-Ok.ensures.cases.0 ∙ sym (ap (λ (b : Bool). cond b (Some bytes) None) valid)

pub returns-in-Err : goal.returns-in-Err
returns-in-Err c =
    let bytes = c.args.bytes.now in
    let invalid : is_utf8 bytes ≡ false = false_from_ne_true _ (λ e. c.in-Err.ensures.cases.0 (IsUtf8-from_is_utf8 _ e)) in
    sym (ap (λ (b : Bool). cond b (Some bytes) None) invalid)
