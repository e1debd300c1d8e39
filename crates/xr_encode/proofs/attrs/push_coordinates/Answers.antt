use Rattle.std.proofs.Common.{◌≡◌, ◌++◌, ◌∷◌, subst, ap, ◌∙◌, OnOk}
use Rattle.std.specs.List.{join_with_byte}
use Rattle.std.proofs.lemmas.List.{take_rest}
use Rattle.xr_encode.proofs.Attributes.{listed}
use Rattle.xr_encode.proofs.attrs.push_coordinates.Goals as goal

pub returns-in_ok-text_attr-in-len1-up : goal.returns-in_ok-text_attr-in-len1-up
returns-in_ok-text_attr-in-len1-up c =
    let text = c.in_ok-text-in-len1-up.ensures ∙ ap (λ r. join_with_byte 32 (c.first-item.result ∷ r)) (take_rest c.args.names.now 1) in
    subst (λ l. OnOk c.push.result (c.push.new.self ≡ c.args.attrs.now ++ l))
    (listed c.args.names.now c.first-item.result c.in_ok-text-in-len1-up.text c.in_ok-text_attr-in-len1-up.field-0 c.in-len1-up.len_at_least c.first-item.is text c.in_ok-text_attr-in-len1-up.ensures)
    c.push.ensures.ok
