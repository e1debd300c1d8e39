use Rattle.std.proofs.Common.{◌∙◌, sym, ap, option_map, is_some, Some, None}
use Rattle.xr_decode.proofs.Rows.{rows_none, rows_some, row_text, rest_more, is_some-option_map}
use Rattle.xr_decode.proofs.text.are_texts.Goals as goal

pub returns-in-None : goal.returns-in-None
returns-in-None c =
    let w = c.args.width in
    let raw = c.args.raw.now in
    let i = c.loop-i.i in
    let none = row_text w i raw c.loop-i.rest.now _ _ None c.split_at.ensures.front c.loop-i.invariant.rest c.text_in.ensures (ap (option_map (λ t. t.now)) c.in-None.is) in
    sym (ap is_some (rows_none w raw i c.args.count c.loop-i-test.true none)) ∙ c.loop-i.invariant.texts

pub loop-i-preserved : goal.loop-i-preserved
loop-i-preserved c =
    let w = c.args.width in
    let raw = c.args.raw.now in
    let i = c.loop-i.i in
    let text = row_text w i raw c.loop-i.rest.now _ _ (Some c.in-Some.field-0.now) c.split_at.ensures.front c.loop-i.invariant.rest c.text_in.ensures (ap (option_map (λ t. t.now)) c.in-Some.is) in
    record {
      rest = rest_more w i raw c.loop-i.rest.now _ c.split_at.ensures.back c.loop-i.invariant.rest;
      texts = sym (ap is_some (rows_some w raw i c.args.count _ c.loop-i-test.true text) ∙ is_some-option_map _ _) ∙ c.loop-i.invariant.texts;
    }
