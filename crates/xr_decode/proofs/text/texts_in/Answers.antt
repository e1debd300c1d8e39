use Rattle.std.proofs.Common.{◌≡◌, ◌+◌, ◌-◌, ◌++◌, ◌∷◌, [], List, ℕ, ◌∙◌, sym, ap, option_map, Some, None, arith}
use Rattle.xr_decode.proofs.Rows.{texts_from, rows_none, rows_some, row_text, rest_more, onto_end, nothing_more}
use Rattle.xr_decode.proofs.text.texts_in.Goals as goal

pub returns-in-None : goal.returns-in-None
returns-in-None c =
    let w = c.args.width in
    let raw = c.args.raw.now in
    let i = c.loop-i.i in
    let none = row_text w i raw c.loop-i.rest.now _ _ None c.split_at.ensures.front c.loop-i.invariant.rest c.text_in.ensures (ap (option_map (λ t. t.now)) c.in-None.is) in
    sym (ap (option_map (λ ts. c.loop-i.texts ++ ts)) (rows_none w raw i c.args.count c.loop-i-test.true none)) ∙ c.loop-i.invariant.texts

pub loop-i-preserved : goal.loop-i-preserved
loop-i-preserved c =
    let w = c.args.width in
    let raw = c.args.raw.now in
    let i = c.loop-i.i in
    let n = c.args.count in
    let text = row_text w i raw c.loop-i.rest.now _ _ (Some c.in-Some.text.now) c.split_at.ensures.front c.loop-i.invariant.rest c.text_in.ensures (ap (option_map (λ t. t.now)) c.in-Some.is) in
    let more = ap (option_map (λ ts. c.loop-i.texts ++ ts)) (rows_some w raw i n _ c.loop-i-test.true text) ∙ onto_end c.loop-i.texts c.in-Some.text.now (texts_from w raw (i + 1) (n - (i + 1))) in
    let pushed : c.push.new.self ≡ c.loop-i.texts ++ c.in-Some.text.now ∷ [] = c.in_ok-push-in-Some.ensures.ok ∙ ap (λ t. c.loop-i.texts ++ t ∷ []) c.in_ok-from_str-in-Some.ensures in
    record {
      rest = rest_more w i raw c.loop-i.rest.now _ c.split_at.ensures.back c.loop-i.invariant.rest;
      texts = ap (λ (out : List (List ℕ)). option_map (λ ts. out ++ ts) (texts_from w raw (i + 1) (n - (i + 1)))) pushed ∙ sym more ∙ c.loop-i.invariant.texts;
    }

pub returns : goal.returns
returns c =
    let w = c.args.width in
    let raw = c.args.raw.now in
    let i = c.loop-i.i in
    let n = c.args.count in
    let none : n - i ≡ 0 = omega arith in
    sym (nothing_more c.loop-i.texts) ∙ sym (ap (λ k. option_map (λ ts. c.loop-i.texts ++ ts) (texts_from w raw i k)) none) ∙ c.loop-i.invariant.texts
