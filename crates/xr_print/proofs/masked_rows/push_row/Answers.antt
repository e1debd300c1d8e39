use Rattle.std.proofs.Common.{ap, ◌∙◌, ◌∷◌, Some}
use Rattle.xr_print.specs.Pieces.{text_unless, texts_of}
use Rattle.xr_print.proofs.Pushed.{on_ok, row_is}
use Rattle.xr_print.proofs.masked_rows.push_row.Goals as goal

pub returns : goal.returns
returns g c =
    let f = g.P.CellText.text in
    let row = c.in-Some.ensures.cases.0 in
    let mask = c.in-Some-split_first.ensures.cases.0 in
    on_ok c.push_after_blanks.result _ _
    (row_is (text_unless f c.in-Some.first.now c.in-Some-split_first.gap.now) (texts_of f c.in-Some.rest.now (Some c.in-Some-split_first.gaps.now)) (texts_of f c.args.row.now (Some c.args.mask.now)) c.args.out.now.items c.push_unless.new.out.items c.push_after_blanks.new.out.items
    (ap (λ xs. texts_of f xs (Some c.args.mask.now)) row ∙ ap (λ m. texts_of f (c.in-Some.first.now ∷ c.in-Some.rest.now) (Some m)) mask) c.in_ok-push_unless.ensures)
    c.push_after_blanks.ensures
