use Rattle.std.proofs.Common.{◌∙◌, sym, ap, length, List, arith, Ok}
use Rattle.xr_files.specs.declared.file.CdfVar.{CdfVar}
use Rattle.xr_defs.specs.Decoding.{others_in}
use Rattle.xr_decode.proofs.OneByOne.{set_is, set_too_large}
use Rattle.xr_decode.proofs.whole.set_of.Goals as goal

pub returns-then-branch-gt-MOST_VARIABLES-clause-answers : goal.returns-then-branch-gt-MOST_VARIABLES-clause-answers
returns-then-branch-gt-MOST_VARIABLES-clause-answers c =
    let f = c.args.source.now in
    let count = c.in_ok-count_of.ensures ∙ ap (λ (vs : List CdfVar). length (others_in f vs)) c.vars.ensures.vars in
    let many = c.if-branch-gt-MOST_VARIABLES.true in
    set_too_large f c.args.mask (omega arith)

pub returns-clause-answers : goal.returns-clause-answers
returns-clause-answers c =
    let f = c.args.source.now in
    let count = c.in_ok-count_of.ensures ∙ ap (λ (vs : List CdfVar). length (others_in f vs)) c.vars.ensures.vars in
    let few = c.if-branch-gt-MOST_VARIABLES.false in
    (set_is f c.args.mask (omega arith) ∙ ap Ok (sym c.in_ok-whole_set.ensures.set), c.in_ok-whole_set.ensures.formed)
