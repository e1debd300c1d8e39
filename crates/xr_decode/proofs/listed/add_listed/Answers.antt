use Rattle.std.proofs.Common.{◌∙◌, ◌++◌, ap, sym, subst, map, option_map}
use Rattle.xr_decode.specs.Listed.{Lists}
use Rattle.xr_decode.proofs.ListedNames.{listed_words}
use Rattle.xr_decode.proofs.listed.add_listed.Goals as goal

pub returns-in_ok-add_words-in-Some : goal.returns-in_ok-add_words-in-Some
returns-in_ok-add_words-in-Some c = λ names lists.
    let parts = ap (map (λ x. x.now)) c.deref.ensures.value ∙ c.in_ok-parts-in-Some.ensures in
    let same = listed_words c.args.attrs.now c.in-Some.text.now _ (sym c.text_attr.ensures ∙ ap (option_map (λ t. t.now)) c.in-Some.is) parts in
    subst (λ ws. Lists c.add_words.new.listed (names ++ ws)) same (c.in_ok-add_words-in-Some.ensures names lists)
