-- What the slots find is the one position; where they find none, there is none.
use Rattle.std.proofs.Common.{rules, ◌≡◌, ◌∙◌, sym, ap, ℕ, ℤ, List, Option, Some, None}
use Rattle.label_index.specs.Slots.{numbers_of, number_of, shown, look}
use Rattle.label_index.proofs.Hashing.{hashed_one, hashed_none}
use Rattle.label_index.proofs.hash.find.Goals as goal

looked : (xs ys : List ℤ) (slots : List ℕ) (n m : ℤ) (found : Option ℕ) → found ≡ look xs slots n → xs ≡ ys → n ≡ m → look ys slots m ≡ found
looked xs ys slots n m found e f g = ap (look ys slots) (sym g) ∙ ap (λ l. look l slots n) (sym f) ∙ sym e

pub returns-in-Some : goal.returns-in-Some
returns-in-Some c =
    let found : look (numbers_of c.args.list.now) c.args.slots.now (number_of c.args.label.now) ≡ Some c.from.result =
    let found : c.look.result ≡ look (shown c.numbers.result) c.args.slots.now c.number.result = search rules in
    looked (shown c.numbers.result) _ c.args.slots.now c.number.result _ c.look.result found c.numbers.ensures c.number.ensures ∙ c.in-Some.is ∙ ap Some (sym c.from.ensures) in
    sym (hashed_one c.args.list.now c.args.slots.now c.args.label.now c.from.result c.requires.hashed c.requires.kin found)

pub returns-in-None : goal.returns-in-None
returns-in-None c =
    let none : look (numbers_of c.args.list.now) c.args.slots.now (number_of c.args.label.now) ≡ None =
    let found : c.look.result ≡ look (shown c.numbers.result) c.args.slots.now c.number.result = search rules in
    looked (shown c.numbers.result) _ c.args.slots.now c.number.result _ c.look.result found c.numbers.ensures c.number.ensures ∙ c.in-None.is in
    sym (hashed_none c.args.list.now c.args.slots.now c.args.label.now c.requires.hashed c.requires.kin none)
