use Rattle.std.proofs.Common.{rules, ◌≡◌, ℕ, List, length, take, drop, min, ◌∙◌, ap}
use Rattle.std.proofs.lemmas.List.{take_min}
use Rattle.label_index.proofs.hash.reach.Goals as goal

near_is : (xs rest near : List ℕ) (h k : ℕ) → rest ≡ drop h xs → k ≡ min 256 (length rest) → near ≡ take k rest → near ≡ take 256 (drop h xs)
near_is xs rest near h k e f g = g ∙ ap (λ m. take m rest) f ∙ take_min 256 rest ∙ ap (take 256) e

pub returns : goal.returns
returns c =
    let count : c.min.result ≡ min 256 (length c.split_at.result.1.now) = search rules in
    near_is c.args.slots.now c.split_at.result.1.now c.split_at-2.result.0.now c.args.from c.min.result c.split_at.ensures.back count c.split_at-2.ensures.front
