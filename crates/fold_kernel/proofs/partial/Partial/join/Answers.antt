use Rattle.std.proofs.Common.{SFits, rules, ◌∙◌}
use Rattle.std.specs.Int.{w64}
use Rattle.std.proofs.lemmas.Int.{to_z-of_z}
use Rattle.fold_kernel.proofs.Joins.{join_stands}
use Rattle.fold_kernel.proofs.partial.Partial.join.Goals as goal

pub returns-clause-stands : goal.returns-clause-stands
returns-clause-stands c =
    let fits : SFits w64 c.joined-self-inside.result = record { sfits = c.joined-self-inside.type_inv } in
    let fits_here : SFits w64 c.self.inside.number = search rules in
    let fits_later : SFits w64 c.later.inside.number = search rules in
    let same = to_z-of_z w64 c.joined-self-inside.result fits in
    let here = to_z-of_z w64 c.self.inside.number fits_here in
    let later = to_z-of_z w64 c.later.inside.number fits_later in
    let joined = rw (here, later) at c.joined-self-inside.ensures in
    join_stands c.args.self.now c.args.later.now c.self.inside.kind c.later.inside.kind c.self.inside.of c.later.inside.of c.self.inside.number c.later.inside.number _ c.self.inside.found c.later.inside.found _ c.self.view_is c.later.view_is c.requires.kind c.requires.of (same ∙ joined) c.choose-self-inside.ensures
