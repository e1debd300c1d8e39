use Rattle.unit_spellings.proofs.Read.{exact, others, one_meaning}
use Rattle.unit_spellings.proofs.laws.units_are_spelled.Goals as goal

pub returns : goal.returns
returns c = record { exact = exact; others = others; one = one_meaning }
