use Rattle.std.proofs.Common.{◌≡◌, [], arith}
use Rattle.std.proofs.lemmas.Grind.{common_steps}
use Rattle.cdf_reader.specs.Gathered.{strip_of}
use Rattle.cdf_reader.proofs.Columns.{all_moved}
use Rattle.cdf_reader.proofs.gather.with_records.Goals as goal

pub returns-clause-strips : goal.returns-clause-strips
returns-clause-strips c =
    let none : c.loop-column.columns.items ≡ [] = grind (arith, common_steps) in
    rw c.reverse.ensures.items (all_moved strip_of strip_of c.loop-column.columns.items c.loop-column.more.items _ none c.loop-column.invariant.strips)
