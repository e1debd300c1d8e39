use Rattle.cdf_reader.proofs.KnownNames.{known_more}
use Rattle.cdf_reader.proofs.names.add.Goals as goal

pub returns-clause-known : goal.returns-clause-known
returns-clause-known c = known_more c.args.known.now c.insert.new.self c.args.text.now c.in_ok-before.ensures.updates
