use Rattle.xr_files.specs.Canonical.{canonical}
use Rattle.xr_files.proofs.FileLaws.{spelled_is_given}
use Rattle.cdf_writer.proofs.Again.{spelled}
use Rattle.cdf_writer.proofs.laws.reads_again.Goals as goal

pub returns-clause-spelled : goal.returns-clause-spelled
returns-clause-spelled c = spelled c.args.file.now c.requires.file c.requires.held c.requires.small

pub returns-clause-read : goal.returns-clause-read
returns-clause-read c = spelled_is_given (canonical c.args.file.now) c.args.file.now (spelled c.args.file.now c.requires.file c.requires.held c.requires.small)
