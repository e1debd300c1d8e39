use Rattle.xr_script.proofs.Parsing.{reads, refuses}
use Rattle.xr_script.proofs.script.parse.Goals as goal

pub returns-clause-every_script : goal.returns-clause-every_script
returns-clause-every_script c = reads c.args.bytes.now c.parsed.result c.parsed.ensures.script c.parsed.ensures.fault

pub returns-clause-every_fault : goal.returns-clause-every_fault
returns-clause-every_fault c = refuses c.args.bytes.now c.parsed.result c.parsed.ensures.script c.parsed.ensures.fault
