use Rattle.std.proofs.Common.{arith}
use Rattle.cdf_reader.proofs.Found.{spelled_found, fault_met}
use Rattle.cdf_reader.proofs.reading.read.Goals as goal

pub returns-clause-found : goal.returns-clause-found
returns-clause-found c = spelled_found c.args.bytes.now c.read_exactly.result (λ i. omega (arith, c.type_inv.bytes i)) c.read_exactly.ensures

pub returns-clause-fault : goal.returns-clause-fault
returns-clause-fault c = fault_met c.args.bytes.now c.read_exactly.result (λ i. omega (arith, c.type_inv.bytes i)) c.read_exactly.ensures
