use Rattle.xr_files.proofs.RecordLaws.{records_lie, records_most, no_records}
use Rattle.cdf_reader.proofs.laws.most_records.Goals as goal

pub returns-clause-lie : goal.returns-clause-lie
returns-clause-lie c = records_lie

pub returns-clause-most : goal.returns-clause-most
returns-clause-most c = records_most

pub returns-clause-none : goal.returns-clause-none
returns-clause-none c = no_records
