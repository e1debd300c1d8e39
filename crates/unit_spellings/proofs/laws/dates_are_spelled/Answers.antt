use Rattle.unit_spellings.proofs.DatesRead.{date_exact, other_dates, one_period}
use Rattle.unit_spellings.proofs.laws.dates_are_spelled.Goals as goal

pub returns : goal.returns
returns c = record { exact = date_exact; others = other_dates; one = one_period }
