use Rattle.std.proofs.Common.{w64, FitsSigned}
use Rattle.std.proofs.lemmas.Int.{to_z-of_z}
use Rattle.cf_calendar.proofs.Listed.{number_date}
use Rattle.cf_calendar.proofs.number.day_of.Goals as goal

pub returns-in-None : goal.returns-in-None
returns-in-None c =
    let year : FitsSigned w64 c.args.year = c.ranges.year in
    let month : FitsSigned w64 c.args.month = c.ranges.month in
    let day : FitsSigned w64 c.args.day = c.ranges.day in
    let none = simp to_z-of_z at c.in-None.ensures in
    λ n h. none h.date (number_date c.args.calendar h.date n h.number) h.named
