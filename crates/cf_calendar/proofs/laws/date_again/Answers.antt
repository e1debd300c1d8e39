use Rattle.std.proofs.Common.{w64, FitsSigned, rules}
use Rattle.std.proofs.lemmas.Int.{to_z-of_z}
use Rattle.cf_calendar.proofs.Listed.{named_again}
use Rattle.cf_calendar.proofs.laws.date_again.Goals as goal

pub returns-in-Some-date_of : goal.returns-in-Some-date_of
returns-in-Some-date_of c =
    let year : FitsSigned w64 c.args.year = c.ranges.year in
    let month : FitsSigned w64 c.args.month = c.ranges.month in
    let day : FitsSigned w64 c.args.day = c.ranges.day in
    let number : FitsSigned w64 c.in-Some.number = search rules in
    let is = simp to_z-of_z at c.in-Some.ensures in
    let date = simp to_z-of_z at c.in-Some-date_of.ensures in
    let named = simp to_z-of_z at c.is_named.ensures in
    named.1 (named_again c.args.calendar c.in-Some-date_of.again c.args.year c.args.month c.args.day c.in-Some.number is date)

pub returns-in-None : goal.returns-in-None
returns-in-None c =
    let year : FitsSigned w64 c.args.year = c.ranges.year in
    let month : FitsSigned w64 c.args.month = c.ranges.month in
    let day : FitsSigned w64 c.args.day = c.ranges.day in
    let number : FitsSigned w64 c.in-Some.number = search rules in
    let is = simp to_z-of_z at c.in-Some.ensures in
    let none = simp to_z-of_z at c.in-None.ensures in
    absurd (none is.date is.number)
