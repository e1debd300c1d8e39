use Rattle.std.proofs.Common.{◌≡◌, w64, FitsSigned, rules}
use Rattle.std.proofs.lemmas.Int.{to_z-of_z}
use Rattle.cf_calendar.specs.Dates.{IsNamed}
use Rattle.cf_calendar.proofs.Listed.{day_again}
use Rattle.cf_calendar.proofs.laws.number_again.Goals as goal

pub returns-in-Some-day_of : goal.returns-in-Some-day_of
returns-in-Some-day_of c =
    let number : FitsSigned w64 c.args.number = c.ranges.number in
    let year : FitsSigned w64 c.from.result = search rules in
    let month : FitsSigned w64 c.from-2.result = search rules in
    let day : FitsSigned w64 c.from-3.result = search rules in
    let named : IsNamed c.in-Some.date c.from.result c.from-2.result c.from-3.result = search rules in
    let date = simp to_z-of_z at c.in-Some.ensures in
    let is = simp to_z-of_z at c.in-Some-day_of.ensures in
    let same : c.in-Some-day_of.again ≡ c.args.number = day_again c.args.calendar c.in-Some.date c.from.result c.from-2.result c.from-3.result c.args.number c.in-Some-day_of.again date named is in
    search (rules, same)

pub returns-in-None : goal.returns-in-None
returns-in-None c =
    let number : FitsSigned w64 c.args.number = c.ranges.number in
    let year : FitsSigned w64 c.from.result = search rules in
    let month : FitsSigned w64 c.from-2.result = search rules in
    let day : FitsSigned w64 c.from-3.result = search rules in
    let named : IsNamed c.in-Some.date c.from.result c.from-2.result c.from-3.result = search rules in
    let date = simp to_z-of_z at c.in-Some.ensures in
    let none = simp to_z-of_z at c.in-None.ensures in
    absurd (none c.args.number (record { date = c.in-Some.date; named = named; number = date }))
