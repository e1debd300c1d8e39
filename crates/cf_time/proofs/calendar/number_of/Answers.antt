use Rattle.std.proofs.Common.{arith, ◌≡◌, ◌+ℤ◌, pos, subst, sym, ap, ◌∙◌, rules}
use Rattle.std.proofs.lemmas.Int.{ints}
use Rattle.xr_types.specs.declared.axis.Calendar.TheVariants.{Civil}
use Rattle.xr_times.specs.Times.{IsDate, day_number}
use Rattle.cf_time.proofs.Linked.{at_date}
use Rattle.cf_time.proofs.Alike.{alike, is_listed, place_is}
use Rattle.cf_time.proofs.calendar.number_of.Goals as goal

pub overflow_cast-result : goal.overflow_cast-result
overflow_cast-result c =
    let date : IsDate Civil c.args.year c.args.month c.args.day = subst (λ a. IsDate a c.args.year c.args.month c.args.day) c.in-Civil.is c.requires in
    let e : c.to_unix_epoch_day.result +ℤ pos 719162 ≡ pos (day_number Civil c.args.year c.args.month c.args.day) =
    at_date c.to_unix_epoch_day.result c.constrain.result.year _ c.constrain.result.month c.constrain.result.day c.args.year c.args.month c.args.day c.to_unix_epoch_day.ensures.value c.constrain.ensures.year (omega (arith, ints)) c.constrain.ensures.month c.constrain.ensures.day date in
    search (rules, ints)

pub returns-in-Civil : goal.returns-in-Civil
returns-in-Civil c =
    let date : IsDate Civil c.args.year c.args.month c.args.day = subst (λ a. IsDate a c.args.year c.args.month c.args.day) c.in-Civil.is c.requires in
    let e : c.to_unix_epoch_day.result +ℤ pos 719162 ≡ pos (day_number Civil c.args.year c.args.month c.args.day) =
    at_date c.to_unix_epoch_day.result c.constrain.result.year _ c.constrain.result.month c.constrain.result.day c.args.year c.args.month c.args.day c.to_unix_epoch_day.ensures.value c.constrain.ensures.year (omega (arith, ints)) c.constrain.ensures.month c.constrain.ensures.day date in
    let number : day_number Civil c.args.year c.args.month c.args.day ≡ day_number c.args.calendar c.args.year c.args.month c.args.day = ap (λ a. day_number a c.args.year c.args.month c.args.day) (sym c.in-Civil.is) in
    omega (arith, ints, e, number)

pub place-requires : goal.place-requires
place-requires c =
    let served = alike c.args.calendar c.in-NoLeap.is in
    record { served = served; date = is_listed c.args.calendar c.args.year c.args.month c.args.day served c.requires }

pub returns-in-NoLeap : goal.returns-in-NoLeap
returns-in-NoLeap c = c.place.ensures.value ∙ place_is c.args.calendar c.args.year c.args.month c.args.day (alike c.args.calendar c.in-NoLeap.is) c.requires.month_to
