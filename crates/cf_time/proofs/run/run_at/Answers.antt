use Rattle.std.proofs.Common.{sym, subst}
use Rattle.xr_times.specs.Bins.{IsBin}
use Rattle.cf_time.proofs.run.run_at.Goals as goal

pub returns-in-Months-clause-bin : goal.returns-in-Months-clause-bin
returns-in-Months-clause-bin c = subst (λ f. IsBin c.args.calendar f c.args.first c.of_month.result.number) (sym c.in-Months.is) (c.of_month.ensures.bin c.args.first)

pub returns-in-Years-clause-bin : goal.returns-in-Years-clause-bin
returns-in-Years-clause-bin c = subst (λ f. IsBin c.args.calendar f c.args.first c.of_year.result.number) (sym c.in-Years.is) (c.of_year.ensures.bin c.args.first)
