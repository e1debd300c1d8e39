use Rattle.xr_aligning.proofs.Reaching.{fit_staying, reaches_staying, reaches_taking}
use Rattle.xr_aligning.proofs.fits.fit_of.Goals as goal

pub returns-in_ok-fit-clause-fit : goal.returns-in_ok-fit-clause-fit
returns-in_ok-fit-clause-fit c = fit_staying c.args.joined.now c.args.own.now c.joined_in-new.result.now c.joined_in-new.ensures c.stays.result c.stays.ensures.stays c.if-stays.true c.in_ok-fit.fit c.in_ok-fit.ensures.fit

pub returns-in_ok-fit-clause-arrives : goal.returns-in_ok-fit-clause-arrives
returns-in_ok-fit-clause-arrives c = reaches_staying c.args.joined.now c.args.own.now c.joined_in-new.result.now c.joined_in-new.ensures c.stays.result c.stays.ensures.stays c.if-stays.true c.in_ok-fit.ensures.kept

pub returns-in_ok-fit-2-clause-arrives : goal.returns-in_ok-fit-2-clause-arrives
returns-in_ok-fit-2-clause-arrives c = reaches_taking c.args.joined.now c.args.own.now c.joined_in-new.result.now c.joined_in-new.ensures c.stays.result c.stays.ensures.stays c.if-stays.false c.in_ok-fit-2.ensures.long c.in_ok-fit-2.ensures.below
