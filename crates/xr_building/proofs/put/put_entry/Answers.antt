use Rattle.xr_building.proofs.Common.{Follows, IfOk, after, fits_whole, is_array, names_of, over, put_fits, put_on, subst, sym, ◌≡◌}
use Rattle.xr_arguments.proofs.Inside.{held_array}
use Rattle.xr_building.proofs.Entering.{alone, array_is, plain, plain_told}
use Rattle.xr_building.proofs.put.put_entry.Goals as goal

pub put_array-requires-clause-inside : goal.put_array-requires-clause-inside
put_array-requires-clause-inside g c = λ κs live. held_array c.args.cx.now.plan c.args.entry.now.1 c.in-Array.array c.deref.result.now c.in-Array.is c.deref.ensures c.requires.inside

pub put_array-requires-clause-alone : goal.put_array-requires-clause-alone
put_array-requires-clause-alone g c = λ κs live. alone c.args.cx.now.plan c.args.axes.now c.args.entry.now c.in-Array.array c.deref.result.now c.in-Array.is c.deref.ensures c.requires.checked

pub put_plain-requires : goal.put_plain-requires
put_plain-requires g c = plain c.args.entry.now.1 c.in_default.not-Array

pub returns-in-Array-clause-told : goal.returns-in-Array-clause-told
returns-in-Array-clause-told g c = λ coords.
    let f = after (over c.args.axes.now coords) c.args.puts.now in
    subst (Follows (put_on f) c.put_array.result) (sym (array_is (g.C.Compute.declines c.args.cx.now.compute c.args.cx.now.plan) c.args.cx.now.plan (names_of c.args.variables.now) f c.args.entry.now c.in-Array.array c.deref.result.now c.in-Array.is c.deref.ensures))
    (c.put_array.ensures.told coords)

pub returns-in-Array-clause-fits : goal.returns-in-Array-clause-fits
returns-in-Array-clause-fits g c = subst (λ m. IfOk c.put_array.result (λ p. put_fits p ≡ fits_whole m)) (sym (is_array c.args.cx.now.plan c.args.entry.now.1 c.in-Array.array c.in-Array.is)) c.put_array.ensures.fits

pub returns-in_default-clause-told : goal.returns-in_default-clause-told
returns-in_default-clause-told g c = λ coords.
    plain_told (g.C.Compute.declines c.args.cx.now.compute c.args.cx.now.plan) c.args.cx.now.plan (names_of c.args.variables.now) (after (over c.args.axes.now coords) c.args.puts.now) c.args.entry.now c.put_plain.result (plain c.args.entry.now.1 c.in_default.not-Array)
    (c.put_plain.ensures.answers c.args.cx.now.plan coords c.args.puts.now)
