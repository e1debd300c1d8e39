use Rattle.xr_building.proofs.Common.{All, FollowsArray, IsEntryIn, IsFilled, IsFrame, [], after, ap, coords_held, entries_held, fits_kind, limited, list_all, over, refused, subst, sym, with_written, ◌∙◌}
use Rattle.xr_building.proofs.After.{after_sizes}
use Rattle.xr_building.proofs.Described.{described, filled_after, fits, follows_array}
use Rattle.xr_building.proofs.Framed.{entries_frame}
use Rattle.xr_building.proofs.Kept.{all_in}
use Rattle.xr_building.proofs.Tables.{entries_inside}
use Rattle.xr_building.proofs.written.written_out.Goals as goal

pub put_entries-requires-clause-inside : goal.put_entries-requires-clause-inside
put_entries-requires-clause-inside g c = λ κs live. subst (All (IsEntryIn c.args.cx.now.plan)) (sym c.in_ok-written.ensures.entries) (entries_inside c.args.cx.now.plan c.args.args.now c.requires.given)

pub put_entries-requires-clause-checked : goal.put_entries-requires-clause-checked
put_entries-requires-clause-checked g c = λ κs live.
    let w = c.in_ok-written.written in
    rw (c.as_slice.ensures, c.in_ok-written.ensures.entries) (described c.args.cx.now.plan c.args.args.now (with_written w.header (over w.axes []) w.cells) (c.in_ok-written.ensures.answers c.args.cx.now.plan)).checked

pub place-requires-clause-filled : goal.place-requires-clause-filled
place-requires-clause-filled g c =
    let nodes = c.args.cx.now.plan in
    let args = c.args.args.now in
    let w = c.in_ok-written.written in
    let kvs = entries_held (coords_held args) in
    let start = over w.axes [] in
    let puts = c.in_ok-puts.puts in
    let named = rw c.in_ok-written.ensures.entries at c.in_ok-puts.ensures.named in
    let told = rw (c.as_slice.ensures, c.in_ok-written.ensures.entries) at (c.in_ok-puts.ensures.told []) in
    let fits = (rw c.in_ok-written.ensures.entries at c.in_ok-puts.ensures.fits) ∙ (rw c.as_slice-3.ensures at c.in_ok-draft.ensures.fit) in
    let is = described nodes args (with_written w.header start w.cells) (c.in_ok-written.ensures.answers nodes) in
    let left = λ (frame : IsFrame w.axes []). entries_frame (g.C.Compute.declines c.args.cx.now.compute nodes) nodes [] start (after start puts) kvs (entries_inside nodes args c.requires.given) named is.checked is.placed fits told frame in
    let same = c.in_ok-draft.ensures.frame ∙ ap (after _) c.as_slice-3.ensures ∙ ap (λ cs. after (over w.axes cs) puts) c.new.ensures in
    subst (λ f. IsFilled (with_written w.header f c.as_slice-4.result.now)) (sym same)
    (subst (λ cs. IsFilled (with_written w.header (after start puts) cs)) (sym c.as_slice-4.ensures) (filled_after nodes kvs w.header w.axes w.cells (after start puts) is c.in_ok-written.ensures.bare left))

pub place-requires-clause-range : goal.place-requires-clause-range
place-requires-clause-range g c =
    let w = c.in_ok-written.written in
    rw c.as_slice-4.ensures (all_in w.header.kind w.cells (ap (list_all (fits_kind w.header.kind)) (sym c.as_slice-2.ensures) ∙ sym c.if-not-all_fit.ensures))

pub returns-clause-told : goal.returns-clause-told
returns-clause-told g c =
    let nodes = c.args.cx.now.plan in
    let w = c.in_ok-written.written in
    let start = over w.axes [] in
    let puts = c.in_ok-puts.puts in
    let put = rw (c.as_slice.ensures, c.in_ok-written.ensures.entries) at (c.in_ok-puts.ensures.told []) in
    let numbers = (rw c.in_ok-written.ensures.entries at c.in_ok-puts.ensures.fits) ∙ (rw c.as_slice-3.ensures at c.in_ok-draft.ensures.fit) in
    let fit = ap (list_all (fits_kind w.header.kind)) (sym c.as_slice-2.ensures) ∙ sym c.if-not-all_fit.ensures in
    let told = fits (g.C.Compute.declines c.args.cx.now.compute nodes) nodes c.args.args.now (with_written w.header start w.cells) (c.in_ok-written.ensures.answers nodes) (after start puts) put fit numbers (after_sizes start puts) in
    let same = c.in_ok-draft.ensures.frame ∙ ap (after _) c.as_slice-3.ensures ∙ ap (λ cs. after (over w.axes cs) puts) c.new.ensures in
    let follows = FollowsArray c.place.new.plan c.place.result in
    subst follows (sym told)
    (subst (λ cs. follows (refused (limited (with_written w.header (after start puts) cs)))) c.as_slice-4.ensures
    (subst (λ f. follows (refused (limited (with_written w.header f c.as_slice-4.result.now)))) same (follows_array c.place.new.plan c.place.result _ c.place.ensures.answers)))
