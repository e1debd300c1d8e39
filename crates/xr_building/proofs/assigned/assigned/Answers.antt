use Rattle.xr_building.proofs.Common.{after, names_of, over, ◌∙◌}
use Rattle.xr_building.proofs.Framed.{entries_frame}
use Rattle.xr_building.proofs.assigned.assigned.Goals as goal

pub returns-clause-stays : goal.returns-clause-stays
returns-clause-stays g c = λ frame.
    let nodes = c.args.cx.now.plan in
    let start = over c.args.axes.now c.args.coords.now in
    let checked = rw (c.as_slice.ensures, c.as_slice-entries.ensures.value) at (c.in_ok-check_entries.ensures nodes) in
    let placed = rw (c.as_slice-2.ensures, c.as_slice-entries.ensures.value) at (c.in_ok-check_places.ensures nodes) in
    let named = rw c.as_slice-entries.ensures.value at c.in_ok-puts.ensures.named in
    let fits = rw c.as_slice-entries.ensures.value at c.in_ok-puts.ensures.fits in
    let told = rw (c.as_slice-3.ensures, c.as_slice-entries.ensures.value) at (c.in_ok-puts.ensures.told c.args.coords.now) in
    let held = rw c.as_slice-4.ensures at c.in_ok-draft.ensures.fit in
    rw (c.in_ok-draft.ensures.frame, c.in_ok-deep_copy.ensures, c.in_ok-copy_coords.ensures, c.as_slice-4.ensures)
    (entries_frame (g.C.Compute.declines c.args.cx.now.compute nodes) nodes (names_of c.args.variables.now) start (after start c.in_ok-puts.puts) c.args.args.now.keyed.items c.requires.given.keyed named checked placed (fits ∙ held) told frame)
