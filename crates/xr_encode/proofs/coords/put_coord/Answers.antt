use Rattle.std.proofs.Common.{ap, ◌∙◌, arith, map}
use Rattle.std.specs.List.{prefix_len, insert}
use Rattle.xr_defs.specs.Printing.{is_below}
use Rattle.xr_encode.proofs.Sorted.{put_is}
use Rattle.xr_encode.proofs.coords.put_coord.Goals as goal

pub insert-requires : goal.insert-requires
insert-requires c = omega (arith, c.as_slice.ensures.len, c.place_of-place.ensures.inside)

pub returns : goal.returns
returns c =
    let items = c.args.sorted.now.items in
    let place = c.place_of-place.ensures.place ∙ ap (prefix_len (λ d. is_below d.now.name c.args.coord.now.name)) c.as_slice.ensures.value in
    ap (map (λ d. d.now)) c.in_ok-insert.ensures.items ∙ ap (λ n. map (λ d. d.now) (insert items n c.args.coord)) place ∙ put_is (λ d. d.now) c.args.coord items
