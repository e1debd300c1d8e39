use Rattle.std.proofs.Common.{map, reverse, ap, ◌∙◌}
use Rattle.std.proofs.lemmas.List.{reverse-reverse}
use Rattle.xr_decode.specs.Sought.{values_seen}
use Rattle.xr_decode.proofs.Found.{of_heads}
use Rattle.xr_decode.proofs.sought.found_in.Goals as goal

pub returns : goal.returns
returns c =
    let seen = values_seen c.args.bytes.now c.args.head.now in
    ap reverse c.reverse.ensures.items
    ∙ reverse-reverse c.in_ok-found.found.items
    ∙ c.in_ok-found.ensures
    ∙ ap (map _) c.as_slice.ensures.value
    ∙ of_heads seen c.in_ok-sought.sought.items
    ∙ ap (map seen) c.in_ok-sought.ensures
