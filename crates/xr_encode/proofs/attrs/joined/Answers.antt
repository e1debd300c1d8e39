use Rattle.std.proofs.Common.{◌++◌, ◌∷◌, [], ap, ◌∙◌}
use Rattle.xr_encode.proofs.Attributes.{joined_more}
use Rattle.xr_encode.proofs.attrs.joined.Goals as goal

pub loop-name-preserved : goal.loop-name-preserved
loop-name-preserved c =
    let t = c.loop-name.text.items in
    let put = c.in_ok-extend_from_slice.ensures.items ∙ ap (λ l. l ++ c.as_bytes-in-loop-name.result.now) c.in_ok-push.ensures.items ∙ ap (λ n. (t ++ 32 ∷ []) ++ n) c.as_bytes-in-loop-name.ensures in
    joined_more c.args.rest.now c.loop-name.name-index t c.extend_from_slice.new.self.items c.name-item.result _ c.loop-name-test.true c.name-item.is put c.loop-name.invariant
