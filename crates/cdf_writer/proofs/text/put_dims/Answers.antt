use Rattle.std.proofs.Common.{◌≡◌, ◌<◌, ◌≤◌, ◌++◌, length, get_or, sym, ap, ◌∙◌, arith}
use Rattle.std.specs.List.{flat_map}
use Rattle.std.proofs.lemmas.List.{take_all}
use Rattle.xr_files.specs.Canonical.{dim_text}
use Rattle.cdf_writer.specs.Sizes.{list_front}
use Rattle.cdf_writer.proofs.Lengths.{flat_step, list_is}
use Rattle.cdf_writer.proofs.text.put_dims.Goals as goal

pub loop-dim-preserved : goal.loop-dim-preserved
loop-dim-preserved c =
    let dims = c.args.file.now.dims in
    let version = c.args.file.now.version in
    let i = c.loop-dim.dim-index in
    let dim = c.dim-item.result in
    let lt : i < length dims = omega (arith, ap length c.as_slice-dims.ensures) in
    let is : get_or dims i dim ≡ dim = cc in
    flat_step (dim_text version) dims i dim c.args.out.now.items (list_front version 10 (length dims)) c.loop-dim.out.items c.put_dim.new.out.items lt is c.loop-dim.invariant c.in_ok-put_dim.ensures

pub returns : goal.returns
returns c =
    let dims = c.args.file.now.dims in
    let version = c.args.file.now.version in
    let front = list_front version 10 (length dims) in
    let le : length dims ≤ c.loop-dim.dim-index = omega (arith, ap length c.as_slice-dims.ensures) in
    c.loop-dim.invariant
    ∙ ap (λ l. c.args.out.now.items ++ (front ++ flat_map (dim_text version) l)) (take_all c.loop-dim.dim-index dims le)
    ∙ ap (λ l. c.args.out.now.items ++ l) (sym (list_is version 10 (dim_text version) dims))
