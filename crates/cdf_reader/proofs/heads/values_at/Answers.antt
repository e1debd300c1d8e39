use Rattle.std.proofs.Common.{List, take, drop, ap, ◌∙◌}
use Rattle.xr_files.specs.declared.file.CdfDim.{CdfDim}
use Rattle.xr_files.specs.Files.{head_size}
use Rattle.cdf_reader.proofs.heads.values_at.Goals as goal

pub returns-clause-fixed : goal.returns-clause-fixed
returns-clause-fixed c = λ fixed.
    let var = c.args.var.now in
    rw fixed (c.fixed_values.ensures ∙ ap (λ (dims : List CdfDim). take (head_size dims var) (drop var.begin c.args.bytes.now)) c.as_slice.ensures)
