use Rattle.xr_building.proofs.Common.{[], ap, length, meaning, sym, ◌∙◌}
use Rattle.xr_building.proofs.Described.{nested-length, bare_open}
use Rattle.xr_building.proofs.plain.over_bare.Goals as goal

pub bare_axes-requires : goal.bare_axes-requires
bare_axes-requires c = sym (ap length (c.as_slice.ensures ∙ c.in_ok-shape.ensures []) ∙ nested-length (length c.args.dims.now) (meaning [] c.args.content.now))

pub returns-clause-bare : goal.returns-clause-bare
returns-clause-bare c = record { name = c.in_ok-header.ensures.name; kind = c.in_ok-header.ensures.number; each = rw c.in_ok-axes.ensures (bare_open c.args.dims.now c.as_slice.result.now c.requires.names) }
