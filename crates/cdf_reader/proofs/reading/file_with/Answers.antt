use Rattle.std.proofs.Common.{map, sym, ap, ◌∙◌}
use Rattle.cdf_reader.specs.Heads.{header_seen, var_seen}
use Rattle.cdf_reader.proofs.Seen.{is_seen}
use Rattle.cdf_reader.proofs.reading.file_with.Goals as goal

pub returns : goal.returns
returns c =
    let head = c.args.head in
    let bytes = c.args.bytes.now in
    let distance = rw (c.as_slice-2.ensures, c.as_slice-3.ensures) at c.distance_of.ensures in
    is_seen bytes head c.in_ok-vars.vars (c.in_ok-vars.ensures (header_seen head) (sym c.as_slice.ensures) distance ∙ ap (map (var_seen bytes head)) c.into_vec.ensures)
