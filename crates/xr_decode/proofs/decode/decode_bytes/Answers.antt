use Rattle.cdf_reader.specs.Heads.{file_seen}
use Rattle.xr_decode.proofs.Ranges.{byte_at}
use Rattle.xr_decode.proofs.Spelled.{spelled_is_readable}
use Rattle.xr_decode.proofs.decode.decode_bytes.Goals as goal

pub of_head-requires-clause-readable : goal.of_head-requires-clause-readable
of_head-requires-clause-readable c =
    let all = c.as_slice-all.result.now in
    rw c.as_slice-all.ensures at (spelled_is_readable all (file_seen all c.in-Ok.head) (λ i. byte_at all i c.are_bytes.ensures) c.in-Ok.ensures.exact)
