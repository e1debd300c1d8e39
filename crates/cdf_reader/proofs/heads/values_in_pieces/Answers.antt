use Rattle.std.proofs.Common.{sym, subst, Option}
use Rattle.std.specs.Prelude.{◌≡◌, IfSome}
use Rattle.xr_arrays.specs.Pieces.{together}
use Rattle.xr_arrays.specs.declared.pieces.Pieces.{Pieces}
use Rattle.cdf_reader.specs.Heads.{header_seen, var_seen}
use Rattle.cdf_reader.proofs.heads.values_in_pieces.Goals as goal

pub returns-in-Some-clause-values : goal.returns-in-Some-clause-values
returns-in-Some-clause-values c =
    let distance = rw (c.as_slice-dims.ensures, c.as_slice.ensures) at c.distance_of.ensures in
    subst (λ (found : Option Pieces). IfSome found (λ p. together c.args.kind p ≡ (var_seen c.args.bytes.now c.args.head.now c.args.var.now).raw)) c.in-Some.is
    (c.in_ok-pieces.ensures.values (header_seen c.args.head.now) (sym c.as_slice-dims.ensures) distance)
