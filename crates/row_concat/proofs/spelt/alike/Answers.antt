use Rattle.std.proofs.lemmas.Bool.Decides.{Decides-int_eq}
use Rattle.std.proofs.lemmas.Slice.Eq.{slice_eq-Decides}
use Rattle.row_concat.proofs.spelt.alike.Goals as goal

pub returns-then-eq-clause-fills : goal.returns-then-eq-clause-fills
returns-then-eq-clause-fills c = (slice_eq-Decides Decides-int_eq c.args.parts.now.fills.now c.args.fills.now c.eq-then-eq.result c.eq-then-eq.ensures).0
