use Rattle.std.proofs.Common.{inl, inr}
use Rattle.fold_kernel.proofs.Ones.{no_product, no_all, no_number}
use Rattle.fold_kernel.proofs.partial.empty_number.Goals as goal

pub returns-in-Prod : goal.returns-in-Prod
returns-in-Prod c = elim c.in-Prod.is [ inl is ↦ rw is no_product | inr is ↦ rw is no_all ]

pub returns-in_default : goal.returns-in_default
returns-in_default c = no_number c.args.kind c.in_default.not-Prod c.in_default.not-All
