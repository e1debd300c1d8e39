use Rattle.xr_parts.proofs.Common.{None, Some}
use Rattle.xr_parts.proofs.Naming.{own_name_is}
use Rattle.xr_parts.proofs.names.own_name.Goals as goal

pub returns-in-Some-clause-answers : goal.returns-in-Some-clause-answers
returns-in-Some-clause-answers c = λ nodes. own_name_is nodes c.args.on.now (Some c.in-Some.name) c.in-Some.is

pub returns-in-None-clause-answers : goal.returns-in-None-clause-answers
returns-in-None-clause-answers c = λ nodes. own_name_is nodes c.args.on.now None c.in-None.is
