use Rattle.std.proofs.Common.{◌∙◌, ap, List, ℕ, is_some}
use Rattle.std.specs.BTreeMap.{get_by}
use Rattle.std.specs.Cmp.Lexicographic.{slice_cmp}
use Rattle.std.specs.Ordering.{nat_cmp}
use Rattle.xr_decode.proofs.listed.is_listed.Goals as goal

pub returns : goal.returns
returns c = λ names lists. c.contains_key.ensures ∙ ap (λ (t : List ℕ). is_some (get_by (λ k. slice_cmp nat_cmp t k.now) c.args.listed.now)) c.as_bytes.ensures ∙ lists c.args.name.now
