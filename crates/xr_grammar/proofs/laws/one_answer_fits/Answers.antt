use Rattle.xr_grammar.proofs.Faults.{one_tree, one_fault, not_both}
use Rattle.xr_grammar.proofs.laws.one_answer_fits.Goals as goal

pub returns : goal.returns
returns c = record { tree = one_tree; fault = one_fault; either = not_both }
