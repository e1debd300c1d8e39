use Rattle.std.proofs.Common.{ap, sym, subst, map, ◌∙◌}
use Rattle.clap.specs.Words.{App, HasMatchesOf, fault_of, is_simple_and_free}
use Rattle.xr_run.proofs.Parse.{is_free_command, is_simple_command, value_is}
use Rattle.xr_run.specs.Words.{command}
use Rattle.xr_run.proofs.words.parsed.Goals as goal

pub returns-in-Ok-try_get_matches_from : goal.returns-in-Ok-try_get_matches_from
returns-in-Ok-try_get_matches_from c =
    let app = c.in-Ok.ensures in
    let m = c.in-Ok-try_get_matches_from.matches in
    let ensures = c.in-Ok-try_get_matches_from.ensures in
    let words = map (λ t. t.now) c.args.words.now in
    let none = sym (ap (λ (a : App). fault_of a words) app) ∙ ensures.kinds (ap is_simple_and_free app ∙ is_free_command) in
    let has : HasMatchesOf command words m = subst (λ (a : App). HasMatchesOf a words m) app ensures.matches in
    (none, value_is command words m has is_simple_command)
