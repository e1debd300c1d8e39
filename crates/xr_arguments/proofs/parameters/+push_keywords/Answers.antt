use Rattle.xr_arguments.proofs.Common.{arith, map, meaning, option_map, rules, with_key}
use Rattle.xr_defs.specs.Building as calls
use Rattle.xr_arguments.proofs.Binding.{put_first, first_and_rest}
use Rattle.xr_arguments.proofs.parameters.+push_keywords.Goals as goal

pub returns-in_ok-push-in-len1-up : goal.returns-in_ok-push-in-len1-up
returns-in_ok-push-in-len1-up t c = λ nodes.
    put_first (option_map (λ v. meaning nodes v.now)) (λ name. calls.keyword name (map (with_key nodes) c.args.keyed.now)) c.args.values.now c.push.new.self c.push_keywords.new.values c.keyword.result (map (λ n. n.now) c.args.names.now) _ _ c.push_keywords.result
    (search rules) (c.keyword.ensures nodes) (c.push_keywords.ensures nodes) (first_and_rest (λ n. n.now) c.args.names.now _ (let long = c.in-len1-up.len_at_least in omega (arith, long)))
