use Rattle.xr_combination.specs.Concat.{unnamed}
use Rattle.xr_combination.specs.Pieces.{is_set}
use Rattle.xr_values.specs.Meaning.{meaning, IsValueIn}
use Rattle.xr_values.specs.Stands.{dataset_in, IsDatasetIn}
use Rattle.xr_chaining.specs.Sets.{IsUnnamedIn}
use Rattle.xr_chaining.proofs.Firsts.{more_each, more_passing, more_told}
use Rattle.xr_chaining.proofs.sets.+push_unnamed.Goals as goal

pub returns-in_ok-push-in-len1-up-clause-are : goal.returns-in_ok-push-in-len1-up-clause-are
returns-in_ok-push-in-len1-up-clause-are t c = λ nodes.
    more_told c.push_unnamed.result c.args.out.now c.push.new.self c.push_unnamed.new.out c.in_ok-set-in-len1-up.set c.args.values.now c.value-item.result c.in-len1-up.len_at_least c.value-item.is c.in_ok-push-in-len1-up.ensures.ok
    (dataset_in nodes) (meaning nodes) unnamed (c.in_ok-set-in-len1-up.ensures.is nodes) (c.push_unnamed.ensures.are nodes)

pub returns-in_ok-push-in-len1-up-clause-inside : goal.returns-in_ok-push-in-len1-up-clause-inside
returns-in_ok-push-in-len1-up-clause-inside t c = λ nodes.
    more_each c.push_unnamed.result c.args.out.now c.push.new.self c.push_unnamed.new.out c.in_ok-set-in-len1-up.set c.args.values.now c.value-item.result c.in-len1-up.len_at_least c.value-item.is c.in_ok-push-in-len1-up.ensures.ok
    (IsUnnamedIn nodes) (IsValueIn nodes) (c.in_ok-set-in-len1-up.ensures.inside nodes) (c.push_unnamed.ensures.inside nodes)

pub returns-in_ok-push-in-len1-up-clause-sets : goal.returns-in_ok-push-in-len1-up-clause-sets
returns-in_ok-push-in-len1-up-clause-sets t c = λ nodes.
    more_passing c.push_unnamed.result c.args.out.now c.push.new.self c.push_unnamed.new.out c.in_ok-set-in-len1-up.set c.args.values.now c.value-item.result c.in-len1-up.len_at_least c.value-item.is c.in_ok-push-in-len1-up.ensures.ok
    (IsDatasetIn nodes) (IsValueIn nodes) (meaning nodes) is_set (c.in_ok-set-in-len1-up.ensures.set nodes) (c.push_unnamed.ensures.sets nodes)
