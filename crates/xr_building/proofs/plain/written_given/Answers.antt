use Rattle.xr_building.proofs.Common.{Bor, Held as Value, bound, coords_held, map, meaning, option_map, plain_given, rules, unless}
use Rattle.xr_building.proofs.Tables.{coords_same, met_coords}
use Rattle.xr_building.proofs.plain.written_given.Goals as goal

pub returns-in_err-content-clause-answers : goal.returns-in_err-content-clause-answers
unfolding plain_given bound
returns-in_err-content-clause-answers c = λ nodes. let b = c.in_ok-values.ensures nodes in let a = c.argument.ensures nodes in let r = c.in_err-content.ensures nodes in search rules

pub returns-in_err-dimensions-clause-answers : goal.returns-in_err-dimensions-clause-answers
unfolding plain_given bound
returns-in_err-dimensions-clause-answers c = λ nodes.
    let b = c.in_ok-values.ensures nodes in let a = c.argument.ensures nodes in let r = c.in_ok-content.ensures nodes in let d = c.argument-2.ensures nodes in let s = c.in_err-dimensions.ensures nodes in search rules

pub returns-in_err-elements-clause-answers : goal.returns-in_err-elements-clause-answers
unfolding plain_given bound
returns-in_err-elements-clause-answers c = λ nodes.
    let b = c.in_ok-values.ensures nodes in let a = c.argument.ensures nodes in let r = c.in_ok-content.ensures nodes in let d = c.argument-2.ensures nodes in let s = c.in_ok-dimensions.ensures nodes in
    let e = c.in_err-elements.ensures.answers nodes in search rules

pub returns-in_err-dims-clause-answers : goal.returns-in_err-dims-clause-answers
unfolding plain_given bound
returns-in_err-dims-clause-answers c = λ nodes.
    let b = c.in_ok-values.ensures nodes in let a = c.argument.ensures nodes in let r = c.in_ok-content.ensures nodes in let d = c.argument-2.ensures nodes in let s = c.in_ok-dimensions.ensures nodes in
    let e = c.in_ok-elements.ensures.answers nodes in let v = c.in_err-dims.ensures.answers nodes in search rules

pub returns-then-not-is_nested-clause-answers : goal.returns-then-not-is_nested-clause-answers
unfolding plain_given bound unless
returns-then-not-is_nested-clause-answers c = λ nodes.
    let b = c.in_ok-values.ensures nodes in let a = c.argument.ensures nodes in let r = c.in_ok-content.ensures nodes in let d = c.argument-2.ensures nodes in let s = c.in_ok-dimensions.ensures nodes in
    let e = c.in_ok-elements.ensures.answers nodes in let v = c.in_ok-dims.ensures.answers nodes in let n = c.if-not-is_nested.ensures nodes in search rules

pub returns-clause-answers : goal.returns-clause-answers
unfolding plain_given bound unless
returns-clause-answers c = λ nodes.
    let b = c.in_ok-values.ensures nodes in let a = c.argument.ensures nodes in let r = c.in_ok-content.ensures nodes in let d = c.argument-2.ensures nodes in let s = c.in_ok-dimensions.ensures nodes in
    let e = c.in_ok-elements.ensures.answers nodes in let v = c.in_ok-dims.ensures.answers nodes in let n = c.if-not-is_nested.ensures nodes in
    let held = met_coords nodes (λ (x : Bor Value). x.now) c.coords_argument-coords.result (coords_held c.args.args.now) c.coords_argument-coords.ensures in
    let given = coords_same nodes c.args.args.now (map (option_map (λ (x : Bor Value). meaning nodes x.now)) c.in_ok-values.values) b in
    let o = c.option.ensures nodes in let p = c.option-2.ensures nodes in let t = c.over_bare.ensures.answers nodes in search rules
