use Rattle.xr_arguments.proofs.Common.{ap, arith, drop, given, length, length-map, map, meaning, option_map, sym, take_all, with_key, ◌∙◌}
use Rattle.xr_arguments.proofs.Binding.{bound_is}
use Rattle.xr_arguments.proofs.parameters.bound.Goals as goal

pub returns : goal.returns
unfolding given
returns c = λ nodes.
    let f = c.if-plain-names.false in
    let e = length-map c.args.args.now.plain.items (meaning nodes) in
    let v = ap length c.as_slice-plain.ensures.value in
    bound_is (λ n. n.now) c.args.names.now c.split_at.result.1.now (map (meaning nodes) c.args.args.now.plain.items) (map (with_key nodes) c.args.args.now.keyed.items) (map (option_map (λ v. meaning nodes v.now)) c.push_keywords.new.values)
    (omega (arith, f, e, v)) (c.split_at.ensures.back ∙ ap (λ k. drop k c.args.names.now) (v ∙ sym e))
    (let k = c.are_keywords.ensures nodes in let t = c.if-not-are_keywords.false in let w = c.as_slice-keyed.ensures.value in grind arith)
    (let p = c.in_ok-push_keywords.ensures nodes in let i = c.loop-value.invariant nodes in let w = c.as_slice-keyed.ensures.value in let x = c.as_slice-plain.ensures.value in grind (arith, take_all))
