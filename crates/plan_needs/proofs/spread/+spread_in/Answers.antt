use Rattle.std.proofs.Common.{◌<◌, ◌∙◌, ap, sym, arith, rules, option_map, length, Some, None}
use Rattle.plan_needs.proofs.Spreads.{spread_found, spread_none, widened_there}
use Rattle.plan_needs.proofs.spread.+spread_in.Goals as goal

pub offset_bounds-nodes-input : goal.offset_bounds-nodes-input
offset_bounds-nodes-input t c =
    let below : c.in-Some.input < length c.args.nodes.now = widened_there c.args.nodes.now c.args.at c.index-nodes-at.result c.in-Some.input c.requires.fit c.requires.inside c.index-nodes-at.is (sym c.in-Some.is ∙ c.widens.ensures) in
    search rules

pub bounds-nodes-input : goal.bounds-nodes-input
bounds-nodes-input t c = widened_there c.args.nodes.now c.args.at c.index-nodes-at.result c.in-Some.input c.requires.fit c.requires.inside c.index-nodes-at.is (sym c.in-Some.is ∙ c.widens.ensures)

pub spread_in-requires : goal.spread_in-requires
spread_in-requires t c =
    let d = c.decreases in
    let some = c.if-steps-eq0.false in
    (omega (arith, d, some), (c.requires.fit, widened_there c.args.nodes.now c.args.at c.index-nodes-at.result c.in-Some.input c.requires.fit c.requires.inside c.index-nodes-at.is (sym c.in-Some.is ∙ c.widens.ensures)))

pub returns-in-Some-without_axes : goal.returns-in-Some-without_axes
returns-in-Some-without_axes t c =
    let some = c.if-steps-eq0.false in
    let widened = sym c.in-Some.is ∙ c.widens.ensures in
    let flat = sym (ap (option_map (λ a. a.now)) c.in-Some-without_axes.is) ∙ c.without_axes.ensures in
    spread_found c.args.steps c.args.nodes.now c.args.at c.index-nodes-at.result c.index-nodes-input.result c.in-Some.input (Some c.in-Some-without_axes.cells.now) (omega (arith, some)) c.requires.inside c.index-nodes-at.is widened
    (widened_there c.args.nodes.now c.args.at c.index-nodes-at.result c.in-Some.input c.requires.fit c.requires.inside c.index-nodes-at.is widened) c.index-nodes-input.is flat

pub returns-in-None : goal.returns-in-None
returns-in-None t c =
    let some = c.if-steps-eq0.false in
    let widened = sym c.in-Some.is ∙ c.widens.ensures in
    let flat = sym (ap (option_map (λ a. a.now)) c.in-None.is) ∙ c.without_axes.ensures in
    c.spread_in.ensures
    ∙ spread_found c.args.steps c.args.nodes.now c.args.at c.index-nodes-at.result c.index-nodes-input.result c.in-Some.input None (omega (arith, some)) c.requires.inside c.index-nodes-at.is widened
    (widened_there c.args.nodes.now c.args.at c.index-nodes-at.result c.in-Some.input c.requires.fit c.requires.inside c.index-nodes-at.is widened) c.index-nodes-input.is flat

pub returns-in_default : goal.returns-in_default
returns-in_default t c =
    let some = c.if-steps-eq0.false in
    spread_none c.args.steps c.args.nodes.now c.args.at c.index-nodes-at.result (omega (arith, some)) c.requires.inside c.index-nodes-at.is (sym c.in_default.is ∙ c.widens.ensures)
