use Rattle.std.proofs.Common.{◌∙◌, sym, arith}
use Rattle.plan_whole.proofs.Evaluated.{other_stands, source_stands, strips_stand}
use Rattle.plan_whole.proofs.whole.next.Goals as goal

pub compute-requires-clause-strands : goal.compute-requires-clause-strands
compute-requires-clause-strands c = let some = c.if-until-at-eq0.false in c.requires.strands (omega (arith, some))

pub compute-requires-clause-held : goal.compute-requires-clause-held
compute-requires-clause-held c = let some = c.if-until-at-eq0.false in c.requires.held (omega (arith, some))

pub returns-then-is_source : goal.returns-then-is_source
returns-then-is_source c some = source_stands c.args.nodes.now c.args.whole.now c.args.at c.index-nodes-at.result c.requires.fit c.requires.inside c.index-nodes-at.is (sym c.is_source.ensures ∙ c.if-is_source.true)

pub returns-then-is_passed : goal.returns-then-is_passed
returns-then-is_passed c some =
    strips_stand c.args.nodes.now c.args.whole.now c.args.at c.index-nodes-at.result c.requires.inside c.index-nodes-at.is (sym c.is_source.ensures ∙ c.if-is_source.false) (c.is_passed.ensures.passed c.if-is_passed.true) (c.is_passed.ensures.comes c.if-is_passed.true)

pub returns : goal.returns
returns c some = other_stands c.args.nodes.now c.args.whole.now c.args.at c.index-nodes-at.result c.in_ok-value.value c.requires.inside c.index-nodes-at.is (sym c.is_source.ensures ∙ c.if-is_source.false) c.in_ok-value.ensures
