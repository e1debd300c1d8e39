use Rattle.std.proofs.Common.{◌++◌, ◌==◌, [], subst, map, filter, take, not, length}
use Rattle.xr_decode.specs.Listed.{Lists}
use Rattle.xr_decode.proofs.ListedNames.{word_more}
use Rattle.xr_decode.proofs.listed.add_words.Goals as goal

pub loop-part-preserved : goal.loop-part-preserved
loop-part-preserved c = λ names lists.
    subst (Lists c.add_word.new.listed) (word_more c.args.parts.now c.loop-part.part-index (record { ref_ptr = (0, 0); now = [] }) c.loop-part-test.true names)
    (c.in_ok-add_word.ensures (names ++ filter (λ w. not (length w == 0)) (map (λ x. x.now) (take c.loop-part.part-index c.args.parts.now))) (c.loop-part.invariant names lists))
