use Rattle.std.proofs.Common.{◌++◌, [], get_or, ap, ◌∙◌}
use Rattle.std.specs.List.{flat_map}
use Rattle.std.proofs.lemmas.List.{get_or_default, take_all}
use Rattle.xr_files.specs.Canonical.{count_text}
use Rattle.cdf_writer.proofs.Lengths.{flat_step}
use Rattle.cdf_writer.proofs.text.put_dim_numbers.Goals as goal

pub loop-number-preserved : goal.loop-number-preserved
loop-number-preserved c =
    let numbers = c.args.numbers.now in
    let i = c.loop-number.number-index in
    let number = get_or numbers i 0 in
    flat_step (count_text c.args.version) numbers i number c.args.out.now.items [] c.loop-number.out.items c.put_count.new.out.items c.loop-number-test.true (get_or_default numbers i number 0 c.loop-number-test.true) c.loop-number.invariant c.in_ok-put_count.ensures

pub returns : goal.returns
returns c =
    c.loop-number.invariant
    ∙ ap (λ l. c.args.out.now.items ++ flat_map (count_text c.args.version) l) (take_all c.loop-number.number-index c.args.numbers.now c.loop-number-test.false)
