use Rattle.std.proofs.Common.{◌≡◌, ◌-◌, ◌++◌, length, take, sym, ap, ◌∙◌}
use Rattle.xr_files.specs.Canonical.{fill_of}
use Rattle.cdf_writer.proofs.Steps.{put_three, take_three}
use Rattle.cdf_writer.proofs.values.put_filling.Goals as goal

pub returns : goal.returns
returns c =
    let n = c.args.n in
    let shown = c.fill_of-fill.result.now in
    let fill = fill_of c.args.var.now in
    let once : c.in_ok-left.left ≡ n - length fill = c.in_ok-left.ensures.left ∙ ap (λ l. n - length l) c.fill_of-fill.ensures in
    let twice : c.in_ok-left-2.left ≡ n - length fill - length fill = c.in_ok-left-2.ensures.left ∙ ap (λ k. k - length shown) once ∙ ap (λ l. n - length fill - length l) c.fill_of-fill.ensures in
    put_three c.args.out.now.items c.put_front.new.out.items c.put_front-2.new.out.items c.put_front-3.new.out.items (take n fill) (take (n - length fill) fill) (take (n - length fill - length fill) fill)
    (c.in_ok-left.ensures.bytes ∙ ap (λ l. c.args.out.now.items ++ take n l) c.fill_of-fill.ensures)
    (c.in_ok-left-2.ensures.bytes ∙ ap (λ k. c.put_front.new.out.items ++ take k shown) once ∙ ap (λ l. c.put_front.new.out.items ++ take (n - length fill) l) c.fill_of-fill.ensures)
    (c.in_ok-put_front.ensures.bytes ∙ ap (λ k. c.put_front-2.new.out.items ++ take k shown) twice ∙ ap (λ l. c.put_front-2.new.out.items ++ take (n - length fill - length fill) l) c.fill_of-fill.ensures)
    ∙ ap (λ l. c.args.out.now.items ++ l) (sym (take_three n fill))
