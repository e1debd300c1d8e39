use Rattle.std.proofs.Common.{sym, ap, ◌∙◌, ◌||◌, codes, arith}
use Rattle.std.specs.Str.{bytes_eq}
use Rattle.xr_grouping.proofs.Sized.{none_left, one_more}
use Rattle.xr_grouping.proofs.coarsens.+push_blocks.Goals as goal

pub returns-in-empty : goal.returns-in-empty
returns-in-empty t c = λ nodes. none_left nodes c.args.out.now c.args.keyed.now c.in-empty.len_below

pub returns-in_ok-push-in-len1-up : goal.returns-in_ok-push-in-len1-up
returns-in_ok-push-in-len1-up t c = λ nodes.
    let e = one_more nodes c.args.out.now c.push.new.self c.args.keyed.now c.argument-item.result c.in_ok-block-in-len1-up.block (let long = c.in-len1-up.len_at_least in omega (arith, long)) c.argument-item.is
    (ap (λ n. bytes_eq n (codes "boundary") || bytes_eq n (codes "coord_func")) (sym c.as_str.ensures) ∙ sym c.is_option.ensures ∙ c.if-is_option.false) (c.in_ok-block-in-len1-up.ensures nodes) c.in_ok-push-in-len1-up.ensures.ok in
    rw (e) (c.push_blocks-in-len1-up.ensures nodes)
