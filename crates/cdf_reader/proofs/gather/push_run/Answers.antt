use Rattle.std.proofs.Common.{◌+◌, ℕ, List, sym, ap, ◌∙◌, ◌++◌, take}
use Rattle.cdf_reader.specs.Sizes.{capped}
use Rattle.cdf_reader.proofs.Columns.{one_more, next_rest, first_rest}
use Rattle.cdf_reader.proofs.gather.push_run.Goals as goal

pub loop-r-init : goal.loop-r-init
loop-r-init c =
    let bytes = c.args.bytes.now in
    let begin = c.args.begin in
    let step = c.args.step in
    let from = c.args.from in
    record {
      rest = c.rest_at-rest.ensures ∙ first_rest bytes begin step from c.saturating_add.result c.requires.short (c.saturating_add.ensures ∙ ap (λ (n : ℕ). capped (begin + n)) c.saturating_mul.ensures);
      raw = c.requires.before;
    }

pub loop-r-preserved : goal.loop-r-preserved
loop-r-preserved c =
    let bytes = c.args.bytes.now in
    let begin = c.args.begin in
    let step = c.args.step in
    let r = c.loop-r.r in
    let rest = c.loop-r.rest.now in
    record {
      rest = c.rest_at-rest-in-loop-r.ensures ∙ next_rest bytes rest begin step r c.loop-r.invariant.rest;
      raw = c.in_ok-push_front.ensures ∙ ap (λ (l : List ℕ). l ++ take c.args.n rest) c.loop-r.invariant.raw ∙ sym (one_more bytes rest begin step c.args.n r c.loop-r.invariant.rest);
    }
