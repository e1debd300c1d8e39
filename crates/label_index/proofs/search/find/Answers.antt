-- No hit, two, or one, by the labels at two ranks.
use Rattle.std.proofs.Common.{rules, ◌≡◌, ◌<◌, ◌+◌, ◌&&◌, nat_lt, length, sym, ◌∙◌, true, false}
use Rattle.xr_arrays.specs.Labels.{labels_of, same}
use Rattle.label_index.specs.Ranks.{ranked}
use Rattle.label_index.proofs.Finding.{place_none, place_two, place_one, both_left, both_right, below_from}
use Rattle.label_index.proofs.search.find.Goals as goal

pub returns-then-not-holds : goal.returns-then-not-holds
returns-then-not-holds c = sym (place_none (labels_of c.args.list.now) c.args.ranks.now c.requires c.args.label.now c.first_rank-low.result c.first_rank-low.ensures.before c.first_rank-low.ensures.behind (cc))

pub overflow_add-low : goal.overflow_add-low
overflow_add-low c =
    let first : (nat_lt c.first_rank-low.result (length (labels_of c.args.list.now)) && same (ranked (labels_of c.args.list.now) c.args.ranks.now c.first_rank-low.result) c.args.label.now) ≡ true = sym c.holds.ensures ∙ c.if-not-holds.false in
    let within : c.first_rank-low.result < length (labels_of c.args.list.now) = below_from (both_left _ _ first) in
    search (rules, within)

pub returns-then-holds : goal.returns-then-holds
returns-then-holds c =
    let first : (nat_lt c.first_rank-low.result (length (labels_of c.args.list.now)) && same (ranked (labels_of c.args.list.now) c.args.ranks.now c.first_rank-low.result) c.args.label.now) ≡ true = sym c.holds.ensures ∙ c.if-not-holds.false in
    let second : (nat_lt (c.first_rank-low.result + 1) (length (labels_of c.args.list.now)) && same (ranked (labels_of c.args.list.now) c.args.ranks.now (c.first_rank-low.result + 1)) c.args.label.now) ≡ true = sym c.holds-2.ensures ∙ c.if-holds.true in
    sym (place_two (labels_of c.args.list.now) c.args.ranks.now c.requires c.args.label.now c.first_rank-low.result (below_from (both_left _ _ second)) (both_right _ _ first) (both_right _ _ second))

pub returns : goal.returns
returns c =
    let first : (nat_lt c.first_rank-low.result (length (labels_of c.args.list.now)) && same (ranked (labels_of c.args.list.now) c.args.ranks.now c.first_rank-low.result) c.args.label.now) ≡ true = sym c.holds.ensures ∙ c.if-not-holds.false in
    let second : (nat_lt (c.first_rank-low.result + 1) (length (labels_of c.args.list.now)) && same (ranked (labels_of c.args.list.now) c.args.ranks.now (c.first_rank-low.result + 1)) c.args.label.now) ≡ false = sym c.holds-2.ensures ∙ c.if-holds.false in
    rw (c.position.ensures, c.count-count.ensures) (sym (place_one (labels_of c.args.list.now) c.args.ranks.now c.requires c.args.label.now c.first_rank-low.result (below_from (both_left _ _ first)) c.first_rank-low.ensures.before c.first_rank-low.ensures.behind (both_right _ _ first) second))
