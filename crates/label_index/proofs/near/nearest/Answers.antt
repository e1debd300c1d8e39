use Rattle.std.proofs.Common.{arith, ◌≡◌, ◌<◌, ◌≤◌, ◌-◌, ◌+◌, sym, subst, ap, ◌∙◌}
use Rattle.xr_arrays.specs.Labels.{labels_of, label_at, distance}
use Rattle.label_index.specs.Ranks.{position, ranked}
use Rattle.label_index.proofs.Nearing.{nearest_low, nearest_high, alike_ranked}
use Rattle.label_index.proofs.near.nearest.Goals as goal

pub returns-then-low-eq0-clause-value : goal.returns-then-low-eq0-clause-value
returns-then-low-eq0-clause-value c =
    rw (c.position.ensures, c.count-count.ensures) (sym (nearest_high (labels_of c.args.list.now) c.args.ranks.now c.requires.ranked c.args.label.now 0 (alike_ranked c.args.list.now c.args.ranks.now c.requires.ranked c.args.label.now c.requires.kin c.requires.number) c.requires.once (omega arith) (λ k s. absurd (omega arith)) (λ k s t. c.first_rank-low.ensures.behind k (omega arith) t) (λ s. absurd (omega arith))))

pub returns-then-low-count-clause-value : goal.returns-then-low-count-clause-value
returns-then-low-count-clause-value c =
    rw (c.position-before.ensures, c.count-count.ensures) (sym (nearest_low (labels_of c.args.list.now) c.args.ranks.now c.requires.ranked c.args.label.now (c.first_rank-low.result - 1) (alike_ranked c.args.list.now c.args.ranks.now c.requires.ranked c.args.label.now c.requires.kin c.requires.number) c.requires.once (omega arith) (λ k s. c.first_rank-low.ensures.before k (omega arith)) (λ k s t. c.first_rank-low.ensures.behind k (omega arith) t) (λ s. absurd (omega arith))))

pub returns-then-far-clause-value : goal.returns-then-far-clause-value
returns-then-far-clause-value c =
    let a : c.far.result ≡ distance (ranked (labels_of c.args.list.now) c.args.ranks.now (c.first_rank-low.result - 1)) c.args.label.now = c.far.ensures ∙ ap (λ p. distance (label_at (labels_of c.args.list.now) p) c.args.label.now) (c.position-before.ensures ∙ ap (λ n. position c.args.ranks.now n (c.first_rank-low.result - 1)) c.count-count.ensures) in
    let b : c.far-2.result ≡ distance (ranked (labels_of c.args.list.now) c.args.ranks.now c.first_rank-low.result) c.args.label.now = c.far-2.ensures ∙ ap (λ p. distance (label_at (labels_of c.args.list.now) p) c.args.label.now) (c.position-behind.ensures ∙ ap (λ n. position c.args.ranks.now n c.first_rank-low.result) c.count-count.ensures) in
    let e : c.first_rank-low.result ≡ c.first_rank-low.result - 1 + 1 = omega arith in
    let gap : distance (ranked (labels_of c.args.list.now) c.args.ranks.now (c.first_rank-low.result - 1)) c.args.label.now < distance (ranked (labels_of c.args.list.now) c.args.ranks.now c.first_rank-low.result) c.args.label.now = omega (arith, a, b, c.if-far.true) in
    rw (c.position-before.ensures, c.count-count.ensures) (sym (nearest_low (labels_of c.args.list.now) c.args.ranks.now c.requires.ranked c.args.label.now (c.first_rank-low.result - 1) (alike_ranked c.args.list.now c.args.ranks.now c.requires.ranked c.args.label.now c.requires.kin c.requires.number) c.requires.once (omega arith) (λ k s. c.first_rank-low.ensures.before k (omega arith)) (λ k s t. c.first_rank-low.ensures.behind k (omega arith) t) (λ s. subst (λ m. distance (ranked (labels_of c.args.list.now) c.args.ranks.now (c.first_rank-low.result - 1)) c.args.label.now < distance (ranked (labels_of c.args.list.now) c.args.ranks.now m) c.args.label.now) e gap)))

pub returns-clause-value : goal.returns-clause-value
returns-clause-value c =
    let a : c.far.result ≡ distance (ranked (labels_of c.args.list.now) c.args.ranks.now (c.first_rank-low.result - 1)) c.args.label.now = c.far.ensures ∙ ap (λ p. distance (label_at (labels_of c.args.list.now) p) c.args.label.now) (c.position-before.ensures ∙ ap (λ n. position c.args.ranks.now n (c.first_rank-low.result - 1)) c.count-count.ensures) in
    let b : c.far-2.result ≡ distance (ranked (labels_of c.args.list.now) c.args.ranks.now c.first_rank-low.result) c.args.label.now = c.far-2.ensures ∙ ap (λ p. distance (label_at (labels_of c.args.list.now) p) c.args.label.now) (c.position-behind.ensures ∙ ap (λ n. position c.args.ranks.now n c.first_rank-low.result) c.count-count.ensures) in
    let gap : distance (ranked (labels_of c.args.list.now) c.args.ranks.now c.first_rank-low.result) c.args.label.now ≤ distance (ranked (labels_of c.args.list.now) c.args.ranks.now (c.first_rank-low.result - 1)) c.args.label.now = omega (arith, a, b, c.if-far.false) in
    rw (c.position-behind.ensures, c.count-count.ensures) (sym (nearest_high (labels_of c.args.list.now) c.args.ranks.now c.requires.ranked c.args.label.now c.first_rank-low.result (alike_ranked c.args.list.now c.args.ranks.now c.requires.ranked c.args.label.now c.requires.kin c.requires.number) c.requires.once (omega arith) c.first_rank-low.ensures.before c.first_rank-low.ensures.behind (λ s. gap)))
