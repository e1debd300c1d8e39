use Rattle.std.proofs.Common.{◌≡◌, ◌<◌, ℕ, List, min, length, drop, sym, ap, ◌∙◌, arith}
use Rattle.xr_types.specs.Points.{size}
use Rattle.strided_block.specs.Steps.{spot}
use Rattle.strided_block.specs.Parts.{IsRun}
use Rattle.strided_block.proofs.Holdings.{no_run, seen_long}
use Rattle.strided_block.proofs.Leads.{lead_within, run_size, run_none, all_run, run_cell}
use Rattle.strided_block.proofs.view.View.run.Goals as goal

counted : (n len : ℕ) (back all rest : List ℕ) (k : ℕ) → n ≡ min (size back) 18446744073709551615 → back ≡ drop len all → len ≡ k → all ≡ rest → n ≡ min (size (drop k rest)) 18446744073709551615
counted n len back all rest k a b c d = a ∙ ap (λ l. min (size l) 18446744073709551615) (b ∙ (λ i. drop (c i) (d i)))

pub split_at-requires : goal.split_at-requires
split_at-requires g c = let l = lead_within _ _ _ _ _ c.self.view_is c.self.invariant.1 c.args.lead.now c.requires.lead c.requires.side_by_side in omega (arith, c.len.ensures.value, ap length c.as_slice.ensures.value)

pub returns-then-count-eq0-clause-cells : goal.returns-then-count-eq0-clause-cells
returns-then-count-eq0-clause-cells g c =
    let n = run_size _ _ _ _ _ c.self.view_is c.self.invariant.1 c.args.lead.now c.requires.lead c.requires.side_by_side _ (counted _ _ _ _ _ _ c.points-count.ensures c.split_at.ensures.back c.len.ensures.value c.as_slice.ensures.value) in
    λ q x j. run_none _ _ _ _ _ c.self.view_is c.self.invariant.1 c.args.lead.now c.requires.lead c.requires.side_by_side _ n c.if-count-eq0.true q j

pub run-requires : goal.run-requires
run-requires g c = (c.self.invariant.0, no_run _)

pub returns-then-count-eq0-clause-count : goal.returns-then-count-eq0-clause-count
returns-then-count-eq0-clause-count g c =
    let n = run_size _ _ _ _ _ c.self.view_is c.self.invariant.1 c.args.lead.now c.requires.lead c.requires.side_by_side _ (counted _ _ _ _ _ _ c.points-count.ensures c.split_at.ensures.back c.len.ensures.value c.as_slice.ensures.value) in
    seen_long c.self.inside.cells.now.slots 0 0 _ (no_run c.self.inside.cells.now.slots).0 c.run.ensures ∙ sym c.if-count-eq0.true ∙ n ∙ ap (λ s. size (drop (length c.args.lead.now) s)) (ap (λ u. u.shape) c.self.view_is)

module _ (g : _) (c : goal.After-run-arg-2-1 g) where
  size_is : c.points-count.result ≡ size (drop (length c.args.lead.now) c.self.inside.shape)
  size_is = run_size _ _ _ _ _ c.self.view_is c.self.invariant.1 c.args.lead.now c.requires.lead c.requires.side_by_side _ (counted _ _ _ _ _ _ c.points-count.ensures c.split_at.ensures.back c.len.ensures.value c.as_slice.ensures.value)

  some : 0 < c.points-count.result
  some = let h = c.if-count-eq0.false in omega arith

  starts : c.spot_of-at.result ≡ spot c.self.inside.start c.self.inside.steps c.args.lead.now
  starts = c.spot_of-at.ensures ∙ (λ i. spot c.self.inside.start (c.as_slice-2.ensures.value i) (c.as_slice-3.ensures.value i))

  there : IsRun c.self.inside.cells.now.slots c.spot_of-at.result c.points-count.result
  there = all_run _ _ _ _ _ c.self.view_is c.self.invariant.1 c.args.lead.now c.requires.lead c.requires.side_by_side _ _ size_is some starts

pub run-requires-2 : goal.run-requires-2
run-requires-2 g c = (c.self.invariant.0, there g c)

pub returns-clause-count : goal.returns-clause-count
returns-clause-count g c = seen_long _ _ _ _ (there g c.before).0 c.run-2.ensures ∙ size_is g c.before ∙ ap (λ s. size (drop (length c.args.lead.now) s)) (ap (λ u. u.shape) c.self.view_is)

pub returns-clause-cells : goal.returns-clause-cells
returns-clause-cells g c = run_cell _ _ _ _ _ c.self.view_is c.self.invariant.1 c.args.lead.now c.requires.lead c.requires.side_by_side _ _ (size_is g c.before) (some g c.before) (starts g c.before) _ c.run-2.ensures
