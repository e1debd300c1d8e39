use Rattle.std.proofs.Common.{◌≡◌, ◌<◌, ◌+◌, length, drop, get_or, refl, sym, ap, subst, ◌∙◌, arith}
use Rattle.xr_types.specs.Points.{size, place}
use Rattle.strided_block.specs.Parts.{IsRun}
use Rattle.strided_block.proofs.Boxes.{place_below}
use Rattle.strided_block.proofs.Holdings.{seen_long, put_changes_in, put_cell_at}
use Rattle.strided_block.proofs.Zipped.{found, read_at, zipped_at}
use Rattle.strided_block.proofs.zip.zip_lead.Goals as goal

module _ (g : _) (c : goal.After-all-1 g) where
  count : length c.run-first.result.now ≡ size (drop (length c.args.lead.now) c.args.a.now.shape)
  count = c.run-first.ensures.count

  run : IsRun c.args.all.now.slots c.args.at (length c.run-first.result.now)
  run = subst (IsRun c.args.all.now.slots c.args.at) (sym count) c.requires.room.1

  long : length c.zip_run.new.all ≡ length c.run-first.result.now
  long = c.zip_run.auto.all ∙ seen_long c.args.all.now.slots c.args.at (length c.run-first.result.now) c.run_mut.result.now run.0 c.run_mut.ensures.value

pub returns-clause-others : goal.returns-clause-others
returns-clause-others g c = put_changes_in c.args.all.now.slots _ c.args.at (length c.run-first.result.now) (run g c) c.zip_run.new.all (long g c) refl _ (count g c)

pub returns-clause-cells : goal.returns-clause-cells
returns-clause-cells g c = λ q i.
    let rest = drop (length c.args.lead.now) c.args.a.now.shape in
    let j = place rest q in let b = place_below rest q i in let n = count g c in let l = long g c in
    let fa = found c.run-first.result.now j (omega (arith, n)) in
    let fb = found c.run.result.now j (omega (arith, c.run.ensures.count, ap (λ s. size (drop (length c.args.lead.now) s)) c.requires.shapes.0)) in
    let fc = found c.run-2.result.now j (omega (arith, c.run-2.ensures.count, ap (λ s. size (drop (length c.args.lead.now) s)) c.requires.shapes.1)) in
    let fd = found c.run-3.result.now j (omega (arith, c.run-3.ensures.count, ap (λ s. size (drop (length c.args.lead.now) s)) c.requires.shapes.2)) in
    let shape = c.args.a.now.shape in let lead = c.args.lead.now in
    let first : j < length c.run-first.result.now = omega (arith, n) in
    let fr = found c.zip_run.new.all j (omega (arith, l)) in let z : j ≡ 0 + j = omega arith in
    zipped_at (goal.F-post g c.args.f.now) _ _ _ _ _ c.run-first.result.now c.run.result.now c.run-2.result.now c.run-3.result.now c.zip_run.new.all j j fa fb fc fd fr
    (read_at c.args.a.now shape lead q c.run-first.result.now c.run-first.ensures.cells refl i fa)
    (read_at c.args.b.now shape lead q c.run.result.now c.run.ensures.cells c.requires.shapes.0 i fb)
    (read_at c.args.c.now shape lead q c.run-2.result.now c.run-2.ensures.cells c.requires.shapes.1 i fc)
    (read_at c.args.d.now shape lead q c.run-3.result.now c.run-3.ensures.cells c.requires.shapes.2 i fd)
    (put_cell_at c.args.all.now.slots _ c.args.at (length c.run-first.result.now) (run g c) c.zip_run.new.all l refl j fr.x first)
    (subst (λ k. goal.F-post g c.args.f.now (get_or c.run-first.result.now j fa.x) (get_or c.run.result.now j fb.x) (get_or c.run-2.result.now j fc.x) (get_or c.run-3.result.now j fd.x) (get_or c.zip_run.new.all k fr.x)) (sym z) (c.zip_run.ensures.cells j fa.x fb.x fc.x fd.x fr.x first))
