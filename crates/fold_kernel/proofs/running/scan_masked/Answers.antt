use Rattle.std.proofs.Common.{◌≡◌, ◌+◌, ◌++◌, get_or, take, arith, ap, subst, ◌∙◌}
use Rattle.std.specs.List.{fold}
use Rattle.xr_types.specs.declared.operation.FoldKind.TheVariants.{Sum}
use Rattle.xr_arrays.specs.Folds.{fold_of}
use Rattle.fold_kernel.specs.Rows.{shown, with_cell}
use Rattle.fold_kernel.proofs.Rows.{masked_run, length_shown}
use Rattle.fold_kernel.proofs.Scans.{scan_stands, scan_sum, masked_part}
use Rattle.fold_kernel.proofs.running.scan_masked.Goals as goal

pub scan_row-total-requires : goal.scan_row-total-requires
scan_row-total-requires g c = omega (arith, length_shown c.args.cells.now c.args.mask.now)

pub returns-clause-stands : goal.returns-clause-stands
returns-clause-stands g c b first h =
    let number = g.T.Elem.number in let read = g.S.Elem.number in
    let items = shown c.args.cells.now c.args.mask.now in
    let sum = subst (λ k. read c.scan_row-total.result ≡ fold (with_cell k number) (read c.total-start.result) items) c.requires.kind c.scan_row-total.ensures.total in
    let stands = scan_stands number c.args.before c.with_total.result b first (read c.total-start.result) (read c.scan_row-total.result) items c.requires.sum h c.total-start.ensures sum c.with_total.ensures in
    let run = masked_run number c.args.cells.now c.args.mask.now in
    rw run at stands

pub returns-clause-sums : goal.returns-clause-sums
returns-clause-sums g c b first i z h below =
    let number = g.T.Elem.number in let read = g.S.Elem.number in
    let items = shown c.args.cells.now c.args.mask.now in
    let part = masked_part number first (i + 1) c.args.cells.now c.args.mask.now in
    let sum = subst (λ k. read (get_or c.scan_row-total.new.out i z) ≡ fold (with_cell k number) (read c.total-start.result) (take (i + 1) items)) c.requires.kind (c.scan_row-total.ensures.sums i z (omega arith)) in
    scan_sum number c.args.before b first (read c.total-start.result) _ (take (i + 1) items) c.requires.sum h c.total-start.ensures sum
    ∙ ap (λ run. fold_of Sum c.args.before.of (b ++ run)) part
