use Rattle.xr_building.proofs.Common.{Err, Follows, List, Ok, Put, [], after, all_of, ap, arith, check_numbers, check_put, drop, drop_all, entries_in, entry_in, err_from_is_err_and, fits_whole, from_place, length, map, meaning, names_of, over, put_on, refl, subst, sym, with_key, ◌+◌, ◌>>=◌, ◌∙◌, ◌≡◌, ◌≤◌}
use Rattle.xr_building.proofs.After.{after_end}
use Rattle.xr_building.proofs.Entering.{entry_from, none_more, numbers_on, one_more, rest_checked}
use Rattle.xr_building.proofs.put.put_entries.Goals as goal

pub loop-entry-init : goal.loop-entry-init
loop-entry-init g c =
    let start = c.args.cx.now in
    record {
      plan = refl;
      keeps = λ nodes n. refl;
      checked = c.requires.checked;
      so_far = λ coords. ap (λ (ps : List Put). entries_in (g.C.Compute.declines start.compute start.plan) start.plan (names_of c.args.variables.now) (after (over c.args.axes.now coords) ps) c.args.entries.now) c.new-puts.ensures;
      fits = sym (ap (λ (ps : List Put). all_of check_put ps >>= λ u. all_of check_numbers (map (with_key start.plan) c.args.entries.now)) c.new-puts.ensures);
    }

pub returns-clause-told : goal.returns-clause-told
unfolding entries_in
returns-clause-told g c = λ coords.
    let start = c.args.cx.now in
    let now = c.loop-entry in
    let past : length c.args.entries.now ≤ now.entry-index = omega arith in
    sym (now.invariant.so_far coords) ∙ ap (entries_in (g.C.Compute.declines start.compute start.plan) start.plan (names_of c.args.variables.now) (after (over c.args.axes.now coords) now.puts)) (drop_all now.entry-index c.args.entries.now past)

pub returns-in_err-put-clause-told : goal.returns-in_err-put-clause-told
returns-in_err-put-clause-told g c = λ coords.
    let start = c.args.cx.now in
    let now = c.loop-entry in
    let i = now.entry-index in
    let declines = g.C.Compute.declines in
    let f = after (over c.args.axes.now coords) now.puts in
    let e = c.in_err-put.field-0.0 in
    let r = c.from_residual.result in
    none_more (declines start.compute start.plan) start.plan (names_of c.args.variables.now) f c.entry-item.result (drop (i + 1) c.args.entries.now) (drop i c.args.entries.now)
    (from_place c.args.entries.now i c.entry-item.result c.loop-entry-test.true c.entry-item.is) _ (now.invariant.so_far coords) (put_on f) (after (over c.args.axes.now coords)) r e (let p = err_from_is_err_and r c.from_residual.ensures.1 in p.1 ∙ ap Err p.2)
    (subst (Follows (put_on f) (Err e)) (entry_from (declines start.compute start.plan) start.plan (names_of c.args.variables.now) f c.entry-item.result (declines now.cx.compute now.cx.plan) (λ n. now.invariant.keeps now.cx.plan n ∙ ap (λ p. declines start.compute p n) now.invariant.plan) now.cx.plan now.invariant.plan)
    (subst (λ (ps : List Put). Follows (put_on (after (over c.args.axes.now coords) ps)) (Err e) (entry_in (declines now.cx.compute now.cx.plan) now.cx.plan (names_of c.args.variables.now) (after (over c.args.axes.now coords) ps) c.entry-item.result)) c.as_slice.ensures (c.in_err-put.ensures.told coords)))

pub loop-entry-preserved : goal.loop-entry-preserved
loop-entry-preserved g c =
    let start = c.args.cx.now in
    let now = c.loop-entry in
    let i = now.entry-index in
    let declines = g.C.Compute.declines in
    let names = names_of c.args.variables.now in
    let entry = c.entry-item.result in
    let put = c.in_ok-put.put in
    let kvs = drop (i + 1) c.args.entries.now in
    let xs = drop i c.args.entries.now in
    let is = from_place c.args.entries.now i entry c.loop-entry-test.true c.entry-item.is in
    record {
      plan = c.put_entry.ensures.plan ∙ now.invariant.plan;
      keeps = λ nodes n. c.put_entry.ensures.keeps nodes n ∙ now.invariant.keeps nodes n;
      checked = rest_checked start.plan c.args.axes.now entry kvs xs is now.invariant.checked;
      so_far = λ coords.
          let base = over c.args.axes.now coords in
          let f = after base now.puts in
          one_more (declines start.compute start.plan) start.plan names f entry kvs xs is _ (now.invariant.so_far coords) (after base c.push.new.self)
          (sym (entry_from (declines start.compute start.plan) start.plan names f entry (declines now.cx.compute now.cx.plan) (λ n. now.invariant.keeps now.cx.plan n ∙ ap (λ p. declines start.compute p n) now.invariant.plan) now.cx.plan now.invariant.plan)
          ∙ subst (λ (ps : List Put). entry_in (declines now.cx.compute now.cx.plan) now.cx.plan names (after base ps) entry ≡ Ok (put_on (after base ps) put)) c.as_slice.ensures (c.in_ok-put.ensures.told coords)
          ∙ ap Ok (sym (after_end base now.puts put) ∙ ap (after base) (sym c.in_ok-push.ensures.ok)));
      fits = numbers_on (declines start.compute start.plan) start.plan names (over c.args.axes.now []) entry put now.puts c.push.new.self kvs xs _ is c.in_ok-push.ensures.ok (c.in_ok-put.ensures.fits ∙ ap (λ ns. fits_whole (meaning ns entry.1)) now.invariant.plan) now.invariant.fits;
    }
