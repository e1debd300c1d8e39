use Rattle.std.proofs.Common.{◌≡◌, ◌<◌, ◌^◌, true, subst, ap, ◌∙◌}
use Rattle.std.specs.List.{AllByRecursion}
use Rattle.xr_files.specs.Canonical.{IsFile, can_hold, is_small}
use Rattle.xr_defs.specs.Encoding.{file_of}
use Rattle.xr_values.specs.Stands.{dataset_in}
use Rattle.xr_encode.specs.declared.parts.Parts.{Parts}
use Rattle.xr_encode.specs.Encoded.{Follows, file_in}
use Rattle.xr_encode.specs.Frames.{file_walked}
use Rattle.xr_encode.proofs.Walked.{walked_is, is_file_of, answers_of}
use Rattle.xr_encode.proofs.Whole.{of_answer, told_file, told_held, told_small}
use Rattle.xr_encode.proofs.encode.encode_set.Goals as goal

pub returns-clause-told : goal.returns-clause-told
returns-clause-told g c =
    let start = c.args.cx.now in
    let declines = g.C.Compute.declines start.compute start.plan in
    subst (Follows c.encode_parts.result) (ap (λ p. file_walked declines start.plan c.args.set.now p c.args.options.now) c.in_ok-parts.ensures ∙ walked_is declines start.plan c.args.set.now c.args.options.now) c.encode_parts.ensures.told

pub returns-clause-undeclined : goal.returns-clause-undeclined
returns-clause-undeclined g c none =
    let start = c.args.cx.now in
    let declines = g.C.Compute.declines start.compute start.plan in
    let follows = subst (Follows c.encode_parts.result)
    (ap (λ p. file_walked declines start.plan c.args.set.now p c.args.options.now) c.in_ok-parts.ensures ∙ walked_is declines start.plan c.args.set.now c.args.options.now ∙ is_file_of declines start.plan c.args.set.now c.args.options.now none)
    c.encode_parts.ensures.told in
    answers_of c.encode_parts.result (file_of (dataset_in start.plan c.args.set.now) c.args.options.now) follows

pub returns-clause-file : goal.returns-clause-file
returns-clause-file g c =
    let start = c.args.cx.now in
    let declines = g.C.Compute.declines start.compute start.plan in
    let follows = subst (Follows c.encode_parts.result) (ap (λ p. file_walked declines start.plan c.args.set.now p c.args.options.now) c.in_ok-parts.ensures ∙ walked_is declines start.plan c.args.set.now c.args.options.now) c.encode_parts.ensures.told in
    let fits = subst (AllByRecursion (λ n. n < 2 ^ 64)) (c.as_slice-3.ensures ∙ ap (λ (p : Parts). p.widths) c.in_ok-parts.ensures) c.read_widths.ensures in
    of_answer IsFile c.encode_parts.result (file_in declines start.plan c.args.set.now c.args.options.now) follows (told_file declines start.plan c.args.set.now c.args.options.now c.requires.set c.requires.version fits)

pub returns-clause-held : goal.returns-clause-held
returns-clause-held g c =
    let start = c.args.cx.now in
    let declines = g.C.Compute.declines start.compute start.plan in
    let follows = subst (Follows c.encode_parts.result) (ap (λ p. file_walked declines start.plan c.args.set.now p c.args.options.now) c.in_ok-parts.ensures ∙ walked_is declines start.plan c.args.set.now c.args.options.now) c.encode_parts.ensures.told in
    let fits = subst (AllByRecursion (λ n. n < 2 ^ 64)) (c.as_slice-3.ensures ∙ ap (λ (p : Parts). p.widths) c.in_ok-parts.ensures) c.read_widths.ensures in
    of_answer (λ f. can_hold f ≡ true) c.encode_parts.result (file_in declines start.plan c.args.set.now c.args.options.now) follows (told_held declines start.plan c.args.set.now c.args.options.now c.requires.set fits)

pub returns-clause-small : goal.returns-clause-small
returns-clause-small g c =
    let start = c.args.cx.now in
    let declines = g.C.Compute.declines start.compute start.plan in
    let follows = subst (Follows c.encode_parts.result) (ap (λ p. file_walked declines start.plan c.args.set.now p c.args.options.now) c.in_ok-parts.ensures ∙ walked_is declines start.plan c.args.set.now c.args.options.now) c.encode_parts.ensures.told in
    of_answer (λ f. is_small f ≡ true) c.encode_parts.result (file_in declines start.plan c.args.set.now c.args.options.now) follows (told_small declines start.plan c.args.set.now c.args.options.now)
