use Rattle.std.proofs.Common.{◌≡◌, ℕ, ◌<◌, ◌+◌, ◌++◌, ◌^◌, length, take, get_or, sym, ap, subst, ◌∙◌, arith}
use Rattle.std.proofs.lemmas.List.{get_or_default, take_all}
use Rattle.std.specs.List.{flat_map}
use Rattle.xr_files.specs.Files.{padded}
use Rattle.xr_files.specs.declared.file.CdfVar.{CdfVar}
use Rattle.xr_files.specs.Canonical.{fixed_size, header_size, placed, slab, var_text}
use Rattle.cdf_writer.specs.Sizes.{list_front}
use Rattle.cdf_writer.proofs.Each.{each_at}
use Rattle.cdf_writer.proofs.Lengths.{flat_step, list_is}
use Rattle.cdf_writer.proofs.Places.{Small, all_fit, placed_at, placed_count, places_count}
use Rattle.cdf_writer.proofs.text.put_vars.Goals as goal

pub bounds-begins-i : goal.bounds-begins-i
bounds-begins-i c =
    let f = c.args.file.now in
    omega (arith, ap length c.as_slice-vars.ensures, ap length c.requires.begins, places_count f f.vars (header_size f) (header_size f + fixed_size f))

pub put_var-requires-clause-size : goal.put_var-requires-clause-size
put_var-requires-clause-size c =
    let f = c.args.file.now in
    let i = c.loop-i.i in
    let v = c.index-vars-i.result in
    let lt : i < length f.vars = omega (arith, ap length c.as_slice-vars.ensures) in
    let is : v ≡ get_or f.vars i v = cc in
    let at = placed_at f c.args.begins.now i v c.requires.begins lt is in
    let d : CdfVar × ℕ = (v, 0) in
    let fits = each_at (Small f) (placed f) i d (all_fit f c.requires.small) (omega (arith, placed_count f f.vars (header_size f) (header_size f + fixed_size f))) in
    subst (λ (x : CdfVar × ℕ). padded (slab f.dims x.0) < 2 ^ 32) at fits.size

pub put_var-requires-clause-begin : goal.put_var-requires-clause-begin
put_var-requires-clause-begin c =
    let f = c.args.file.now in
    let i = c.loop-i.i in
    let v = c.index-vars-i.result in
    let lt : i < length f.vars = omega (arith, ap length c.as_slice-vars.ensures) in
    let is : v ≡ get_or f.vars i v = cc in
    let at = placed_at f c.args.begins.now i v c.requires.begins lt is in
    let d : CdfVar × ℕ = (v, 0) in
    let fits = each_at (Small f) (placed f) i d (all_fit f c.requires.small) (omega (arith, placed_count f f.vars (header_size f) (header_size f + fixed_size f))) in
    subst (λ (x : CdfVar × ℕ). x.1 < 2 ^ 32) at fits.begin

pub loop-i-preserved : goal.loop-i-preserved
loop-i-preserved c =
    let f = c.args.file.now in
    let i = c.loop-i.i in
    let v = c.index-vars-i.result in
    let lt : i < length f.vars = omega (arith, ap length c.as_slice-vars.ensures) in
    let is : v ≡ get_or f.vars i v = cc in
    let at = placed_at f c.args.begins.now i v c.requires.begins lt is in
    let x : CdfVar × ℕ = (v, get_or c.args.begins.now i 0) in
    let in_list : i < length (placed f) = omega (arith, placed_count f f.vars (header_size f) (header_size f + fixed_size f)) in
    flat_step (var_text f.version f.dims) (placed f) i x c.args.out.now.items (list_front f.version 11 (length f.vars)) c.loop-i.out.items c.put_var.new.out.items in_list
    (get_or_default (placed f) i x (v, 0) in_list ∙ at) c.loop-i.invariant c.in_ok-put_var.ensures

pub returns : goal.returns
returns c =
    let f = c.args.file.now in
    let T = var_text f.version f.dims in
    let n = placed_count f f.vars (header_size f) (header_size f + fixed_size f) in
    let all : take c.loop-i.i (placed f) ≡ placed f = take_all c.loop-i.i (placed f) (omega (arith, ap length c.as_slice-vars.ensures)) in
    c.loop-i.invariant
    ∙ ap (λ l. c.args.out.now.items ++ (list_front f.version 11 (length f.vars) ++ flat_map T l)) all
    ∙ ap (λ k. c.args.out.now.items ++ (list_front f.version 11 k ++ flat_map T (placed f))) (sym n)
    ∙ ap (λ l. c.args.out.now.items ++ l) (sym (list_is f.version 11 T (placed f)))
