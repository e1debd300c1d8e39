-- A new row of empty places, with the right to free it. Assumes `Logic`.
use Rattle.atomic_table.proofs.Names.{◌≡◌, ℕ, ◌*◌, ◌^◌, ◌<◌, List, [], ◌∷◌, length, sym, refl, ap, ◌∙◌, subst, arith, lit<, named, Val, vptr, vint, vstruct, vcons, vnil, w64, inst_fn, SProp, emp, Lft, Share, ftrue, flft, ‵, raw, ◌⊛◌, some, given, later, at_ret, ◌$◌, ◌∵◌, !, qed, by, move, keep, split, split3, join, group, fsplit, fjoin, pick, learn, use0, use1, use2, await, rewrite, stop, fld, of_opd, lit, bin, size_word, no_more, and_then, first, blocks, exec, returns, enter, alloc_all, pass_all, free_all, look_at, get, get_in, sets, sets_last, lands_last, lands_as, is, env, Env, agg, whole, tables, yes, RattleType, owns, types_at, plain, block_ptr, nothing, Stays, stay_dropped, walk_of, Goes-dropped, fact, fact_i, heard, RefOf, usize, shr_vals, shr_Tells, uint_vals, uint_Tells, WT, ◌⊑◌, calls_at, calls_at_last, capped, Bool, replicate, length-replicate, live, Tuple, makes_shadow}
use base.Fml.{froom, Incl-trans}
use mathlib.Core.Bool.{true, false}
use mir.Syntax.{Body, ty_array}
use prog.Memory.{align}
use prog.Capped.{capped_fits}
use prog.Wp.{Wp, after_seq, at_return}
use types.Kit.{Post as After, any_q}
use types.Match.{vrt, in_variant}
use types.Run.{align_word, switches_on}
use types.ByLocal.{get_tag}
use denote.Laws.{Is}
use denote.Steps.{owned}
use denote.Struct.Struct.{Struct, Struct-Makes}
use denote.Struct.Owning.{shape}
use denote.Struct.Declared as Declared
use Rattle.atomic_table.proofs.Walks.{leaves, proved}
use Rattle.atomic_table.proofs.Calls.{fm}
use Rattle.atomic_table.proofs.Raw.{Row, all as places, row_Typed, From, at_from, Made, from_goes, from_gives}
use Rattle.core.proofs.alloc.Calls.{Al, Answer-typed, Takes, at_takes, Answered, Takes-goes, Takes-gives, answers}
use Rattle.core.proofs.mem.Param.{El, R, elτ}
use Rattle.core.proofs.slots.Leases.{uncapped, block_ty, block_size, block_align, args, P}
use Rattle.core.proofs.slots.Opens.{row_val}
use Rattle.core.proofs.slots.Places.{of_room}
use Rattle.core.proofs.slots.Slots.from_raw_parts.Met as callee
use Rattle.core.specs.Mem.Slots.{slots_ptr, slots_len}
use Rattle.core.specs.contracts.result.Result as RS
use Rattle.core.specs.contracts.alloc.AllocError as AE
use Rattle.std.specs.Prelude.{Ok, Err}
use Rattle.std.specs.Vec.Ownership.{FitsInBlock}
use Rattle.std_alloc.proofs.VecSteps.Shapes.{after, head, arm_body}
use Rattle.std_alloc.proofs.ResultValues.{ok_of, err_of}
use Rattle.strided_block.specs.contracts.memory.Right as Rights
use Rattle.strided_block.specs.contracts.memory.take as F
use Rattle.strided_block.specs.contracts.memory.take.Key.{name as #self}
use Rattle.strided_block.proofs.Owners.{mark, sz, two_val, two_of}
use Rattle.strided_block.proofs.memory.take.Statement.{statement}
use Rattle.strided_block.proofs.memory.take.Code as code

pub take_spec : {M : Type 1} → statement M
take_spec 𝓤 𝓛 𝓜 𝓡 wired X W LX LW g d dd met md =
    let H = 𝓛.H in let 𝓣 = tables 𝓤 H 𝓜 𝓡 𝓡.env in let E : El = record { row = X; laws = LX } in let Z : Al = record { row = W; laws = LW; g = g; d = d; drops = dd } in
    let En = F.ended X W g d dd in let fn = inst_fn (args E Z) code.function in let c = F.clauses X W g d dd 𝓛 𝓜.mem 𝓡.returns in let Rt : RattleType = Rights.the_row (R E) (P E Z) g in
    let RMark : RattleType = Struct (shape (Rights.the_type (R E) (P E Z) g)) in let Two : RattleType = Tuple (Row E ∷ Rt ∷ []) in let Out : RattleType = RS.the_row Two AE.the_row in
    let from = callee.met 𝓤 𝓛 𝓜 𝓡 (code.calls-core::slots::Slots::from_raw_parts 𝓡.env wired) X LX in
    let handle = RefOf (0 ∷ []) tt (plain (λ _. P E Z)) (λ _. tt) in
    let hs : Stays En.signature.params En.kept = (stay_dropped handle yes, (stay_dropped (plain (λ _. usize)) yes, tt)) in
    proved 𝓛 En hs c 𝓜 𝓡 (Goes-dropped 𝓛 3 handle yes (λ κs x f. refl), (Goes-dropped 𝓛 3 (plain (λ _. usize)) yes (λ κs x f. refl), tt)) (#self (args E Z)) fn (code.unfolded 𝓤 H 𝓜 𝓡 wired (X, (W, tt)) d dd)
    (λ κs. (shr_vals, (uint_vals w64, tt))) (λ κs. (shr_Tells (named 0) κs.0 (P E Z), (uint_Tells w64, tt))) (λ κs qs bounds a gh are.
    let κ : Lft = κs.0 in let κ₁ : Lft = κs.1.0 in let κ₂ : Lft = κs.1.1.0 in let q : Share = qs.0 in let q₁ : Share = qs.1.0 in let q₂ : Share = qs.1.1.0 in
    let hp : ℕ × ℕ = a.0.ref_ptr in let heap : W.Denot = a.0.now in let k : ℕ = a.1.0 in let fk : k < 2 ^ 64 = are.1.0.1 in let s : ℕ = sz E in let al : ℕ = capped (align (elτ E)) in
    let z : (walk_of 𝓛 En hs c).Ghost = ((κs, qs, bounds, a, (vptr hp.0 hp.1 ∷ [], (vint w64 k ∷ [], tt))), gh) in let Post : Val → SProp 𝓤 = (walk_of 𝓛 En hs c).post z in
    let Asks : Type 0 = FitsInBlock (R E) k × X.Denot in
    qed 𝓛 (((‵ (flft κ q) ⊛ (‵ (flft κ₁ q₁) ⊛ ‵ (flft κ₂ q₂) ⊛ ‵ ftrue)) ⊛ ‵ (owns (types_at En.signature.params κs) a z.0.4))
    ∷ raw (fact 𝓤 (κ₁ ⊑ X.lives)) ∷ raw (fact 𝓤 (κ₂ ⊑ W.lives)) ∷ raw (fact 𝓤 Asks) ∷ []) ∵
    move ! (1 ∷ 2 ∷ 3 ∷ []) $ heard ! (κ₁ ⊑ X.lives) (λ in_x. heard ! (κ₂ ⊑ W.lives) (λ in_w. heard ! Asks (λ asked. split ! $ split ! $ move ! (2 ∷ []) $ fsplit ! $ fsplit ! $ keep ! (1 ∷ 3 ∷ 4 ∷ []) $
    let small : k * s < 2 ^ 63 = asked.0.0 in let bytes : k * s < 2 ^ 64 = omega arith in
    enter ! 𝓣.C 𝓣.Λ fn (vptr hp.0 hp.1 ∷ vint w64 k ∷ []) Post $ alloc_all ! (λ l. pass_all ! refl ((tt, tt), ((tt, record { fits = fk }), tt)) $
    let Ev : Env 𝓤 H = env fn.locals l in let both : Body = head (after 2 fn.body) in
    let Then : After 𝓤 H = any_q (after_seq 𝓤 H (Wp 𝓤 H 𝓣.C 𝓣.Λ Ev (after 3 fn.body) (at_return 𝓤 H Ev Post)) (at_return 𝓤 H Ev Post)) in
    let y = at_takes Z 𝓛 𝓜.mem 𝓡.returns κ q hp heap (k * s) al (block_ty E k) in
    sets ! (is ! (bin ! (get ! refl) (size_word !) (record { fits = subst (λ (n : ℕ). n < 2 ^ 64) (sym (uncapped k s bytes)) bytes })) (ap (vint w64) (uncapped k s bytes))) refl (tt, record { fits = bytes }) $
    use2 𝓛 (raw ((Takes Z 𝓛 𝓜.mem 𝓡.returns).pre y)) (Takes-goes Z 𝓛 𝓜.mem 𝓡.returns κ q hp heap (Incl-trans bounds.0 in_w) (k * s) al (block_ty E k) (block_size E k bytes) (block_align E k) bytes (capped_fits (align (elτ E)))) $
    calls_at ! (fm 𝓛 𝓜 𝓡) (Takes Z 𝓛 𝓜.mem 𝓡.returns) (met.allocate dd) y (and_then ! (get ! refl) (and_then ! (get ! refl) (and_then ! (align_word !) (no_more !)))) (λ v.
    use1 𝓛 (later (raw (Answered Z 𝓛 𝓜.mem 𝓡.returns heap (block_ty E k) v) ⊛ ‵ (flft κ q))) (Takes-gives Z 𝓛 𝓜.mem 𝓡.returns κ q hp heap (k * s) al (block_ty E k) v) $ await ! tt $ split ! $
    answers Z ! 𝓜.mem 𝓡.returns heap (block_ty E k) v
    (λ b o e.
    let ys : List X.Denot = replicate k asked.1 in let fs : List Bool = replicate (length ys) false in let lx : k ≡ length ys = sym (length-replicate k asked.1) in let lf : k ≡ length fs = lx ∙ sym (length-replicate (length ys) false) in
    let words : WT (row_val b o k) = (tt, (record { fits = fk }, tt)) in let pair_words : WT (two_val (row_val b o k) mark) = (words, ((tt, tt), tt)) in let done_words : WT (live 0 (vcons (two_val (row_val b o k) mark) vnil)) = (record { fits = lit< tt }, (pair_words, tt)) in
    let w = at_from E 𝓛 𝓜.mem 𝓡.returns κ₁ q₁ b o k ys fs in
    lands_as ! e refl (Answer-typed true b o) $ first ! $ switches_on ! (get_tag ! (vrt ! refl (fld ! refl (stop !))) (whole !)) $ exec ! 𝓣.C 𝓣.Λ Ev (arm_body 0 both) Then $
    sets ! (of_opd ! (get_in ! (vrt ! refl (fld ! refl (stop !))) (in_variant ! 0 0 refl refl (whole !)))) refl (tt, tt) $
    use1 𝓛 (‵ (froom (ty_array (elτ E) k) b o)) (𝓛.laws.raw-room (ty_array (elτ E) k) b o) $ rewrite ! 0 (λ (n : ℕ). ‵ (froom (ty_array (elτ E) n) b o)) lx refl $ use1 𝓛 (‵ (places E b o ys fs)) (of_room E 𝓛 b ys o) $
    move ! (3 ∷ []) $ split3 ! $ move ! (3 ∷ 0 ∷ []) $ first ! $ blocks ! $ sets ! (of_opd ! (get ! refl)) refl (tt, tt) $
    use2 𝓛 (raw ((From E 𝓛 𝓜.mem 𝓡.returns).pre w)) (from_goes E 𝓛 𝓜.mem 𝓡.returns κ₁ q₁ b o k ys fs in_x lx lf fk small) $
    calls_at_last ! (fm 𝓛 𝓜 𝓡) (From E 𝓛 𝓜.mem 𝓡.returns) from w (and_then ! (get ! refl) (and_then ! (get ! refl) (no_more !))) (λ u.
    use1 𝓛 (later (some (λ (r : (Row E).Denot). given ((u ≡ row_val b o k) × Made E 𝓛 𝓜.mem 𝓡.returns κ₁ q₁ b o k ys fs r) (‵ ((Row E).own_val r (row_val b o k ∷ [])) ⊛ ‵ (flft κ₁ q₁)))))
    (from_gives E 𝓛 𝓜.mem 𝓡.returns κ₁ q₁ b o k ys fs u) $ await ! tt $ pick ! (λ r. learn ! (λ got. split ! $ let made = got.1 in
    let right : Rt.Denot = record { mark = record {}; at = block_ptr b o; count = k; alloc = heap } in
    lands_last ! refl (row_Typed E u b o k got.0 fk) $ exec ! 𝓣.C 𝓣.Λ Ev (after 2 (arm_body 0 both)) Then $ sets ! (is ! (of_opd ! (get ! refl)) got.0) refl (tt, words) $
    sets ! (of_opd ! (get ! refl)) refl (tt, words) $ sets ! (agg ! (no_more !)) refl (tt, tt) $ sets ! (agg ! (and_then ! (get ! refl) (no_more !))) refl (tt, (tt, tt)) $
    sets ! (agg ! (and_then ! (get ! refl) (and_then ! (get ! refl) (no_more !)))) refl (tt, pair_words) $
    sets_last ! (agg ! (and_then ! (lit ! tt) (and_then ! (get ! refl) (no_more !)))) refl (tt, done_words) $
    exec ! 𝓣.C 𝓣.Λ Ev (after 3 fn.body) (at_ret Ev Post) $ sets ! (of_opd ! (get ! refl)) refl (tt, done_words) $
    move ! (4 ∷ []) $ use0 𝓛 (‵ (RMark.own_val (tt, tt) (mark ∷ []))) (makes_shadow 𝓛 (RMark.own_val (tt, tt) (mark ∷ [])) (λ vss. (tt, ((λ uss. (tt, tt)), tt))) ((vstruct vnil ∷ [], tt), (refl, ((tt, (refl, tt)), tt)))) $ fjoin ! $
    move ! (1 ∷ 0 ∷ []) $ use2 𝓛 (‵ (Two.own_val (r, right) (two_val (row_val b o k) mark ∷ []))) (two_of 𝓛 (Row E) Rt r right (row_val b o k) mark) $
    use1 𝓛 (‵ (Out.own_val (Ok (r, right)) (live 0 (vcons (two_val (row_val b o k) mark) vnil) ∷ []))) (ok_of 𝓛 Two AE.the_row (r, right) (two_val (row_val b o k) mark)) $
    let Told : Type 0 = (slots_len r ≡ k) × (block_ptr b o ≡ slots_ptr r) × (k ≡ k) × (heap ≡ heap) in
    move ! (4 ∷ 1 ∷ 2 ∷ 3 ∷ []) $ group ! 4 $ use0 𝓛 (raw (fact 𝓤 Told)) (fact_i 𝓤 Told (emp 𝓤) (made.1, sym made.0, refl, refl)) $ nothing ! $ nothing ! $ fjoin ! $ nothing ! $ fjoin ! $
    returns ! (look_at ! 0 refl) $ free_all ! refl $ keep ! (2 ∷ 0 ∷ 3 ∷ 1 ∷ []) $ by ! (leaves 𝓛 En hs c z (live 0 (vcons (two_val (row_val b o k) mark) vnil)) (Ok (r, right)) (tt, (tt, tt)) (tt, (tt, tt)))))))
    (λ e.
    let Refusal : RattleType = Struct (Declared.shape AE.the_type) in let none : Val = live 1 (vcons (vstruct vnil) vnil) in let none_words : WT none = (record { fits = lit< tt }, (tt, tt)) in
    lands_as ! e refl (Answer-typed false 0 0) $ first ! $ switches_on ! (get_tag ! (vrt ! refl (fld ! refl (stop !))) (whole !)) $ exec ! 𝓣.C 𝓣.Λ Ev (arm_body 1 both) Then $
    sets ! (of_opd ! (get_in ! (vrt ! refl (fld ! refl (stop !))) (in_variant ! 1 0 refl refl (whole !)))) refl (tt, tt) $
    sets_last ! (agg ! (and_then ! (lit ! tt) (and_then ! (get ! refl) (no_more !)))) refl (tt, none_words) $
    exec ! 𝓣.C 𝓣.Λ Ev (after 3 fn.body) (at_ret Ev Post) $ sets ! (of_opd ! (get ! refl)) refl (tt, none_words) $
    owned ! Refusal (Is Refusal) (Struct-Makes 𝓛 (Declared.shape AE.the_type) tt) tt (vstruct vnil ∷ []) (tt, (refl, tt)) $
    use1 𝓛 (‵ (Out.own_val (Err (record {})) (none ∷ []))) (err_of 𝓛 Two AE.the_row (record {}) (vstruct vnil)) $
    move ! (1 ∷ 2 ∷ []) $ join ! $ use0 𝓛 (raw (fact 𝓤 (Unit {0}))) (fact_i 𝓤 (Unit {0}) (emp 𝓤) tt) $ nothing ! $ nothing ! $ fjoin ! $ nothing ! $ fjoin ! $
    returns ! (look_at ! 0 refl) $ free_all ! refl $ keep ! (2 ∷ 0 ∷ 3 ∷ 1 ∷ []) $ by ! (leaves 𝓛 En hs c z none (Err (record {})) (tt, (tt, tt)) (tt, (tt, tt))))))))))
