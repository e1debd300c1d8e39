-- The places of a row go back to the allocator. Assumes `Logic`.
use Rattle.atomic_table.proofs.Names.{◌≡◌, ℕ, ◌*◌, ◌^◌, ◌<◌, List, [], ◌∷◌, ◌++◌, length, sym, refl, ap, ◌∙◌, subst, arith, Val, vunit, vptr, vint, w64, inst_fn, SProp, ent, id⊢, Lft, Share, ftrue, flft, ‵, raw, ◌⊛◌, given, later, at_ret, ◌$◌, ◌∵◌, !, qed, by, move, keep, split, join, group, split3, suffices, fsplit, fsplit3, fjoin, feq_l, vstruct, of_list, feq_i, learn, use1, use2, use3, await, rewrite, stop, fld, of_opd, unit_lit, bin, size_word, no_more, and_then, first, blocks, exec, returns, enter, alloc_all, pass_all, free_all, look_at, get, get_in, sets, lands_last, is, env, sub, whole, tables, yes, no, RattleType, owns, types_at, plain, Ptr, nothing, Stays, stay_dropped, walk_of, Goes-dropped, fact, heard, RefOf, WT, WpFn, ◌⊑◌, calls_at_last, capped, Bool}
use base.Fml.{froom, Incl-trans}
use lib.Dec.{T}
use mir.Syntax.{ty_array, ty_unit}
use mir.Val.{has_ty}
use prog.Memory.{align}
use prog.Capped.{capped_fits}
use types.Run.{align_word}
use Rattle.atomic_table.proofs.Walks.{leaves, proved_at}
use Rattle.atomic_table.proofs.Calls.{fm}
use Rattle.atomic_table.proofs.Raw.{Row, all as places, parts_typed, Row-seen, Into, at_into, Into-goes, Into-gives}
use Rattle.core.proofs.alloc.Calls.{Al, token, Gives, at_gives, Gives-goes, Gives-Gives, Goes-blank}
use Rattle.core.proofs.atomic.Steps.{tail}
use Rattle.core.proofs.mem.Param.{El, R, elτ}
use Rattle.core.proofs.slots.Leases.{uncapped, block_ty, block_size, block_align, args, P}
use Rattle.core.proofs.slots.Opens.{row_val}
use Rattle.core.proofs.slots.Places.{to_room}
use Rattle.core.proofs.slots.Slots.into_raw_parts.Met as callee
use Rattle.core.specs.Mem.Slots.{slots_items, slots_filled, slots_ptr, slots_len, slots_counts}
use Rattle.strided_block.specs.Memory.{right_owned}
use Rattle.strided_block.specs.contracts.memory.Right as Rights
use Rattle.strided_block.specs.contracts.memory.give as F
use Rattle.strided_block.specs.contracts.memory.give.Key.{name as #self}
use Rattle.strided_block.proofs.Owners.{mark, sz}
use Rattle.strided_block.proofs.memory.give.Statement.{statement}
use Rattle.strided_block.proofs.memory.give.Code as code

pub give_spec : {M : Type 1} → statement M
give_spec 𝓤 𝓛 𝓜 𝓡 wired X W LX LW g d dd met md =
    let H = 𝓛.H in let 𝓣 = tables 𝓤 H 𝓜 𝓡 𝓡.env in let E : El = record { row = X; laws = LX } in let Z : Al = record { row = W; laws = LW; g = g; d = d; drops = dd } in
    let En = F.ended X W g d dd in let fn = inst_fn (args E Z) code.function in let c = F.clauses X W g d dd 𝓛 𝓜.mem 𝓡.returns in let Rt : RattleType = Rights.the_row (R E) (P E Z) g in
    let into = callee.met 𝓤 𝓛 𝓜 𝓡 (code.calls-core::slots::Slots::into_raw_parts 𝓡.env wired) X LX in
    let handle = RefOf (0 ∷ []) tt (plain (λ _. P E Z)) (λ _. tt) in
    let hs : Stays En.signature.params En.kept = (stay_dropped handle yes, (stay_dropped (plain (λ _. Row E)) no, (stay_dropped (plain (λ _. Rt)) no, tt))) in
    proved_at 𝓛 En hs c 𝓜 𝓡 (Goes-dropped 𝓛 3 handle yes (λ κs x f. refl), (Goes-dropped 𝓛 3 (plain (λ _. Row E)) no (λ κs x f. refl), (Goes-blank 𝓛 3 (plain (λ _. Rt)) no (λ κs x f. tt), tt))) (#self (args E Z)) fn (code.unfolded 𝓤 H 𝓜 𝓡 wired (X, (W, tt)) d dd) (λ z are.
    let κ : Lft = z.0.0.0 in let κ₁ : Lft = z.0.0.1.0 in let κ₂ : Lft = z.0.0.1.1.0 in let q : Share = z.0.1.0 in let q₁ : Share = z.0.1.1.0 in let q₂ : Share = z.0.1.1.1.0 in
    let hp : ℕ × ℕ = z.0.3.0.ref_ptr in let a : W.Denot = z.0.3.0.now in let r : (Row E).Denot = z.0.3.1.0 in let t : Rt.Denot = z.0.3.1.1.0 in let vss = z.0.4 in
    let k : ℕ = slots_len r in let xs : List X.Denot = slots_items r in let fs : List Bool = slots_filled r in let s : ℕ = sz E in let al : ℕ = capped (align (elτ E)) in
    let Post : Val → SProp 𝓤 = (walk_of 𝓛 En hs c).post z in let Run : List Val → SProp 𝓤 = λ ws. WpFn 𝓤 H 𝓣.C 𝓣.Λ fn ws Post in
    let Asks : Type 0 = (t.at ≡ slots_ptr r) × (t.count ≡ slots_len r) × (t.alloc ≡ a) in
    qed 𝓛 (((‵ (flft κ q) ⊛ (‵ (flft κ₁ q₁) ⊛ ‵ (flft κ₂ q₂) ⊛ ‵ ftrue)) ⊛ ‵ (owns (types_at En.signature.params z.0.0) z.0.3 vss))
    ∷ raw (fact 𝓤 (κ₁ ⊑ X.lives)) ∷ raw (fact 𝓤 (κ₂ ⊑ W.lives)) ∷ raw (fact 𝓤 Asks) ∷ []) ∵
    move ! (1 ∷ 2 ∷ 3 ∷ []) $ heard ! (κ₁ ⊑ X.lives) (λ in_x. heard ! (κ₂ ⊑ W.lives) (λ in_w. heard ! Asks (λ asked. split ! $ split ! $ move ! (2 ∷ []) $
    fsplit3 ! $ fsplit ! $ feq_l ! (λ e₀. move ! (1 ∷ []) $ Row-seen E ! r vss.1.0 (λ b o at e₁ fk fit. move ! (2 ∷ []) $ fsplit ! $ fsplit ! $ keep ! (1 ∷ 3 ∷ 4 ∷ 5 ∷ 6 ∷ []) $
    -- [the right; the row; the handle; its token; the other tokens]
    rewrite ! 0 (λ (x : W.Denot × Ptr × ℕ). ‵ (right_owned (token Z x.0) (R E) x.1 x.2)) (λ i. (asked.2 i, (asked.0 ∙ at) i, asked.1 i)) refl $
    move ! (4 ∷ []) $ split3 ! $ move ! (4 ∷ 0 ∷ []) $
    let told = are.1.1.0.0 in let e₂ : vss.1.1.0 ≡ mark ∷ [] = told.1.0 ∙ ap (λ (ws : List Val). vstruct (of_list (ws ++ [])) ∷ []) told.1.1.0.1.0 in
    let us : List Val = vptr hp.0 hp.1 ∷ row_val b o k ∷ mark ∷ [] in let words : WT (row_val b o k) = (tt, (record { fits = fk }, tt)) in
    let lx : k ≡ length xs = (slots_counts r).0 in let lf : k ≡ length fs = (slots_counts r).1 in let bytes : k * s < 2 ^ 64 = omega arith in
    suffices ! (Run us) (subst (λ (ws : List Val). ent 𝓤 (Run us) (Run ws)) (sym (λ i. e₀ i ++ (e₁ i ++ (e₂ i ++ [])))) (id⊢ 𝓤 (Run us))) $
    enter ! 𝓣.C 𝓣.Λ fn us Post $ alloc_all ! (λ l. pass_all ! refl ((tt, tt), ((tt, words), ((tt, (tt, tt)), tt))) $ let Ev = env fn.locals l in
    let y = at_into E 𝓛 𝓜.mem 𝓡.returns κ₁ q₁ r b o in let w = at_gives Z 𝓛 𝓜.mem 𝓡.returns κ q hp a b o (k * s) al (block_ty E k) in
    first ! $ blocks ! $ sets ! (of_opd ! (get ! refl)) refl (tt, words) $
    use2 𝓛 (raw ((Into E 𝓛 𝓜.mem 𝓡.returns).pre y)) (Into-goes E 𝓛 𝓜.mem 𝓡.returns κ₁ q₁ r b o in_x) $
    calls_at_last ! (fm 𝓛 𝓜 𝓡) (Into E 𝓛 𝓜.mem 𝓡.returns) into y (and_then ! (get ! refl) (no_more !)) (λ v.
    use1 𝓛 (later (given (v ≡ row_val b o k) (‵ (places E b o xs fs) ⊛ ‵ (flft κ₁ q₁)))) (Into-gives E 𝓛 𝓜.mem 𝓡.returns κ₁ q₁ r b o v at) $ await ! tt $ learn ! (λ ev. split ! $
    lands_last ! refl (parts_typed v b o k ev fk) $ exec ! 𝓣.C 𝓣.Λ Ev (tail fn.body) (at_ret Ev Post) $ sets ! (is ! (of_opd ! (get ! refl)) ev) refl (tt, words) $
    use1 𝓛 (‵ (froom (ty_array (elτ E) (length xs)) b o)) (to_room E 𝓛 b xs fs o (sym lf ∙ lx)) $ rewrite ! 0 (λ (n : ℕ). ‵ (froom (ty_array (elτ E) n) b o)) (sym lx) refl $
    use1 𝓛 (‵ (froom (block_ty E k) b o)) (𝓛.laws.room-raw (ty_array (elτ E) k) b o) $ first ! $ blocks ! $
    sets ! (of_opd ! (get_in ! (fld ! refl (stop !)) (sub ! 0 refl (whole !)))) refl (tt, tt) $
    sets ! (is ! (bin ! (get_in ! (fld ! refl (stop !)) (sub ! 1 refl (whole !))) (size_word !) (record { fits = subst (λ (n : ℕ). n < 2 ^ 64) (sym (uncapped k s bytes)) bytes })) (ap (vint w64) (uncapped k s bytes))) refl (tt, record { fits = bytes }) $
    move ! (5 ∷ 6 ∷ []) $ join ! $ move ! (1 ∷ 5 ∷ 0 ∷ []) $ use3 𝓛 (raw ((Gives Z 𝓛 𝓜.mem 𝓡.returns).pre w))
    (Gives-goes Z 𝓛 𝓜.mem 𝓡.returns κ q hp a (Incl-trans z.0.2.0 in_w) b o (k * s) al (block_ty E k) (block_size E k bytes) (block_align E k) bytes (capped_fits (align (elτ E)))) $
    calls_at_last ! (fm 𝓛 𝓜 𝓡) (Gives Z 𝓛 𝓜.mem 𝓡.returns) (met.deallocate dd) w (and_then ! (get ! refl) (and_then ! (get ! refl) (and_then ! (get ! refl) (and_then ! (align_word !) (no_more !))))) (λ u.
    use1 𝓛 (later (given (u ≡ vunit) (‵ (flft κ q)))) (Gives-Gives Z 𝓛 𝓜.mem 𝓡.returns κ q hp a b o (k * s) al (block_ty E k) u) $ await ! tt $ learn ! (λ ended.
    lands_last ! refl (subst (λ (x : Val). T (has_ty ty_unit x) × WT x) (sym ended) (tt, tt)) $ exec ! 𝓣.C 𝓣.Λ Ev (tail (tail (tail fn.body))) (at_ret Ev Post) $ sets ! (of_opd ! (unit_lit !)) refl (tt, tt) $
    group ! 4 $ feq_i ! (List Val) (vunit ∷ []) (vunit ∷ []) refl $ nothing ! $ nothing ! $ fjoin ! $ nothing ! $ fjoin ! $ nothing ! $ fjoin ! $ nothing ! $
    returns ! (look_at ! 0 refl) $ free_all ! refl $ keep ! (3 ∷ 1 ∷ 2 ∷ 0 ∷ []) $ by ! (leaves 𝓛 En hs c z vunit tt (tt, (tt, (tt, tt))) (tt, (tt, (tt, tt)))))))))))))))
