-- The cells of a whole block, as a full row. Assumes `Logic`.
use Rattle.atomic_table.proofs.Names.{◌≡◌, ℕ, ◌*◌, ◌^◌, ◌<◌, List, [], ◌∷◌, length, sym, refl, ap, ◌∙◌, subst, w64, a_type, Val, vint, inst_fn, SProp, emp, id⊢, Lft, Share, ftrue, flft, ‵, raw, ◌⊛◌, some, given, later, at_ret, ◌$◌, ◌∵◌, !, qed, by, move, keep, split, join, fsplit, fjoin, pick, learn, use0, use1, use2, await, rewrite, stop, fld, of_opd, no_more, and_then, first, blocks, exec, returns, enter, alloc_all, pass_all, free_all, look_at, get, get_in, sets, lands_last, is, env, sub, whole, tables, yes, no, RattleType, owns, types_at, plain, Ptr, block_ptr, nothing, layouts, Stays, stay_dropped, walk_of, Goes-dropped, fact, fact_i, heard, usize, uint_vals, uint_Tells, Bool, true, replicate, length-replicate, get_or-replicate, WT, ◌⊑◌, calls_at_last}
use base.Logic.{never}
use types.Kit.{flt_l}
use types.ByLocal.{take_at, give_at}
use base.Fml.{fat}
use base.Fraction.{full_share}
use denote.Param.{layout}
use denote.RawPtr.{in_a_block}
use Rattle.atomic_table.proofs.Walks.{proved, leaves}
use Rattle.core.proofs.atomic.Steps.{tail}
use Rattle.atomic_table.proofs.Calls.{fm}
use Rattle.core.specs.Mem.Slots.{slots_items, slots_ptr, slots_len, IsFull}
use Rattle.core.proofs.mem.Param.{El, R}
use Rattle.core.proofs.slots.Opens.{row_val}
use Rattle.core.proofs.slots.Slots.from_raw_parts.Met as callee
use Rattle.atomic_table.proofs.Raw.{Row, all as places, row_Typed, From, at_from, Made, from_goes, from_gives}
use Rattle.std.specs.Prelude.{map, Some}
use Rattle.std.proofs.lemmas.List.{length-map}
use Rattle.std_alloc.proofs.RcSteps.{word, word-Good}
use Rattle.strided_block.specs.Memory.{all_owned, cells_owned}
use Rattle.strided_block.proofs.Owners.{Cr, Bs, mark, mark_told, base_told, sz, Place, to_row_cells, all_there}
use Rattle.strided_block.specs.contracts.memory.Share.into_row.{ended, clauses}
use Rattle.strided_block.specs.contracts.memory.Share.into_row.Key.{name as #self}
use Rattle.strided_block.proofs.memory.Share.into_row.Statement.{statement}
use Rattle.strided_block.proofs.memory.Share.into_row.Code as code
use Rattle.strided_block.specs.Parts.{IsRun}

pub into_row_spec : {M : Type 1} → statement M
into_row_spec 𝓤 𝓛 𝓜 𝓡 wired T L =
    let H = 𝓛.H in let 𝓣 = tables 𝓤 H 𝓜 𝓡 𝓡.env in let E : El = record { row = T; laws = L } in let En = ended T in
    let inst = layouts (a_type ∷ []) (T, tt) in let fn = inst_fn inst code.function in let c = clauses T 𝓛 𝓜.mem 𝓡.returns in let C : RattleType = Cr E in let B : RattleType = Bs E in
    let met = callee.met 𝓤 𝓛 𝓜 𝓡 (code.calls-core::slots::Slots::from_raw_parts 𝓡.env wired) T L in
    let hs : Stays En.signature.params En.kept = (stay_dropped (plain (λ _. C)) no, (stay_dropped (plain (λ _. B)) no, (stay_dropped (plain (λ _. usize)) yes, tt))) in
    proved 𝓛 En hs c 𝓜 𝓡 (Goes-dropped 𝓛 1 (plain (λ _. C)) no (λ κs x f. refl), (Goes-dropped 𝓛 1 (plain (λ _. B)) no (λ κs x f. refl), (Goes-dropped 𝓛 1 (plain (λ _. usize)) yes (λ κs x f. refl), tt))) (#self inst) fn (code.unfolded 𝓤 H 𝓜 𝓡 wired (T, tt))
    (λ κs. ((λ _. mark ∷ []), ((λ x. word x.ptr ∷ []), (uint_vals w64, tt)))) (λ κs. ((λ x vs so. mark_told E vs so.0), ((λ x vs so. base_told x.ptr vs so), (uint_Tells w64, tt)))) (λ κs qs bounds a gh are.
    let κ : Lft = κs.0 in let q : Share = qs.0 in let d : C.Denot = a.0 in let p : Ptr = a.1.0.ptr in let k : ℕ = a.1.1.0 in let fk : k < 2 ^ 64 = are.1.1.0.1 in
    let z : (walk_of 𝓛 En hs c).Ghost = ((κs, qs, bounds, a, (mark ∷ [], (word p ∷ [], (vint w64 k ∷ [], tt)))), gh) in let Post : Val → SProp 𝓤 = (walk_of 𝓛 En hs c).post z in
    let Asks : Type 0 = (p ≡ d.at) × (k ≡ length d.slots) × IsRun d.slots 0 k in
    qed 𝓛 (((‵ (flft κ q) ⊛ ‵ ftrue) ⊛ ‵ (owns (types_at En.signature.params κs) a z.0.4)) ∷ raw (fact 𝓤 (κ ⊑ T.lives)) ∷ raw (fact 𝓤 Asks) ∷ []) ∵
    move ! (1 ∷ 2 ∷ []) $ heard ! (κ ⊑ T.lives) (λ le. heard ! Asks (λ asked. split ! $ split ! $ move ! (2 ∷ []) $ fsplit ! $ fsplit ! $ keep ! (1 ∷ 3 ∷ []) $
    let xs : List T.Denot = asked.2.1.0 in let there : d.slots ≡ map Some xs = all_there d.slots k xs asked.1 asked.2.1.1 in let lx : k ≡ length xs = asked.1 ∙ ap length there ∙ length-map xs Some in
    let fs : List Bool = replicate (length xs) true in
    in_a_block ! d.at (λ p. cells_owned (R E) p d.slots) (id⊢ 𝓤 (never 𝓤)) (λ b o e. fsplit ! $ flt_l ! (λ fit.
    let at : p ≡ block_ptr b o = asked.0 ∙ e in
    rewrite ! 0 (λ (l : List (Place E)). ‵ (all_owned (R E) b o l)) there refl $ use1 𝓛 (‵ (places E b o xs fs)) (to_row_cells E 𝓛 b o xs) $
    let lf : k ≡ length fs = lx ∙ sym (length-replicate (length xs) true) in let words : WT (row_val b o k) = (tt, (record { fits = fk }, tt)) in
    enter ! 𝓣.C 𝓣.Λ fn (mark ∷ word p ∷ vint w64 k ∷ []) Post $ alloc_all ! (λ l. pass_all ! refl ((tt, (tt, tt)), (word-Good [] p, ((tt, record { fits = fk }), tt))) $ let Ev = env fn.locals l in
    let y = at_from E 𝓛 𝓜.mem 𝓡.returns κ q b o k xs fs in
    take_at ! 2 $ rewrite ! 0 (λ (π : Ptr). ‵ (fat full_share (layout B) (l 2) 0 (word π))) at refl $ give_at ! 2 $ first ! $ blocks ! $
    use2 𝓛 (raw ((From E 𝓛 𝓜.mem 𝓡.returns).pre y)) (from_goes E 𝓛 𝓜.mem 𝓡.returns κ q b o k xs fs le lx lf fk (subst (λ (n : ℕ). n * sz E < 2 ^ 63) (sym asked.1) fit)) $
    calls_at_last ! (fm 𝓛 𝓜 𝓡) (From E 𝓛 𝓜.mem 𝓡.returns) met y (and_then ! (get_in ! (fld ! refl (stop !)) (sub ! 0 refl (whole !))) (and_then ! (get ! refl) (no_more !))) (λ v.
    use1 𝓛 (later (some (λ (r : (Row E).Denot). given ((v ≡ row_val b o k) × Made E 𝓛 𝓜.mem 𝓡.returns κ q b o k xs fs r) (‵ ((Row E).own_val r (row_val b o k ∷ [])) ⊛ ‵ (flft κ q)))))
    (from_gives E 𝓛 𝓜.mem 𝓡.returns κ q b o k xs fs v) $ await ! tt $ pick ! (λ r. learn ! (λ got. split ! $ let made = got.1 in
    let full : IsFull r = λ j low high. let near : j < length xs = subst (λ (n : ℕ). j < n) (made.1 ∙ lx) high in ap (λ (gs : List Bool). lib.ListN.get_or gs j mathlib.Core.Bool.false) made.3 ∙ get_or-replicate (length xs) j true mathlib.Core.Bool.false near in
    let Told : Type 0 = (slots_ptr r ≡ d.at) × (slots_len r ≡ k) × IsFull r × (map Some (slots_items r) ≡ d.slots) in
    lands_last ! refl (row_Typed E v b o k got.0 fk) $ exec ! 𝓣.C 𝓣.Λ Ev (tail fn.body) (at_ret Ev Post) $ sets ! (is ! (of_opd ! (get ! refl)) got.0) refl (tt, words) $
    nothing ! $ move ! (2 ∷ 0 ∷ []) $ join ! $ use0 𝓛 (raw (fact 𝓤 Told)) (fact_i 𝓤 Told (emp 𝓤) (made.0 ∙ sym e, made.1, full, ap (map Some) made.2 ∙ sym there)) $ nothing ! $ nothing ! $ fjoin ! $ nothing ! $ fjoin ! $ nothing ! $ fjoin ! $
    returns ! (look_at ! 0 refl) $ free_all ! refl $ keep ! (2 ∷ 0 ∷ 3 ∷ 1 ∷ []) $ by ! (leaves 𝓛 En hs c z (row_val b o k) r (tt, (tt, (tt, tt))) (tt, (tt, (tt, tt)))))))))))))
