-- The cells of both, under one owner. Assumes `Logic`.
use Rattle.atomic_table.proofs.Names.{◌≡◌, ◌*◌, ◌^◌, List, [], ◌∷◌, length, sym, refl, ◌∙◌, a_type, Val, inst_fn, SProp, emp, id⊢, Lft, Share, ftrue, flft, ‵, raw, ◌⊛◌, ◌$◌, ◌∵◌, !, qed, by, move, keep, split, join, fsplit, fjoin, use0, use2, rewrite, no_more, and_then, returns, enter, alloc_all, pass_all, free_all, look_at, get, sets, agg, tables, no, RattleType, owns, types_at, plain, Ptr, nothing, layouts, Stays, stay_dropped, walk_of, Goes-dropped, fact, fact_i, heard, ◌⊑◌, flt_i}
use base.Logic.{never}
use types.Kit.{flt_l}
use denote.RawPtr.{in_a_block}
use Rattle.atomic_table.proofs.Walks.{proved, leaves}
use Rattle.core.proofs.mem.Param.{El, R}
use Rattle.strided_block.specs.Memory.{all_owned, cells_owned}
use Rattle.strided_block.specs.Parts.{joined}
use Rattle.strided_block.proofs.Owners.{Cr, Mark, mark, mark_made, mark_told, sz, Place, joined_small, merges}
use Rattle.strided_block.specs.contracts.memory.Share.meet.{ended, clauses}
use Rattle.strided_block.specs.contracts.memory.Share.meet.Key.{name as #self}
use Rattle.strided_block.proofs.memory.Share.meet.Statement.{statement}
use Rattle.strided_block.proofs.memory.Share.meet.Code as code

pub meet_spec : {M : Type 1} → statement M
meet_spec 𝓤 𝓛 𝓜 𝓡 wired T L =
    let H = 𝓛.H in let 𝓣 = tables 𝓤 H 𝓜 𝓡 𝓡.env in let E : El = record { row = T; laws = L } in let En = ended T in
    let inst = layouts (a_type ∷ []) (T, tt) in let fn = inst_fn inst code.function in let c = clauses T 𝓛 𝓜.mem 𝓡.returns in let C : RattleType = Cr E in
    let hs : Stays En.signature.params En.kept = (stay_dropped (plain (λ _. C)) no, (stay_dropped (plain (λ _. C)) no, tt)) in
    let goes = Goes-dropped 𝓛 1 (plain (λ _. C)) no (λ κs x f. refl) in
    proved 𝓛 En hs c 𝓜 𝓡 (goes, (goes, tt)) (#self inst) fn (code.unfolded 𝓤 H 𝓜 𝓡 wired (T, tt))
    (λ κs. ((λ _. mark ∷ []), ((λ _. mark ∷ []), tt))) (λ κs. ((λ x vs so. mark_told E vs so.0), ((λ x vs so. mark_told E vs so.0), tt))) (λ κs qs bounds a gh are.
    let κ : Lft = κs.0 in let q : Share = qs.0 in let x : C.Denot = a.0 in let y : C.Denot = a.1.0 in
    let z : (walk_of 𝓛 En hs c).Ghost = ((κs, qs, bounds, a, (mark ∷ [], (mark ∷ [], tt))), gh) in let Post : Val → SProp 𝓤 = (walk_of 𝓛 En hs c).post z in
    let all : List (Place E) = joined x.slots y.slots in let new : C.Denot = record { mark = x.mark; at = x.at; slots = all } in
    let Told : Type 0 = (x.at ≡ x.at) × (all ≡ all) in
    qed 𝓛 (((‵ (flft κ q) ⊛ ‵ ftrue) ⊛ ‵ (owns (types_at En.signature.params κs) a z.0.4)) ∷ raw (fact 𝓤 (κ ⊑ T.lives)) ∷ raw (fact 𝓤 (y.at ≡ x.at)) ∷ []) ∵
    move ! (1 ∷ 2 ∷ []) $ heard ! (κ ⊑ T.lives) (λ le. heard ! (y.at ≡ x.at) (λ same. split ! $ split ! $ move ! (2 ∷ []) $ fsplit ! $ fsplit ! $ move ! (2 ∷ []) $ fsplit ! $ fsplit ! $
    keep ! (4 ∷ 1 ∷ 5 ∷ []) $ in_a_block ! x.at (λ p. cells_owned (R E) p x.slots) (id⊢ 𝓤 (never 𝓤)) (λ b o e. fsplit ! $ flt_l ! (λ small.
    rewrite ! 1 (λ (p : Ptr). ‵ (cells_owned (R E) p y.slots)) (same ∙ e) refl $ move ! (1 ∷ []) $ fsplit ! $ flt_l ! (λ tight. move ! (1 ∷ 0 ∷ []) $
    use2 𝓛 (‵ (all_owned (R E) b o all)) (merges E 𝓛 b o x.slots y.slots) $
    flt_i ! (length all * sz E) (2 ^ 63) (joined_small x.slots y.slots (sz E) (2 ^ 63) small tight) $ fjoin ! $
    rewrite ! 0 (λ (p : Ptr). ‵ (cells_owned (R E) p all)) (sym e) refl $
    use0 𝓛 (‵ ((Mark E).own_val (tt, tt) (mark ∷ []))) (mark_made E 𝓛) $ fjoin ! $
    enter ! 𝓣.C 𝓣.Λ fn (mark ∷ mark ∷ []) Post $ alloc_all ! (λ l. pass_all ! refl ((tt, (tt, tt)), ((tt, (tt, tt)), tt)) $
    sets ! (agg ! (no_more !)) refl (tt, tt) $ sets ! (agg ! (and_then ! (get ! refl) (no_more !))) refl (tt, (tt, tt)) $
    nothing ! $ move ! (2 ∷ 0 ∷ []) $ join ! $ use0 𝓛 (raw (fact 𝓤 Told)) (fact_i 𝓤 Told (emp 𝓤) (refl, refl)) $ nothing ! $ nothing ! $ fjoin ! $ nothing ! $ fjoin ! $
    returns ! (look_at ! 0 refl) $ free_all ! refl $ keep ! (2 ∷ 0 ∷ 3 ∷ 1 ∷ []) $ by ! (leaves 𝓛 En hs c z mark new (tt, (tt, tt)) (tt, (tt, tt))))))))))
