-- The cells are dealt to two owners. Assumes `Logic`.
use Rattle.atomic_table.proofs.Names.{◌≡◌, ℕ, ◌*◌, ◌^◌, ◌<◌, List, [], ◌∷◌, length, sym, refl, subst, w64, a_type, Val, vint, inst_fn, SProp, emp, id⊢, Lft, Share, ftrue, flft, ‵, raw, ◌⊛◌, ◌$◌, ◌∵◌, !, qed, by, move, keep, split, join, fsplit, fjoin, use0, use1, use2, rewrite, no_more, and_then, returns, enter, alloc_all, pass_all, free_all, look_at, get, sets, agg, tables, yes, no, RattleType, owns, types_at, plain, Ptr, nothing, layouts, Stays, stay_dropped, walk_of, Goes-dropped, fact, fact_i, heard, ◌⊑◌, flt_i, usize, uint_vals, uint_Tells}
use base.Logic.{never}
use types.Kit.{flt_l}
use denote.RawPtr.{in_a_block}
use denote.Struct.Tuple.{Tuple}
use Rattle.atomic_table.proofs.Walks.{proved, leaves}
use Rattle.core.proofs.mem.Param.{El, R}
use Rattle.strided_block.specs.Memory.{all_owned, cells_owned}
use Rattle.strided_block.specs.Parts.{dealt, below, above}
use Rattle.strided_block.proofs.Owners.{Cr, Mark, mark, mark_made, mark_told, sz, Place, length-dealt, deals, two_val, two_of}
use Rattle.strided_block.specs.contracts.memory.Share.cut.{ended, clauses}
use Rattle.strided_block.specs.contracts.memory.Share.cut.Key.{name as #self}
use Rattle.strided_block.proofs.memory.Share.cut.Statement.{statement}
use Rattle.strided_block.proofs.memory.Share.cut.Code as code

pub cut_spec : {M : Type 1} → statement M
cut_spec 𝓤 𝓛 𝓜 𝓡 wired T L =
    let H = 𝓛.H in let 𝓣 = tables 𝓤 H 𝓜 𝓡 𝓡.env in let E : El = record { row = T; laws = L } in let En = ended T in
    let inst = layouts (a_type ∷ []) (T, tt) in let fn = inst_fn inst code.function in let c = clauses T 𝓛 𝓜.mem 𝓡.returns in let C : RattleType = Cr E in
    let hs : Stays En.signature.params En.kept = (stay_dropped (plain (λ _. C)) no, (stay_dropped (plain (λ _. usize)) yes, (stay_dropped (plain (λ _. usize)) yes, (stay_dropped (plain (λ _. usize)) yes, tt)))) in
    let word = Goes-dropped 𝓛 1 (plain (λ _. usize)) yes (λ κs x f. refl) in
    proved 𝓛 En hs c 𝓜 𝓡 (Goes-dropped 𝓛 1 (plain (λ _. C)) no (λ κs x f. refl), (word, (word, (word, tt)))) (#self inst) fn (code.unfolded 𝓤 H 𝓜 𝓡 wired (T, tt))
    (λ κs. ((λ _. mark ∷ []), (uint_vals w64, (uint_vals w64, (uint_vals w64, tt))))) (λ κs. ((λ x vs so. mark_told E vs so.0), (uint_Tells w64, (uint_Tells w64, (uint_Tells w64, tt))))) (λ κs qs bounds a gh are.
    let κ : Lft = κs.0 in let q : Share = qs.0 in let x : C.Denot = a.0 in let m : ℕ = a.1.0 in let n : ℕ = a.1.1.0 in let k : ℕ = a.1.1.1.0 in
    let z : (walk_of 𝓛 En hs c).Ghost = ((κs, qs, bounds, a, (mark ∷ [], (vint w64 m ∷ [], (vint w64 n ∷ [], (vint w64 k ∷ [], tt))))), gh) in let Post : Val → SProp 𝓤 = (walk_of 𝓛 En hs c).post z in
    let low : List (Place E) = dealt (below m n k) 0 x.slots in let high : List (Place E) = dealt (above m n k) 0 x.slots in
    let first : C.Denot = record { mark = x.mark; at = x.at; slots = low } in let second : C.Denot = record { mark = x.mark; at = x.at; slots = high } in
    let Told : Type 0 = (x.at ≡ x.at) × (x.at ≡ x.at) × (low ≡ low) × (high ≡ high) in
    qed 𝓛 (((‵ (flft κ q) ⊛ ‵ ftrue) ⊛ ‵ (owns (types_at En.signature.params κs) a z.0.4)) ∷ raw (fact 𝓤 (κ ⊑ T.lives)) ∷ ‵ ftrue ∷ []) ∵
    move ! (1 ∷ []) $ heard ! (κ ⊑ T.lives) (λ le. split ! $ split ! $ move ! (2 ∷ []) $ fsplit ! $ fsplit ! $
    keep ! (1 ∷ 3 ∷ []) $ in_a_block ! x.at (λ p. cells_owned (R E) p x.slots) (id⊢ 𝓤 (never 𝓤)) (λ b o e. fsplit ! $ flt_l ! (λ small.
    use1 𝓛 (‵ (all_owned (R E) b o low) ⊛ ‵ (all_owned (R E) b o high)) (deals E 𝓛 b (below m n k) 0 o x.slots) $ split ! $
    flt_i ! (length low * sz E) (2 ^ 63) (subst (λ (j : ℕ). j * sz E < 2 ^ 63) (sym (length-dealt (below m n k) 0 x.slots)) small) $ fjoin ! $
    rewrite ! 0 (λ (p : Ptr). ‵ (cells_owned (R E) p low)) (sym e) refl $
    use0 𝓛 (‵ ((Mark E).own_val (tt, tt) (mark ∷ []))) (mark_made E 𝓛) $ fjoin ! $ move ! (1 ∷ []) $
    flt_i ! (length high * sz E) (2 ^ 63) (subst (λ (j : ℕ). j * sz E < 2 ^ 63) (sym (length-dealt (above m n k) 0 x.slots)) small) $ fjoin ! $
    rewrite ! 0 (λ (p : Ptr). ‵ (cells_owned (R E) p high)) (sym e) refl $
    use0 𝓛 (‵ ((Mark E).own_val (tt, tt) (mark ∷ []))) (mark_made E 𝓛) $ fjoin ! $ move ! (1 ∷ 0 ∷ []) $
    use2 𝓛 (‵ ((Tuple (C ∷ C ∷ [])).own_val (first, second) (two_val mark mark ∷ []))) (two_of 𝓛 C C first second mark mark) $
    enter ! 𝓣.C 𝓣.Λ fn (mark ∷ vint w64 m ∷ vint w64 n ∷ vint w64 k ∷ []) Post $
    alloc_all ! (λ l. pass_all ! refl ((tt, (tt, tt)), ((tt, record { fits = are.1.0.1 }), ((tt, record { fits = are.1.1.0.1 }), ((tt, record { fits = are.1.1.1.0.1 }), tt)))) $
    sets ! (agg ! (no_more !)) refl (tt, tt) $ sets ! (agg ! (and_then ! (get ! refl) (no_more !))) refl (tt, (tt, tt)) $
    sets ! (agg ! (no_more !)) refl (tt, tt) $ sets ! (agg ! (and_then ! (get ! refl) (no_more !))) refl (tt, (tt, tt)) $
    sets ! (agg ! (and_then ! (get ! refl) (and_then ! (get ! refl) (no_more !)))) refl (tt, ((tt, tt), ((tt, tt), tt))) $
    nothing ! $ move ! (2 ∷ 0 ∷ []) $ join ! $ use0 𝓛 (raw (fact 𝓤 Told)) (fact_i 𝓤 Told (emp 𝓤) (refl, refl, refl, refl)) $
    nothing ! $ nothing ! $ fjoin ! $ nothing ! $ fjoin ! $ nothing ! $ fjoin ! $ nothing ! $ fjoin ! $
    returns ! (look_at ! 0 refl) $ free_all ! refl $ keep ! (2 ∷ 0 ∷ 3 ∷ 1 ∷ []) $ by ! (leaves 𝓛 En hs c z (two_val mark mark) (first, second) (tt, (tt, (tt, (tt, tt)))) (tt, (tt, (tt, (tt, tt))))))))))
