-- A run of the cells is seen as a slice. Assumes `Logic`.
use Rattle.atomic_table.proofs.Names.{◌≡◌, ℕ, ◌+◌, ◌*◌, ◌^◌, ◌<◌, List, [], ◌∷◌, length, sym, refl, ap, ◌∙◌, subst, arith, w64, a_type, named, Val, vptr, vint, inst_fn, SProp, emp, id⊢, Lft, Share, ftrue, flft, ‵, raw, ◌⊛◌, at_ret, ◌$◌, ◌∵◌, !, qed, by, move, keep, drop as skip, split, join, fsplit, fjoin, use0, use1, rewrite, stop, fld, of_opd, bin, size_word, no_more, and_then, first, blocks, exec, returns, enter, alloc_all, pass_all, free_all, look_at, get, get_in, sets, sets_last, is, env, agg, sub, whole, tables, yes, no, RattleType, owns, types_at, plain, Ptr, nothing, layouts, Stays, stay_dropped, walk_of, Goes-dropped, fact, fact_i, heard, flt_i, feq_i, RefOf, usize, shr_vals, shr_Tells, uint_vals, uint_Tells, ◌⊑◌, unhide, full_share}
use base.Logic.{never}
use base.Fml.{fat}
use types.Kit.{flt_l}
use types.ByLocal.{take_at, give_at}
use lib.ListN.{take, length-take, length-drop}
use lib.ListN.{drop as drop_l}
use denote.RawPtr.{in_a_block}
use denote.Opens.{hide}
use denote.Ref.{Bor}
use denote.Param.{layout}
use denote.Slice.{slice_val, elements_shared}
use Rattle.atomic_table.proofs.Walks.{proved, leaves}
use Rattle.core.proofs.atomic.Steps.{tail}
use Rattle.core.proofs.mem.Param.{El, R}
use Rattle.core.proofs.ptr.Rows.{times_below}
use Rattle.core.proofs.slots.Leases.{uncapped}
use Rattle.std.specs.Prelude.{map, Some}
use Rattle.std.proofs.lemmas.List.{length-map}
use Rattle.std_alloc.proofs.RcSteps.{word, word-Good}
use Rattle.strided_block.specs.Memory.{cells_lent}
use Rattle.strided_block.specs.Parts.{IsRun}
use Rattle.strided_block.proofs.Owners.{Cr, Bs, base_told, sz, run_seen}
use Rattle.strided_block.specs.contracts.memory.Share.run.{ended, clauses}
use Rattle.strided_block.specs.contracts.memory.Share.run.Key.{name as #self}
use Rattle.strided_block.proofs.memory.Share.run.Statement.{statement}
use Rattle.strided_block.proofs.memory.Share.run.Code as code

pub run_spec : {M : Type 1} → statement M
run_spec 𝓤 𝓛 𝓜 𝓡 wired T L =
    let H = 𝓛.H in let 𝓣 = tables 𝓤 H 𝓜 𝓡 𝓡.env in let E : El = record { row = T; laws = L } in let En = ended T in
    let inst = layouts (a_type ∷ []) (T, tt) in let fn = inst_fn inst code.function in let c = clauses T 𝓛 𝓜.mem 𝓡.returns in let C : RattleType = Cr E in let B : RattleType = Bs E in
    let hs : Stays En.signature.params En.kept = (stay_dropped (RefOf (0 ∷ []) tt (plain (λ _. C)) (λ _. tt)) yes, (stay_dropped (plain (λ _. B)) no, (stay_dropped (plain (λ _. usize)) yes, (stay_dropped (plain (λ _. usize)) yes, tt)))) in
    let number = Goes-dropped 𝓛 2 (plain (λ _. usize)) yes (λ κs x f. refl) in
    proved 𝓛 En hs c 𝓜 𝓡 (Goes-dropped 𝓛 2 (RefOf (0 ∷ []) tt (plain (λ _. C)) (λ _. tt)) yes (λ κs x f. refl), (Goes-dropped 𝓛 2 (plain (λ _. B)) no (λ κs x f. refl), (number, (number, tt)))) (#self inst) fn (code.unfolded 𝓤 H 𝓜 𝓡 wired (T, tt))
    (λ κs. (shr_vals, ((λ x. word x.ptr ∷ []), (uint_vals w64, (uint_vals w64, tt))))) (λ κs. (shr_Tells (named 0) κs.0 C, ((λ x vs so. base_told x.ptr vs so), (uint_Tells w64, (uint_Tells w64, tt))))) (λ κs qs bounds a gh are.
    let κ : Lft = κs.0 in let q : Share = qs.0 in let κ₁ : Lft = κs.1.0 in let q₁ : Share = qs.1.0 in let d : C.Denot = a.0.now in let p : Ptr = a.1.0.ptr in let from : ℕ = a.1.1.0 in let n : ℕ = a.1.1.1.0 in let rb : ℕ = a.0.ref_ptr.0 in let ro : ℕ = a.0.ref_ptr.1 in
    let fits_from : from < 2 ^ 64 = are.1.1.0.1 in let fits_n : n < 2 ^ 64 = are.1.1.1.0.1 in
    let vals : List Val = vptr rb ro ∷ word p ∷ vint w64 from ∷ vint w64 n ∷ [] in
    let z : (walk_of 𝓛 En hs c).Ghost = ((κs, qs, bounds, a, (vptr rb ro ∷ [], (word p ∷ [], (vint w64 from ∷ [], (vint w64 n ∷ [], tt))))), gh) in let Post : Val → SProp 𝓤 = (walk_of 𝓛 En hs c).post z in
    let Asks : Type 0 = (p ≡ d.at) × IsRun d.slots from n in
    qed 𝓛 (((‵ (flft κ q) ⊛ (‵ (flft κ₁ q₁) ⊛ ‵ ftrue)) ⊛ ‵ (owns (types_at En.signature.params κs) a z.0.4)) ∷ raw (fact 𝓤 (κ₁ ⊑ T.lives)) ∷ raw (fact 𝓤 Asks) ∷ []) ∵
    move ! (1 ∷ 2 ∷ []) $ heard ! (κ₁ ⊑ T.lives) (λ le. heard ! Asks (λ asked. split ! $ split ! $ move ! (2 ∷ []) $ fsplit ! $ fsplit ! $ keep ! (1 ∷ 3 ∷ 4 ∷ []) $
    let xs : List T.Denot = asked.1.1.0 in let there : take n (drop_l from d.slots) ≡ map Some xs = asked.1.1.1 in let within = asked.1.0 in
    let long : length xs ≡ n = omega (arith, ap length there, length-map xs Some, length-take n (drop_l from d.slots), length-drop from d.slots) in
    enter ! 𝓣.C 𝓣.Λ fn vals Post $ alloc_all ! (λ l. pass_all ! refl ((tt, tt), (word-Good [] p, ((tt, record { fits = fits_from }), ((tt, record { fits = fits_n }), tt)))) $ let Ev = env fn.locals l in
    unhide ! $ fsplit ! $ skip ! $ in_a_block ! d.at (λ p. cells_lent (R E) p d.slots κ) (id⊢ 𝓤 (never 𝓤)) (λ b o e. fsplit ! $ flt_l ! (λ tight.
    let far : from * sz E < 2 ^ 64 = omega (arith, times_below from (length d.slots) (sz E) (2 ^ 63) (omega arith) tight) in
    take_at ! 2 $ rewrite ! 0 (λ (π : Ptr). ‵ (fat full_share (layout B) (l 2) 0 (word π))) (asked.0 ∙ e) refl $ give_at ! 2 $ first ! $ blocks ! $
    sets ! (is ! (bin ! (get ! refl) (size_word !) (record { fits = subst (λ (k : ℕ). k < 2 ^ 64) (sym (uncapped from (sz E) far)) far })) (ap (vint w64) (uncapped from (sz E) far))) refl (tt, record { fits = far }) $
    sets ! (bin ! (get_in ! (fld ! refl (stop !)) (sub ! 0 refl (whole !))) (get ! refl) tt) refl (tt, tt) $
    let at : ℕ × ℕ = (b, from * sz E + o) in
    use1 𝓛 (‵ (elements_shared (R E) xs b (from * sz E + o) κ)) (run_seen E 𝓛 b κ o d.slots from n xs (omega arith) there) $ hide ! $
    sets_last ! (agg ! (and_then ! (get ! refl) (and_then ! (get ! refl) (no_more !)))) refl (tt, (tt, (record { fits = fits_n }, tt))) $
    exec ! 𝓣.C 𝓣.Λ Ev (tail fn.body) (at_ret Ev Post) $ sets ! (of_opd ! (get ! refl)) refl (tt, (tt, (record { fits = fits_n }, tt))) $
    flt_i ! (length xs * sz E) (2 ^ 63) (times_below (length xs) (length d.slots) (sz E) (2 ^ 63) (omega arith) tight) $ flt_i ! (length xs) (2 ^ 64) (omega arith) $ fjoin ! $
    feq_i ! (List Val) (slice_val at n ∷ []) (slice_val at (length xs) ∷ []) (ap (λ k. slice_val at k ∷ []) (sym long)) $ fjoin ! $ fjoin ! $
    let r : Bor (List T.Denot) = record { ref_ptr = at; now = xs } in let Told : Type 0 = take n (drop_l from d.slots) ≡ map Some xs in
    move ! (1 ∷ 2 ∷ []) $ join ! $ move ! (1 ∷ []) $ use0 𝓛 (raw (fact 𝓤 Told)) (fact_i 𝓤 Told (emp 𝓤) there) $ nothing ! $ nothing ! $ fjoin ! $ nothing ! $ fjoin ! $ nothing ! $ fjoin ! $ nothing ! $ fjoin ! $
    returns ! (look_at ! 0 refl) $ free_all ! refl $ keep ! (3 ∷ 0 ∷ 2 ∷ 1 ∷ []) $ by ! (leaves 𝓛 En hs c z (slice_val at n) r (tt, (tt, (tt, (tt, tt)))) (tt, (tt, (tt, (tt, tt)))))))))))
