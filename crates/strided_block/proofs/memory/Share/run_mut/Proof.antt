-- A run of the cells is lent to be written, and the cells follow it. Assumes `Logic`.
use Rattle.atomic_table.proofs.Names.{◌≡◌, ℕ, ◌+◌, ◌*◌, ◌^◌, ◌<◌, ◌≤◌, List, [], ◌∷◌, ◌++◌, length, sym, refl, ap, ◌∙◌, subst, arith, w64, a_type, named, Val, vptr, vint, inst_fn, SProp, ent, sep, emp, id⊢, Lft, Share, Fml, ftrue, fsep, flft, ‵, raw, ◌⊛◌, some, later, at_ret, ◌$◌, ◌∵◌, !, qed, by, move, keep, split, split3, join, group, fsplit, fsplit3, fjoin, fjoin3, fpack, pick, use0, use1, use2, await, rewrite, stop, fld, of_opd, bin, size_word, no_more, and_then, first, blocks, exec, returns, enter, alloc_all, pass_all, free_all, look_at, get, get_in, sets, sets_last, is, env, agg, sub, whole, tables, yes, no, RattleType, owns, types_at, plain, Ptr, block_ptr, nothing, opens, layouts, Stays, stay_dropped, walk_of, Goes-dropped, Goes-spent_ref, fact, fact_i, heard, flt_i, RefMutOf, usize, mut_vals, mut_Tells, uint_vals, uint_Tells, ◌⊑◌, full_share, mem, cell_at, follows, sem, Logic, Ura}
use base.Logic.{never}
use base.Fml.{GName, fat}
use types.Kit.{flt_l}
use types.ByLocal.{take_at, give_at}
use types.SemTy.{cells}
use lib.ListN.{take, length-take, length-drop, length-append}
use lib.ListN.{drop as drop_l}
use lib.Seq.{take_at as take_front}
use denote.Array.{Array}
use denote.FollowSlice.{Elements, lends_Elements}
use denote.Memory.{part_of}
use denote.Param.{layout}
use denote.RawPtr.{in_a_block}
use denote.Ref.{MutBor}
use denote.Slice.{MutSlice, slice_val}
use Rattle.atomic_table.proofs.Walks.{proved, leaves}
use Rattle.core.proofs.atomic.Steps.{tail}
use Rattle.core.proofs.mem.Param.{El, R, el_x}
use Rattle.core.proofs.ptr.Rows.{times_below}
use Rattle.core.proofs.slots.Leases.{uncapped}
use Rattle.std.specs.Prelude.{map, Some}
use Rattle.std.specs.List.{refill}
use Rattle.std.proofs.lemmas.List.{length-map}
use Rattle.std_alloc.proofs.RcSteps.{word, word-Good}
use Rattle.strided_block.specs.Memory.{all_owned, cells_owned}
use Rattle.strided_block.specs.Parts.{IsRun, somes}
use Rattle.strided_block.specs.Lends.{with_slots, put_in}
use Rattle.strided_block.proofs.Owners.{Cr, Bs, Mark, base_told, sz, Place, Others, run_out, run_in, to_cells, of_cells}
use Rattle.strided_block.specs.contracts.memory.Share.run_mut.{ended, clauses}
use Rattle.strided_block.specs.contracts.memory.Share.run_mut.Key.{name as #self}
use Rattle.strided_block.proofs.memory.Share.run_mut.Statement.{statement}
use Rattle.strided_block.proofs.memory.Share.run_mut.Code as code

module _ (E : El) {M : Type 1} {𝓤 : Ura M} (𝓛 : Logic 𝓤) (d : (Cr E).Denot) (from n b o : ℕ) (at : d.at ≡ block_ptr b o) (within : from + n ≤ length d.slots) (tight : length d.slots * sz E < 2 ^ 63) (rb ro : ℕ) where
  -- the cells, once these are written
  abbrev written : List (el_x E) → (Cr E).Denot
  written ws = with_slots d (put_in d.slots from n (refill n (somes (take n (drop_l from d.slots))) ws))

  -- all but the run
  abbrev Rest : List Val → Fml
  Rest vs = fsep (Others E 𝓛 b o d.slots from n within) (fsep ((Mark E).own_val (tt, tt) vs) (cell_at full_share (Cr E).mir vs rb ro))

  returned : (vs : List Val) (xs : List (el_x E)) → length xs ≡ n → (ws : List (el_x E)) → length ws ≡ length xs
      → ent 𝓤 (sep 𝓤 (sem 𝓛 (cells (mem (R E)) ws b (from * sz E + o))) (sem 𝓛 (Rest vs))) (sem 𝓛 ((mem (Cr E)).own_at (written ws) rb ro))
  unfolding part_of
  returned vs xs count ws same =
      let old = somes (take n (drop_l from d.slots)) in let rest = drop_l (from + n) d.slots in
      let all : refill n old ws ≡ ws = take_front ws (drop_l (length ws) old) n (same ∙ count) in
      let long : length (written ws).slots ≡ length d.slots = ap (λ l. length (put_in d.slots from n l)) all
      ∙ omega (arith, same, count, length-append (take from d.slots) (map Some ws ++ rest), length-append (map Some ws) rest, length-map ws Some, length-take from d.slots, length-drop (from + n) d.slots) in
      qed 𝓛 (‵ (cells (mem (R E)) ws b (from * sz E + o)) ∷ ‵ (Rest vs) ∷ []) ∵ use1 𝓛 (‵ (all_owned (R E) b (from * sz E + o) (map Some ws))) (of_cells E 𝓛 b ws (from * sz E + o)) $
      move ! (1 ∷ []) $ fsplit3 ! $ move ! (3 ∷ 0 ∷ []) $
      use2 𝓛 (‵ (all_owned (R E) b o (put_in d.slots from n ws))) (run_in E 𝓛 b o d.slots from n within (map Some ws) (omega (arith, same, count, length-map ws Some))) $
      rewrite ! 0 (λ (l : List (el_x E)). ‵ (all_owned (R E) b o (put_in d.slots from n l))) (sym all) refl $
      flt_i ! (length (written ws).slots * sz E) (2 ^ 63) (subst (λ k. k * sz E < 2 ^ 63) (sym long) tight) $ fjoin ! $
      rewrite ! 0 (λ (p : Ptr). ‵ (cells_owned (R E) p (written ws).slots)) (sym at) refl $ move ! (1 ∷ 0 ∷ []) $ fjoin ! $ move ! (1 ∷ 0 ∷ []) $ fjoin ! $
      fpack ! (List Val) (λ us. fsep (cell_at full_share (Cr E).mir us rb ro) ((Cr E).own_val (written ws) us)) vs $ types.Kit.done !

pub run_mut_spec : {M : Type 1} → statement M
run_mut_spec 𝓤 𝓛 𝓜 𝓡 wired T L =
    let H = 𝓛.H in let 𝓣 = tables 𝓤 H 𝓜 𝓡 𝓡.env in let E : El = record { row = T; laws = L } in let En = ended T in
    let inst = layouts (a_type ∷ []) (T, tt) in let fn = inst_fn inst code.function in let c = clauses T 𝓛 𝓜.mem 𝓡.returns in let C : RattleType = Cr E in let B : RattleType = Bs E in
    let self = RefMutOf (0 ∷ []) tt (plain (λ _. C)) (λ _. tt) in
    let hs : Stays En.signature.params En.kept = (stay_dropped self no, (stay_dropped (plain (λ _. B)) no, (stay_dropped (plain (λ _. usize)) yes, (stay_dropped (plain (λ _. usize)) yes, tt)))) in
    let number = Goes-dropped 𝓛 2 (plain (λ _. usize)) yes (λ κs x f. refl) in
    proved 𝓛 En hs c 𝓜 𝓡 (Goes-spent_ref 𝓛 2 (0 ∷ []) tt (plain (λ _. C)), (Goes-dropped 𝓛 2 (plain (λ _. B)) no (λ κs x f. refl), (number, (number, tt)))) (#self inst) fn (code.unfolded 𝓤 H 𝓜 𝓡 wired (T, tt))
    (λ κs. (mut_vals, ((λ x. word x.ptr ∷ []), (uint_vals w64, (uint_vals w64, tt))))) (λ κs. (mut_Tells (named 0) κs.0 C, ((λ x vs so. base_told x.ptr vs so), (uint_Tells w64, (uint_Tells w64, tt))))) (λ κs qs bounds a gh are.
    let κ : Lft = κs.0 in let q : Share = qs.0 in let κ₁ : Lft = κs.1.0 in let q₁ : Share = qs.1.0 in let d : C.Denot = a.0.now in let p : Ptr = a.1.0.ptr in let from : ℕ = a.1.1.0 in let n : ℕ = a.1.1.1.0 in
    let rb : ℕ = a.0.ref_ptr.0 in let ro : ℕ = a.0.ref_ptr.1 in let γ : GName = a.0.ghost_name in let kept = C.coded.code d in
    let fits_from : from < 2 ^ 64 = are.1.1.0.1 in let fits_n : n < 2 ^ 64 = are.1.1.1.0.1 in
    let vals : List Val = vptr rb ro ∷ word p ∷ vint w64 from ∷ vint w64 n ∷ [] in
    let z : (walk_of 𝓛 En hs c).Ghost = ((κs, qs, bounds, a, (vptr rb ro ∷ [], (word p ∷ [], (vint w64 from ∷ [], (vint w64 n ∷ [], tt))))), gh) in let Post : Val → SProp 𝓤 = (walk_of 𝓛 En hs c).post z in
    let Asks : Type 0 = (p ≡ d.at) × IsRun d.slots from n in
    qed 𝓛 (((‵ (flft κ q) ⊛ (‵ (flft κ₁ q₁) ⊛ ‵ ftrue)) ⊛ ‵ (owns (types_at En.signature.params κs) a z.0.4)) ∷ raw (fact 𝓤 (κ₁ ⊑ T.lives)) ∷ raw (fact 𝓤 Asks) ∷ []) ∵
    move ! (1 ∷ 2 ∷ []) $ heard ! (κ₁ ⊑ T.lives) (λ le. heard ! Asks (λ asked. split ! $ split ! $ move ! (2 ∷ []) $ fsplit ! $ fsplit3 ! $ keep ! (1 ∷ 2 ∷ 4 ∷ 5 ∷ []) $
    let xs : List T.Denot = asked.1.1.0 in let there : take n (drop_l from d.slots) ≡ map Some xs = asked.1.1.1 in let within : from + n ≤ length d.slots = asked.1.0 in
    let long : length xs ≡ n = omega (arith, ap length there, length-map xs Some, length-take n (drop_l from d.slots), length-drop from d.slots) in
    enter ! 𝓣.C 𝓣.Λ fn vals Post $ alloc_all ! (λ l. pass_all ! refl ((tt, tt), (word-Good [] p, ((tt, record { fits = fits_from }), ((tt, record { fits = fits_n }), tt)))) $ let Ev = env fn.locals l in
    opens ! tt C {h = d} rb ro (λ vs. move ! (1 ∷ []) $ fsplit ! $ move ! (1 ∷ []) $
    in_a_block ! d.at (λ p. cells_owned (R E) p d.slots) (id⊢ 𝓤 (never 𝓤)) (λ b o e. fsplit ! $ flt_l ! (λ tight.
    let far : from * sz E < 2 ^ 64 = omega (arith, times_below from (length d.slots) (sz E) (2 ^ 63) (omega arith) tight) in
    take_at ! 2 $ rewrite ! 0 (λ (π : Ptr). ‵ (fat full_share (layout B) (l 2) 0 (word π))) (asked.0 ∙ e) refl $ give_at ! 2 $ first ! $ blocks ! $
    sets ! (is ! (bin ! (get ! refl) (size_word !) (record { fits = subst (λ (k : ℕ). k < 2 ^ 64) (sym (uncapped from (sz E) far)) far })) (ap (vint w64) (uncapped from (sz E) far))) refl (tt, record { fits = far }) $
    sets ! (bin ! (get_in ! (fld ! refl (stop !)) (sub ! 0 refl (whole !))) (get ! refl) tt) refl (tt, tt) $
    let at : ℕ = from * sz E + o in let new : List T.Denot → C.Denot = written E 𝓛 d from n b o e within tight rb ro in let Kept = sem 𝓛 (Rest E 𝓛 d from n b o e within tight rb ro vs) in
    let back = returned E 𝓛 d from n b o e within tight rb ro vs xs long in
    let roomy : length xs < 2 ^ 64 = omega arith in let fitting = times_below (length xs) (length d.slots) (sz E) (2 ^ 63) (omega arith) tight in
    use1 𝓛 (‵ (all_owned (R E) b at (take n (drop_l from d.slots))) ⊛ ‵ (Others E 𝓛 b o d.slots from n within)) (run_out E 𝓛 b o d.slots from n within) $ split ! $
    rewrite ! 0 (λ (cs : List (Place E)). ‵ (all_owned (R E) b at cs)) there refl $ use1 𝓛 (‵ (cells (mem (R E)) xs b at)) (to_cells E 𝓛 b xs at) $
    sets_last ! (agg ! (and_then ! (get ! refl) (and_then ! (get ! refl) (no_more !)))) refl (tt, (tt, (record { fits = fits_n }, tt))) $
    exec ! 𝓣.C 𝓣.Λ Ev (tail fn.body) (at_ret Ev Post) $ sets ! (of_opd ! (get ! refl)) refl (tt, (tt, (record { fits = fits_n }, tt))) $
    move ! (1 ∷ 2 ∷ 3 ∷ []) $ fjoin3 ! $ move ! (2 ∷ 3 ∷ 4 ∷ 1 ∷ 0 ∷ []) $ group ! 5 $
    use1 𝓛 (later (some (λ (δ : GName). raw (Elements 𝓛 C (R E) new (named 0) κ q rb ro b at γ xs (roomy, fitting) Kept back δ))))
    (lends_Elements 𝓛 C (R E) new (named 0) κ q rb ro b at γ xs (roomy, fitting) Kept back kept kept) $ await ! tt $ pick ! (λ δ.
    let r : MutBor (List T.Denot) = record { ref_ptr = (b, at); ghost_name = δ; now = xs } in let Told : Type 0 = take n (drop_l from d.slots) ≡ map Some xs in
    use1 𝓛 (‵ ((MutSlice (named 0) κ (R E)).own_val r (slice_val (b, at) (length xs) ∷ [])) ⊛ (‵ (flft κ q) ⊛ ‵ (follows C (Array (R E) 0) γ δ new))) (id⊢ 𝓤 _) $ split3 ! $
    rewrite ! 0 (λ (k : ℕ). ‵ ((MutSlice (named 0) κ (R E)).own_val r (slice_val (b, at) k ∷ []))) long refl $
    move ! (1 ∷ 3 ∷ []) $ join ! $ move ! (2 ∷ []) $ use0 𝓛 (raw (fact 𝓤 Told)) (fact_i 𝓤 Told (emp 𝓤) there) $ move ! (1 ∷ 0 ∷ []) $ join ! $
    nothing ! $ nothing ! $ fjoin ! $ nothing ! $ fjoin ! $ nothing ! $ fjoin ! $ nothing ! $ fjoin ! $
    returns ! (look_at ! 0 refl) $ free_all ! refl $ keep ! (2 ∷ 0 ∷ 3 ∷ 1 ∷ []) $ by ! (leaves 𝓛 En hs c z (slice_val (b, at) n) r (tt, (tt, (tt, (tt, tt)))) (tt, (tt, (tt, (tt, tt)))))))))))))
