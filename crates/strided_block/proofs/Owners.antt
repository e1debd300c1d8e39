-- What the walks over raw cells share. Assumes `Logic`.
--     base_told, mark_told, mark_made, two_of      the machine values of an `Origin`, of a `Share` and of a pair
--     run_out, run_in, run_seen      a run of cells is taken out of the block's, put back, or seen
--     to_cells, of_cells      cells that are all there, as those of a slice
--     deals, merges      the cells are dealt to two owners, and those of two come to one
use mathlib.Core.Path.{◌≡◌, refl, sym, ap, subst, ◌∙◌}
use mathlib.Core.Logic.{◌⊎◌, inl, inr}
use Prim.Native.Nat.{ℕ, zero, suc, ◌+◌, ◌*◌, ◌<◌, ◌≤◌}
use native.Mathlib.Omega.{arith}
use native.Mathlib.Nat.{zero-mul, suc-mul}
use mathlib.Core.Bool.{Bool, true, false, not, cond}
use mathlib.Core.List.{List, [], ◌∷◌, ◌++◌, map}
use lib.ListN.{length, take, drop, get_or, replicate, take-append-drop, length-take, length-drop}
use lib.Seq.{drop-drop}
use seplogic.Ra.Ura.{Ura}
use base.Fraction.{full_share}
use mir.Val.{Val, vstruct, vcons, vnil, of_list}
use base.Logic.{ent, sep, emp, via, snd∗, id⊢, mono_r}
use base.Fml.{Fml, Lft, ftrue, fsep}
use types.Logic.{Logic, sem}
use types.SemTy.{cells}
use types.Kit.{‵, ◌⊛◌, ◌$◌, ◌∵◌, !, qed, by, move, keep, drop as skip, use1, use2, split, fsplit, fjoin, feq_i, fpack, rewrite, done}
use denote.RattleType.{RattleType, Valss}
use denote.Laws.{Is}
use denote.Memory.{part_at, mem}
use denote.RawPtr.{Ptr, RawPtr, block_ptr, ptr_val}
use denote.Index.{whole_in, whole_out}
use denote.Shadow.{makes_shadow}
use denote.Slice.{elements_shared}
use denote.Steps.{nothing}
use denote.Struct.Struct.{Shape, Struct, within}
use denote.Struct.Owning.{shape}
use denote.Struct.Declared as Declared
use denote.Struct.Tuple.{Tuple, tuple_type}
use Rattle.std.specs.Prelude.{Option, Some, None}
use Rattle.std.specs.Mem.{type_size}
use Rattle.core.proofs.mem.Param.{El, R, el_x}
use Rattle.core.proofs.slots.Places.{of_row, to_row}
use Rattle.core.specs.Mem.Slots.Ownership.{slots}
use Rattle.std_alloc.proofs.RcSteps.{word}
use Rattle.strided_block.specs.Memory.{one_owned, all_owned, one_lent, all_lent}
use Rattle.strided_block.specs.Parts.{dealt, either, joined}
use Rattle.strided_block.specs.contracts.memory.Share as C-type
use Rattle.strided_block.specs.contracts.memory.Origin as B-type

module _ (E : El) where
  abbrev pub Cr : RattleType
  Cr = C-type.the_row (R E)

  abbrev pub Bs : RattleType
  Bs = B-type.the_row (R E)

  -- the one field of `Share`, which takes no bytes
  abbrev pub Mark : RattleType
  Mark = Struct (shape (C-type.the_type (R E)))

  abbrev pub sz : ℕ
  sz = type_size (R E)

  abbrev pub Place : Type 0
  Place = Option (el_x E)

abbrev one_word : Shape
one_word = record { name = []; args = []; types = []; fields = RawPtr ∷ [] }

abbrev pub Word : RattleType
Word = Struct one_word

pub base_told : (p : Ptr) (vs : List Val) → Is Word (p, tt) vs → vs ≡ word p ∷ []
base_told p vs is = is.1.0 ∙ ap (λ (ws : List Val). vstruct (of_list (ws ++ [])) ∷ []) is.1.1.0

pub base_made : (E : El) {M : Type 1} {𝓤 : Ura M} (𝓛 : Logic 𝓤) (p : Ptr) → ent 𝓤 (emp 𝓤) (sem 𝓛 ((Bs E).own_val (record { ptr = p }) (word p ∷ [])))
base_made E 𝓛 p = makes_shadow 𝓛 ((Bs E).own_val (record { ptr = p }) (word p ∷ [])) (λ vss. (tt, (tt, tt))) ((ptr_val p ∷ [], tt), (refl, (refl, tt)))

abbrev pub mark : Val
mark = vstruct (vcons (vstruct vnil) vnil)

pub mark_made : (E : El) {M : Type 1} {𝓤 : Ura M} (𝓛 : Logic 𝓤) → ent 𝓤 (emp 𝓤) (sem 𝓛 ((Mark E).own_val (tt, tt) (mark ∷ [])))
mark_made E 𝓛 = makes_shadow 𝓛 ((Mark E).own_val (tt, tt) (mark ∷ [])) (λ vss. (tt, ((λ uss. (tt, tt)), tt))) ((vstruct vnil ∷ [], tt), (refl, ((tt, (refl, tt)), tt)))

pub mark_told : (E : El) (vs : List Val) → Is (Mark E) (tt, tt) vs → vs ≡ mark ∷ []
mark_told E vs is = is.1.0 ∙ ap (λ (ws : List Val). vstruct (of_list (ws ++ [])) ∷ []) is.1.1.0.1.0

abbrev pub two_val : Val → Val → Val
two_val u v = vstruct (vcons u (vcons v vnil))

pub two_of : {M : Type 1} {𝓤 : Ura M} (𝓛 : Logic 𝓤) (R S : RattleType) (x : R.Denot) (y : S.Denot) (u v : Val)
    → ent 𝓤 (sep 𝓤 (sem 𝓛 (R.own_val x (u ∷ []))) (sem 𝓛 (S.own_val y (v ∷ [])))) (sem 𝓛 ((Tuple (R ∷ S ∷ [])).own_val (x, y) (two_val u v ∷ [])))
two_of 𝓛 R S x y u v =
    qed 𝓛 (‵ (R.own_val x (u ∷ [])) ∷ ‵ (S.own_val y (v ∷ [])) ∷ []) ∵ nothing ! $ move ! (2 ∷ 0 ∷ []) $ fjoin ! $ move ! (1 ∷ 0 ∷ []) $ fjoin ! $
    feq_i ! (List Val) (two_val u v ∷ []) (two_val u v ∷ []) refl $ fjoin ! $
    fpack ! (Valss (R ∷ S ∷ [])) (within (Declared.shape (tuple_type (R ∷ S ∷ []))) (x, (y, tt)) (two_val u v ∷ [])) (u ∷ [], (v ∷ [], tt)) $ done !

module _ {X : Type 0} where
  pub length-dealt : (q : ℕ → Bool) (k : ℕ) (cs : List (Option X)) → length (dealt q k cs) ≡ length cs
  length-dealt q k [] = refl
  length-dealt q k (c ∷ cs) = ap suc (length-dealt q (suc k) cs)

  pub length-joined : (cs ds : List (Option X)) → (length (joined cs ds) ≡ length cs) ⊎ (length (joined cs ds) ≡ length ds)
  length-joined [] ds = inr refl
  length-joined (c ∷ cs) [] = inl refl
  length-joined (c ∷ cs) (d ∷ ds) = elim (length-joined cs ds) [ inl e ↦ inl (ap suc e) | inr e ↦ inr (ap suc e) ]

  take_all : (cs : List X) → take (length cs) cs ≡ cs
  take_all [] = refl
  take_all (c ∷ cs) = ap (λ l. c ∷ l) (take_all cs)

  pub joined_small : (cs ds : List (Option X)) (s m : ℕ) → length cs * s < m → length ds * s < m → length (joined cs ds) * s < m
  joined_small cs ds s m p q = elim (length-joined cs ds) [ inl e ↦ subst (λ n. n * s < m) (sym e) p | inr e ↦ subst (λ n. n * s < m) (sym e) q ]

pub all_there : {X : Type 0} (cs : List (Option X)) (n : ℕ) (xs : List X) → n ≡ length cs → take n cs ≡ map Some xs → cs ≡ map Some xs
all_there cs n xs e is = sym (take_all cs) ∙ ap (λ m. take m cs) (sym e) ∙ is

module _ (E : El) {M : Type 1} {𝓤 : Ura M} (𝓛 : Logic 𝓤) (b : ℕ) where
  abbrev One : ℕ → Place E → Fml
  One = one_owned (R E) b

  abbrev All : ℕ → List (Place E) → Fml
  All = all_owned (R E) b

  -- ---- a run of the cells

  parted : (cs ds : List (Place E)) (o at : ℕ) → at ≡ length cs * sz E + o → ent 𝓤 (sem 𝓛 (All o (cs ++ ds))) (sep 𝓤 (sem 𝓛 (All o cs)) (sem 𝓛 (All at ds)))
  parted [] ds o at e = qed 𝓛 (‵ (All o ds) ∷ []) ∵ rewrite ! 0 (λ (k : ℕ). ‵ (All k ds)) {x = at} (omega (arith, zero-mul (sz E))) refl $ nothing ! $ done !
  parted (c ∷ cs) ds o at e = qed 𝓛 (‵ (All o (c ∷ cs ++ ds)) ∷ []) ∵ fsplit ! $ move ! (1 ∷ []) $
      use1 𝓛 (‵ (All (o + sz E) cs) ⊛ ‵ (All at ds)) (parted cs ds (o + sz E) at (omega (arith, e, suc-mul (length cs) (sz E)))) $ split ! $ move ! (2 ∷ 0 ∷ []) $ fjoin ! $ done !

  brought : (cs ds : List (Place E)) (o at : ℕ) → at ≡ length cs * sz E + o → ent 𝓤 (sep 𝓤 (sem 𝓛 (All o cs)) (sem 𝓛 (All at ds))) (sem 𝓛 (All o (cs ++ ds)))
  brought [] ds o at e = qed 𝓛 (‵ ftrue ∷ ‵ (All at ds) ∷ []) ∵ skip ! $ rewrite ! 0 (λ (k : ℕ). ‵ (All k ds)) {x = o} (omega (arith, zero-mul (sz E))) refl $ done !
  brought (c ∷ cs) ds o at e = qed 𝓛 (‵ (All o (c ∷ cs)) ∷ ‵ (All at ds) ∷ []) ∵ fsplit ! $ move ! (1 ∷ 2 ∷ []) $
      use2 𝓛 (‵ (All (o + sz E) (cs ++ ds))) (brought cs ds (o + sz E) at (omega (arith, e, suc-mul (length cs) (sz E)))) $ move ! (1 ∷ 0 ∷ []) $ fjoin ! $ done !

  module _ (o : ℕ) (cs : List (Place E)) (i n : ℕ) (le : i + n ≤ length cs) where
    -- the cells but for the n from the i-th on
    abbrev pub Others : Fml
    Others = fsep (All o (take i cs)) (All (n * sz E + (i * sz E + o)) (drop (i + n) cs))

    starts : i * sz E + o ≡ length (take i cs) * sz E + o
    starts = let long : i ≡ length (take i cs) = omega (arith, length-take i cs) in ap (λ k. k * sz E + o) long

    pub run_out : ent 𝓤 (sem 𝓛 (All o cs)) (sep 𝓤 (sem 𝓛 (All (i * sz E + o) (take n (drop i cs)))) (sem 𝓛 Others))
    run_out =
        let run = take n (drop i cs) in let rest = drop (i + n) cs in let long : n ≡ length run = omega (arith, length-take n (drop i cs), length-drop i cs) in
        let whole : take i cs ++ (run ++ rest) ≡ cs = ap (λ l. take i cs ++ (run ++ l)) (sym (drop-drop n i cs)) ∙ ap (λ l. take i cs ++ l) (take-append-drop n (drop i cs)) ∙ take-append-drop i cs in
        qed 𝓛 (‵ (All o cs) ∷ []) ∵ rewrite ! 0 (λ (l : List (Place E)). ‵ (All o l)) (sym whole) refl $
        use1 𝓛 (‵ (All o (take i cs)) ⊛ ‵ (All (i * sz E + o) (run ++ rest))) (parted (take i cs) (run ++ rest) o (i * sz E + o) starts) $ split ! $ move ! (1 ∷ []) $
        use1 𝓛 (‵ (All (i * sz E + o) run) ⊛ ‵ (All (n * sz E + (i * sz E + o)) rest)) (parted run rest (i * sz E + o) (n * sz E + (i * sz E + o)) (ap (λ k. k * sz E + (i * sz E + o)) long)) $
        split ! $ move ! (2 ∷ 1 ∷ []) $ fjoin ! $ move ! (1 ∷ []) $ done !

    pub run_in : (ws : List (Place E)) → n ≡ length ws → ent 𝓤 (sep 𝓤 (sem 𝓛 (All (i * sz E + o) ws)) (sem 𝓛 Others)) (sem 𝓛 (All o (take i cs ++ (ws ++ drop (i + n) cs))))
    run_in ws long = let rest = drop (i + n) cs in
        qed 𝓛 (‵ (All (i * sz E + o) ws) ∷ ‵ Others ∷ []) ∵ move ! (1 ∷ []) $ fsplit ! $ move ! (2 ∷ 1 ∷ []) $
        use2 𝓛 (‵ (All (i * sz E + o) (ws ++ rest))) (brought ws rest (i * sz E + o) (n * sz E + (i * sz E + o)) (ap (λ k. k * sz E + (i * sz E + o)) long)) $ move ! (1 ∷ 0 ∷ []) $
        by ! (brought (take i cs) (ws ++ rest) o (i * sz E + o) starts)

  pub to_cells : (xs : List (el_x E)) (o : ℕ) → ent 𝓤 (sem 𝓛 (All o (map Some xs))) (sem 𝓛 (cells (mem (R E)) xs b o))
  to_cells [] o = id⊢ 𝓤 (emp 𝓤)
  to_cells (x ∷ xs) o = mono_r 𝓤 (sem 𝓛 (part_at (R E) full_share x b o)) (to_cells xs (o + sz E))

  pub of_cells : (xs : List (el_x E)) (o : ℕ) → ent 𝓤 (sem 𝓛 (cells (mem (R E)) xs b o)) (sem 𝓛 (All o (map Some xs)))
  of_cells [] o = id⊢ 𝓤 (emp 𝓤)
  of_cells (x ∷ xs) o = mono_r 𝓤 (sem 𝓛 (part_at (R E) full_share x b o)) (of_cells xs (o + sz E))

  -- the places of a full row, as cells that are all there
  pub of_row_cells : (o : ℕ) (xs : List (el_x E)) (fs : List Bool) → length fs ≡ length xs → ((k : ℕ) → k < length fs → get_or fs k false ≡ true)
      → ent 𝓤 (sem 𝓛 (slots (R E) (block_ptr b o) xs fs)) (sem 𝓛 (All o (map Some xs)))
  of_row_cells o xs fs long full = via 𝓤 _ (via 𝓤 _ (to_row E 𝓛 b xs fs o long full) (whole_in 𝓛 (R E) xs b o)) (of_cells xs o)

  pub to_row_cells : (o : ℕ) (xs : List (el_x E)) → ent 𝓤 (sem 𝓛 (All o (map Some xs))) (sem 𝓛 (slots (R E) (block_ptr b o) xs (replicate (length xs) true)))
  to_row_cells o xs = via 𝓤 _ (to_cells xs o) (via 𝓤 _ (whole_out 𝓛 (R E) xs b o) (of_row E 𝓛 b xs o))

  module _ (κ : Lft) where
    abbrev Lent : ℕ → List (Place E) → Fml
    Lent o cs = all_lent (R E) b o cs κ

    later_on : (cs : List (Place E)) (i o at : ℕ) → i ≤ length cs → at ≡ i * sz E + o → ent 𝓤 (sem 𝓛 (Lent o cs)) (sem 𝓛 (Lent at (drop i cs)))
    later_on cs zero o at le e = let same : o ≡ at = omega (arith, e, zero-mul (sz E)) in subst (λ k. ent 𝓤 (sem 𝓛 (Lent o cs)) (sem 𝓛 (Lent k cs))) same (id⊢ 𝓤 _)
    later_on [] (suc i) o at le e = absurd (omega arith)
    later_on (c ∷ cs) (suc i) o at le e = let next = o + sz E in
        via 𝓤 (sem 𝓛 (Lent next cs)) (snd∗ 𝓤 (sem 𝓛 (one_lent (R E) b o c κ)) (sem 𝓛 (Lent next cs))) (later_on cs i next at (omega arith) (omega (arith, e, suc-mul i (sz E))))

    as_elements : (xs : List (el_x E)) (rest : List (Place E)) (o : ℕ) → ent 𝓤 (sem 𝓛 (Lent o (map Some xs ++ rest))) (sem 𝓛 (elements_shared (R E) xs b o κ))
    as_elements [] rest o = qed 𝓛 (‵ (Lent o rest) ∷ []) ∵ keep ! [] $ done !
    as_elements (x ∷ xs) rest o = mono_r 𝓤 (sem 𝓛 (one_lent (R E) b o (Some x) κ)) (as_elements xs rest (o + sz E))

    pub run_seen : (o : ℕ) (cs : List (Place E)) (i n : ℕ) (xs : List (el_x E)) → i ≤ length cs → take n (drop i cs) ≡ map Some xs
        → ent 𝓤 (sem 𝓛 (Lent o cs)) (sem 𝓛 (elements_shared (R E) xs b (i * sz E + o) κ))
    run_seen o cs i n xs le e = let run : drop i cs ≡ map Some xs ++ drop n (drop i cs) = sym (take-append-drop n (drop i cs)) ∙ ap (λ l. l ++ drop n (drop i cs)) e in
        qed 𝓛 (‵ (Lent o cs) ∷ []) ∵ use1 𝓛 (‵ (Lent (i * sz E + o) (drop i cs))) (later_on cs i o (i * sz E + o) le refl) $
        rewrite ! 0 (λ (l : List (Place E)). ‵ (Lent (i * sz E + o) l)) run refl $ by ! (as_elements xs (drop n (drop i cs)) (i * sz E + o))

  -- ---- two owners

  deals_one : (v : Bool) (o : ℕ) (c : Place E) → ent 𝓤 (sem 𝓛 (One o c)) (sep 𝓤 (sem 𝓛 (One o (cond v c None))) (sem 𝓛 (One o (cond (not v) c None))))
  deals_one true o c = qed 𝓛 (‵ (One o c) ∷ []) ∵ nothing ! $ move ! (1 ∷ 0 ∷ []) $ done !
  deals_one false o c = qed 𝓛 (‵ (One o c) ∷ []) ∵ nothing ! $ done !

  pub deals : (q : ℕ → Bool) (k o : ℕ) (cs : List (Place E)) → ent 𝓤 (sem 𝓛 (All o cs)) (sep 𝓤 (sem 𝓛 (All o (dealt q k cs))) (sem 𝓛 (All o (dealt (λ i. not (q i)) k cs))))
  deals q k o [] = qed 𝓛 (‵ ftrue ∷ []) ∵ nothing ! $ done !
  deals q k o (c ∷ cs) =
      qed 𝓛 (‵ (All o (c ∷ cs)) ∷ []) ∵ fsplit ! $
      use1 𝓛 (‵ (One o (cond (q k) c None)) ⊛ ‵ (One o (cond (not (q k)) c None))) (deals_one (q k) o c) $ split ! $ move ! (2 ∷ []) $
      use1 𝓛 (‵ (All (o + sz E) (dealt q (suc k) cs)) ⊛ ‵ (All (o + sz E) (dealt (λ i. not (q i)) (suc k) cs))) (deals q (suc k) (o + sz E) cs) $ split ! $
      move ! (2 ∷ 0 ∷ []) $ fjoin ! $ move ! (2 ∷ 1 ∷ []) $ fjoin ! $ move ! (1 ∷ 0 ∷ []) $ done !

  merges_one : (o : ℕ) (c d : Place E) → ent 𝓤 (sep 𝓤 (sem 𝓛 (One o c)) (sem 𝓛 (One o d))) (sem 𝓛 (One o (either c d)))
  merges_one o None d = qed 𝓛 (‵ ftrue ∷ ‵ (One o d) ∷ []) ∵ skip ! $ done !
  merges_one o (Some x) d = qed 𝓛 (‵ (One o (Some x)) ∷ ‵ (One o d) ∷ []) ∵ keep ! (0 ∷ []) $ done !

  pub merges : (o : ℕ) (cs ds : List (Place E)) → ent 𝓤 (sep 𝓤 (sem 𝓛 (All o cs)) (sem 𝓛 (All o ds))) (sem 𝓛 (All o (joined cs ds)))
  merges o [] ds = qed 𝓛 (‵ ftrue ∷ ‵ (All o ds) ∷ []) ∵ skip ! $ done !
  merges o (c ∷ cs) [] = qed 𝓛 (‵ (All o (c ∷ cs)) ∷ ‵ ftrue ∷ []) ∵ keep ! (0 ∷ []) $ done !
  merges o (c ∷ cs) (d ∷ ds) =
      qed 𝓛 (‵ (All o (c ∷ cs)) ∷ ‵ (All o (d ∷ ds)) ∷ []) ∵ fsplit ! $ move ! (2 ∷ []) $ fsplit ! $ move ! (2 ∷ 0 ∷ []) $
      use2 𝓛 (‵ (One o (either c d))) (merges_one o c d) $ move ! (2 ∷ 1 ∷ []) $ use2 𝓛 (‵ (All (o + sz E) (joined cs ds))) (merges (o + sz E) cs ds) $ move ! (1 ∷ 0 ∷ []) $ fjoin ! $ done !
