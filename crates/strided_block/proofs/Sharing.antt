-- What a `&` to cells holds, and that it may be made and may go to another thread. Assumes `Logic`.
use Prim.Native.Nat.{ℕ, ◌+◌}
use Rattle.std.specs.Prelude.{List, [], ◌∷◌, Option, Some, None}
use Rattle.std.specs.Mem.{type_size}
use seplogic.Ra.Ura.{Ura}
use base.Fraction.{full_share}
use base.Fml.{Lft, Incl, ftrue, ffalse}
use base.Shift.{Keyless}
use types.Logic.{Logic}
use denote.RattleType.{RattleType, RowLaws}
use denote.Param.Laws.{Laws}
use denote.Param.Send.{IsSend, IsSync, Common, AllSend, part_keyless, owning_send, struct_send, struct_sync, sendable}
use denote.RawPtr.{Ptr, block_ptr, null_ptr}
use denote.Sharing.{ShrLaws, said}
use denote.SharingLaws.{beside_shr_laws, nothing_shr_laws, said_shr_laws}
use denote.Shares.{Shares-less}
use denote.Struct.Lending.{Lends, Lends-both, Lends-nothing, Lends-said, Lends-false}
use denote.Struct.Struct.{exits_of}
use denote.Struct.Owning.{shape, fields, to}
use Rattle.std_alloc.proofs.SendSync.{FreesAnywhere, quiet}
use Rattle.strided_block.specs.Memory.{one_owned, all_owned, one_lent, all_lent, small, cells_owned, cells_lent}
use Rattle.core.specs.declared.alloc.Allocator.{Ghosts}
use Rattle.strided_block.specs.contracts.memory.Share as Share
use Rattle.strided_block.specs.contracts.memory.Right as Right

module _ (R : RattleType) (L : RowLaws R) where
  one_laws : (b o : ℕ) (c : Option R.Denot) → ShrLaws (one_lent R b o c)
  one_laws b o None = nothing_shr_laws
  one_laws b o (Some x) = L x b o

  all_laws : (b o : ℕ) (cs : List (Option R.Denot)) → ShrLaws (all_lent R b o cs)
  all_laws b o [] = nothing_shr_laws
  all_laws b o (c ∷ cs) = beside_shr_laws _ _ (one_laws b o c) (all_laws b (o + type_size R) cs)

  pub cells_laws : (p : Ptr) (cs : List (Option R.Denot)) → ShrLaws (cells_lent R p cs)
  cells_laws null_ptr cs = said_shr_laws ffalse tt
  cells_laws (block_ptr b o) cs = beside_shr_laws _ _ (said_shr_laws (small R cs) tt) (all_laws b o cs)

module _ {M : Type 1} {𝓤 : Ura M} (𝓛 : Logic 𝓤) (l : Lft) (R : RattleType) (L : Laws R) (inc : Incl l R.lives) where
  Lends-one : (b o : ℕ) (c : Option R.Denot) → Lends 𝓛 (one_owned R b o c) (one_lent R b o c) l
  Lends-one b o None = Lends-nothing 𝓛 ftrue l
  Lends-one b o (Some x) = λ κ ts. Shares-less 𝓛 R R.lives l inc (L.shares 𝓛) x κ ts b o

  Lends-all : (b o : ℕ) (cs : List (Option R.Denot)) → Lends 𝓛 (all_owned R b o cs) (all_lent R b o cs) l
  Lends-all b o [] = Lends-nothing 𝓛 ftrue l
  Lends-all b o (c ∷ cs) = let next = o + type_size R in
      Lends-both 𝓛 (one_owned R b o c) (all_owned R b next cs) (one_lent R b o c) (all_lent R b next cs) l (Lends-one b o c) (Lends-all b next cs)

  pub Lends-cells : (p : Ptr) (cs : List (Option R.Denot)) → Lends 𝓛 (cells_owned R p cs) (cells_lent R p cs) l
  Lends-cells null_ptr cs = Lends-false 𝓛 (said ffalse) l
  Lends-cells (block_ptr b o) cs = Lends-both 𝓛 (small R cs) (all_owned R b o cs) (said (small R cs)) (all_lent R b o cs) l (Lends-said 𝓛 (small R cs) tt l) (Lends-all b o cs)

module _ (R : RattleType) where
  all-Keyless : IsSend R → (b o : ℕ) (cs : List (Option R.Denot)) → Keyless (all_owned R b o cs)
  all-Keyless s b o [] = tt
  all-Keyless s b o (None ∷ cs) = (tt, all-Keyless s b (o + type_size R) cs)
  all-Keyless s b o (Some x ∷ cs) = (part_keyless R s full_share x b o, all-Keyless s b (o + type_size R) cs)

  cells-Keyless : IsSend R → (p : Ptr) (cs : List (Option R.Denot)) → Keyless (cells_owned R p cs)
  cells-Keyless s null_ptr cs = tt
  cells-Keyless s (block_ptr b o) cs = (tt, all-Keyless s b o cs)

  all-Common : IsSync R → (b o : ℕ) (cs : List (Option R.Denot)) → Common (all_lent R b o cs)
  all-Common y b o [] κ = tt
  all-Common y b o (None ∷ cs) κ = (tt, all-Common y b (o + type_size R) cs κ)
  all-Common y b o (Some x ∷ cs) κ = (y.shared x b o κ, all-Common y b (o + type_size R) cs κ)

  cells-Common : IsSync R → (p : Ptr) (cs : List (Option R.Denot)) → Common (cells_lent R p cs)
  cells-Common y null_ptr cs κ = tt
  cells-Common y (block_ptr b o) cs κ = (tt, all-Common y b o cs κ)

  pub Share-send : IsSend R → IsSend (Share.the_row R)
  Share-send s =
      let O = Share.the_type R in let own : AllSend (fields O) = (search sendable, tt) in
      owning_send O own (λ c. cells-Keyless s c.at c.slots) (λ k. quiet (to O) (exits_of k (fields O)) ((struct_send (shape O) own).leaving k))

  pub Share-sync : IsSync R → IsSync (Share.the_row R)
  Share-sync y = let O = Share.the_type R in record { shared = λ c b o κ. ((struct_sync (shape O) (search sendable, tt)).shared (to O c) b o κ, cells-Common y c.at c.slots κ) }

  module _ (A : RattleType) (g : Ghosts A.Denot) where
    pub Right-send : FreesAnywhere A.Denot g → IsSend (Right.the_row R A g)
    Right-send f =
        let O = Right.the_type R A g in let own : AllSend (fields O) = (search sendable, tt) in
        owning_send O own (λ r. f.frees r.alloc _ r.at) (λ k. quiet (to O) (exits_of k (fields O)) ((struct_send (shape O) own).leaving k))

    pub Right-sync : FreesAnywhere A.Denot g → IsSync (Right.the_row R A g)
    Right-sync f = record { shared = λ r b o κ q. part_keyless (Right.the_row R A g) (Right-send f) q r b o }
