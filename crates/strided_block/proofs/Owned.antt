-- Who has the cells of a block, and the right to free it.
use Rattle.std.proofs.Common.{◌≡◌, ◌<◌, ℕ, List, [], ◌∷◌, length, map, get_or, refl, sym, ap, subst, ◌∙◌, arith}
use Rattle.std.specs.Prelude.{true, Option, Some, None, is_some}
use Rattle.std.proofs.lemmas.List.{length-map}
use denote.RawPtr.{Ptr}
use Rattle.xr_types.specs.Points.{size}
use Rattle.strided_block.specs.Deeds.{deed_at, deed_count, HasDeed, IsOwner, IsBlock}
use Rattle.strided_block.specs.Parts.{somes, Changes}
use Rattle.strided_block.specs.Views.{IsFull}
use Rattle.strided_block.specs.declared.memory.Deed.{Deed}

module _ {X : Type 0} where
  pub somes-map : (xs : List X) → somes (map Some xs) ≡ xs
  somes-map [] = refl
  somes-map (x ∷ xs) = ap (λ l. x ∷ l) (somes-map xs)

  first_there : (xs : List X) → 0 < length xs → is_some (get_or (map Some xs) 0 None) ≡ true
  first_there [] lt = absurd (omega arith)
  first_there (x ∷ xs) lt = refl

  -- a row's cells are a block's
  pub row_block : (shape : List ℕ) (from at p : Ptr) (slots : List (Option X)) (xs : List X) (d : Deed X) → from ≡ p → at ≡ p → slots ≡ map Some xs → deed_at d ≡ p → deed_count d ≡ length xs
      → length xs ≡ size shape → length xs < 9223372036854775808 → ¬ (length xs ≡ 0) → IsBlock shape from at slots (Some d)
  row_block shape from at p slots xs d a b all here count full small some = record {
    owner = record {
      base = a ∙ sym b;
      deed = (
        ap (λ l. is_some (get_or l 0 None)) all ∙ first_there xs (omega (arith, some)),
        here ∙ sym b,
        count ∙ sym (length-map xs Some) ∙ ap length (sym all),
      );
    };
    whole = all ∙ sym (ap (map Some) (ap somes all ∙ somes-map xs));
    full = subst (IsFull shape) (sym (ap somes all ∙ somes-map xs)) (record { count = full; small = small });
  }

  pub row_cells : (slots : List (Option X)) (xs : List X) → slots ≡ map Some xs → somes slots ≡ xs
  row_cells slots xs all = ap somes all ∙ somes-map xs

  deed_kept : (at now : Ptr) (cs ds : List (Option X)) (r : Option (Deed X)) → now ≡ at → length ds ≡ length cs → is_some (get_or ds 0 None) ≡ is_some (get_or cs 0 None) → HasDeed at cs r → HasDeed now ds r
  deed_kept at now cs ds None e long had h = had ∙ h
  deed_kept at now cs ds (Some d) e long had h = (had ∙ h.0, h.1 ∙ sym e, h.2 ∙ sym long)

  -- cells that change have the same owner
  pub owner_kept : (from at now : Ptr) (cs ds : List (Option X)) (r : Option (Deed X)) (P : ℕ → Type 0) → IsOwner from at cs r → now ≡ at → Changes cs ds P → IsOwner from now ds r
  owner_kept from at now cs ds r P o e c = record { base = o.base ∙ sym e; deed = deed_kept at now cs ds r e c.long (c.had 0) o.deed }
