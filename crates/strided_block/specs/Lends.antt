-- What the cells of an owner end as, once a `&mut` into them has ended.
use Rattle.std.specs.Prelude.{ℕ, ◌+◌, List, ◌++◌, map, take, drop, Option, Some}
use Rattle.std.specs.Borrow.{Fml, RattleType, MutBor, Array, Lends}
use Rattle.std.specs.List.{refill}
use Rattle.strided_block.specs.Parts.{somes}
use Rattle.strided_block.specs.declared.memory.Share.{Share}
use Rattle.strided_block.specs.contracts.memory.Share.{the_row}

module _ {X : Type 0} where
  abbrev pub with_slots : Share X → List (Option X) → Share X
  with_slots c cs = record { mark = c.mark; at = c.at; slots = cs }

  -- cs, with ws in the place of so many from a place on
  abbrev pub put_in : List (Option X) → ℕ → ℕ → List X → List (Option X)
  put_in cs from count ws = take from cs ++ (map Some ws ++ drop (from + count) cs)

abbrev pub lends_run : (R : RattleType) → MutBor (Share R.Denot) → ℕ → ℕ → MutBor (List R.Denot) → Fml
lends_run R c from count r = Lends (the_row R) (Array R 0) c r (λ ws. with_slots c.now (put_in c.now.slots from count (refill count (somes (take count (drop from c.now.slots))) ws)))
