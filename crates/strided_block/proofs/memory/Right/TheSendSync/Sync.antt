use denote.RattleType.{RattleType}
use denote.Param.Send.{IsSend, IsSync, Frees}
use Rattle.core.specs.declared.alloc.Allocator.{Ghosts}
use Rattle.strided_block.specs.contracts.memory.Right.{the_row}
use Rattle.strided_block.proofs.Sharing.{Right-sync}

pub sync : (R A : RattleType) (g : Ghosts A.Denot) → IsSend A → Frees g g.dealloc_token → IsSync (the_row R A g)
sync R A g s = Right-sync R A g
