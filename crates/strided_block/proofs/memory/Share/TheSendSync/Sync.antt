use denote.RattleType.{RattleType}
use denote.Param.Send.{IsSync}
use Rattle.strided_block.specs.contracts.memory.Share.{the_row}
use Rattle.strided_block.proofs.Sharing.{Share-sync}

pub sync : (R : RattleType) → IsSync R → IsSync (the_row R)
sync = Share-sync
