use denote.RattleType.{RattleType}
use denote.Param.Send.{IsSend}
use Rattle.strided_block.specs.contracts.memory.Share.{the_row}
use Rattle.strided_block.proofs.Sharing.{Share-send}

pub send : (R : RattleType) → IsSend R → IsSend (the_row R)
send = Share-send
