use denote.RattleType.{RattleType}
use denote.Param.Send.{IsSend}
use Rattle.stm_logs.proofs.Crosses.{Row-send}
use Rattle.stm_logs.specs.contracts.row.Row.{the_row}

pub send : (R : RattleType) → IsSend R → IsSend (the_row R)
send = Row-send
