-- Statuses that the program ends with.
use Rattle.std.specs.Prelude.{ℕ, Result, Ok, Err}
use Rattle.register_words.specs.ExitStatuses.{exit_number}
use Rattle.register_words.specs.declared.exit_status.ExitStatus.{ExitStatus}
use Rattle.lei_outside.specs.declared.faults.SinkFault.{SinkFault}
use Rattle.lei_outside.specs.declared.faults.SinkFault.TheVariants.{Failed, NoMemory}
use Rattle.request_loop.specs.declared.frames.Ended.{Ended}
use Rattle.line_reading.specs.declared.framing.NoEnd.{NoEnd}
use Rattle.line_reading.specs.declared.stop.Stop.{Stop}
use Rattle.line_reading.specs.declared.stop.Stop.TheVariants as stop

-- The status of a command that stops for this reason.
abbrev pub stop_status : Stop → ℕ
stop_status stop.Refused = exit_number ExitStatus.Refused
stop_status stop.ReadFault = exit_number ExitStatus.ReadFault
stop_status stop.WriteFault = exit_number ExitStatus.WriteFault
stop_status stop.KeeperFault = exit_number ExitStatus.KeeperFault
stop_status stop.NoMemory = exit_number ExitStatus.NoMemory
stop_status stop.StoreDamaged = exit_number ExitStatus.StoreDamaged
stop_status stop.InputTooLong = exit_number ExitStatus.InputTooLong

-- The reason for which a fault of the output stops a command.
abbrev pub stop_of : SinkFault → Stop
stop_of Failed = stop.WriteFault
stop_of NoMemory = stop.NoMemory

-- The status of a command, which is 0 if nothing stopped it.
abbrev pub end_status : Result (Unit {0}) Stop → ℕ
end_status (Ok done) = exit_number ExitStatus.Ok
end_status (Err stopped) = stop_status stopped

-- Why a command stops, by how serving its lines ended.
abbrev pub ended_as : Ended NoEnd → Result (Unit {0}) Stop
ended_as Ended.AtEnd = Ok (tt {0})
ended_as (Ended.By end) = elim end [ ]
ended_as Ended.ReadFault = Err stop.ReadFault
ended_as Ended.WriteFault = Err stop.WriteFault
ended_as Ended.InputLimit = Err stop.InputTooLong
ended_as Ended.NoMemory = Err stop.NoMemory
