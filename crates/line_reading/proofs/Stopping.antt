-- What stopped serving the lines of a run.
use Rattle.std.proofs.Common.{◌≡◌, Result, IsErrOf, refl}
use Rattle.request_loop.specs.declared.frames.Ended.{Ended}
use Rattle.line_reading.specs.declared.framing.NoEnd.{NoEnd}
use Rattle.line_reading.specs.declared.stop.Stop.{Stop}
use Rattle.line_reading.specs.declared.stop.Stop.TheVariants as stop
use Rattle.line_reading.specs.Status.{ended_as}

-- a read fault is reported only if a read failed
pub only_read_fault : (ended : Ended NoEnd) (result : Result (Unit {0}) Stop) → result ≡ ended_as ended
    → IsErrOf result stop.ReadFault → ended ≡ Ended.ReadFault
only_read_fault Ended.AtEnd result as_ended is = cc
only_read_fault (Ended.By end) result as_ended is = elim end [ ]
only_read_fault Ended.ReadFault result as_ended is = refl
only_read_fault Ended.WriteFault result as_ended is = cc
only_read_fault Ended.InputLimit result as_ended is = cc
only_read_fault Ended.NoMemory result as_ended is = cc

-- and a write fault only if a write failed
pub only_write_fault : (ended : Ended NoEnd) (result : Result (Unit {0}) Stop) → result ≡ ended_as ended
    → IsErrOf result stop.WriteFault → ended ≡ Ended.WriteFault
only_write_fault Ended.AtEnd result as_ended is = cc
only_write_fault (Ended.By end) result as_ended is = elim end [ ]
only_write_fault Ended.ReadFault result as_ended is = cc
only_write_fault Ended.WriteFault result as_ended is = refl
only_write_fault Ended.InputLimit result as_ended is = cc
only_write_fault Ended.NoMemory result as_ended is = cc
