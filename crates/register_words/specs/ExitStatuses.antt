-- The exit statuses of the program: their numbers, and their words for a person. This project's profile.
use Rattle.std.specs.Prelude.{ℕ, List, [], ◌∷◌, codes, slice_get, Option}
use Rattle.lei_code.specs.Texts.{Text}
use Rattle.register_words.specs.declared.exit_status.ExitStatus.{ExitStatus}

-- The number of a status, which the operating system receives.
abbrev pub exit_number : ExitStatus → ℕ
exit_number ExitStatus.Ok = 0
exit_number ExitStatus.Usage = 1
exit_number ExitStatus.Refused = 2
exit_number ExitStatus.ReadFault = 3
exit_number ExitStatus.WriteFault = 4
exit_number ExitStatus.KeeperFault = 5
exit_number ExitStatus.NoMemory = 6
exit_number ExitStatus.StoreDamaged = 7
exit_number ExitStatus.InputTooLong = 8
exit_number ExitStatus.DoorFault = 9

-- All statuses, in the order of their numbers, which start at 0.
abbrev pub exit_statuses : List ExitStatus
exit_statuses =
    ExitStatus.Ok
    ∷ ExitStatus.Usage
    ∷ ExitStatus.Refused
    ∷ ExitStatus.ReadFault
    ∷ ExitStatus.WriteFault
    ∷ ExitStatus.KeeperFault
    ∷ ExitStatus.NoMemory
    ∷ ExitStatus.StoreDamaged
    ∷ ExitStatus.InputTooLong
    ∷ ExitStatus.DoorFault
    ∷ []

-- The status with this number, if there is one.
abbrev pub exit_of : ℕ → Option ExitStatus
exit_of number = slice_get exit_statuses number

-- The word of a status.
abbrev pub exit_name : ExitStatus → Text
exit_name ExitStatus.Ok = codes "OK"
exit_name ExitStatus.Usage = codes "USAGE"
exit_name ExitStatus.Refused = codes "REFUSED"
exit_name ExitStatus.ReadFault = codes "READ_FAULT"
exit_name ExitStatus.WriteFault = codes "WRITE_FAULT"
exit_name ExitStatus.KeeperFault = codes "KEEPER_FAULT"
exit_name ExitStatus.NoMemory = codes "NO_MEMORY"
exit_name ExitStatus.StoreDamaged = codes "STORE_DAMAGED"
exit_name ExitStatus.InputTooLong = codes "INPUT_TOO_LONG"
exit_name ExitStatus.DoorFault = codes "DOOR_FAULT"
