use Rattle.std.proofs.Common.{◌≡◌, ◌++◌, ◌-◌, ◌≤◌, drop, length, take}
use Rattle.std.specs.Prelude.{take_while}
use Rattle.std.specs.Char.{is_ascii_digit}
use Rattle.register_demo.proofs.marks.digits_after.Given as goal

-- the bytes so far, followed by the digits after them, are all the digits
abbrev pub invariant-loop-end : goal.invariant-loop-end
invariant-loop-end l =
    (l.end ≤ length l.rest) × (take l.end l.rest ++ take_while is_ascii_digit (drop l.end l.rest) ≡ take_while is_ascii_digit l.rest)

abbrev pub decreases-loop-end : goal.decreases-loop-end
decreases-loop-end l = length l.rest - l.end
