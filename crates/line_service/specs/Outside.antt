-- The outside of a run, as its devices tell it, and what a run does to it.
use Rattle.std.specs.Prelude.{◌≡◌, ℕ, ℤ, List, Option}
use Rattle.lei_values.specs.Count.{Rose}
use Rattle.lei_outside.specs.Faults.{FailsLast}
use Rattle.lei_values.specs.KeptTables.{KeptTables}
use Rattle.lei_outside.specs.Told.{Grows, Loses}
use Rattle.register_words.specs.declared.reply.Reply.{Reply}
use Rattle.register_history.specs.Kept.{Keeps}
use Rattle.register_history.specs.State.{OfficeState}
use Rattle.request_loop.specs.Counts.{RoseBy}
use Rattle.request_loop.specs.Moments.{ClockGives}
use Rattle.lei_office.specs.Faults.{keeper_faults}

-- What the devices of a run tell at one time. The input tells the bytes that it has left, the clock the moments that it
-- has given, and the output the bytes that were written. The keeper tells what it has kept; how many of its calls have
-- failed is always known. It has `None` for what a device doesn't tell.
pub record Outside : Type 0 where
  pub left : Option (List ℕ)
  pub given : Option (List ℤ)
  pub written : Option (List ℕ)
  pub kept : Option KeptTables
  pub faults : ℕ

-- The outside of these four devices.
abbrev pub outside : Option (List ℕ) → Option (List ℤ) → Option (List ℕ) → Option KeptTables → ℕ → Outside
outside left given written kept faults = record {
  left = left;
  given = given;
  written = written;
  kept = kept;
  faults = faults;
}

-- What a run does to its output. If the run ends with `fault`, its last write failed. If it ends with `damaged`, its last
-- write may have failed, and no other did. Otherwise no write failed.
pub record OutputFails {W : Type 0} (fault damaged : Type 0) (written : W → Option (List ℕ)) (faults : W → ℕ)
    (before after : W) : Type 0 where
  pub last : fault → FailsLast written faults before after
  pub damage : damaged → Rose (faults before) (faults after) → FailsLast written faults before after
  pub none : ¬ fault → ¬ damaged → faults after ≡ faults before

-- What a run does to the outside. It starts with one office and ends with another. In between it reads bytes, is given
-- moments, gives replies and writes bytes, each in order.
pub record Course : Type 0 where
  pub first : OfficeState
  pub read : List ℕ
  pub moments : List ℤ
  pub replies : List Reply
  pub written : List ℕ
  pub last : OfficeState

-- Between these two times a run did this and nothing else. The input lost what was read, the clock gave the moments,
-- and the output took what was written. The keeper has what the last office has taken, and its calls failed at least as
-- often as the replies report. For a device that tells nothing, this says nothing.
pub record RunLeads (before : Outside) (course : Course) (after : Outside) : Type 0 where
  pub reads : Loses before.left after.left course.read
  pub gives : ClockGives before.given after.given course.moments
  pub writes : Grows before.written after.written course.written
  pub keeps : Keeps after.kept course.last
  pub refuses : RoseBy (keeper_faults course.replies) before.faults after.faults
