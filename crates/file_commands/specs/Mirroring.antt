-- What the command that keeps a mirror of the three tables does. This project's profile.
use Rattle.std.specs.Prelude.{◌≡◌, ◌<◌, ◌≤◌, ◌⊎◌, ℕ, ℤ, List, length, Some}
use Rattle.copy_forms.specs.Trails.{IsSoundTrail, Trail}
use Rattle.lei_mirror.specs.Mirrors.{MirrorState, empty_mirror}
use Rattle.line_reading.specs.declared.framing.NoEnd.{NoEnd}
use Rattle.mirror_queries.specs.Answering.{MirrorAsked, MirrorStep}
use Rattle.mirror_queries.specs.Following.{ArePacketsOfTrail, TrailStep}
use Rattle.mirror_queries.specs.Serving.{mirror_progress, mirror_rules}
use Rattle.query_reading.specs.declared.reply.QueryReply.{QueryReply}
use Rattle.request_loop.specs.Serving.{AnswersToEnd, Serves}
use Rattle.request_loop.specs.declared.frames.Ended.{Ended}
use Rattle.line_reading.specs.Inputs.{run_limit}
use Rattle.file_commands.specs.Sides.{Sides, StartsWithoutMemory}
use Rattle.line_reading.specs.Status.{end_status, ended_as}

-- Queries were answered starting from the empty mirror, by steps of this kind.
abbrev pub ServesMirror : (MirrorState → MirrorAsked → List ℤ → QueryReply → MirrorState → Type 0) → Sides → Sides
    → MirrorState → Ended NoEnd → Type 0
ServesMirror step before after last ended =
    Serves step mirror_rules run_limit (mirror_progress empty_mirror before.written) before.left
    (mirror_progress last after.written) after.left ended

-- Each file that was shown is the copy of the publication that was shown at that time. This holds if what the bytes
-- that were taken send as packets belongs to the trail, or is no packet at all.
abbrev pub ShowsTrail : Trail → Sides → Sides → MirrorState → Ended NoEnd → List ℕ → Type 0
ShowsTrail trail before after last ended bytes =
    ArePacketsOfTrail trail bytes → ServesMirror (TrailStep trail) before after last ended

-- Queries were answered starting from the empty mirror, and how that ended gives the status. What is shown of a trail
-- holds for each sound trail of at most 1,000,000 publications.
pub record AnswersMirror (before after : Sides) (status : ℕ) : Type 0 where
  pub last : MirrorState
  pub ended : Ended NoEnd
  pub status_is : status ≡ end_status (ended_as ended)
  pub serves : ServesMirror MirrorStep before after last ended
  pub follows : (trail : Trail) → IsSoundTrail trail → length trail ≤ 1_000_000
      → ShowsTrail trail before after last ended serves.bytes

-- What the command does, by its status: queries were answered; or memory ran out before the first query.
abbrev pub Mirrors : Sides → Sides → ℕ → Type 0
Mirrors before after status = AnswersMirror before after status ⊎ StartsWithoutMemory before after status

-- ---- if nothing fails

-- All queries were answered, with status 0.
pub record AnswersAllOfMirror (queries : List ℕ) (before after : Sides) (status : ℕ) : Type 0 where
  pub ok : status ≡ 0
  pub last : MirrorState
  pub answers : AnswersToEnd MirrorStep mirror_rules (mirror_progress empty_mirror before.written) queries
      (mirror_progress last after.written)

-- Queries that are told and short enough are all answered.
abbrev pub CompletesMirror : Sides → Sides → ℕ → Type 0
CompletesMirror before after status =
    (queries : List ℕ) → before.left ≡ Some queries → length queries < run_limit
    → AnswersAllOfMirror queries before after status
