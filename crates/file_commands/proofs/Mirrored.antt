-- What the command that keeps a mirror does.
use Rattle.std.proofs.Common.{◌≡◌, ◌≢◌, ◌⊎◌, ◌≤◌, ℕ, inl, inr, subst}
use Rattle.lei_mirror.specs.Mirrors.{MirrorState, empty_mirror}
use Rattle.line_reading.specs.declared.framing.NoEnd.{NoEnd}
use Rattle.mirror_queries.specs.Answering.{MirrorStep}
use Rattle.mirror_queries.specs.Serving.{mirror_progress, mirror_rules}
use Rattle.mirror_queries.proofs.Served.{serves_follow}
use Rattle.mirror_queries.proofs.Steps.{empty_follows}
use Rattle.request_loop.specs.Serving.{Serves}
use Rattle.request_loop.specs.declared.frames.Ended.{Ended}
use Rattle.line_reading.specs.Inputs.{run_limit}
use Rattle.file_commands.specs.Mirroring.{AnswersMirror, CompletesMirror, Mirrors}
use Rattle.file_commands.specs.Sides.{Sides}
use Rattle.line_reading.specs.Status.{end_status, ended_as}
use Rattle.file_commands.proofs.Serving.{at_status, ended_status, served_to_end}

-- queries were served starting from an empty mirror
pub mirrored : (before after : Sides) (status : ℕ) (first last : MirrorState) (ended : Ended NoEnd)
    → status ≡ end_status (ended_as ended) → first ≡ empty_mirror
    → Serves MirrorStep mirror_rules run_limit (mirror_progress first before.written) before.left
    (mirror_progress last after.written) after.left ended
    → AnswersMirror before after status
mirrored before after status first last ended status_is is serves =
    let S : MirrorState → Type 0 = λ state. Serves MirrorStep mirror_rules run_limit
    (mirror_progress state before.written) before.left (mirror_progress last after.written) after.left ended in
    let served = subst S is serves in
    record {
      last = last;
      ended = ended;
      status_is = status_is;
      serves = served;
      follows = λ trail on few of. (serves_follow trail on few run_limit (mirror_progress empty_mirror before.written)
          (mirror_progress last after.written) before.left after.left ended (empty_follows trail) served of).1;
    }

-- the statuses of a mirror
pub mirror_status : (before after : Sides) (status : ℕ) → Mirrors before after status
    → (status ≤ 4) ⊎ (status ≡ 6) ⊎ (status ≡ 8)
mirror_status before after status (inl answers) = at_status status _ answers.status_is (ended_status answers.ended)
mirror_status before after status (inr lacks) = inr (inl lacks.is)

-- if nothing failed and memory didn't run out, a mirror whose queries are told and short is completed
pub completes_mirror : (before after : Sides) (status : ℕ) → status ≢ 3 → status ≢ 4 → status ≢ 6
    → Mirrors before after status → CompletesMirror before after status
completes_mirror before after status n3 n4 n6 (inl answers) = λ queries told short.
    let so = served_to_end MirrorStep mirror_rules (mirror_progress empty_mirror before.written)
    (mirror_progress answers.last after.written) queries before.left after.left status answers.ended told short n3 n4 n6
    answers.status_is answers.serves in
    record { ok = so.0; last = answers.last; answers = so.1 }
completes_mirror before after status n3 n4 n6 (inr lacks) = λ queries told short. absurd (n6 lacks.is)
