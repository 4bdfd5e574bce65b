-- If nothing fails and memory doesn't run out, a run over lines answers them all.
use Rattle.std.proofs.Common.{◌≡◌, ◌≢◌, ◌⊎◌, ◌<◌, ◌≤◌, ℕ, Ok, List, ◌++◌, length, Option, Some, None, Contains, inl, inr, ap, sym, subst, ◌∙◌, arith, length-append}
use Rattle.std.proofs.lemmas.List.{append-nil}
use Rattle.std.specs.Str.Lines.{lines}
use Rattle.lei_values.specs.Count.{Rose}
use Rattle.lei_outside.specs.Told.{Grows, Loses, IsAtEnd}
use Rattle.register_words.specs.declared.reply.Refusal.TheVariants.{NoMemory}
use Rattle.register_words.specs.declared.reply.Reply.TheVariants.{Words}
use Rattle.register_history.specs.Legal.{OfficeSession, replies_to}
use Rattle.register_history.specs.State.{OfficeState}
use Rattle.register_history.proofs.Sessions.{exact}
use Rattle.lei_values.specs.KeptTables.{KeptTables}
use Rattle.line_service.specs.Ends.{AnswersLines, EndsRunWith, FailsToOpen, IsComplete, WritesDamage}
use Rattle.register_history.specs.Opened.{Opens}
use Rattle.request_loop.specs.Counts.{RoseBy}
use Rattle.lei_office.specs.Faults.{keeper_faults}
use Rattle.line_reading.specs.Inputs.{run_limit}
use Rattle.line_service.specs.Outside.{Course, Outside, RunLeads}
use Rattle.line_reading.specs.LineRuns.{asks_of_lines}
use Rattle.lei_office.proofs.Counting.{none_reported}

-- if told bytes were read to their end, they are the bytes that were read
told_read : (bytes read : List ℕ) (left : Option (List ℕ)) → Loses (Some bytes) left read → IsAtEnd left → read ≡ bytes
told_read bytes read None loses ended = absurd loses
told_read bytes read (Some left) loses ended = sym (loses ∙ (ap (λ xs. read ++ xs) ended ∙ append-nil read))

told_length : (bytes read : List ℕ) (left : Option (List ℕ)) → Loses (Some bytes) left read → length read ≤ length bytes
told_length bytes read None loses = absurd loses
told_length bytes read (Some left) loses = let whole : length bytes ≡ length (read ++ left) = ap length loses in omega
    (arith, whole, length-append read left)

-- the replies, if the keeper's count didn't rise and memory never ran out
exactly : (from : OfficeState) (bytes : List ℕ) (course : Course) (before now : ℕ) → course.first ≡ from
    → AnswersLines (lines bytes) course → RoseBy (keeper_faults course.replies) before now → ¬ (Rose before now)
    → ¬ (Contains course.replies (Words NoMemory))
    → course.replies ≡ replies_to from (asks_of_lines (lines bytes)) course.moments
exactly from bytes course before now first answered rose still lacks =
    let asks = asks_of_lines (lines bytes) in
    let E : OfficeState → Type 0 = λ office. course.replies ≡ replies_to office asks course.moments in
    subst E first (exact asks course.first course.last course.moments course.replies answered.session lacks
    (none_reported course.replies before now rose still))

complete_of : (may : Option KeptTables → Type 0) (from : OfficeState) (bytes : List ℕ) (before after : Outside) (course : Course) (status : ℕ) → status ≡ 0
    → Opens may before.kept after.kept from → IsAtEnd after.left → course.first ≡ from → RunLeads before course after
    → AnswersLines (lines bytes) course → IsComplete may bytes before after status
complete_of may from bytes before after course status is opened ended first leads answered =
    let G : List ℕ → Type 0 = λ texts. Grows before.written after.written texts in
    let S : OfficeState → Type 0 = λ office. OfficeSession office (asks_of_lines (lines bytes)) course.moments course.replies
    course.last in
    record {
      ok = is;
      first = from;
      opened = opened;
      ended = ended;
      moments = course.moments;
      gives = leads.gives;
      replies = course.replies;
      office = course.last;
      session = subst S first answered.session;
      writes = subst G answered.texts leads.writes;
      keeps = leads.keeps;
      exact = exactly from bytes course before.faults after.faults first answered leads.refuses;
    }

pub ends_done : (may : Option KeptTables → Type 0) (from : OfficeState) (bytes : List ℕ) (before after : Outside) (course : Course) (status : ℕ) → status ≢ 3 → status ≢ 4
    → status ≢ 6 → length bytes < run_limit → Opens may before.kept after.kept from
    → before.left ≡ Some bytes → course.first ≡ from → RunLeads before course after → EndsRunWith status course after
    → IsComplete may bytes before after status
ends_done may from bytes before after course status n3 n4 n6 short opened told first leads (inl (is, (below, ended, answered))) =
    let L : Option (List ℕ) → Type 0 = λ all. Loses all after.left course.read in
    let A : List ℕ → Type 0 = λ xs. AnswersLines (lines xs) course in
    complete_of may from bytes before after course status is opened ended first leads
    (subst A (told_read bytes course.read after.left (subst L told leads.reads) ended) answered)
ends_done may from bytes before after course status n3 n4 n6 short opened told first leads (inr (inl (is, stops))) = absurd (n3 is)
ends_done may from bytes before after course status n3 n4 n6 short opened told first leads (inr (inr (inl (is, stops)))) = absurd (n4 is)
ends_done may from bytes before after course status n3 n4 n6 short opened told first leads (inr (inr (inr (inl (is, stops))))) = absurd
    (n6 is)
ends_done may from bytes before after course status n3 n4 n6 short opened told first leads (inr (inr (inr (inr (is, stops))))) =
    let L : Option (List ℕ) → Type 0 = λ all. Loses all after.left course.read in
    let within = told_length bytes course.read after.left (subst L told leads.reads) in
    absurd (omega (arith, stops.3, within, short))

-- a store that isn't opened
pub unopened_done : (before after : Outside) (status : ℕ) → status ≢ 6 → (status ≡ 7 → WritesDamage {E = Unit {0}} before after (Ok (tt {0})))
    → FailsToOpen before after status
    → ((status ≡ 5) × Rose before.faults after.faults) ⊎ ((status ≡ 7) × WritesDamage {E = Unit {0}} before after (Ok (tt {0})))
unopened_done before after status n6 whole is = elim is.ends [
  | inl failed ↦ inl (failed.0, failed.1)
  | inr (inl wanted) ↦ absurd (n6 wanted.0)
  | inr (inr (inl wanted)) ↦ absurd (n6 wanted.0)
  | inr (inr (inr damaged)) ↦ inr (damaged.0, whole damaged.0)
]
