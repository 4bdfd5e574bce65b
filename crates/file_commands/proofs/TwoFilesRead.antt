-- What a command does with two files.
use Rattle.std.proofs.Common.{◌≡◌, ◌≢◌, ◌⊎◌, ◌<◌, ◌≤◌, ℕ, List, ◌++◌, length, Option, Some, None, Result, Ok, Err, inl, inr, refl, sym, ap, subst, ◌∙◌, arith, length-append}
use Rattle.std.proofs.lemmas.List.{append-nil}
use Rattle.std.specs.Result.{IsErrAnd}
use Rattle.lei_code.specs.Texts.{Text}
use Rattle.lei_values.specs.Count.{Rose}
use Rattle.lei_outside.specs.Faults.{FailsLast}
use Rattle.lei_outside.specs.Told.{IsAtEnd, Loses}
use Rattle.file_commands.specs.TwoFiles.{AreLeft, CompletesFiles, DoesWithFiles, FailsOneOf, FileOutcome, Files, Rule, WritesResultOf, outcome_status}
use Rattle.file_commands.specs.Files.{IsFileStop, IsReadToLimit, IsReadWhole, file_limit}
use Rattle.line_reading.specs.Status.{end_status, stop_status}
use Rattle.line_reading.specs.declared.stop.Stop.{Stop}
use Rattle.line_reading.specs.declared.stop.Stop.TheVariants as stops

-- ---- told bytes

pub told_whole : (bytes read : List ℕ) (told left : Option (List ℕ)) → told ≡ Some bytes → Loses told left read → IsAtEnd left → read ≡ bytes
told_whole bytes read None left is loses ended = cc
told_whole bytes read (Some all) None is loses ended = absurd loses
told_whole bytes read (Some all) (Some left) is loses ended =
    let same : all ≡ bytes = cc in
    sym (append-nil read) ∙ (ap (λ xs. read ++ xs) (sym ended) ∙ (sym loses ∙ same))

pub told_within : (bytes read : List ℕ) (told left : Option (List ℕ)) → told ≡ Some bytes → Loses told left read → length read ≤ length bytes
told_within bytes read None left is loses = cc
told_within bytes read (Some all) None is loses = absurd loses
told_within bytes read (Some all) (Some left) is loses =
    let same : all ≡ bytes = cc in
    let whole : length all ≡ length (read ++ left) = ap length loses in
    let long : length all ≡ length bytes = ap length same in
    omega (arith, whole, long, length-append read left)

pub not_to_limit : (bytes : List ℕ) (told left : Option (List ℕ)) → told ≡ Some bytes → length bytes < file_limit → IsReadToLimit told left → ⊥
not_to_limit bytes told left is short long =
    let within = told_within bytes long.bytes told left is long.lost in
    omega (arith, within, short, long.long)

-- ---- a file that isn't read to its end

-- the reason for leaving a file is one of three
pub stops_at : (before after : Option (List ℕ)) (stop : Stop) → IsFileStop before after stop
    → (stop ≡ stops.ReadFault) ⊎ (stop ≡ stops.NoMemory) ⊎ ((stop ≡ stops.InputTooLong) × IsReadToLimit before after)
stops_at before after stops.Refused is = absurd is
stops_at before after stops.ReadFault is = inl refl
stops_at before after stops.WriteFault is = absurd is
stops_at before after stops.KeeperFault is = absurd is
stops_at before after stops.NoMemory is = inr (inl refl)
stops_at before after stops.StoreDamaged is = absurd is
stops_at before after stops.InputTooLong is = inr (inr (refl, is))

-- the status is then one of three, and if it is the third, one of the files is too long
left_status : (before after : Files) (stop : Stop) → AreLeft before after stop
    → (stop_status stop ≡ 3) ⊎ (stop_status stop ≡ 6)
    ⊎ ((stop_status stop ≡ 8) × (IsReadToLimit before.first after.first ⊎ IsReadToLimit before.second after.second))
left_status before after stop (inl first) = elim (stops_at before.first after.first stop first.0) [
  | inl is ↦ inl (ap stop_status is)
  | inr (inl is) ↦ inr (inl (ap stop_status is))
  | inr (inr long) ↦ inr (inr (ap stop_status long.0, inl long.1))
]
left_status before after stop (inr (first, whole, is)) = elim (stops_at before.second after.second stop is) [
  | inl is ↦ inl (ap stop_status is)
  | inr (inl is) ↦ inr (inl (ap stop_status is))
  | inr (inr long) ↦ inr (inr (ap stop_status long.0, inr long.1))
]

pub first_left : (before after : Files) (stop : Stop) (rule : Rule) → IsFileStop before.first after.first stop → after.second ≡ before.second
    → after.written ≡ before.written → DoesWithFiles rule before after (stop_status stop)
first_left before after stop rule is unread unwritten = inr (record {
  stop = stop;
  status_is = refl;
  left = inl (is, unread);
  unwritten = unwritten;
})

pub second_left : (before after : Files) (first : List ℕ) (stop : Stop) (rule : Rule) → IsReadWhole before.first after.first first → IsFileStop before.second after.second stop
    → after.written ≡ before.written → DoesWithFiles rule before after (stop_status stop)
second_left before after first stop rule whole is unwritten = inr (record {
  stop = stop;
  status_is = refl;
  left = inr (first, whole, is);
  unwritten = unwritten;
})

-- a stop that is passed on
pub stopped_status : (result : Result (Unit {0}) Stop) (stop : Stop) → IsErrAnd result (λ e. e ≡ stop) → end_status result ≡ stop_status stop
stopped_status (Ok done) stop is = absurd is
stopped_status (Err e) stop is = ap stop_status is

-- ---- the outcome for files

pub files_told : (before after : Files) (first second : List ℕ) (status : ℕ) (rule : Rule) → IsReadWhole before.first after.first first
    → IsReadWhole before.second after.second second → WritesResultOf rule first second before.written after.written status → DoesWithFiles rule before after status
files_told before after first second status rule first_read second_read tells = inl (record {
  first = first;
  second = second;
  first_read = first_read;
  second_read = second_read;
  tells = tells;
})

-- ---- the statuses

answer_low : (outcome : FileOutcome) → outcome_status outcome ≤ 2
answer_low (Ok first) = omega arith
answer_low (Err fault) = omega arith

tells_low : (rule : Rule) (first second : Text) (before after : Option (List ℕ)) (status : ℕ) → WritesResultOf rule first second before after status
    → (status ≤ 4) ⊎ (status ≡ 6)
tells_low rule first second before after status (inl (outcome, is, inl told)) = inl (omega (arith, answer_low outcome, told.0))
tells_low rule first second before after status (inl (outcome, is, inr (inl failed))) = inl (omega (arith, failed.0))
tells_low rule first second before after status (inl (outcome, is, inr (inr wanted))) = inr wanted.0
tells_low rule first second before after status (inr wanted) = inr wanted.0

-- the statuses of such a command
pub files_status : (rule : Rule) (before after : Files) (status : ℕ) → DoesWithFiles rule before after status
    → (status ≤ 4) ⊎ (status ≡ 6) ⊎ (status ≡ 8)
files_status rule before after status (inl answers) =
    elim (tells_low rule answers.first answers.second before.written after.written status answers.tells) [
      | inl low ↦ inl low
      | inr six ↦ inr (inl six)
    ]
files_status rule before after status (inr leaves) =
    let same = leaves.status_is in
    elim (left_status before after leaves.stop leaves.left) [
      | inl three ↦ inl (omega (arith, same, three))
      | inr (inl six) ↦ inr (inl (same ∙ six))
      | inr (inr eight) ↦ inr (inr (same ∙ eight.0))
    ]

-- if nothing failed and memory didn't run out, files that are told and short are answered
pub completes_files : (rule : Rule) (before after : Files) (status : ℕ) → status ≢ 3 → status ≢ 4 → status ≢ 6
    → DoesWithFiles rule before after status → CompletesFiles rule before after status
completes_files rule before after status n3 n4 n6 (inl answers) = λ first second first_told second_told first_short second_short.
    let first_is = told_whole first answers.first before.first after.first first_told answers.first_read.lost answers.first_read.ended in
    let second_is = told_whole second answers.second before.second after.second second_told answers.second_read.lost answers.second_read.ended in
    elim answers.tells [
      | inl (answer, is, inl told) ↦
          (let C : Text → Type 0 = λ c. rule c second answer in
          let D : Text → Type 0 = λ d. rule answers.first d answer in
          (answer, subst C first_is (subst D second_is is), told.0, told.1))
      | inl (answer, is, inr (inl failed)) ↦ absurd (n4 failed.0)
      | inl (answer, is, inr (inr wanted)) ↦ absurd (n6 wanted.0)
      | inr wanted ↦ absurd (n6 wanted.0)
    ]
completes_files rule before after status n3 n4 n6 (inr leaves) = λ first second first_told second_told first_short second_short.
    elim (left_status before after leaves.stop leaves.left) [
      | inl three ↦ absurd (n3 (leaves.status_is ∙ three))
      | inr (inl six) ↦ absurd (n6 (leaves.status_is ∙ six))
      | inr (inr (eight, inl long)) ↦ absurd (not_to_limit first before.first after.first first_told first_short long)
      | inr (inr (eight, inr long)) ↦ absurd (not_to_limit second before.second after.second second_told second_short long)
    ]

-- ---- what failed

pub rose_of : {D T : Type 0} (told : D → T) (faults : D → ℕ) (before after : D) → FailsLast told faults before after → Rose (faults before) (faults after)
rose_of told faults before after fails = subst (λ n. Rose n (faults after)) fails.faultless fails.rose

-- if a read of one of two sources failed, the count of one of them rose
pub one_rose : {S T : Type 0} (left : S → Option (List ℕ)) (faults : S → ℕ) (old new : S) (other_left : T → Option (List ℕ)) (other_faults : T → ℕ) (other_old other_new : T)
    → FailsOneOf left faults old new other_left other_faults other_old other_new → ¬ (Rose (faults old) (faults new)) → ¬ (Rose (other_faults other_old) (other_faults other_new)) → ⊥
one_rose left faults old new other_left other_faults other_old other_new (inl fails) still other_still = still (rose_of left faults old new fails.0)
one_rose left faults old new other_left other_faults other_old other_new (inr fails) still other_still = other_still (rose_of other_left other_faults other_old other_new fails.1)
