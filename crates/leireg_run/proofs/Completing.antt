-- If nothing fails and memory doesn't run out, everything is done.
use Rattle.std.proofs.Common.{◌≡◌, ◌≢◌, ℕ, Result, Ok, Err, refl, List, Option, Some, unwrap_or, inl, inr, ap, sym, subst, ◌∙◌, arith}
use Rattle.std.specs.Prelude.{IsErrOf}
use Rattle.lei_code.specs.Fault.{fault_of}
use Rattle.lei_code.specs.declared.fault.LeiFault.{LeiFault}
use Rattle.lei_outside.specs.Told.{Grows}
use Rattle.file_commands.specs.Codes.{check_line, digits_fault, digits_line, code_status, WritesLine}
use Rattle.lei_values.specs.KeptTables.{KeptTables}
use Rattle.leireg_run.specs.Ends.{CompletesRun, Does, WritesSummary}
use Rattle.line_service.specs.Ends.{WritesDamage}
use Rattle.line_service.specs.Outside.{OutputFails, Outside}
use Rattle.line_service.proofs.Completing.{ends_done, unopened_done}
use Rattle.file_commands.specs.Applying.{Patches}
use Rattle.file_commands.specs.Grouping.{Reports}
use Rattle.file_commands.specs.TwoFiles.{files}
use Rattle.register_demo.specs.Session.{IsSummary}
use Rattle.lei_code.specs.Texts.{Text}
use Rattle.file_commands.specs.Sides.{sides}
use Rattle.file_commands.proofs.Mirrored.{completes_mirror}
use Rattle.file_commands.proofs.Searched.{completes_search}
use Rattle.file_commands.proofs.TwoFilesRead.{completes_files}
use Rattle.program_words.specs.Words.{Invocation, to_answer_lines, to_check, to_make_digits, to_make_up, to_mirror, to_patch, to_report, to_search, to_serve}
use Rattle.line_reading.specs.Status.{end_status, stop_status}
use Rattle.line_reading.specs.declared.stop.Stop.{Stop}
use Rattle.line_reading.specs.declared.stop.Stop.TheVariants as stops

tells_done : (fault : Option LeiFault) (line : List ℕ) (before after : Option (List ℕ)) (status : ℕ) → status ≢ 4
    → status ≢ 6
    → WritesLine fault line before after status → status ≡ code_status fault
tells_done fault line before after status n4 n6 (inl told) = told.0
tells_done fault line before after status n4 n6 (inr (inl stopped)) = absurd (n4 stopped.0)
tells_done fault line before after status n4 n6 (inr (inr stopped)) = absurd (n6 stopped.0)

summary_done : (records : ℕ) (before after : Option (List ℕ)) (status : ℕ) → status ≢ 4 → status ≢ 6 → WritesSummary records before after status
    → (status ≡ 0) × ((text : Text) × IsSummary records text × Grows before after text)
summary_done records before after status n4 n6 (inl (text, is, inl told)) = (told.0, (text, is, told.1))
summary_done records before after status n4 n6 (inl (text, is, inr (inl failed))) = absurd (n4 failed.0)
summary_done records before after status n4 n6 (inl (text, is, inr (inr wanted))) = absurd (n6 wanted.0)
summary_done records before after status n4 n6 (inr wanted) = absurd (n6 wanted.0)

pub completes : (may : Option KeptTables → Type 0) (what : Invocation) (before after : Outside) (second second_after : Option (List ℕ)) (status : ℕ) → status ≢ 3 → status ≢ 4 → status ≢ 6
    → (status ≡ 7 → WritesDamage {E = Unit {0}} before after (Ok (tt {0}))) → Does may what before after second second_after status
    → CompletesRun may what before after second second_after status
completes may to_answer_lines before after second second_after status n3 n4 n6 whole (inl opens) =
    λ bytes told short. inl (ends_done may opens.first bytes before after opens.runs.course status n3 n4 n6 short opens.opened told opens.runs.first
    opens.runs.leads opens.runs.ends)
completes may to_answer_lines before after second second_after status n3 n4 n6 whole (inr fails) = λ bytes told short. inr (unopened_done before after status n6 whole fails)
completes may to_serve before after second second_after status n3 n4 n6 whole none = absurd none
completes may (to_check text) before after second second_after status n3 n4 n6 whole tells =
    tells_done (fault_of text) (check_line text) before.written after.written status n4 n6 tells
completes may (to_make_digits text) before after second second_after status n3 n4 n6 whole tells =
    tells_done (digits_fault text) (digits_line text) before.written after.written status n4 n6 tells
completes may (to_patch sheet form) before after second second_after status n3 n4 n6 whole applies =
    completes_files (Patches sheet form) (files before.left second before.written) (files after.left second_after after.written) status n3 n4 n6 applies
completes may (to_search form) before after second second_after status n3 n4 n6 whole searches =
    completes_search form (files before.left second before.written) (files after.left second_after after.written) status n3 n4 n6 searches
completes may to_mirror before after second second_after status n3 n4 n6 whole mirrors =
    completes_mirror (sides before.left before.written) (sides after.left after.written) status n3 n4 n6 mirrors
completes may (to_report who form) before after second second_after status n3 n4 n6 whole reports =
    completes_files (Reports who form) (files before.left second before.written) (files after.left second_after after.written) status n3 n4 n6 reports
completes may (to_make_up records) before after second second_after status n3 n4 n6 whole tells = summary_done records before.written after.written status n4 n6 tells

-- the stops of these statuses
only_read : (stop : Stop) → stop_status stop ≡ 3 → stop ≡ stops.ReadFault
only_read stops.Refused is = cc
only_read stops.ReadFault is = refl
only_read stops.WriteFault is = cc
only_read stops.KeeperFault is = cc
only_read stops.NoMemory is = cc
only_read stops.StoreDamaged is = cc
only_read stops.InputTooLong is = cc

only_write : (stop : Stop) → stop_status stop ≡ 4 → stop ≡ stops.WriteFault
only_write stops.Refused is = cc
only_write stops.ReadFault is = cc
only_write stops.WriteFault is = refl
only_write stops.KeeperFault is = cc
only_write stops.NoMemory is = cc
only_write stops.StoreDamaged is = cc
only_write stops.InputTooLong is = cc

pub only_damage : (stop : Stop) → stop_status stop ≡ 7 → stop ≡ stops.StoreDamaged
only_damage stops.Refused is = cc
only_damage stops.ReadFault is = cc
only_damage stops.WriteFault is = cc
only_damage stops.KeeperFault is = cc
only_damage stops.NoMemory is = cc
only_damage stops.StoreDamaged is = refl
only_damage stops.InputTooLong is = cc

-- what a run that stopped did to its output, by its status
pub output_stopped : {W : Type 0} (written : W → Option (List ℕ)) (faults : W → ℕ) (before after : W) (ended : Result (Unit {0}) Stop) (stop : Stop) (status : ℕ)
    → ended ≡ Err stop → status ≡ stop_status stop
    → OutputFails (IsErrOf ended stops.WriteFault) (IsErrOf ended stops.StoreDamaged) written faults before after
    → OutputFails (status ≡ 4) (status ≡ 7) written faults before after
output_stopped written faults before after ended stop status stopped status_is fails = record {
  last = λ four. fails.last (stopped ∙ ap Err (only_write stop (sym status_is ∙ four)));
  damage = λ seven. fails.damage (stopped ∙ ap Err (only_damage stop (sym status_is ∙ seven)));
  none = λ unfailed whole. fails.none
      (λ is. let both = sym stopped ∙ is in let same : stop ≡ stops.WriteFault = cc in unfailed (status_is ∙ ap stop_status same))
      (λ is. let both = sym stopped ∙ is in let same : stop ≡ stops.StoreDamaged = cc in whole (status_is ∙ ap stop_status same));
}

-- what the words mean was done, and nothing stopped it
pub completes_meant : (may : Option KeptTables → Type 0) (command what : Invocation) (meant : Option Invocation) (before after : Outside) (second second_after : Option (List ℕ)) (status number : ℕ) → status ≡ 0
    → number ≡ 0 → Some command ≡ meant → meant ≡ Some what
    → Does may command before after second second_after status → CompletesRun may what before after second second_after number
completes_meant may command what meant before after second second_after status number ok zero is means does =
    let same : command ≡ what = ap (λ o. unwrap_or o command) (is ∙ means) in
    let D : Invocation → Type 0 = λ m. Does may m before after second second_after 0 in
    let N : ℕ → Type 0 = λ n. Does may command before after second second_after n in
    let n3 : 0 ≢ 3 = λ is. absurd (omega (arith, is)) in
    let n4 : 0 ≢ 4 = λ is. absurd (omega (arith, is)) in
    let n6 : 0 ≢ 6 = λ is. absurd (omega (arith, is)) in
    let n7 : 0 ≡ 7 → WritesDamage {E = Unit {0}} before after (Ok (tt {0})) = λ is. absurd (omega (arith, is)) in
    subst (λ n. CompletesRun may what before after second second_after n) (sym zero)
    (completes may what before after second second_after 0 n3 n4 n6 n7 (subst D same (subst N ok does)))

-- what the words mean was stopped, but nothing failed
pub completes_stopped : (may : Option KeptTables → Type 0) (command what : Invocation) (meant : Option Invocation) (before after : Outside) (second second_after : Option (List ℕ)) (ended : Result (Unit {0}) Stop) (stop : Stop) (status : ℕ)
    → ended ≡ Err stop → status ≡ stop_status stop → Some command ≡ meant → meant ≡ Some what → (ended ≡ Err stops.ReadFault → ⊥) → (ended ≡ Err stops.WriteFault → ⊥) → status ≢ 6
    → (ended ≡ Err stops.StoreDamaged → WritesDamage {E = Unit {0}} before after (Ok (tt {0}))) → Does may command before after second second_after (end_status ended)
    → CompletesRun may what before after second second_after status
completes_stopped may command what meant before after second second_after ended stop status stopped status_is is means read wrote n6 whole does =
    let same : command ≡ what = ap (λ o. unwrap_or o command) (is ∙ means) in
    let at : end_status ended ≡ status = ap end_status stopped ∙ sym status_is in
    let D : Invocation → Type 0 = λ m. Does may m before after second second_after status in
    let N : ℕ → Type 0 = λ n. Does may command before after second second_after n in
    let at_stop : (n : ℕ) (s : Stop) → ((s' : Stop) → stop_status s' ≡ n → s' ≡ s) → status ≡ n → ended ≡ Err s = λ n s only at_n.
    stopped ∙ ap Err (only stop (sym status_is ∙ at_n)) in
    completes may what before after second second_after status (λ three. read (at_stop 3 stops.ReadFault only_read three)) (λ four. wrote (at_stop 4 stops.WriteFault only_write four)) n6
    (λ seven. whole (at_stop 7 stops.StoreDamaged only_damage seven)) (subst D same (subst N at does))
