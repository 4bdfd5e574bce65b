-- The faults of a link, by how serving it ended.
use Rattle.std.proofs.Common.{◌≡◌, ℕ, refl, sym, ap, ◌∙◌}
use Rattle.lei_outside.specs.Faults.{FailsLast}
use Rattle.request_loop.specs.declared.frames.Ended as loop
use Rattle.request_loop.proofs.Failing.{fails_rose}
use Rattle.issuer_http.specs.Serving.{ReportsFaults, ended_of}
use Rattle.issuer_http.specs.declared.ended.Ended.{Ended}
use Rattle.issuer_http.specs.declared.ended.HttpEnd.{HttpEnd}

read_end : (end : loop.Ended HttpEnd) → ended_of end ≡ Ended.ReadFault → end ≡ loop.Ended.ReadFault
read_end loop.Ended.AtEnd is = cc
read_end (loop.Ended.By HttpEnd.Closed) is = cc
read_end (loop.Ended.By HttpEnd.BadHead) is = cc
read_end loop.Ended.ReadFault is = refl
read_end loop.Ended.WriteFault is = cc
read_end loop.Ended.InputLimit is = cc
read_end loop.Ended.NoMemory is = cc

write_end : (end : loop.Ended HttpEnd) → ended_of end ≡ Ended.WriteFault → end ≡ loop.Ended.WriteFault
write_end loop.Ended.AtEnd is = cc
write_end (loop.Ended.By HttpEnd.Closed) is = cc
write_end (loop.Ended.By HttpEnd.BadHead) is = cc
write_end loop.Ended.ReadFault is = cc
write_end loop.Ended.WriteFault is = refl
write_end loop.Ended.InputLimit is = cc
write_end loop.Ended.NoMemory is = cc

-- what a session's end says of its link follows from how serving ended
pub reports : {D T : Type 0} (told : D → T) (reads writes : D → ℕ) (before after : D) (end : loop.Ended HttpEnd) (ended : Ended)
    → ended ≡ ended_of end → (end ≡ loop.Ended.ReadFault → FailsLast told reads before after)
    → (¬ (end ≡ loop.Ended.ReadFault) → reads after ≡ reads before)
    → (end ≡ loop.Ended.WriteFault → FailsLast told writes before after)
    → (¬ (end ≡ loop.Ended.WriteFault) → writes after ≡ writes before)
    → ReportsFaults ended (reads before) (reads after) (writes before) (writes after)
reports told reads writes before after end ended is read unread write unwritten = record {
  read_fault = λ failed. fails_rose told reads before after (read (read_end end (sym is ∙ failed)));
  no_read_fault = λ none. unread (λ at. none (is ∙ ap ended_of at));
  write_fault = λ failed. fails_rose told writes before after (write (write_end end (sym is ∙ failed)));
  no_write_fault = λ none. unwritten (λ at. none (is ∙ ap ended_of at));
}

-- neither direction of the link was used
pub unasked : (reads writes : ℕ) → ReportsFaults Ended.NoMemory reads reads writes writes
unasked reads writes = record {
  read_fault = λ failed. cc;
  no_read_fault = λ none. refl;
  write_fault = λ failed. cc;
  no_write_fault = λ none. refl;
}
