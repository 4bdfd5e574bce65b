-- Runs over lines, with a store that is opened and with a store that isn't.
use Rattle.std.proofs.Common.{◌≡◌, ℕ, ℤ, List, Option, Ok, inl, inr, refl, sym, ap, subst, ◌∙◌, arith}
use Rattle.std.specs.Prelude.{IfSome}
use Rattle.lei_values.specs.Count.{Rose}
use Rattle.lei_values.specs.KeptTables.{KeptTables}
use Rattle.lei_keeper.specs.Keeping.{TablesStay}
use Rattle.lei_outside.specs.Told.{Grows}
use Rattle.register_history.specs.declared.damage.Damage.{Damage}
use Rattle.register_history.specs.Damage.{IsDamage}
use Rattle.register_history.specs.Kept.{StaysUntold}
use Rattle.register_words.specs.Limits.{standard}
use Rattle.register_history.specs.State.{OfficeState}
use Rattle.line_service.specs.Ends.{EndsRunWith, IsDamageWritten, IsUnopened, RunsFrom, RunsLines, WritesDamage, damage_text}
use Rattle.register_history.specs.Opened.{IsOpened, MayTell}
use Rattle.request_loop.specs.Counts.{RoseBy}
use Rattle.lei_office.specs.Faults.{keeper_faults}
use Rattle.line_service.specs.Outside.{Course, Outside, outside}
use Rattle.line_reading.specs.Status.{stop_status}
use Rattle.line_reading.specs.declared.stop.Stop.{Stop}

-- what a run does doesn't depend on what the keeper told before
runs_so : (from : OfficeState) (left : Option (List ℕ)) (given : Option (List ℤ)) (written : Option (List ℕ)) (old new : Option KeptTables) (before now : ℕ) (after : Outside) (status : ℕ)
    → now ≡ before → RunsFrom from (outside left given written new now) after status → RunsFrom from (outside left given written old before) after status
runs_so from left given written old new before now after status same runs = record {
  course = runs.course;
  first = runs.first;
  leads = record {
    reads = runs.leads.reads;
    gives = runs.leads.gives;
    writes = runs.leads.writes;
    keeps = runs.leads.keeps;
    refuses = subst (λ n. RoseBy (keeper_faults runs.course.replies) n after.faults) same runs.leads.refuses;
  };
  ends = runs.ends;
}

-- the store was opened
pub opens_runs : {K : Type 0} (tables : K → Option KeptTables) (faults : K → ℕ) (left : Option (List ℕ)) (given : Option (List ℤ)) (written : Option (List ℕ)) (keeper opened : K)
    (first : OfficeState) (after : Outside) (status : ℕ) → TablesStay (tables keeper) (tables opened) → faults opened ≡ faults keeper → IsOpened (tables opened) first
    → RunsFrom first (outside left given written (tables opened) (faults opened)) after status → StaysUntold (tables opened) after.kept
    → RunsLines (MayTell tables) (outside left given written (tables keeper) (faults keeper)) after status
opens_runs {K} tables faults left given written keeper opened first after status stays same is runs untold = inl (record {
  first = first;
  opened = record { told = tables opened; met = (opened, refl); stays = stays; is = is; untold = untold };
  runs = runs_so first left given written (tables keeper) (tables opened) (faults keeper) (faults opened) after status same runs;
})

-- after that the status isn't one of a store that isn't opened
pub opened_status : (from : OfficeState) (before after : Outside) (status : ℕ) → RunsFrom from before after status → IsUnopened status → ⊥
opened_status from before after status runs unopened = by_end status runs.course runs.ends unopened
  where
    apart : (status n : ℕ) → status ≡ n → IsUnopened status → (n ≡ 5 → ⊥) → (n ≡ 7 → ⊥) → ⊥
    apart status n is (inl five) not5 not7 = not5 (sym is ∙ five)
    apart status n is (inr seven) not5 not7 = not7 (sym is ∙ seven)

    by_end : (status : ℕ) (course : Course) → EndsRunWith status course after → IsUnopened status → ⊥
    by_end status course (inl e) u = apart status 0 e.0 u (λ is. omega (arith, is)) (λ is. omega (arith, is))
    by_end status course (inr (inl e)) u = apart status 3 e.0 u (λ is. omega (arith, is)) (λ is. omega (arith, is))
    by_end status course (inr (inr (inl e))) u = apart status 4 e.0 u (λ is. omega (arith, is)) (λ is. omega (arith, is))
    by_end status course (inr (inr (inr (inl e)))) u = apart status 6 e.0 u (λ is. omega (arith, is)) (λ is. omega (arith, is))
    by_end status course (inr (inr (inr (inr e)))) u = apart status 8 e.0 u (λ is. omega (arith, is)) (λ is. omega (arith, is))

-- a call of the keeper failed
pub fails_opening : (may : Option KeptTables → Type 0) (left : Option (List ℕ)) (given : Option (List ℤ)) (written : Option (List ℕ)) (old new : Option KeptTables) (before now : ℕ)
    → TablesStay old new → Rose before now → RunsLines may (outside left given written old before) (outside left given written new now) 5
fails_opening may left given written old new before now stays rose = inr (record { unread = refl; unasked = refl; kept = stays; faultless = λ other. absurd (other refl); ends = inl (refl, rose, refl) })

-- memory ran out
pub wants_opening : (may : Option KeptTables → Type 0) (left : Option (List ℕ)) (given : Option (List ℤ)) (written : Option (List ℕ)) (old new : Option KeptTables) (before now : ℕ)
    → TablesStay old new → now ≡ before → RunsLines may (outside left given written old before) (outside left given written new now) 6
wants_opening may left given written old new before now stays same = inr (record { unread = refl; unasked = refl; kept = stays; faultless = λ _. same; ends = inr (inl (refl, refl)) })

-- the store is damaged
pub damaged_opening : (may : Option KeptTables → Type 0) (left : Option (List ℕ)) (given : Option (List ℤ)) (written written' : Option (List ℕ)) (old new : Option KeptTables) (before now : ℕ)
    (damage : Damage) (stop : Stop) → TablesStay old new → now ≡ before → IfSome new (λ tables. IsDamage standard tables damage) → IsDamageWritten written written' (damage_text damage) stop
    → RunsLines may (outside left given written old before) (outside left given written' new now) (stop_status stop)
damaged_opening may left given written written' old new before now damage stop stays same is (inl told) =
    inr (record {
      unread = refl;
      unasked = refl;
      kept = stays;
      faultless = λ _. same;
      ends = inr (inr (inr (ap stop_status told.0, told.1, record { damage = damage; is = is; written = told.2 })));
    })
damaged_opening may left given written written' old new before now damage stop stays same is (inr wanted) =
    inr (record {
      unread = refl;
      unasked = refl;
      kept = stays;
      faultless = λ _. same;
      ends = inr (inr (inl (ap stop_status wanted.0, record { damage = damage; is = is; written = wanted.1 })));
    })

-- the damage is written in full
pub damage_whole : (left left' : Option (List ℕ)) (given given' : Option (List ℤ)) (written written' : Option (List ℕ)) (old new : Option KeptTables) (before now : ℕ) (damage : Damage)
    → IfSome new (λ tables. IsDamage standard tables damage) → Grows written written' (damage_text damage)
    → WritesDamage {E = Unit {0}} (outside left given written old before) (outside left' given' written' new now) (Ok (tt {0}))
damage_whole left left' given given' written written' old new before now damage is grows = record { damage = damage; is = is; written = grows }
