use Rattle.std.proofs.Common.{ℕ, Option, ap, subst, sym}
use Rattle.lei_values.specs.KeptTables.{KeptTables}
use Rattle.lei_keeper.specs.Keeping.{TablesStay}
use Rattle.register_history.specs.Kept.{StaysUntold}
use Rattle.register_words.specs.Limits.{standard}
use Rattle.lei_office.specs.Offices.{FaultRose, IsRefused, keeper_back}
use Rattle.line_service.specs.Ends.{RunsFrom}
use Rattle.register_history.specs.Opened.{MayTell}
use Rattle.line_service.specs.Outside.{Outside, outside}
use Rattle.line_reading.specs.Status.{end_status}
use Rattle.line_service.proofs.Opening.{damaged_opening, opens_runs}
use Rattle.line_service.proofs.lines.run_lines.Goals as goal

pub returns-in-Ok-open_office-clause-runs : goal.returns-in-Ok-open_office-clause-runs
returns-in-Ok-open_office-clause-runs g c =
    let left = g.S.Source.left in
    let given = g.C.Clock.given in
    let written = g.W.Sink.written in
    let tables = g.K.Keeper.tables in
    let faults = g.K.Keeper.faults in
    let opened = c.in-Ok-open_office.office in
    let now = c.answer_input-ended.new in
    let before = outside (left c.args.input.now) (given c.args.clock.now) (written c.args.out.now) (tables opened.keeper)
    (faults opened.keeper) in
    let after : ℕ → Outside = λ n. outside (left now.input) (given now.clock) (written now.out) (tables c.close.result) n in
    let status = end_status c.answer_input-ended.result in
    let R : ℕ → Type 0 = λ n. RunsFrom opened.office before (after n) status in
    let U : Option KeptTables → Type 0 = λ told. StaysUntold (tables opened.keeper) told in
    opens_runs tables faults (left c.args.input.now) (given c.args.clock.now) (written c.args.out.now) c.args.keeper opened.keeper
    opened.office (after (faults c.close.result)) status c.in-Ok-open_office.ensures.told c.in-Ok-open_office.ensures.faultless
    c.in-Ok-open_office.ensures.opened
    (subst R (sym (ap faults c.close.ensures.keeper)) (c.answer_input-ended.ensures.runs (tables c.close.result) c.close.ensures.kept))
    (subst U (sym (ap tables c.close.ensures.keeper)) c.answer_input-ended.ensures.untold)

pub returns-in-Err-StoreDamaged-clause-runs : goal.returns-in-Err-StoreDamaged-clause-runs
returns-in-Err-StoreDamaged-clause-runs g c =
    let tables = g.K.Keeper.tables in
    let faults = g.K.Keeper.faults in
    let keeper = c.in-Err-StoreDamaged.keeper in
    let fault = c.in-Err-StoreDamaged.field-0-is in
    let same = subst (λ f. TablesStay (tables c.args.keeper) (tables (keeper_back f))) fault c.in-Err-StoreDamaged.ensures.same in
    let faultless = subst (λ f. FaultRose (faults c.args.keeper) (faults (keeper_back f)) f) fault c.in-Err-StoreDamaged.ensures.failed in
    let refused = subst (IsRefused standard tables) fault c.in-Err-StoreDamaged.ensures.refused in
    damaged_opening (MayTell tables) (g.S.Source.left c.args.input.now) (g.C.Clock.given c.args.clock.now) (g.W.Sink.written c.args.out.now) (g.W.Sink.written c.tell_damage.new.out)
    (tables c.args.keeper) (tables keeper) (faults c.args.keeper) (faults keeper) c.in-Err-StoreDamaged.damage c.tell_damage.result same faultless refused c.tell_damage.ensures.stop
