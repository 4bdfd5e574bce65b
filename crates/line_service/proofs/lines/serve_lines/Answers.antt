use Rattle.std.proofs.Common.{Result, ap, refl, subst, sym, ◌∙◌}
use Rattle.lei_outside.specs.Links.{link_told}
use Rattle.request_loop.proofs.Failing.{fails_at}
use Rattle.request_loop.proofs.Parts.{progress_of, serves_of}
use Rattle.request_loop.specs.Serving.{progress}
use Rattle.lei_office.specs.Answering.{OfficeStep, StepsBy, with_count}
use Rattle.lei_office.proofs.Sessions.{serves_untold}
use Rattle.line_reading.specs.LineFrames.{line_rules}
use Rattle.line_service.specs.Ends.{RunsFrom}
use Rattle.line_service.specs.Outside.{outside}
use Rattle.line_reading.specs.Inputs.{run_limit}
use Rattle.line_reading.specs.Status.{end_status, ended_as}
use Rattle.line_reading.specs.declared.stop.Stop.{Stop}
use Rattle.line_service.proofs.Ending.{runs_served}
use Rattle.line_service.proofs.Fitting.{lines_fit}
use Rattle.line_reading.proofs.Stopping.{only_read_fault, only_write_fault}
use Rattle.line_service.proofs.lines.serve_lines.Goals as goal

pub serve-requires-clause-fits : goal.serve-requires-clause-fits
serve-requires-clause-fits g c = lines_fit _ (with_count g.K.Keeper.tables g.K.Keeper.faults) (record { shared = c.type_bounds.sync-R.shared })

pub returns-clause-runs : goal.returns-clause-runs
returns-clause-runs g c kept keeps =
    let left = g.S.Source.left in
    let given = g.C.Clock.given in
    let written = g.W.Sink.written in
    let tables = g.K.Keeper.tables in
    let faults = g.K.Keeper.faults in
    let wire = c.args.wire.now in
    let wire_now = c.serve.new.link in
    let office = c.args.office.now in
    let office_now = c.serve.new.who in
    let start = progress office (given c.args.clock.now) (written wire.out.now) in
    let now = progress office_now (given c.serve.new.clock) (written wire_now.out.now) in
    let who = with_count tables faults in
    let serves = serves_of (StepsBy who) who OfficeStep line_rules (λ old new ask moments reply made. made) run_limit
    c.serve.result start now (left wire.input.now) (left wire_now.input.now) c.serve.ensures.serves in
    let R : Result (Unit {0}) Stop → Type 0 = λ result. RunsFrom office.office
    (outside (left wire.input.now) (given c.args.clock.now) (written wire.out.now) (tables office.keeper) (faults office.keeper))
    (outside (left wire_now.input.now) (given c.serve.new.clock) (written wire_now.out.now) kept (faults office_now.keeper))
    (end_status result) in
    subst R (sym c.ended_as.ensures)
    (runs_served (progress_of who start) (progress_of who now) (left wire.input.now)
    (left wire_now.input.now) (tables office.keeper) kept c.serve.result serves keeps)

pub returns-clause-untold : goal.returns-clause-untold
returns-clause-untold g c =
    let given = g.C.Clock.given in
    let written = g.W.Sink.written in
    serves_untold (with_count g.K.Keeper.tables g.K.Keeper.faults) line_rules run_limit c.serve.result
    (progress c.args.office.now (given c.args.clock.now) (written c.args.wire.now.out.now))
    (progress c.serve.new.who (given c.serve.new.clock) (written c.serve.new.link.out.now)) _ _ c.serve.ensures.serves

pub returns-clause-reads : goal.returns-clause-reads
returns-clause-reads g c =
    let left = g.S.Source.left in
    let written = g.W.Sink.written in
    record {
      last = λ is. fails_at (link_told (λ d. left d.input.now) (λ d. written d.out.now)) (λ d. g.S.Source.faults d.input.now)
          (λ d. d.input.now) left g.S.Source.faults (λ told. told.left) c.args.wire.now c.serve.new.link (λ d. refl) (λ d. refl)
          (c.serve.ensures.reads.last (only_read_fault c.serve.result c.ended_as.result c.ended_as.ensures is));
      none = λ none. c.serve.ensures.reads.none (λ is. none (c.ended_as.ensures ∙ ap ended_as is));
    }

pub returns-clause-writes : goal.returns-clause-writes
returns-clause-writes g c =
    let left = g.S.Source.left in
    let written = g.W.Sink.written in
    record {
      last = λ is. fails_at (link_told (λ d. left d.input.now) (λ d. written d.out.now)) (λ d. g.W.Sink.faults d.out.now)
          (λ d. d.out.now) written g.W.Sink.faults (λ told. told.written) c.args.wire.now c.serve.new.link (λ d. refl) (λ d. refl)
          (c.serve.ensures.writes.last (only_write_fault c.serve.result c.ended_as.result c.ended_as.ensures is));
      none = λ none. c.serve.ensures.writes.none (λ is. none (c.ended_as.ensures ∙ ap ended_as is));
    }
