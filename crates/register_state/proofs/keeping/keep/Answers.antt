use Rattle.std.proofs.Common.{◌≤◌, ◌∷◌, [], arith, length-append}
use Rattle.lei_values.specs.KeptTables.{with_batch}
use Rattle.lei_values.specs.declared.batch.Batch.{Batch}
use Rattle.register_history.proofs.KeptLemmas.{becomes-untold, told-with, touched-batch}
use Rattle.register_state.proofs.Crashing.{refused-leaves}
use Rattle.register_state.proofs.keeping.keep.Goals as goal

pub commit-requires-clause-batch : goal.commit-requires-clause-batch
commit-requires-clause-batch g c =
    let batch : Batch = record { entry = c.args.entry; cells = c.in_ok-cells.cells } in
    let few = c.requires.few.entries in
    let some : 1 ≤ c.args.entry.seq = omega (arith, c.requires.number) in
    let most : c.args.entry.seq ≤ 9223372036854775807 = omega (arith, c.requires.number, few, length-append c.args.ledger.now.entries (c.args.entry ∷ [])) in
    touched-batch batch c.args.table.now.held some most c.requires.office c.in_ok-cells.ensures

pub returns-in-Ok-clause-kept : goal.returns-in-Ok-clause-kept
returns-in-Ok-clause-kept g c = λ before touches keeps.
    let batch : Batch = record { entry = c.args.entry; cells = c.in_ok-cells.cells } in
    let some : 1 ≤ c.args.entry.seq = omega (arith, c.requires.number) in
    told-with _ _ c.args.ledger.now.entries before c.args.table.now.held batch some touches c.in_ok-cells.ensures c.in-Ok.ensures.tables keeps

pub returns-in-Ok-clause-untold : goal.returns-in-Ok-clause-untold
returns-in-Ok-clause-untold g c =
    let batch : Batch = record { entry = c.args.entry; cells = c.in_ok-cells.cells } in
    becomes-untold (with_batch batch) _ _ c.in-Ok.ensures.tables

pub returns-in-Err-clause-untold : goal.returns-in-Err-clause-untold
returns-in-Err-clause-untold g c = becomes-untold (λ tables. tables) _ _ c.in-Err.ensures.tables

pub returns-in-Err-clause-leaves_refused : goal.returns-in-Err-clause-leaves_refused
returns-in-Err-clause-leaves_refused g c = λ before touches keeps.
    let batch : Batch = record { entry = c.args.entry; cells = c.in_ok-cells.cells } in
    let some : 1 ≤ c.args.entry.seq = omega (arith, c.requires.number) in
    refused-leaves _ c.args.ledger.now.entries before c.args.table.now.held batch _ _ some touches c.in_ok-cells.ensures c.in-Err.ensures.crash keeps
