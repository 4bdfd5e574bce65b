use Rattle.std.proofs.Common.{◌≡◌, ◌+◌, ◌++◌, ◌∷◌, [], ap, subst, sym, ◌∙◌}
use Rattle.lei_values.specs.KeptTables.{last_number}
use Rattle.memory_devices.specs.Memory.{SureKeeperState, tables_of}
use Rattle.memory_devices.proofs.KeepingLemmas.{kept-with}
use Rattle.memory_devices.proofs.keeper.SureKeeperKeeper.commit.Goals as goal

pub invariant_of-self-2 : goal.invariant_of-self-2
invariant_of-self-2 c =
    let batch = c.args.batch.now in
    let old : SureKeeperState = record { entries = c.self.inside.entries.items; cells = c.self.inside.cells.items } in
    let next = subst (λ k. batch.entry.seq ≡ last_number (tables_of k) + 1) (sym c.self.view_is) c.requires.next in
    let entries = c.push_reserved.ensures.items ∙ (ap (λ l. l ++ c.in_ok-entry.entry ∷ []) c.in_ok-reserve.ensures.items ∙ ap (λ e. old.entries ++ e ∷ []) c.in_ok-entry.ensures) in
    let cells = c.in_ok-append.ensures.items ∙ ap (λ l. old.cells ++ l) (c.in_ok-cells.ensures ∙ c.as_slice.ensures) in
    rw (entries, cells) (kept-with old batch c.self.invariant c.requires.batch next)
