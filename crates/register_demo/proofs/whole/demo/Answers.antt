use Rattle.std.proofs.Common.{◌∙◌, ap}
use Rattle.memory_devices.specs.Memory.{tables_of}
use Rattle.register_demo.proofs.Opening.{begins, never_damaged}
use Rattle.register_demo.proofs.whole.demo.Goals as goal

pub demo_by-requires-clause-opened : goal.demo_by-requires-clause-opened
demo_by-requires-clause-opened g c = λ _ _.
    begins c.in-Ok.office.office (tables_of c.new.result) (tables_of c.in-Ok.office.keeper) (c.in-Ok.ensures.limits ∙ c.standard.ensures.value) c.in-Ok.ensures.kept
    c.in-Ok.ensures.same (ap (λ k. k.entries) c.new.ensures)

pub unreachable-requires-in-Err-StoreDamaged : goal.unreachable-requires-in-Err-StoreDamaged
unreachable-requires-in-Err-StoreDamaged g c =
    let damaged = c.in-Err-StoreDamaged in
    never_damaged c.standard.result damaged.field-0 c.new.result damaged.field-0-0 damaged.field-0-1 damaged.field-0-is damaged.ensures.refused damaged.ensures.back
    (ap tables_of c.new.ensures)
