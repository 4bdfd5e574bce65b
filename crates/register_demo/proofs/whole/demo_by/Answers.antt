use Rattle.std.proofs.Common.{subst}
use Rattle.std.specs.Prelude.{IfOk, Result}
use Rattle.lei_values.specs.declared.no_memory.NoMemory.{NoMemory}
use Rattle.memory_devices.specs.Memory.{tables_of}
use Rattle.register_demo.specs.Session.{MakesRegister}
use Rattle.register_demo.specs.declared.summary.Told.{Told}
use Rattle.register_demo.proofs.Opening.{ends, summed}
use Rattle.register_demo.proofs.whole.demo_by.Goals as goal

pub returns-clause-summary : goal.returns-clause-summary
returns-clause-summary g c =
    let first = c.args.office.office in
    let last = c.make-told.new.office.office in
    let printed = c.in_ok-text.ensures in
    let T : Result Told NoMemory → Type 0 = λ result. IfOk result (MakesRegister c.args.n first last) in
    let told : MakesRegister c.args.n first last printed.0 = subst T printed.1 c.make-told.ensures.told in
    let count = ends last (tables_of c.close.result) c.close.ensures.kept told.legal in
    summed c.args.n _ first last printed.0 c.in_ok-text.text c.requires.opened told count printed.2
