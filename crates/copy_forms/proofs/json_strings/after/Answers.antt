use Rattle.std.proofs.Common.{sym}
use Rattle.copy_forms.proofs.JsonStrings.{after_front-found, after_front-missed}
use Rattle.copy_forms.proofs.json_strings.after.Goals as goal

pub returns-in-Some : goal.returns-in-Some
returns-in-Some c =
    let found = c.in-Some.ensures.cases in
    sym (after_front-found c.args.front.now c.args.bytes.now c.in-Some.rest.now found.0 found.1)

pub returns-in-None : goal.returns-in-None
returns-in-None c = sym (after_front-missed c.args.front.now c.args.bytes.now c.in-None.ensures.cases)
