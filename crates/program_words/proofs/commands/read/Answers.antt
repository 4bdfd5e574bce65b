use Rattle.std.proofs.Common.{◌∙◌}
use Rattle.clap.specs.Simple.{app_of}
use Rattle.program_words.proofs.Reading.{is_simple-of, read-refused, read-taken}
use Rattle.program_words.proofs.commands.read.Goals as goal

pub returns-in-Ok : goal.returns-in-Ok
returns-in-Ok c =
    let simple = c.requires.simple in
    read-taken (app_of c.args.command) _ _ (c.in-Ok.ensures.kinds simple) (c.in-Ok.ensures.matches (is_simple-of (app_of c.args.command) simple)).0

pub returns : goal.returns
returns c = read-refused (app_of c.args.command) _ c.in-Err.fault (c.in-Err.ensures.kinds c.requires.simple) (λ memory. c.in_default.not-OutOfMemory (c.kind.ensures ∙ memory))
