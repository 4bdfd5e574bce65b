use Rattle.std.proofs.Common.{◌∙◌, ◌+◌, length, subst}
use Rattle.std.specs.Prelude.{Some, None}
use Rattle.memchr.specs.Find.{FindsNeedle}
use Rattle.register_demo.proofs.Marked.{found, to-end}
use Rattle.register_demo.proofs.marks.text_after.Goals as goal

pub returns-in-Some : goal.returns-in-Some
returns-in-Some c =
    to-end c.args.text.now (c.in-Some.at + length c.args.mark.now)
    ∙ found c.args.mark.now c.args.text.now (Some c.in-Some.at) (subst (FindsNeedle c.args.text.now c.args.mark.now 0) c.in-Some.is c.find.ensures)

pub returns-in-None : goal.returns-in-None
returns-in-None c = found c.args.mark.now c.args.text.now None (subst (FindsNeedle c.args.text.now c.args.mark.now 0) c.in-None.is c.find.ensures)
