use Rattle.std.proofs.Common.{refl, sym}
use Rattle.lei_shapes.proofs.MomentLemmas.{read_moment-form}
use Rattle.lei_shapes.proofs.moments.Moment.read_form.Goals as goal

pub returns-in-Some-clause-value : goal.returns-in-Some-clause-value
returns-in-Some-clause-value c = sym (read_moment-form _ _ _ c.in-Some.ensures.moment c.in-Some.ensures.form refl)

pub returns-in-Some-clause-reads_back : goal.returns-in-Some-clause-reads_back
returns-in-Some-clause-reads_back c = read_moment-form _ _ _ c.in-Some.ensures.moment c.in-Some.ensures.form refl
