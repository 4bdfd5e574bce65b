-- What lines ask may be put to an office.
use Rattle.std.proofs.Common.{◌≡◌, length, Bool, true, false, cond, eqb, None, Some, inl, inr, sym, subst, arith}
use Rattle.register_words.specs.declared.reply.Refusal.TheVariants.{NoMemory}
use Rattle.register_words.specs.declared.request.Asked.{Asked}
use Rattle.register_words.specs.declared.request.Asked.TheVariants.{Ask, Refuse}
use Rattle.request_loop.specs.Frames.{Fits}
use Rattle.request_loop.specs.declared.frames.Want.{Want}
use Rattle.lei_office.specs.Answering.{CountedOffice, MayBeAsked, OfficeStep, StepsBy}
use Rattle.lei_office.proofs.Sessions.{office_fits, reads_so}
use Rattle.line_reading.specs.LineFrames.{IsReadOf, line_rules, want_for, want_of_line}
use Rattle.line_reading.specs.Lines.{Line, line_of}
use Rattle.line_reading.specs.Requests.{line_asks}
use Rattle.line_reading.specs.declared.framing.NoEnd.{NoEnd}
use Rattle.line_reading.proofs.Asking.{AsksInRange, in_range}
use Rattle.line_reading.proofs.LineRuns.{SameSteps}

-- ---- what may be asked

in_range_asked : (what : Asked) → AsksInRange what → MayBeAsked what
in_range_asked (Ask request) range = range
in_range_asked (Refuse refusal) range = range

wanted_asked : (is_empty : Bool) (what : Asked) (want : Want Asked NoEnd) → AsksInRange what
    → Some want ≡ cond is_empty None (Some (want_for what)) → MayBeAsked want.asked
wanted_asked true what want range is = cc
wanted_asked false what want range is =
    let M : Want Asked NoEnd → Type 0 = λ w. MayBeAsked w.asked in
    let same : want ≡ want_for what = cc in
    subst M (sym same) (in_range_asked what range)

line_asked : (line : Line) (want : Want Asked NoEnd) → Some want ≡ want_of_line line → MayBeAsked want.asked
line_asked line want is = wanted_asked (eqb (length line) 0) (line_asks line) want (in_range line) is

last_asked : (line : Line) (want : Want Asked NoEnd) → IsReadOf line (Some want) → MayBeAsked want.asked
last_asked line want (inl is) = line_asked line want is
last_asked line want (inr read) =
    let M : Want Asked NoEnd → Type 0 = λ w. MayBeAsked w.asked in
    let same : want ≡ want_for (Refuse NoMemory) = cc in
    subst M (sym same) (λ is. omega (arith, is))

-- ---- what is read instead

pub reads_office : SameSteps OfficeStep
reads_office = reads_so

-- so what lines ask fits every answerer that has an office, if `S`, which it needs in addition, holds
pub lines_fit : {A : Type 0} (S : Type 0) (part : A → CountedOffice) → S
    → Fits (λ what. MayBeAsked what × S) (StepsBy part) line_rules
lines_fit S part holds =
    office_fits S part line_rules holds (λ bytes want rest is. line_asked (line_of is.0) want is.2)
    (λ bytes want is. last_asked bytes want is) (λ meant read reads. reads) (λ what reply refuses. refuses)
