use Rattle.std.proofs.Common.{◌≡◌, ◌∷◌, Bool, true, false, Some, None, sym, ap, subst, ◌∙◌}
use Rattle.std.specs.Prelude.{unwrap_or}
use Rattle.copy_csv.specs.CsvReading.{after_byte, csv_text_from, with_front}
use Rattle.copy_csv.specs.Taking.{TakesPart}
use Rattle.copy_csv.proofs.CsvLemmas.{part-step, part-end, part-missing, skipped, not_skipped}
use Rattle.copy_csv.proofs.csv_read.Reader.text.Goals as goal

pub returns-then-not-skip : goal.returns-then-not-skip
returns-then-not-skip c =
    let F : Bool → Type 0 = λ b. TakesPart c.loop-self.self c.loop-self.out.items b c.part.new.self c.part.new.out.items in
    let taken : F true = subst F c.if-branch.true c.in_ok-part.ensures in
    let none : after_byte 34 c.part.new.self ≡ None = not_skipped 34 c.part.new.self (sym c.skip.ensures.found ∙ c.if-not-skip.true) in
    ap (λ l. Some (c.part.new.out.items, l)) (c.skip.ensures.rest ∙ ap (λ r. unwrap_or r c.part.new.self) none)
    ∙ part-end c.loop-self.self c.loop-self.out.items c.part.new.self c.part.new.out.items taken none ∙ c.loop-self.invariant

pub loop-self-preserved : goal.loop-self-preserved
loop-self-preserved c =
    let F : Bool → Type 0 = λ b. TakesPart c.loop-self.self c.loop-self.out.items b c.part.new.self c.part.new.out.items in
    let taken : F true = subst F c.if-branch.true c.in_ok-part.ensures in
    let is : c.part.new.self ≡ 34 ∷ c.skip.new.self =
    skipped 34 c.part.new.self c.skip.new.self (sym c.skip.ensures.found ∙ c.if-not-skip.false) c.skip.ensures.rest in
    ap (λ l. with_front l (csv_text_from c.skip.new.self false)) c.in_ok-push.ensures.items
    ∙ part-step c.loop-self.self c.loop-self.out.items c.part.new.self c.part.new.out.items taken c.skip.new.self is ∙ c.loop-self.invariant

pub returns : goal.returns
returns c =
    let F : Bool → Type 0 = λ b. TakesPart c.loop-self.self c.loop-self.out.items b c.part.new.self c.part.new.out.items in
    let taken : F false = subst F c.if-branch.false c.in_ok-part.ensures in
    part-missing c.loop-self.self c.loop-self.out.items taken.0 ∙ c.loop-self.invariant
