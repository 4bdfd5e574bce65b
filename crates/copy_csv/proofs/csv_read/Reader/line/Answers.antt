use Rattle.std.proofs.Common.{◌≡◌, ℕ, suc, ◌+◌, ◌-◌, ◌<◌, List, ◌++◌, Bool, true, false, Some, None, ap, subst, ◌∙◌, arith, length}
use Rattle.std.proofs.lemmas.Str.{is_utf8-from_IsUtf8}
use Rattle.copy_csv.specs.CsvReading.{csv_field_from, line_from, separator_of, with_first_texts, with_front}
use Rattle.copy_csv.specs.Cuts.{parts_at_ends}
use Rattle.copy_csv.specs.Taking.{taken_text}
use Rattle.copy_csv.proofs.CutLemmas.{IsCut-push, parts_at_ends-push}
use Rattle.copy_csv.proofs.CsvLemmas.{TextRead, field-missing, field-step, field-utf8, none_read, text_read}
use Rattle.copy_csv.proofs.csv_read.Reader.line.Goals as goal

pub returns-then-not-branch-clause-read : goal.returns-then-not-branch-clause-read
returns-then-not-branch-clause-read c =
    let index : ℕ = c.loop-index.index in
    let more : ℕ = c.args.count - index - 1 in
    let before : index < c.args.count = c.loop-index-test.true in
    let is : c.args.count - index ≡ suc more = omega arith in
    let made : List ℕ = c.loop-index.bytes.items in
    let old : List ℕ = c.loop-index.self in
    let F : ℕ → Type 0 = λ byte. None ≡ with_front made (csv_field_from byte old) in
    let G : Bool → Type 0 = λ found. taken_text found c.field.new.out.items c.field.new.self ≡ with_front made (csv_field_from c.separator-byte.result old) in
    let missing : G false = subst G c.if-not-branch.true c.in_ok-field.ensures in
    field-missing c.args.count index more is (parts_at_ends made c.loop-index.ends) old
    (none_read (separator_of more) made old (subst F c.separator-byte.ensures missing)) ∙ c.loop-index.invariant.ahead

pub loop-index-preserved : goal.loop-index-preserved
loop-index-preserved c =
    let index : ℕ = c.loop-index.index in
    let more : ℕ = c.args.count - index - 1 in
    let before : index < c.args.count = c.loop-index-test.true in
    let is : c.args.count - index ≡ suc more = omega arith in
    let later : c.args.count - (index + 1) ≡ more = omega arith in
    let bytes : List ℕ = c.loop-index.bytes.items in
    let ends : List ℕ = c.loop-index.ends in
    let old : List ℕ = c.loop-index.self in
    let rest : List ℕ = c.field.new.self in
    let F : ℕ → Type 0 = λ byte. Some (c.field.new.out.items, rest) ≡ with_front bytes (csv_field_from byte old) in
    let G : Bool → Type 0 = λ found. taken_text found c.field.new.out.items rest ≡ with_front bytes (csv_field_from c.separator-byte.result old) in
    let found : G true = subst G c.if-not-branch.false c.in_ok-field.ensures in
    let read : TextRead (separator_of more) bytes old c.field.new.out.items rest =
    text_read (separator_of more) bytes old c.field.new.out.items rest (subst F c.separator-byte.ensures found) in
    let to : c.len.result ≡ length (bytes ++ read.text) = c.len.ensures ∙ c.field.new.out.ok.0 ∙ ap length read.made_is in
    let utf8 = field-utf8 more old read.text rest c.loop-index.invariant.utf8 read.read in
    rw (read.made_is, c.in_ok-push.ensures.pushed, later) (record {
      ahead = ap (λ l. with_first_texts l (line_from more rest)) (parts_at_ends-push bytes read.text ends c.len.result c.loop-index.invariant.cut to)
          ∙ field-step c.args.count index more is (parts_at_ends bytes ends) old read.text rest read.read ∙ c.loop-index.invariant.ahead;
      cut = IsCut-push bytes read.text ends c.len.result c.loop-index.invariant.cut to (is_utf8-from_IsUtf8 read.text utf8.0);
      utf8 = utf8.1;
    })
