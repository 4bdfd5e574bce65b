-- The result for a copy and a delta is the only right one.
use Rattle.std.proofs.Common.{◌≡◌, Bool, true, false, ℕ, ◌<◌, ◌^◌, Option, Some, List, length, refl, sym, ap, subst, ◌∙◌, arith}
use Rattle.std.specs.Prelude.{Result, Ok, Err, unwrap_or, pos, ⊤}
use Rattle.std.proofs.lemmas.Bool.{false≢true}
use Rattle.lei_code.specs.Texts.{Text}
use Rattle.lei_shapes.specs.Moment.{IsMoment}
use Rattle.copy_csv.specs.declared.heads.CopyRead.{CopyRead}
use Rattle.copy_csv.specs.declared.heads.DeltaRead.{DeltaRead}
use Rattle.copy_csv.specs.declared.heads.Head.{Head}
use Rattle.copy_csv.specs.declared.rows.Change.{Change}
use Rattle.register_words.specs.declared.sheets.Form.{Form}
use Rattle.register_words.specs.declared.sheets.Sheet.{Sheet}
use Rattle.copy_csv.specs.Rows.{AreChanges, IsCopyHead, IsDeltaHead}
use Rattle.copy_csv.specs.Sheets.{SheetRow, has_widths}
use Rattle.copy_csv.proofs.FileLemmas.{one_copy, one_delta}
use Rattle.copy_forms.specs.Files.{IsCopyRead, IsDelta, IsDeltaRead, copy, may_be_wide}
use Rattle.copy_forms.specs.Patching.{IsPatched, patched, patched_head}
use Rattle.copy_forms.specs.Trails.{copy_of, delta_between}
use Rattle.copy_forms.proofs.BetweenLemmas.{leads_with_heads}
use Rattle.copy_forms.proofs.CopyLemmas.{copy-same, csv-copy, csv-copy-with, csv-delta, delta-same}
use Rattle.delta_apply.specs.declared.fault.ApplyFault.{ApplyFault}
use Rattle.delta_apply.specs.declared.fault.ApplyFault.TheVariants as faults
use Rattle.delta_apply.specs.Applying.{GoesFromHead, IsAnswer, IsApplied, IsOfOtherBase, IsOlder, IsSomeCopy, LeadsOn, UnlessApplyLacksMemory}
use Rattle.delta_apply.specs.Walks.{IsPatchedCsv, IsPatchedJson}

-- ---- a text is at most one copy and one delta

-- the bytes are the delta of a sheet in some width, with some head and some changes
record IsSomeDelta (bytes : Text) (sheet : Sheet) (form : Form) : Type 0 where
  head : Head
  wide : Bool
  changes : List Change
  is : IsDelta bytes sheet form head wide changes

-- the heads are the same if the form has them
abbrev SameHead : Form → Head → Head → Type 0
SameHead Form.Csv head other = ⊤
SameHead Form.Json head other = head ≡ other

-- in JSON there is only one width
one_width : (wide other : Bool) → (wide ≡ true → false ≡ true) → (other ≡ true → false ≡ true) → wide ≡ other
one_width false false is also = refl
one_width true other is also = absurd (false≢true (is refl))
one_width false true is also = absurd (false≢true (also refl))

same_copy : (sheet : Sheet) (form : Form) (bytes : Text) → length bytes < 2 ^ 64 → (is also : IsSomeCopy bytes sheet form)
    → SameHead form is.head also.head × (is.wide ≡ also.wide) × (is.rows ≡ also.rows)
same_copy sheet Form.Csv bytes short is also =
    let same = one_copy sheet bytes is.wide also.wide is.rows also.rows (csv-copy sheet bytes is.head is.wide is.rows is.is)
    (csv-copy sheet bytes also.head also.wide also.rows also.is) in
    (tt, same.0, same.1)
same_copy sheet Form.Json bytes short is also =
    let same = copy-same sheet bytes is.head also.head is.wide also.wide is.rows also.rows short is.is also.is in
    (same.0, one_width is.wide also.wide is.is.wide_is also.is.wide_is, same.1)

same_delta : (sheet : Sheet) (form : Form) (bytes : Text) → length bytes < 2 ^ 64 → (is also : IsSomeDelta bytes sheet form)
    → SameHead form is.head also.head × (is.wide ≡ also.wide) × (is.changes ≡ also.changes)
same_delta sheet Form.Csv bytes short is also =
    let same = one_delta sheet bytes is.wide also.wide is.changes also.changes (csv-delta sheet bytes is.head is.wide is.changes is.is)
    (csv-delta sheet bytes also.head also.wide also.changes also.is) in
    (tt, same.0, same.1)
same_delta sheet Form.Json bytes short is also =
    let same = delta-same sheet bytes is.head also.head is.wide also.wide is.changes also.changes short is.is also.is in
    (same.0, one_width is.wide also.wide is.is.wide_is also.is.wide_is, same.1)

same_text : (sheet : Sheet) (form : Form) (wide : Bool) (head other : Head) (rows : List SheetRow) → SameHead form head other
    → copy sheet form wide (patched_head head) rows ≡ copy sheet form wide (patched_head other) rows
same_text sheet Form.Csv wide head other rows same = refl
same_text sheet Form.Json wide head other rows same = ap (λ h. copy sheet Form.Json wide (patched_head h) rows) same

csv≢json : (form : Form) → form ≡ Form.Csv → form ≡ Form.Json → ⊥
csv≢json form csv json = false≢true (sym (ap (may_be_wide Sheet.Lei) (sym csv ∙ json)))

-- ---- only one result is right

module _ (copied delta : Text) (sheet : Sheet) (form : Form) (short : length copied < 2 ^ 64) (small : length delta < 2 ^ 64) where
  -- the copy and the delta that a result is about
  abbrev copy_in : (bytes : Text) → IsPatched copied delta bytes sheet form → IsSomeCopy copied sheet form
  copy_in bytes is = record { head = is.base_head; wide = is.base_wide; rows = is.rows; is = is.base_is }

  abbrev delta_in : (bytes : Text) → IsPatched copied delta bytes sheet form → IsSomeDelta delta sheet form
  delta_in bytes is = record { head = is.head; wide = is.wide; changes = is.changes; is = is.delta_is }

  same_bytes : (bytes others : Text) → IsPatched copied delta bytes sheet form → IsPatched copied delta others sheet form → bytes ≡ others
  same_bytes bytes others is also =
      let copies = same_copy sheet form copied short (copy_in bytes is) (copy_in others also) in
      let deltas = same_delta sheet form delta small (delta_in bytes is) (delta_in others also) in
      is.bytes_are ∙ (λ i. copy sheet form (deltas.1 i) (patched_head is.head) (patched (copies.2 i) (deltas.2 i)))
      ∙ same_text sheet form also.wide is.head also.head (patched also.rows also.changes) deltas.0 ∙ sym also.bytes_are

  same_numbers : (base other head late : Head) → SameHead Form.Json base other → SameHead Form.Json head late
      → base.publication ≡ head.from → other.publication ≡ late.from
  same_numbers base other head late bases heads is =
      sym (ap (λ (h : Head). h.publication) bases) ∙ is ∙ ap (λ (h : Head). h.from) heads

  abbrev base_in : (p q : ℕ) → IsOfOtherBase copied delta sheet form p q → IsSomeCopy copied sheet form
  base_in p q is = record { head = is.base_head; wide = is.base_wide; rows = is.rows; is = is.base_is }

  abbrev from_in : (p q : ℕ) → IsOfOtherBase copied delta sheet form p q → IsSomeDelta delta sheet form
  from_in p q is = record { head = is.head; wide = is.wide; changes = is.changes; is = is.delta_is }

  not_both : (bytes : Text) (p q : ℕ) → IsApplied copied delta bytes sheet form → IsOfOtherBase copied delta sheet form p q → ⊥
  not_both bytes p q is other =
      let copies = same_copy sheet form copied short (copy_in bytes is.patched) (base_in p q other) in
      let deltas = same_delta sheet form delta small (delta_in bytes is.patched) (from_in p q other) in
      let F : Form → Type 0 = λ f. GoesFromHead f is.patched.base_head is.patched.head in
      let G : Form → Type 0 = λ f. SameHead f is.patched.base_head other.base_head in
      let H : Form → Type 0 = λ f. SameHead f is.patched.head other.head in
      other.differ (other.publication_is
      ∙ same_numbers is.patched.base_head other.base_head is.patched.head other.head (subst G other.in_json copies.0) (subst H other.in_json deltas.0)
      (subst F other.in_json is.goes_from) ∙ sym other.from_is)

  same_base : (p q m n : ℕ) → IsOfOtherBase copied delta sheet form p q → IsOfOtherBase copied delta sheet form m n → (p ≡ m) × (q ≡ n)
  same_base p q m n is also =
      let copies = same_copy sheet form copied short (base_in p q is) (base_in m n also) in
      let deltas = same_delta sheet form delta small (from_in p q is) (from_in m n also) in
      let G : Form → Type 0 = λ f. SameHead f is.base_head also.base_head in
      let H : Form → Type 0 = λ f. SameHead f is.head also.head in
      let base : is.base_head ≡ also.base_head = subst G is.in_json copies.0 in
      let head : is.head ≡ also.head = subst H is.in_json deltas.0 in
      (is.publication_is ∙ ap (λ (h : Head). h.publication) base ∙ sym also.publication_is, is.from_is ∙ ap (λ (h : Head). h.from) head ∙ sym also.from_is)

  -- no copy is patched by an older delta
  not_older : (bytes : Text) → IsPatched copied delta bytes sheet form → IsOlder copied delta sheet form → ⊥
  not_older bytes is older =
      let copies = same_copy sheet form copied short (copy_in bytes is)
      (record { head = older.base_head; wide = true; rows = older.rows; is = older.base_is }) in
      let deltas = same_delta sheet form delta small (delta_in bytes is)
      (record { head = older.head; wide = false; changes = older.changes; is = older.delta_is }) in
      false≢true (sym deltas.1 ∙ is.newer copies.1)

  one_answer : (r s : Result Text ApplyFault) → IsAnswer copied delta sheet form r → IsAnswer copied delta sheet form s → r ≡ s
  one_answer (Ok bytes) (Ok others) is also = ap Ok (same_bytes bytes others is.patched also.patched)
  one_answer (Ok bytes) (Err faults.CopyNotRead) is also = absurd (also is.patched.base_head is.patched.base_wide is.patched.rows is.patched.base_is)
  one_answer (Ok bytes) (Err faults.DeltaNotRead) is also = absurd (also.1 is.patched.head is.patched.wide is.patched.changes is.patched.delta_is)
  one_answer (Ok bytes) (Err (faults.WrongBase p q)) is also = absurd (not_both bytes p q is also)
  one_answer (Ok bytes) (Err faults.OlderDelta) is also = absurd (not_older bytes is.patched also)
  one_answer (Ok bytes) (Err faults.NoMemory) is also = absurd also
  one_answer (Err faults.CopyNotRead) (Ok bytes) is also = absurd (is also.patched.base_head also.patched.base_wide also.patched.rows also.patched.base_is)
  one_answer (Err faults.CopyNotRead) (Err faults.CopyNotRead) is also = refl
  one_answer (Err faults.CopyNotRead) (Err faults.DeltaNotRead) is also = absurd (is also.0.head also.0.wide also.0.rows also.0.is)
  one_answer (Err faults.CopyNotRead) (Err (faults.WrongBase p q)) is also = absurd (is also.base_head also.base_wide also.rows also.base_is)
  one_answer (Err faults.CopyNotRead) (Err faults.OlderDelta) is also = absurd (is also.base_head true also.rows also.base_is)
  one_answer (Err faults.CopyNotRead) (Err faults.NoMemory) is also = absurd also
  one_answer (Err faults.DeltaNotRead) (Ok bytes) is also = absurd (is.1 also.patched.head also.patched.wide also.patched.changes also.patched.delta_is)
  one_answer (Err faults.DeltaNotRead) (Err faults.CopyNotRead) is also = absurd (also is.0.head is.0.wide is.0.rows is.0.is)
  one_answer (Err faults.DeltaNotRead) (Err faults.DeltaNotRead) is also = refl
  one_answer (Err faults.DeltaNotRead) (Err (faults.WrongBase p q)) is also = absurd (is.1 also.head also.wide also.changes also.delta_is)
  one_answer (Err faults.DeltaNotRead) (Err faults.OlderDelta) is also = absurd (is.1 also.head false also.changes also.delta_is)
  one_answer (Err faults.DeltaNotRead) (Err faults.NoMemory) is also = absurd also
  one_answer (Err (faults.WrongBase p q)) (Ok bytes) is also = absurd (not_both bytes p q also is)
  one_answer (Err (faults.WrongBase p q)) (Err faults.CopyNotRead) is also = absurd (also is.base_head is.base_wide is.rows is.base_is)
  one_answer (Err (faults.WrongBase p q)) (Err faults.DeltaNotRead) is also = absurd (also.1 is.head is.wide is.changes is.delta_is)
  one_answer (Err (faults.WrongBase p q)) (Err (faults.WrongBase m n)) is also =
      let same = same_base p q m n is also in λ i. Err (faults.WrongBase (same.0 i) (same.1 i))
  one_answer (Err (faults.WrongBase p q)) (Err faults.OlderDelta) is also = absurd (csv≢json form also.in_csv is.in_json)
  one_answer (Err (faults.WrongBase p q)) (Err faults.NoMemory) is also = absurd also
  one_answer (Err faults.OlderDelta) (Ok bytes) is also = absurd (not_older bytes also.patched is)
  one_answer (Err faults.OlderDelta) (Err faults.CopyNotRead) is also = absurd (also is.base_head true is.rows is.base_is)
  one_answer (Err faults.OlderDelta) (Err faults.DeltaNotRead) is also = absurd (also.1 is.head false is.changes is.delta_is)
  one_answer (Err faults.OlderDelta) (Err (faults.WrongBase p q)) is also = absurd (csv≢json form is.in_csv also.in_json)
  one_answer (Err faults.OlderDelta) (Err faults.OlderDelta) is also = refl
  one_answer (Err faults.OlderDelta) (Err faults.NoMemory) is also = absurd also
  one_answer (Err faults.NoMemory) s is also = absurd is

  pub answers_alone : (r : Result Text ApplyFault) → UnlessApplyLacksMemory r (IsAnswer copied delta sheet form r)
      → (other : Result Text ApplyFault) → IsAnswer copied delta sheet form other → UnlessApplyLacksMemory r (r ≡ other)
  answers_alone (Ok bytes) is other also = one_answer (Ok bytes) other is also
  answers_alone (Err faults.CopyNotRead) is other also = one_answer (Err faults.CopyNotRead) other is also
  answers_alone (Err faults.DeltaNotRead) is other also = one_answer (Err faults.DeltaNotRead) other is also
  answers_alone (Err (faults.WrongBase p q)) is other also = one_answer (Err (faults.WrongBase p q)) other is also
  answers_alone (Err faults.OlderDelta) is other also = one_answer (Err faults.OlderDelta) other is also
  answers_alone (Err faults.NoMemory) is other also = tt

  pub answer_leads_on : (r : Result Text ApplyFault) → UnlessApplyLacksMemory r (IsAnswer copied delta sheet form r) → LeadsOn copied delta sheet form r
  answer_leads_on r is trail sound few p q base latest one order e_p e_q copy_is delta_is =
      let led = leads_with_heads trail sound few p p q base latest one (omega arith) order e_p e_q sheet form in
      let F : Text → Text → Type 0 = λ c d. IsApplied c d (copy_of q latest sheet form) sheet form in
      let applied : F (copy_of p base sheet form) (delta_between trail p q latest sheet form) =
      record {
        patched = led.0;
        goes_from = from form led.0.base_head led.0.head
            (ap (λ (h : Head). h.publication) led.1 ∙ sym (ap (λ (h : Head). h.from) led.2));
      } in
      answers_alone r is (Ok (copy_of q latest sheet form)) (subst (λ c. F c delta) (sym copy_is) (subst (λ d. F (copy_of p base sheet form) d) (sym delta_is) applied))
    where
      from : (form : Form) (base head : Head) → base.publication ≡ head.from → GoesFromHead form base head
      from Form.Csv base head is = tt
      from Form.Json base head is = is

-- ---- in CSV

-- a head that any copy and any delta in CSV may have
some_head : ℕ → Head
some_head from = record { moment = pos 0; publication = 1; from = from }

is_moment : IsMoment (pos 0)
is_moment = omega arith

some_copy_head : IsCopyHead (some_head 0)
unfolding some_head
some_copy_head = record { moment = is_moment; publication = (omega arith, omega arith); from = refl }

some_delta_head : IsDeltaHead (some_head 1)
unfolding some_head
some_delta_head = record { moment = is_moment; publication = (omega arith, omega arith); from = (omega arith, omega arith) }

pub csv-changes : (bytes : Text) (sheet : Sheet) (read : DeltaRead) → IsDeltaRead bytes sheet Form.Csv read → AreChanges sheet read.changes
csv-changes bytes sheet read is = let delta = is.1 (some_head 1) some_delta_head in delta.changes_are

pub csv-widths : (bytes : Text) (sheet : Sheet) (read : DeltaRead) → IsDeltaRead bytes sheet Form.Csv read → read.wide ≡ true
    → has_widths sheet ≡ true
csv-widths bytes sheet read is wide = let delta = is.1 (some_head 1) some_delta_head in delta.wide_is wide

pub csv-answer : (copied delta : Text) (sheet : Sheet) (read : DeltaRead) → IsDeltaRead delta sheet Form.Csv read
    → (r : Result Text ApplyFault) → IsPatchedCsv sheet copied read.wide read.changes r → UnlessApplyLacksMemory r (IsAnswer copied delta sheet Form.Csv r)
csv-answer copied delta sheet read is (Ok bytes) done = record {
  patched = record {
    base_head = some_head 0;
    base_wide = done.base_wide;
    rows = done.rows;
    base_is = csv-copy-with sheet copied done.base_wide done.rows done.is (some_head 0) some_copy_head;
    head = some_head 1;
    wide = read.wide;
    changes = read.changes;
    delta_is = is.1 (some_head 1) some_delta_head;
    newer = done.newer;
    bytes_are = done.bytes_are;
  };
  goes_from = tt;
}
csv-answer copied delta sheet read is (Err faults.CopyNotRead) none = λ head wide rows copy_is. none wide rows (csv-copy sheet copied head wide rows copy_is)
csv-answer copied delta sheet read is (Err faults.DeltaNotRead) done = absurd done
csv-answer copied delta sheet read is (Err (faults.WrongBase p q)) done = absurd done
csv-answer copied delta sheet read is (Err faults.OlderDelta) older = record {
  in_csv = refl;
  base_head = some_head 0;
  rows = older.0;
  base_is = csv-copy-with sheet copied true older.0 older.1 (some_head 0) some_copy_head;
  head = some_head 1;
  changes = read.changes;
  delta_is = subst (λ wide. IsDelta delta sheet Form.Csv (some_head 1) wide read.changes) older.2 (is.1 (some_head 1) some_delta_head);
}
csv-answer copied delta sheet read is (Err faults.NoMemory) done = tt

pub csv-some_copy : (bytes : Text) (sheet : Sheet) (read : CopyRead) → IsCopyRead bytes sheet Form.Csv read → IsSomeCopy bytes sheet Form.Csv
csv-some_copy bytes sheet read is = record { head = some_head 0; wide = read.wide; rows = read.rows; is = is.1 (some_head 0) some_copy_head }

-- ---- in JSON

pub same_some : {X : Type 0} (x y : X) (o : Option X) → o ≡ Some x → o ≡ Some y → x ≡ y
same_some x y o is also = ap (λ o. unwrap_or o x) (sym is ∙ also)

pub json-some_copy : (bytes : Text) (sheet : Sheet) (read : CopyRead) → IsCopyRead bytes sheet Form.Json read → IsSomeCopy bytes sheet Form.Json
json-some_copy bytes sheet read is = record { head = is.0; wide = read.wide; rows = read.rows; is = is.2 }

-- the result for a copy and a delta that were read, whatever their heads
pub json-answer : (copied delta : Text) (sheet : Sheet) (base : CopyRead) (read : DeltaRead) → IsCopyRead copied sheet Form.Json base
    → IsDeltaRead delta sheet Form.Json read → (r : Result Text ApplyFault)
    → ((base_head head : Head) → base.head ≡ Some base_head → read.head ≡ Some head → IsPatchedJson base_head base.rows head read.changes r)
    → UnlessApplyLacksMemory r (IsAnswer copied delta sheet Form.Json r)
json-answer copied delta sheet base read is also r each = by r (each is.0 also.0 is.1 also.1)
  where
    by : (r : Result Text ApplyFault) → IsPatchedJson is.0 base.rows also.0 read.changes r → UnlessApplyLacksMemory r (IsAnswer copied delta sheet Form.Json r)
    by (Ok bytes) done = record {
      patched = record {
        base_head = is.0;
        base_wide = base.wide;
        rows = base.rows;
        base_is = is.2;
        head = also.0;
        wide = read.wide;
        changes = read.changes;
        delta_is = also.2;
        newer = λ wide. absurd (false≢true (is.2.wide_is wide));
        bytes_are = done.1;
      };
      goes_from = done.0;
    }
    by (Err faults.CopyNotRead) done = absurd done
    by (Err faults.DeltaNotRead) done = absurd done
    by (Err (faults.WrongBase p q)) done = record {
      in_json = refl;
      base_head = is.0;
      base_wide = base.wide;
      rows = base.rows;
      base_is = is.2;
      head = also.0;
      wide = read.wide;
      changes = read.changes;
      delta_is = also.2;
      publication_is = done.0;
      from_is = done.1;
      differ = λ e. done.2 (sym done.0 ∙ e ∙ done.1);
    }
    by (Err faults.OlderDelta) done = absurd done
    by (Err faults.NoMemory) done = tt
