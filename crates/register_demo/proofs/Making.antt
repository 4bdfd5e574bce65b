-- The results of the parts of a session.
use Rattle.std.proofs.Common.{◌≡◌, ℕ, cond, zero-add, ◌+◌, ◌*◌, List, [], ◌∷◌, ◌++◌, length, refl, sym, ap, subst, ◌∙◌, arith, append_assoc, length-append}
use Rattle.std.specs.Prelude.{count_by, Err, Ok, Result}
use Rattle.register_words.specs.declared.sheets.Form.TheVariants.{Csv}
use Rattle.register_words.specs.declared.sheets.Sheet.TheVariants.{Rr}
use Rattle.delta_apply.specs.declared.fault.ApplyFault.{ApplyFault}
use Rattle.delta_apply.specs.declared.fault.ApplyFault.TheVariants as faults
use Rattle.delta_apply.specs.Applying.{IsAnswer, UnlessApplyLacksMemory}
use Rattle.register_words.specs.declared.reply.Reply.{Reply}
use Rattle.register_history.specs.Legal.{Legal}
use Rattle.register_history.specs.State.{OfficeState}
use Rattle.register_demo.specs.Marks.{row_count_in}
use Rattle.register_demo.specs.Plan.{block_count}
use Rattle.register_demo.specs.Requests.{RepliesFrom, accreditations, deltas, first_publication, office_from, replies_from, second_publication, uploads_of}
use Rattle.register_demo.specs.Session.{IsPatchedSize, MakesRecords, MakesRegister, MakesRelationships, Repeats, is_created_reply, is_ok_reply, patched_size, text_in_reply, texts_of_replies}
use Rattle.register_demo.specs.declared.plan.Group.{Group}
use Rattle.register_demo.specs.declared.plan.Group.TheVariants.{Records, Relationships}
use Rattle.register_demo.specs.declared.summary.Told.{Told}
use Rattle.register_demo.proofs.Stages.{answers-append, answers-uploads, length-replies, length-uploads}

-- there are as many replies as blocks
each-told : (office : OfficeState) (count n : ℕ) (group : Group) → length (replies_from office count (uploads_of group n)) ≡ block_count n
each-told office count n group = length-replies office count (uploads_of group n) ∙ length-uploads group n

-- the records were sent after the accreditations, and published
pub makes-records : (n behind : ℕ) (o1 o2 o3 o4 : OfficeState) (old new : List ℕ) (first second publication lei copy : Reply)
    → RepliesFrom o1 0 accreditations (first ∷ second ∷ []) o2 → new ≡ old ++ texts_of_replies (replies_from o2 2 (uploads_of Records n))
    → o3 ≡ office_from o2 2 (uploads_of Records n) → behind ≡ block_count n + 2
    → RepliesFrom o3 behind first_publication (publication ∷ lei ∷ copy ∷ []) o4
    → MakesRecords n o1 o4 old new publication copy
makes-records n behind o1 o2 o3 o4 old new first second publication lei copy accredited texts leads is published =
    let sent = replies_from o2 2 (uploads_of Records n) in
    let count = length-uploads Records n in
    record {
      first = first;
      second = second;
      records = sent;
      lei_copy = lei;
      answers = answers-append o1 o2 o4 0 2 accreditations (uploads_of Records n ++ first_publication) (first ∷ second ∷ [])
          (sent ++ (publication ∷ lei ∷ copy ∷ [])) accredited
          (answers-append o2 o3 o4 2 behind (uploads_of Records n) first_publication sent (publication ∷ lei ∷ copy ∷ [])
          (answers-uploads o2 o3 2 (uploads_of Records n) leads) published (omega (arith, count, is))) refl;
      each = each-told o2 2 n Records;
      texts = texts;
    }

-- the relationships were sent, and published
pub makes-relationships : (n count behind : ℕ) (o1 o2 o3 : OfficeState) (old new : List ℕ) (publication : Reply)
    → count ≡ block_count n + 5 → new ≡ old ++ texts_of_replies (replies_from o1 count (uploads_of Relationships n))
    → o2 ≡ office_from o1 count (uploads_of Relationships n) → behind ≡ 2 * block_count n + 5
    → RepliesFrom o2 behind second_publication (publication ∷ []) o3
    → MakesRelationships n o1 o3 old new publication
makes-relationships n count behind o1 o2 o3 old new publication begins texts leads is published =
    let sent = replies_from o1 count (uploads_of Relationships n) in
    let many = length-uploads Relationships n in
    let A : ℕ → Type 0 = λ k. RepliesFrom o1 k (uploads_of Relationships n ++ second_publication) (sent ++ (publication ∷ [])) o3 in
    record {
      relationships = sent;
      answers = subst A begins (answers-append o1 o2 o3 count behind (uploads_of Relationships n) second_publication sent (publication ∷ [])
          (answers-uploads o1 o2 count (uploads_of Relationships n) leads) published (omega (arith, many, is, begins)));
      each = each-told o1 count n Relationships;
      texts = texts;
    }

-- the records were sent once more, and the deltas were asked for
pub repeats : (n count behind told : ℕ) (o1 o2 o3 : OfficeState) (lei rr : Reply)
    → count ≡ 2 * block_count n + 6 → told ≡ count_by is_ok_reply (replies_from o1 count (uploads_of Records n))
    → o2 ≡ office_from o1 count (uploads_of Records n) → behind ≡ 3 * block_count n + 6
    → RepliesFrom o2 behind deltas (lei ∷ rr ∷ []) o3 → Legal o3 → Repeats n o1 o3 told lei rr
repeats n count behind told o1 o2 o3 lei rr begins counted leads is asked legal =
    let sent = replies_from o1 count (uploads_of Records n) in
    let many = length-uploads Records n in
    let A : ℕ → Type 0 = λ k. RepliesFrom o1 k (uploads_of Records n ++ deltas) (sent ++ (lei ∷ rr ∷ [])) o3 in
    record {
      replies = sent;
      answers = subst A begins (answers-append o1 o2 o3 count behind (uploads_of Records n) deltas sent (lei ∷ rr ∷ [])
          (answers-uploads o1 o2 count (uploads_of Records n) leads) asked (omega (arith, many, is, begins)));
      each = each-told o1 count n Records;
      count = counted;
      legal = legal;
    }

-- ---- all requests

nest : {X : Type 0} (a b c d e y : List X) → (a ++ (b ++ c)) ++ ((d ++ e) ++ y) ≡ a ++ (b ++ (c ++ (d ++ (e ++ y))))
nest a b c d e y =
    append_assoc a (b ++ c) ((d ++ e) ++ y) ∙ ap (λ xs. a ++ xs) (append_assoc b c ((d ++ e) ++ y))
    ∙ ap (λ xs. a ++ (b ++ (c ++ xs))) (append_assoc d e y)

length-front : (n : ℕ) → length (accreditations ++ (uploads_of Records n ++ first_publication)) ≡ block_count n + 5
length-front n =
    let all = length-append accreditations (uploads_of Records n ++ first_publication) in
    let rest = length-append (uploads_of Records n) first_publication in
    let many = length-uploads Records n in
    omega (arith, all, rest, many)

length-middle : (n : ℕ) → length (uploads_of Relationships n ++ second_publication) ≡ block_count n + 1
length-middle n =
    let all = length-append (uploads_of Relationships n) second_publication in
    let many = length-uploads Relationships n in
    omega (arith, all, many)

texts-append : (xs ys : List Reply) → texts_of_replies (xs ++ ys) ≡ texts_of_replies xs ++ texts_of_replies ys
texts-append [] ys = refl
texts-append (x ∷ xs) ys = ap (λ text. text_in_reply x ++ text) (texts-append xs ys) ∙ sym (append_assoc (text_in_reply x) (texts_of_replies xs) (texts_of_replies ys))

-- all requests were answered, and this is what the replies say
pub tells : (n : ℕ) (o1 o2 o3 o4 : OfficeState) (new answers : List ℕ) (first copy second lei rr : Reply) (repeated : ℕ) (told : Told)
    → MakesRecords n o1 o2 [] new first copy → MakesRelationships n o2 o3 new answers second → Repeats n o3 o4 repeated lei rr
    → told.answers.items ≡ answers → told.repeats ≡ repeated → told.publications ≡ count_by is_created_reply (first ∷ second ∷ [])
    → told.published ≡ text_in_reply second → told.records ≡ row_count_in (text_in_reply lei) → told.relationships ≡ row_count_in (text_in_reply rr)
    → IsPatchedSize (text_in_reply copy) (text_in_reply rr) told.applied → MakesRegister n o1 o4 told
tells n o1 o2 o3 o4 new answers first copy second lei rr repeated told a b c is_answers is_repeated is_made published records relationships applied =
    let up = uploads_of Records n in
    let links = uploads_of Relationships n in
    let opened = a.first ∷ a.second ∷ [] in
    let copied = first ∷ a.lei_copy ∷ copy ∷ [] in
    let asked = lei ∷ rr ∷ [] in
    let front = length-front n in
    let middle = length-middle n in
    let requests = nest accreditations up first_publication links second_publication (up ++ deltas) in
    let all = answers-append o1 o2 o4 0 (block_count n + 5) (accreditations ++ (up ++ first_publication)) ((links ++ second_publication) ++ (up ++ deltas))
    (opened ++ (a.records ++ copied)) ((b.relationships ++ (second ∷ [])) ++ (c.replies ++ asked)) a.answers
    (answers-append o2 o3 o4 (block_count n + 5) (2 * block_count n + 6) (links ++ second_publication) (up ++ deltas)
    (b.relationships ++ (second ∷ [])) (c.replies ++ asked) b.answers c.answers (omega (arith, middle))) (omega (arith, front)) in
    record {
      replies = record {
        first_issuer = a.first;
        second_issuer = a.second;
        records = a.records;
        first_publication = first;
        lei_copy = a.lei_copy;
        rr_copy = copy;
        relationships = b.relationships;
        second_publication = second;
        repeats = c.replies;
        lei_delta = lei;
        rr_delta = rr;
      };
      are = record {
        all = sym (nest opened a.records copied b.relationships (second ∷ []) (c.replies ++ asked)) ∙ all.told ∙ ap (replies_from o1 0) requests;
        records = a.each;
        relationships = b.each;
        repeats = c.each;
      };
      leads = all.leads ∙ ap (office_from o1 0) requests;
      legal = c.legal;
      answers = is_answers ∙ b.texts ∙ ap (λ text. text ++ texts_of_replies b.relationships) a.texts ∙ sym (texts-append a.records b.relationships);
      repeats = is_repeated ∙ c.count;
      publications = is_made;
      published = published;
      records = records;
      relationships = relationships;
      applied = applied;
    }

-- how many of two replies say that a publication was made
pub two-made : (x y : Reply) (m k : ℕ) → m ≡ cond (is_created_reply x) 1 0 → k ≡ cond (is_created_reply y) 1 0 → m + k ≡ count_by is_created_reply (x ∷ y ∷ [])
two-made x y m k e f =
    ap (λ v. v + k) (e ∙ sym (zero-add (cond (is_created_reply x) 1 0))) ∙ ap (λ v. (0 + cond (is_created_reply x) 1 0) + v) f

-- the answer for a copy and a delta, unless memory ran out
pub patched : (copy delta : List ℕ) (result : Result (List ℕ) ApplyFault) (size : ℕ) → UnlessApplyLacksMemory result (IsAnswer copy delta Rr Csv result)
    → ¬ (result ≡ Err faults.NoMemory) → size ≡ patched_size result → IsPatchedSize copy delta size
patched copy delta (Ok bytes) size is some size_is = record { answer = Ok bytes; is = is; size_is = size_is }
patched copy delta (Err faults.CopyNotRead) size is some size_is = record { answer = Err faults.CopyNotRead; is = is; size_is = size_is }
patched copy delta (Err faults.DeltaNotRead) size is some size_is = record { answer = Err faults.DeltaNotRead; is = is; size_is = size_is }
patched copy delta (Err (faults.WrongBase p q)) size is some size_is = record { answer = Err (faults.WrongBase p q); is = is; size_is = size_is }
patched copy delta (Err faults.OlderDelta) size is some size_is = record { answer = Err faults.OlderDelta; is = is; size_is = size_is }
patched copy delta (Err faults.NoMemory) size is some size_is = absurd (some refl)
