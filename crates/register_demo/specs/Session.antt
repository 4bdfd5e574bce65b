-- The replies to the requests that make a register, and what they say about it.
use Rattle.std.specs.Prelude.{◌≡◌, ℕ, ◌+◌, ◌*◌, Bool, ◌==◌, List, [], ◌∷◌, ◌++◌, count_by, flat_map, length, Result, Ok, Err}
use Rattle.register_words.specs.declared.sheets.Form.TheVariants.{Csv}
use Rattle.register_words.specs.declared.sheets.Sheet.TheVariants.{Rr}
use Rattle.delta_apply.specs.declared.fault.ApplyFault.{ApplyFault}
use Rattle.delta_apply.specs.Applying.{IsAnswer}
use Rattle.lei_code.specs.Texts.{Text}
use Rattle.register_words.specs.declared.reply.Reply.{Reply}
use Rattle.register_words.specs.declared.reply.Reply.TheVariants as replies
use Rattle.register_history.specs.Legal.{Legal}
use Rattle.register_words.specs.Limits.{standard}
use Rattle.register_history.specs.State.{OfficeState, new_office}
use Rattle.register_words.specs.Refusals.{reply_status_code}
use Rattle.register_demo.specs.Marks.{row_count_in}
use Rattle.register_demo.specs.Plan.{block_count}
use Rattle.register_demo.specs.Requests.{RepliesFrom, accreditations, deltas, demo_requests, first_publication, office_from, replies_from, second_publication, uploads_of}
use Rattle.register_demo.specs.Summary.{delta_lines, lines_text, publication_lines, verdict_lines}
use Rattle.register_demo.specs.declared.plan.Group.TheVariants.{Records, Relationships}
use Rattle.register_demo.specs.declared.summary.Told.{Told}

-- the text of a reply, which is empty for a refusal
abbrev pub text_in_reply : Reply → Text
text_in_reply (replies.Text code kind text) = text
text_in_reply (replies.Words refusal) = []

-- the status code of the reply is 200
abbrev pub is_ok_reply : Reply → Bool
is_ok_reply reply = reply_status_code reply == 200

-- the status code of the reply is 201, as that of a publication
abbrev pub is_created_reply : Reply → Bool
is_created_reply reply = reply_status_code reply == 201

-- the texts of replies, one after the other
abbrev pub texts_of_replies : List Reply → Text
texts_of_replies replies = flat_map text_in_reply replies

-- ---- the replies, step by step

-- The replies to the requests that make a register. First come those to the accreditations, the uploads of records, the
-- publication and the copies. Then come those to the uploads of relationships, the second publication, the repeated
-- uploads and the deltas.
pub record DemoReplies : Type 0 where
  pub first_issuer : Reply
  pub second_issuer : Reply
  pub records : List Reply
  pub first_publication : Reply
  pub lei_copy : Reply
  pub rr_copy : Reply
  pub relationships : List Reply
  pub second_publication : Reply
  pub repeats : List Reply
  pub lei_delta : Reply
  pub rr_delta : Reply

-- all of them, in order
abbrev pub replies_in_order : DemoReplies → List Reply
replies_in_order told =
    (told.first_issuer ∷ told.second_issuer ∷ [])
    ++ (told.records ++ ((told.first_publication ∷ told.lei_copy ∷ told.rr_copy ∷ [])
    ++ (told.relationships ++
    ((told.second_publication ∷ []) ++ (told.repeats ++ (told.lei_delta ∷ told.rr_delta ∷ []))))))

-- These are the replies of an office to the requests that make a register of n records. There is one to each upload of
-- a block, and all of them are in the order of the requests.
pub record AreReplies (office : OfficeState) (n : ℕ) (told : DemoReplies) : Type 0 where
  pub all : replies_in_order told ≡ replies_from office 0 (demo_requests n)
  pub records : length told.records ≡ block_count n
  pub relationships : length told.relationships ≡ block_count n
  pub repeats : length told.repeats ≡ block_count n

-- how many bytes the patched copy has, or 0 if there is none
abbrev pub patched_size : Result Text ApplyFault → ℕ
patched_size (Ok bytes) = length bytes
patched_size (Err fault) = 0

-- this is the size in bytes of the answer when the delta of relationships is applied to their copy
pub record IsPatchedSize (copy delta : Text) (size : ℕ) : Type 0 where
  pub answer : Result Text ApplyFault
  pub is : IsAnswer copy delta Rr Csv answer
  pub size_is : size ≡ patched_size answer

-- how many entries an office has after the requests that make a register of n records
abbrev pub entries_after : OfficeState → ℕ → ℕ
entries_after office n = length (office_from office 0 (demo_requests n)).history

-- ---- the summary

-- The summary of these replies of an office, if the patched copy has this many bytes. The verdicts are counted only in
-- the answers to the uploads of records and of relationships, without the repeats.
abbrev pub summary_text : OfficeState → ℕ → DemoReplies → ℕ → Text
summary_text office n told applied = lines_text (
    verdict_lines (entries_after office n) (texts_of_replies (told.records ++ told.relationships))
    ++ (publication_lines (count_by is_ok_reply told.repeats)
    (count_by is_created_reply (told.first_publication ∷ told.second_publication ∷ []))
    (text_in_reply told.second_publication)
    ++ delta_lines (row_count_in (text_in_reply told.lei_delta)) (row_count_in (text_in_reply told.rr_delta)) applied))

-- The text is the summary of a register of n records, made by an office that had no entries before and has the standard
-- limits.
pub record IsSummary (n : ℕ) (text : Text) : Type 0 where
  pub told : DemoReplies
  pub are : AreReplies (new_office standard) n told
  pub applied : ℕ
  pub applied_is : IsPatchedSize (text_in_reply told.rr_copy) (text_in_reply told.rr_delta) applied
  pub text_is : text ≡ summary_text (new_office standard) n told applied

-- ---- the parts of a session

-- The records were sent and published, with this reply and this copy of relationships.
pub record MakesRecords (n : ℕ) (office after : OfficeState) (old new : Text)
    (publication copy : Reply) : Type 0 where
  pub first : Reply
  pub second : Reply
  pub records : List Reply
  pub lei_copy : Reply
  pub answers : RepliesFrom office 0 (accreditations ++ (uploads_of Records n ++ first_publication))
      ((first ∷ second ∷ []) ++ (records ++ (publication ∷ lei_copy ∷ copy ∷ []))) after
  pub each : length records ≡ block_count n
  pub texts : new ≡ old ++ texts_of_replies records

-- The relationships were sent and published, with this reply.
pub record MakesRelationships (n : ℕ) (office after : OfficeState) (old new : Text)
    (publication : Reply) : Type 0 where
  pub relationships : List Reply
  pub answers : RepliesFrom office (block_count n + 5) (uploads_of Relationships n ++ second_publication)
      (relationships ++ (publication ∷ [])) after
  pub each : length relationships ≡ block_count n
  pub texts : new ≡ old ++ texts_of_replies relationships

-- The records were sent once more, and this many of the replies have the status code 200. Then these deltas were asked
-- for.
pub record Repeats (n : ℕ) (office after : OfficeState) (told : ℕ) (lei_delta rr_delta : Reply) : Type 0 where
  pub replies : List Reply
  pub answers : RepliesFrom office (2 * block_count n + 6) (uploads_of Records n ++ deltas)
      (replies ++ (lei_delta ∷ rr_delta ∷ [])) after
  pub each : length replies ≡ block_count n
  pub count : told ≡ count_by is_ok_reply replies
  pub legal : Legal after

-- The office made a register of n records, and the replies say this about it.
pub record MakesRegister (n : ℕ) (office after : OfficeState) (told : Told) : Type 0 where
  pub replies : DemoReplies
  pub are : AreReplies office n replies
  pub leads : after ≡ office_from office 0 (demo_requests n)
  pub legal : Legal after
  pub answers : told.answers.items ≡ texts_of_replies (replies.records ++ replies.relationships)
  pub repeats : told.repeats ≡ count_by is_ok_reply replies.repeats
  pub publications : told.publications
      ≡ count_by is_created_reply (replies.first_publication ∷ replies.second_publication ∷ [])
  pub published : told.published ≡ text_in_reply replies.second_publication
  pub records : told.records ≡ row_count_in (text_in_reply replies.lei_delta)
  pub relationships : told.relationships ≡ row_count_in (text_in_reply replies.rr_delta)
  pub applied : IsPatchedSize (text_in_reply replies.rr_copy) (text_in_reply replies.rr_delta) told.applied

-- the summary of a register with this many entries, about which the replies say this
abbrev pub summary_with_counts : ℕ → Told → Text
summary_with_counts entries told = lines_text (verdict_lines entries told.answers.items
    ++ (publication_lines told.repeats told.publications told.published
    ++ delta_lines told.records told.relationships told.applied))
