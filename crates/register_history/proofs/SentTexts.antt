-- The texts of rows are UTF-8: they were sent in JSON, or are printed moments.
use Rattle.std.proofs.Common.{◌≡◌, ℕ, ℤ, ◌==◌, nat_lt, List, [], ◌∷◌, ◌++◌, length, fold, map, Bool, true, false, cond, Option, Some, None, option_map, option_and_then, Result, Ok, Err, refl, sym, subst, ◌∙◌, arith, unwrap_or}
use Rattle.std.specs.Cmp.Lexicographic.{slice_cmp}
use Rattle.std.specs.FinMap.{empty, get, get-empty, get-insert}
use Rattle.std.specs.List.{AllByRecursion, list_all}
use Rattle.std.specs.Map.{lookup}
use Rattle.std.specs.Ordering.{eq_by_cmp, match_ordering, nat_cmp}
use Rattle.std.specs.Str.{IsUtf8, bytes_eq, is_utf8}
use Rattle.std.specs.declared.cmp.Ordering.{Ordering}
use Rattle.std.proofs.lemmas.Int.{ints}
use Rattle.std.proofs.lemmas.Str.{IsUtf8-from_ascii, IsUtf8-from_is_utf8, IsUtf8-nil}
use Rattle.jiff.specs.Words.{Error, parse_timestamp}
use Rattle.serde_json.specs.Data as values
use Rattle.serde_json.specs.Data.{Data, Items, Members}
use Rattle.serde_json.specs.Find.{as_array, as_object, as_str, get_member}
use Rattle.serde_json.specs.Read.{read}
use Rattle.authority_rules.proofs.HolderLemmas.{keys_total, some_apart}
use Rattle.lei_code.specs.Texts.{Text}
use Rattle.lei_values.specs.declared.entry.KeptEntry.{KeptEntry}
use Rattle.lei_shapes.specs.declared.shapes.Shape.{Shape}
use Rattle.lei_shapes.specs.Clock.{moment_text}
use Rattle.lei_shapes.specs.Moment.{IsMoment, is_moment, moment_of_instant, read_moment, whole_seconds}
use Rattle.lei_shapes.proofs.MomentLemmas.{IsAscii-moment_text}
use Rattle.lei_records.specs.Checks.{FailedCheck, first_failing}
use Rattle.item_fields.specs.Fields.{Field, row_fields}
use Rattle.item_fields.specs.Items.{failed_check, text_in_row, ready, readied_as, row_of, row_text, text_under}
use Rattle.lei_records.specs.Rows.{Row}
use Rattle.lei_records.specs.Spelled.{is_absent}
use Rattle.lei_records.specs.Tables.{KeyTexts, Table, key_cmp, put_all, put_write, row_key}
use Rattle.item_fields.specs.declared.fields.Content.{Content}
use Rattle.item_fields.specs.declared.fields.Kind.{Kind}
use Rattle.lei_records.specs.declared.item.Item.{Item}
use Rattle.item_fields.specs.declared.item.RawItem.{RawItem}
use Rattle.lei_records.specs.declared.item.Readied.{Readied}
use Rattle.lei_records.specs.declared.view.RowKey.{RowKey}
use Rattle.register_judge.specs.declared.sitting.Sitting.{Sitting}
use Rattle.register_judge.specs.Taking.{Taken, in_front, is_new_record, item_after, item_checks, take, verdict_of, writes_of}
use Rattle.register_table.specs.Held.{Cell, Held, cell_key, rows}
use Rattle.register_table.specs.Undos.{WriteList, cell_with, touch, touch_all, row_in_item as item_row}
use Rattle.upload_format.specs.Bodies as bodies
use Rattle.upload_format.specs.Bodies.{append_read, is_list_name, items_under, list_of, member_names, of_items, of_value, raw_item, text_members, upload, value_of}
use Rattle.register_words.specs.declared.malformed.Malformed.{Malformed}
use Rattle.register_words.specs.declared.malformed.Malformed.TheVariants.{NoItems, TooManyItems}
use Rattle.upload_ledger.specs.History.{History}
use Rattle.register_words.specs.declared.limits.Limits.{Limits}
use Rattle.register_history.specs.Register.{entry_items, entry_sitting, entry_writes, held_after, held_after_entry, readied_items, take_items}
use Rattle.upload_format.proofs.JsonTexts.{AreTexts, If, ItemsAreTexts, MembersAreTexts, read-texts}
use Rattle.lei_records.specs.RuleNumbers.{rules_of}
use Rattle.lei_records.specs.declared.rules.Rules.{Rules}

-- ---- items as they were sent

abbrev ArePairs : List (Text × Text) → Type 0
ArePairs = AllByRecursion (λ p. IsUtf8 p.1)

abbrev IsSent : RawItem → Type 0
IsSent (RawItem.Record pairs) = ArePairs pairs
IsSent (RawItem.Relation pairs) = ArePairs pairs
IsSent (RawItem.Exception pairs) = ArePairs pairs

abbrev AreSent : List RawItem → Type 0
AreSent = AllByRecursion IsSent

str-text : (value : Data) → AreTexts value → If IsUtf8 (as_str value)
str-text values.null are = tt
str-text (values.boolean b) are = tt
str-text (values.number n) are = tt
str-text (values.string s) are = are
str-text (values.array ds) are = tt
str-text (values.object ms) are = tt

array-texts : (value : Data) → AreTexts value → If ItemsAreTexts (as_array value)
array-texts values.null are = tt
array-texts (values.boolean b) are = tt
array-texts (values.number n) are = tt
array-texts (values.string s) are = tt
array-texts (values.array ds) are = are
array-texts (values.object ms) are = tt

object-texts : (value : Data) → AreTexts value → If MembersAreTexts (as_object value)
object-texts values.null are = tt
object-texts (values.boolean b) are = tt
object-texts (values.number n) are = tt
object-texts (values.string s) are = tt
object-texts (values.array ds) are = tt
object-texts (values.object ms) are = are

-- what is found by way of something that has a property
by-way : {A B : Type 0} (P : A → Type 0) (Q : B → Type 0) (f : A → Option B) (found : Option A) → If P found → ((a : A) → P a → If Q (f a)) → If Q (option_and_then f found)
by-way P Q f None is then = tt
by-way P Q f (Some a) is then = then a is

mapped : {A B : Type 0} (P : A → Type 0) (Q : B → Type 0) (f : A → B) (found : Option A) → If P found → ((a : A) → P a → Q (f a)) → If Q (option_map f found)
mapped P Q f None is then = tt
mapped P Q f (Some a) is then = then a is

fields-texts : (ms : Members) → MembersAreTexts ms → If ArePairs (text_members ms)
fields-texts values.no_members are = tt
fields-texts (values.member name value others) are =
    let rest = fields-texts others are.1 in
    by-way IsUtf8 ArePairs (λ text. option_map (λ fields. (name, text) ∷ fields) (text_members others)) (as_str value) (str-text value are.0)
    (λ text is. mapped ArePairs ArePairs (λ fields. (name, text) ∷ fields) (text_members others) rest (λ fields all. (is, all)))

raw_item-texts : (kind : Kind) (pairs : List (Text × Text)) → ArePairs pairs → IsSent (raw_item kind pairs)
raw_item-texts Kind.Record pairs are = are
raw_item-texts Kind.Relation pairs are = are
raw_item-texts Kind.Exception pairs are = are

item-texts : (kind : Kind) (value : Data) → AreTexts value → If IsSent (bodies.raw_item_of kind value)
item-texts kind value are =
    mapped ArePairs IsSent (raw_item kind) (option_and_then text_members (as_object value))
    (by-way MembersAreTexts ArePairs text_members (as_object value) (object-texts value are) fields-texts) (raw_item-texts kind)

list-texts : (kind : Kind) (ds : Items) → ItemsAreTexts ds → If AreSent (list_of kind ds)
list-texts kind values.no_items are = tt
list-texts kind (values.item value others) are =
    let rest = list-texts kind others are.1 in
    by-way IsSent AreSent (λ first. option_map (λ more. first ∷ more) (list_of kind others)) (bodies.raw_item_of kind value) (item-texts kind value are.0)
    (λ first is. mapped AreSent AreSent (λ more. first ∷ more) (list_of kind others) rest (λ more all. (is, all)))

items_under-texts : (kind : Kind) (found : Option Data) → If AreTexts found → If AreSent (items_under kind found)
items_under-texts kind None are = tt
items_under-texts kind (Some value) are = by-way ItemsAreTexts AreSent (list_of kind) (as_array value) (array-texts value are) (list-texts kind)

member-texts : (k : Text) (ms : Members) → MembersAreTexts ms → If AreTexts (get_member k ms)
member-texts k values.no_members are = tt
member-texts k (values.member l value others) are = by (slice_cmp nat_cmp k l) (member-texts k others are.1)
  where
    by : (o : Ordering) → If AreTexts (get_member k others) → If AreTexts (match_ordering o (get_member k others) (Some value) (get_member k others))
    by Ordering.Less later = later
    by Ordering.Equal later = are.0
    by Ordering.Greater later = later

append-sent : (front list : List RawItem) → AreSent front → AreSent list → AreSent (front ++ list)
append-sent [] list of_front of_list = of_list
append-sent (raw ∷ front) list of_front of_list = (of_front.0, append-sent front list of_front.1 of_list)

append_read-sent : (front list : Option (List RawItem)) → If AreSent front → If AreSent list → If AreSent (append_read front list)
append_read-sent None list of_front of_list = tt
append_read-sent (Some front) None of_front of_list = tt
append_read-sent (Some front) (Some list) of_front of_list = append-sent front list of_front of_list

items-sent : (ms : Members) → MembersAreTexts ms → If AreSent (bodies.items_of_members ms)
items-sent ms are =
    let part = λ (kind : Kind). items_under-texts kind (get_member (bodies.list_name kind) ms) (member-texts (bodies.list_name kind) ms are) in
    append_read-sent _ _ (append_read-sent _ _ (append_read-sent (Some []) _ tt (part Kind.Record)) (part Kind.Relation)) (part Kind.Exception)

value-sent : (value : Data) → AreTexts value → If AreSent (bodies.upload_items value)
value-sent value are =
    by-way MembersAreTexts AreSent (λ ms. cond (list_all is_list_name (member_names ms)) (bodies.items_of_members ms) None) (as_object value) (object-texts value are)
    (λ ms all. by (list_all is_list_name (member_names ms)) ms (items-sent ms all))
  where
    by : (b : Bool) (ms : Members) → If AreSent (bodies.items_of_members ms) → If AreSent (cond b (bodies.items_of_members ms) None)
    by true ms is = is
    by false ms is = tt

-- for an upload, if it is one
abbrev IfOkSent : Result (List RawItem) Malformed → Type 0
IfOkSent (Ok raws) = AreSent raws
IfOkSent (Err fault) = Unit {0}

if_countable-sent : (none many : Bool) (raws : List RawItem) → AreSent raws → IfOkSent (cond none (Err NoItems) (cond many (Err TooManyItems) (Ok raws)))
if_countable-sent true many raws are = tt
if_countable-sent false true raws are = tt
if_countable-sent false false raws are = are

or_no_upload-sent : (found : Option (List RawItem)) → If AreSent found → IfOkSent (of_items found)
or_no_upload-sent None are = tt
or_no_upload-sent (Some raws) are = if_countable-sent (length raws == 0) (nat_lt 5000 (length raws)) raws are

of-value-sent : (found : Option Data) → If AreTexts found → IfOkSent (of_value found)
of-value-sent None are = tt
of-value-sent (Some value) are = or_no_upload-sent (bodies.upload_items value) (value-sent value are)

value-texts : (body : List ℕ) → If AreTexts (value_of body)
unfolding value_of
value-texts body = by (is_utf8 body) refl
  where
    reads : IsUtf8 body → (found : Option Data) → read body ≡ found → If AreTexts found
    reads is None test = tt
    reads is (Some value) test = read-texts body value is test

    by : (b : Bool) → is_utf8 body ≡ b → If AreTexts (cond b (read body) None)
    by true test = reads (IsUtf8-from_is_utf8 body test) (read body) refl
    by false test = tt

upload-sent : (body : List ℕ) → IfOkSent (upload body)
unfolding upload
upload-sent body = of-value-sent (value_of body) (value-texts body)

-- ---- rows

-- each text of a row is UTF-8
abbrev pub AreUtf8 : Row → Type 0
AreUtf8 = AllByRecursion IsUtf8

or_no_upload-text : (test : Text → Bool) (pairs : List (Text × Text)) → ArePairs pairs → IsUtf8 (unwrap_or (lookup test pairs) [])
or_no_upload-text test [] are = IsUtf8-nil
or_no_upload-text test (p ∷ pairs) are = by (test p.0) (or_no_upload-text test pairs are.1)
  where
    by : (b : Bool) → IsUtf8 (unwrap_or (lookup test pairs) []) → IsUtf8 (unwrap_or (cond b (Some p.1) (lookup test pairs)) [])
    by true later = are.0
    by false later = later

is-moment : (seconds : ℤ) → is_moment seconds ≡ true → IsMoment seconds
is-moment seconds is = grind (arith, ints)

instant-moment : (found : Result ℤ Error) → If IsMoment (moment_of_instant found)
instant-moment (Err e) = tt
instant-moment (Ok nanos) = by (is_moment (whole_seconds nanos)) refl
  where
    by : (b : Bool) → is_moment (whole_seconds nanos) ≡ b → If IsMoment (cond b (Some (whole_seconds nanos)) None)
    by true test = is-moment (whole_seconds nanos) test
    by false test = tt

read-is_moment : (text : Text) → If IsMoment (read_moment text)
unfolding read_moment
read-is_moment text = instant-moment (parse_timestamp text)

moment-printed : (text : Text) → IsUtf8 text → IsUtf8 (text_in_row Shape.Moment text)
moment-printed text is = by (is_absent text) (read_moment text) (read-is_moment text)
  where
    by : (b : Bool) (found : Option ℤ) → If IsMoment found → IsUtf8 (cond b text (unwrap_or (option_map moment_text found) text))
    by true found of = is
    by false None of = is
    by false (Some m) of = IsUtf8-from_ascii (moment_text m) (IsAscii-moment_text m of)

text_in_row-text : (shape : Shape) (text : Text) → IsUtf8 text → IsUtf8 (text_in_row shape text)
text_in_row-text Shape.Code text is = is
text_in_row-text Shape.Codes text is = is
text_in_row-text Shape.Free text is = is
text_in_row-text Shape.Lang text is = is
text_in_row-text Shape.Country text is = is
text_in_row-text Shape.Authority text is = is
text_in_row-text Shape.Jurisdiction text is = is
text_in_row-text Shape.Form text is = is
text_in_row-text Shape.Moment text is = moment-printed text is
text_in_row-text Shape.RecordStatus text is = is
text_in_row-text Shape.EntityStatus text is = is
text_in_row-text Shape.Category text is = is
text_in_row-text Shape.Validation text is = is
text_in_row-text Shape.RelationType text is = is
text_in_row-text Shape.RelationStatus text is = is
text_in_row-text Shape.RelationRegistration text is = is
text_in_row-text Shape.ExceptionCategory text is = is
text_in_row-text Shape.Reason text is = is
text_in_row-text Shape.EventType text is = is
text_in_row-text Shape.EventStatus text is = is

content-text : (content : Content) (text : Text) → IsUtf8 text → IsUtf8 (row_text content text)
content-text (Content.Shaped shape) text is = text_in_row-text shape text is
content-text Content.Successors text is = is
content-text Content.Action text is = is

fields-row : (fields : List Field) (pairs : List (Text × Text)) → ArePairs pairs → AreUtf8 (map (λ (field : Field). row_text field.1 (text_under pairs field.0)) fields)
fields-row [] pairs are = tt
fields-row (field ∷ fields) pairs are =
    (content-text field.1 (text_under pairs field.0) (or_no_upload-text (bytes_eq field.0) pairs are), fields-row fields pairs are)

raw_item-row : (kind : Kind) (pairs : List (Text × Text)) → ArePairs pairs → AreUtf8 (row_of kind pairs)
unfolding row_of
raw_item-row kind pairs are = fields-row (row_fields kind) pairs are

-- ---- items that are judged

abbrev IsTextual : Readied → Type 0
IsTextual (Readied.Bad check) = Unit {0}
IsTextual (Readied.Good item) = AreUtf8 (item_row item)

readied_as-textual : (kind : Kind) (pairs : List (Text × Text)) (failed : Option FailedCheck) → ArePairs pairs → IsTextual (readied_as kind pairs failed)
readied_as-textual kind pairs (Some check) are = tt
readied_as-textual Kind.Record pairs None are = raw_item-row Kind.Record pairs are
readied_as-textual Kind.Relation pairs None are = raw_item-row Kind.Relation pairs are
readied_as-textual Kind.Exception pairs None are = raw_item-row Kind.Exception pairs are

ready-textual : (rules : Rules) (raws : List RawItem) → AreSent raws → AllByRecursion IsTextual (map (ready rules) raws)
ready-textual rules [] are = tt
ready-textual rules (RawItem.Record pairs ∷ raws) are = (readied_as-textual Kind.Record pairs (failed_check rules Kind.Record pairs) are.0, ready-textual rules raws are.1)
ready-textual rules (RawItem.Relation pairs ∷ raws) are = (readied_as-textual Kind.Relation pairs (failed_check rules Kind.Relation pairs) are.0, ready-textual rules raws are.1)
ready-textual rules (RawItem.Exception pairs ∷ raws) are = (readied_as-textual Kind.Exception pairs (failed_check rules Kind.Exception pairs) are.0, ready-textual rules raws are.1)

read-textual : (rules : Rules) (found : Result (List RawItem) Malformed) → IfOkSent found → AllByRecursion IsTextual (readied_items rules found)
read-textual rules (Ok raws) are = ready-textual rules raws are
read-textual rules (Err fault) are = tt

-- ---- what is written

abbrev IsWritten : RowKey × Option Item → Type 0
IsWritten write = If (λ item. AreUtf8 (item_row item)) write.1

item_after-textual : (item : Item) → AreUtf8 (item_row item) → If (λ item. AreUtf8 (item_row item)) (item_after item)
item_after-textual (Item.Record row) is = is
item_after-textual (Item.Relation row) is = is
item_after-textual (Item.Exception (row, true)) is = tt
item_after-textual (Item.Exception (row, false)) is = is

with_first : Table → Sitting → Item → List Readied → Option FailedCheck → Taken
with_first table sitting item items failed =
    let writes = writes_of (verdict_of failed) (Readied.Good item) in
    in_front (verdict_of failed) writes (is_new_record table sitting (Readied.Good item)) (take (put_all writes table) sitting items)

take-written : (table : Table) (sitting : Sitting) (items : List Readied) → AllByRecursion IsTextual items
    → AllByRecursion IsWritten (take table sitting items).writes
unfolding with_first
take-written table sitting [] are = tt
take-written table sitting (Readied.Bad check ∷ items) are = take-written table sitting items are.1
take-written table sitting (Readied.Good item ∷ items) are =
    elim (first_failing (item_checks table sitting item)) as (λ failed. AllByRecursion IsWritten (with_first table sitting item items failed).writes) [
      | None ↦ (item_after-textual item are.0, take-written (put_write table (row_key item, item_after item)) sitting items are.1)
      | Some check ↦ take-written table sitting items are.1
    ]

entry-written : (limits : Limits) (table : Table) (e : KeptEntry) → AllByRecursion IsWritten (entry_writes limits table e)
entry-written limits table e =
    elim (e.kind == 2) as (λ b. AllByRecursion IsWritten (cond b (take_items limits table e (entry_items e)).writes [])) [
      | true ↦ take-written table (entry_sitting limits e) (entry_items e) (read-textual (rules_of e.rules) (upload e.body) (upload-sent e.body))
      | false ↦ tt
    ]

-- ---- cells

-- the texts of each row that is held
abbrev pub HoldsTexts : Held → Type 0
HoldsTexts held = (q : KeyTexts) (cell : Cell) → get held q ≡ Some cell → If AreUtf8 cell.row

touch-texts : (number : ℕ) (held : Held) (key : RowKey) (item : Option Item) → If (λ item. AreUtf8 (item_row item)) item → HoldsTexts held
    → HoldsTexts (touch number held (key, item))
touch-texts number held key item is holds q cell found =
    by (eq_by_cmp key_cmp q (cell_key key)) (sym (get-insert keys_total held (cell_key key) (cell_with number item) q) ∙ found)
  where
    of-item : (item : Option Item) → If (λ item. AreUtf8 (item_row item)) item → If AreUtf8 (cell_with number item).row
    of-item None is = tt
    of-item (Some item) is = is

    by : (b : Bool) → cond b (Some (cell_with number item)) (get held q) ≡ Some cell → If AreUtf8 cell.row
    by true here = (let own : cell_with number item ≡ cell = cc in subst (λ c. If AreUtf8 c.row) own (of-item item is))
    by false there = holds q cell there

touch-all-texts : (number : ℕ) (writes : WriteList) (held : Held) → AllByRecursion IsWritten writes → HoldsTexts held → HoldsTexts (touch_all number writes held)
touch-all-texts number [] held are holds = holds
touch-all-texts number (write ∷ writes) held are holds =
    touch-all-texts number writes (touch number held write) are.1 (touch-texts number held write.0 write.1 are.0 holds)

texts-from : (limits : Limits) (rest : History) (held : Held) → HoldsTexts held → HoldsTexts (fold (held_after_entry limits) held rest)
texts-from limits [] held holds = holds
texts-from limits (e ∷ rest) held holds =
    texts-from limits rest (held_after_entry limits held e) (touch-all-texts e.seq (entry_writes limits (rows held) e) held (entry-written limits (rows held) e) holds)

-- the same for each row that is held after a history
pub held-texts : (limits : Limits) (history : History) → HoldsTexts (held_after limits history)
unfolding held_after
held-texts limits history = texts-from limits history empty (λ q cell found. absurd (some_apart cell (sym found ∙ get-empty key_cmp q)))
