-- A delta in JSON is read back from its text, and only from this.
use Rattle.std.proofs.Common.{◌≡◌, ℕ, ◌+◌, ◌<◌, ◌≤◌, ◌^◌, Bool, true, false, cond, List, [], ◌∷◌, ◌++◌, Option, Some, None, option_map, option_and_then, unwrap_or, refl, sym, ap, ◌∙◌, subst, arith, append_assoc, length, map, codes}
use Rattle.std.specs.Prelude.{decimal}
use Rattle.std.specs.List.{All}
use Rattle.std.proofs.lemmas.List.{length-append, length-map}
use Rattle.std.proofs.lemmas.Option.{none-some}
use Rattle.json.specs.Print.{escape_byte, quoted}
use Rattle.serde_json.specs.Written.{comma_if, compact_text, items_text}
use Rattle.lei_code.specs.Texts.{Text}
use Rattle.lei_shapes.specs.Clock.{moment_text}
use Rattle.register_words.specs.declared.sheets.Sheet.{Sheet}
use Rattle.copy_csv.specs.declared.heads.Head.{Head}
use Rattle.copy_csv.specs.declared.rows.Change.{Change}
use Rattle.copy_csv.specs.Rows.{IsChangeOf, IsDeltaHead, IsDropOfKey, IsRowOfSheet, changed_row}
use Rattle.copy_csv.specs.Sheets.{SheetRow, is_key_alone}
use Rattle.copy_forms.specs.Json.{action_of, array_items, change_value, json_delta, json_record}
use Rattle.copy_forms.specs.JsonTexts.{before_delta, before_record, before_records, records_text}
use Rattle.copy_forms.specs.JsonReading.{IsJsonDelta, after_front, change_after, change_from, change_with_row, changed_from, count_from, date_from, delta_from, items_from, publication_from, record_from}
use Rattle.copy_forms.proofs.JsonStrings.{after_front-again, after_front-taken}
use Rattle.copy_forms.proofs.JsonRecords.{record-again, record-taken}
use Rattle.copy_forms.proofs.JsonItems.{IsReader, end-is, items-again, items-taken, items_and_end, records-text}
use Rattle.copy_forms.proofs.JsonFiles.{count-again, count-taken, date-again, date-taken, publication-again, publication-taken}
use Rattle.copy_forms.proofs.JsonCopies.{before_records-long, longer, mapped, through}

-- ---- a change

-- the text of a change
unfoldable pub json_change : Change → Text
json_change change = before_record (action_of change) (json_record (changed_row change) ++ 125 ∷ [])

pub change-text : (change : Change) → compact_text (change_value change) ≡ json_change change
unfolding json_change json_record
change-text change = refl

change-shape : (action rest : List ℕ) → before_record action rest ≡ before_record action [] ++ rest
change-shape action rest =
    let closing = quoted (codes "record") ++ 58 ∷ [] in
    ap (λ l. 123 ∷ (quoted (codes "action") ++ 58 ∷ (quoted action ++ 44 ∷ l))) (sym (append_assoc (quoted (codes "record")) (58 ∷ []) rest))
    ∙ ap (λ l. 123 ∷ (quoted (codes "action") ++ 58 ∷ l)) (sym (append_assoc (quoted action) (44 ∷ closing) rest))
    ∙ ap (λ l. 123 ∷ l) (sym (append_assoc (quoted (codes "action")) (58 ∷ (quoted action ++ 44 ∷ closing)) rest))

-- the text of a change, followed by others
change-before : (change : Change) (rest : List ℕ) → json_change change ++ rest ≡ before_record (action_of change) [] ++ (json_record (changed_row change) ++ 125 ∷ rest)
unfolding json_change
change-before change rest =
    ap (λ l. l ++ rest) (change-shape (action_of change) (json_record (changed_row change) ++ 125 ∷ []))
    ∙ append_assoc (before_record (action_of change) []) (json_record (changed_row change) ++ 125 ∷ []) rest
    ∙ ap (λ l. before_record (action_of change) [] ++ l) (append_assoc (json_record (changed_row change)) (125 ∷ []) rest)

drop_is_no_put : (rest : List ℕ) → after_front (before_record (codes "PUT") []) (before_record (codes "DROP") [] ++ rest) ≡ None
unfolding escape_byte
drop_is_no_put rest = refl

-- what follows the start of a change is read back
changed-again : (sheet : Sheet) (puts : Bool) (row : SheetRow) (change : Change) (rest : List ℕ) → IsRowOfSheet sheet row → change_with_row puts row ≡ Some change
    → changed_from sheet puts (json_record row ++ 125 ∷ rest) ≡ Some (change, rest)
changed-again sheet puts row change rest sound is =
    let read : record_from sheet (json_record row ++ 125 ∷ rest) ≡ Some (row, 125 ∷ rest) =
    ap (λ s. record_from s (json_record row ++ 125 ∷ rest)) (sym sound.1) ∙ record-again row (125 ∷ rest) sound.0 in
    ap (option_and_then {U = Change × List ℕ} (λ r. option_and_then {U = Change × List ℕ} (λ left. option_map {U = Change × List ℕ} (λ c. (c, left)) (change_with_row puts r.0)) (after_front (125 ∷ []) r.1))) read
    ∙ ap (option_map {U = Change × List ℕ} (λ c. (c, rest))) is

change-again : (sheet : Sheet) (change : Change) (rest : List ℕ) → IsChangeOf sheet change → change_from sheet (json_change change ++ rest) ≡ Some (change, rest)
unfolding change_from
change-again sheet (Change.Put row) rest sound =
    let bytes = json_record row ++ 125 ∷ rest in
    ap (λ l. change_after sheet (after_front (before_record (codes "PUT") []) l) (after_front (before_record (codes "DROP") []) l)) (change-before (Change.Put row) rest)
    ∙ ap (λ found. change_after sheet found (after_front (before_record (codes "DROP") []) (before_record (codes "PUT") [] ++ bytes))) (after_front-again (before_record (codes "PUT") []) bytes)
    ∙ changed-again sheet true row (Change.Put row) rest sound.0 refl
change-again sheet (Change.Drop row) rest sound =
    let bytes = json_record row ++ 125 ∷ rest in
    let alone : change_with_row false row ≡ Some (Change.Drop row) = ap (λ b. cond b (Some (Change.Drop row)) None) sound.1 in
    ap (λ l. change_after sheet (after_front (before_record (codes "PUT") []) l) (after_front (before_record (codes "DROP") []) l)) (change-before (Change.Drop row) rest)
    ∙ ap (λ found. change_after sheet found (after_front (before_record (codes "DROP") []) (before_record (codes "DROP") [] ++ bytes))) (drop_is_no_put bytes)
    ∙ ap (change_after sheet None) (after_front-again (before_record (codes "DROP") []) bytes)
    ∙ changed-again sheet false row (Change.Drop row) rest sound.0 alone

record ChangeTaken (sheet : Sheet) (bytes : List ℕ) (change : Change) (rest : List ℕ) : Type 0 where
  is : bytes ≡ json_change change ++ rest
  sound : IsChangeOf sheet change

-- the action of a change that puts a row, or of one that drops a key
action : Bool → Text
action true = codes "PUT"
action false = codes "DROP"

record Chosen (puts : Bool) (row : SheetRow) (change : Change) : Type 0 where
  same : changed_row change ≡ row
  acts : action_of change ≡ action puts
  alone : IsDropOfKey change

chosen : (puts : Bool) (row : SheetRow) (change : Change) → change_with_row puts row ≡ Some change → Chosen puts row change
unfolding action
chosen true row change is =
    let P : Change → Type 0 = Chosen true row in
    subst P (ap (λ o. unwrap_or o (Change.Put row)) is) (record { same = refl; acts = refl; alone = tt })
chosen false row change is = go (is_key_alone row) refl is
  where
    go : (b : Bool) → is_key_alone row ≡ b → cond b (Some (Change.Drop row)) None ≡ Some change → Chosen false row change
    go true alone found =
        let P : Change → Type 0 = Chosen false row in
        subst P (ap (λ o. unwrap_or o (Change.Drop row)) found) (record { same = refl; acts = refl; alone = alone })
    go false alone found = absurd (none-some change found)

changed-taken : (sheet : Sheet) (puts : Bool) (bytes behind : List ℕ) (change : Change) (rest : List ℕ) → after_front (before_record (action puts) []) bytes ≡ Some behind
    → changed_from sheet puts behind ≡ Some (change, rest) → ChangeTaken sheet bytes change rest
changed-taken sheet puts bytes behind change rest begins is =
    let first = through {X = SheetRow × List ℕ} {Y = Change × List ℕ} _ (record_from sheet behind) (change, rest) is in
    let second = through {X = List ℕ} {Y = Change × List ℕ} _ (after_front (125 ∷ []) first.at.1) (change, rest) first.behind in
    let third = mapped {X = Change} {Y = Change × List ℕ} _ (change_with_row puts first.at.0) (change, rest) second.behind in
    let this : third.at ≡ change = ap (λ p. p.0) third.same in
    let left : second.at ≡ rest = ap (λ p. p.1) third.same in
    let facts = chosen puts first.at.0 change (third.is ∙ ap Some this) in
    let row = record-taken sheet behind first.at.0 first.at.1 first.is in
    let closes : first.at.1 ≡ 125 ∷ rest = after_front-taken (125 ∷ []) first.at.1 second.at second.is ∙ ap (λ r. 125 ∷ r) left in
    let P : SheetRow → Type 0 = IsRowOfSheet sheet in
    record {
      is = after_front-taken (before_record (action puts) []) bytes behind begins
          ∙ ap (λ l. before_record (action puts) [] ++ l) (row.is ∙ ap (λ l. json_record first.at.0 ++ l) closes ∙ ap (λ r. json_record r ++ 125 ∷ rest) (sym facts.same))
          ∙ ap (λ a. before_record a [] ++ (json_record (changed_row change) ++ 125 ∷ rest)) (sym facts.acts) ∙ sym (change-before change rest);
      sound = (subst P (sym facts.same) (row.holds, row.belongs), facts.alone);
    }

change-taken : (sheet : Sheet) (bytes : List ℕ) (change : Change) (rest : List ℕ) → change_from sheet bytes ≡ Some (change, rest) → ChangeTaken sheet bytes change rest
unfolding change_from action
change-taken sheet bytes change rest is = go (after_front (before_record (codes "PUT") []) bytes) refl is
  where
    drops : (found : Option (List ℕ)) → after_front (before_record (codes "DROP") []) bytes ≡ found → change_after sheet None found ≡ Some (change, rest) → ChangeTaken sheet bytes change rest
    drops None begins same = absurd (none-some (change, rest) same)
    drops (Some behind) begins same = changed-taken sheet false bytes behind change rest begins same

    go : (found : Option (List ℕ)) → after_front (before_record (codes "PUT") []) bytes ≡ found
        → change_after sheet found (after_front (before_record (codes "DROP") []) bytes) ≡ Some (change, rest) → ChangeTaken sheet bytes change rest
    go None begins same = drops (after_front (before_record (codes "DROP") []) bytes) refl same
    go (Some behind) begins same = changed-taken sheet true bytes behind change rest begins same

pub change-reader : (sheet : Sheet) → IsReader (change_from sheet) json_change (IsChangeOf sheet)
change-reader sheet = record {
  again = λ change rest sound. change-again sheet change rest sound;
  is = λ bytes change rest read. (change-taken sheet bytes change rest read).is;
  sound = λ bytes change rest read. (change-taken sheet bytes change rest read).sound;
}

-- ---- deltas

texts-of : (changes : List Change) → map compact_text (map change_value changes) ≡ map json_change changes
texts-of [] = refl
texts-of (change ∷ changes) = ap (λ l. compact_text (change_value change) ∷ l) (texts-of changes) ∙ ap (λ t. t ∷ map json_change changes) (change-text change)

pub delta-text : (head : Head) (changes : List Change) → json_delta head changes ≡ before_delta head (length changes) (items_and_end false (map json_change changes))
unfolding json_delta
delta-text head changes =
    let values = map change_value changes in
    ap (λ n. before_delta head n (items_text false (array_items values) ++ 125 ∷ [])) (length-map changes change_value)
    ∙ ap (λ l. before_delta head (length changes) (l ++ 125 ∷ [])) (records-text false values ∙ ap (records_text false) (texts-of changes))
    ∙ ap (before_delta head (length changes)) (sym (end-is false (map json_change changes)))

pub delta-again : (sheet : Sheet) (head : Head) (changes : List Change) → IsDeltaHead head → All (IsChangeOf sheet) changes → length changes < 2 ^ 64
    → delta_from sheet (json_delta head changes) ≡ Some (head, changes)
unfolding delta_from
delta-again sheet head changes is sound fits =
    let items = items_and_end false (map json_change changes) in
    let counted = before_records (length changes) items in
    let numbered = 44 ∷ (quoted (codes "publication") ++ 58 ∷ (decimal head.publication ++ counted)) in
    let based = 44 ∷ (quoted (codes "fromPublication") ++ 58 ∷ (decimal head.from ++ numbered)) in
    let reads = items-again (change_from sheet) json_change (IsChangeOf sheet) (change-reader sheet) changes false sound in
    rw (
      delta-text head changes,
      date-again head.moment based is.moment,
      publication-again (codes "fromPublication") head.from _ is.from,
      publication-again (codes "publication") head.publication _ is.publication,
      count-again (length changes) items fits,
      reads,
    ) refl

pub delta-taken : (sheet : Sheet) (bytes : List ℕ) (head : Head) (changes : List Change) → delta_from sheet bytes ≡ Some (head, changes) → IsJsonDelta sheet bytes head changes
unfolding delta_from
delta-taken sheet bytes head changes is =
    let first = through _ (date_from bytes) (head, changes) is in
    let base = through _ (publication_from (codes "fromPublication") first.at.1) (head, changes) first.behind in
    let second = through _ (publication_from (codes "publication") base.at.1) (head, changes) base.behind in
    let third = through _ (count_from second.at.1) (head, changes) second.behind in
    let fourth = mapped _ (items_from (change_from sheet) third.at.0 false third.at.1) (head, changes) third.behind in
    let date = date-taken bytes first.at.0 first.at.1 first.is in
    let from = publication-taken (codes "fromPublication") first.at.1 base.at.0 base.at.1 base.is in
    let publication = publication-taken (codes "publication") base.at.1 second.at.0 second.at.1 second.is in
    let count = count-taken second.at.1 third.at.0 third.at.1 third.is in
    let items = items-taken (change_from sheet) json_change (IsChangeOf sheet) (change-reader sheet) third.at.0 false third.at.1 fourth.at fourth.is in
    let given : Head = record { moment = first.at.0; publication = second.at.0; from = base.at.0 } in
    let P : Head × List Change → Type 0 = λ p. IsJsonDelta sheet bytes p.0 p.1 in
    subst P fourth.same (record {
      text = date.is
          ∙ ap (λ l. 123 ∷ (quoted (codes "contentDate") ++ 58 ∷ (quoted (moment_text first.at.0) ++ l)))
          (from.is ∙ ap (λ l. 44 ∷ (quoted (codes "fromPublication") ++ 58 ∷ (decimal base.at.0 ++ l)))
          (publication.is ∙ ap (λ l. 44 ∷ (quoted (codes "publication") ++ 58 ∷ (decimal second.at.0 ++ l))) (count.is ∙ ap (before_records third.at.0) items.is)))
          ∙ ap (λ n. before_delta given n (items_and_end false (map json_change fourth.at))) (sym items.count)
          ∙ sym (delta-text given fourth.at);
      begins = record { moment = date.moment; publication = publication.number; from = from.number };
      each = items.sound;
    })

-- ---- what the reader's contract says

changes-long : (later : Bool) (changes : List Change) → length changes ≤ length (records_text later (map json_change changes))
unfolding json_change
changes-long later [] = omega arith
changes-long later (change ∷ changes) =
    let others = records_text true (map json_change changes) in
    let below = changes-long true changes in
    let whole = longer (comma_if later) (json_change change ++ others) in
    let text : length (json_change change ++ others) ≡ length (json_change change) + length others = length-append (json_change change) others in
    omega arith

pub delta-long : (head : Head) (changes : List Change) → length changes ≤ length (json_delta head changes)
delta-long head changes =
    let items = items_and_end false (map json_change changes) in
    let counted = before_records (length changes) items in
    let numbered = 44 ∷ (quoted (codes "publication") ++ 58 ∷ (decimal head.publication ++ counted)) in
    let based = 44 ∷ (quoted (codes "fromPublication") ++ 58 ∷ (decimal head.from ++ numbered)) in
    let texts = changes-long false changes in
    let end : length items ≡ length (records_text false (map json_change changes)) + 1 =
    ap length (end-is false (map json_change changes)) ∙ length-append (records_text false (map json_change changes)) (125 ∷ []) in
    let records = before_records-long (length changes) items in
    let first = longer (decimal head.publication) counted in
    let second = longer (quoted (codes "publication")) (58 ∷ (decimal head.publication ++ counted)) in
    let third = longer (decimal head.from) numbered in
    let fourth = longer (quoted (codes "fromPublication")) (58 ∷ (decimal head.from ++ numbered)) in
    let fifth = longer (quoted (moment_text head.moment)) based in
    let sixth = longer (quoted (codes "contentDate")) (58 ∷ (quoted (moment_text head.moment) ++ based)) in
    let whole : length (json_delta head changes) ≡ length (before_delta head (length changes) items) = ap length (delta-text head changes) in
    omega arith

pub delta-unread : (sheet : Sheet) (bytes : List ℕ) (head : Head) (changes : List Change) → length bytes < 2 ^ 64 → delta_from sheet bytes ≡ None → IsJsonDelta sheet bytes head changes → ⊥
delta-unread sheet bytes head changes short none is =
    let fits : length changes < 2 ^ 64 = omega (arith, delta-long head changes, ap length is.text) in
    none-some (head, changes) (sym none ∙ ap (delta_from sheet) is.text ∙ delta-again sheet head changes is.begins is.each fits)

-- two deltas with different heads or changes have different texts
pub deltas-differ : (sheet : Sheet) (bytes : List ℕ) (head other : Head) (changes others : List Change) → length bytes < 2 ^ 64 → IsJsonDelta sheet bytes head changes
    → IsJsonDelta sheet bytes other others → (head ≡ other) × (changes ≡ others)
deltas-differ sheet bytes head other changes others short is also =
    let fits : length changes < 2 ^ 64 = omega (arith, delta-long head changes, ap length is.text) in
    let other_fits : length others < 2 ^ 64 = omega (arith, delta-long other others, ap length also.text) in
    let reads : Some (head, changes) ≡ Some (other, others) =
    sym (delta-again sheet head changes is.begins is.each fits) ∙ ap (delta_from sheet) (sym is.text ∙ also.text) ∙ delta-again sheet other others also.begins also.each other_fits in
    (ap (λ o. unwrap_or (option_map (λ p. p.0) o) head) reads, ap (λ o. unwrap_or (option_map (λ p. p.1) o) changes) reads)
