-- A history is the list of what was taken, in order. Which issuers are accredited, which upload is which, what was
-- published and what was answered are filters of that list. This project's profile.
use Rattle.std.specs.Prelude.{ℕ, ◌-◌, ◌+◌, ℤ, List, length, sum_by, Bool, ◌&&◌, ◌==◌, nat_lt, nat_le, if◌then◌else◌, filter, find, slice_get, Option, Some, None, option_map, is_some}
use Rattle.std.specs.Int.{int_max}
use Rattle.std.specs.Str.{bytes_eq}
use Rattle.lei_code.specs.Texts.{Body, Lei, Text}
use Rattle.lei_values.specs.declared.entry.KeptEntry.{KeptEntry}
use Rattle.upload_ledger.specs.declared.totals.Totals.{Totals}

-- the entries that were taken, in order
abbrev pub History : Type 0
History = List KeptEntry

-- the entry that was taken last
abbrev pub last_entry : History → Option KeptEntry
last_entry history = slice_get history (length history - 1)

-- the later of the moment and the entry's moment, if there is an entry
abbrev pub later : Option KeptEntry → ℤ → ℤ
later None moment = moment
later (Some e) moment = int_max e.moment moment

-- the moment of the next entry: the later of the clock's moment and the last entry's
abbrev pub stamp : History → ℤ → ℤ
stamp history moment = later (last_entry history) moment

-- ---- what an entry is

-- an entry of kind 1 accredits its issuer
abbrev pub is_accreditation : KeptEntry → Bool
is_accreditation e = e.kind == 1

-- an entry of kind 2 takes an upload of its issuer
abbrev pub is_upload : KeptEntry → Bool
is_upload e = e.kind == 2

-- an entry of kind 3 is a publication
abbrev pub is_publication : KeptEntry → Bool
is_publication e = e.kind == 3

-- the entry accredits this issuer
abbrev pub is_accreditation_of : Lei → KeptEntry → Bool
is_accreditation_of issuer e = is_accreditation e && bytes_eq e.office issuer

-- the entry takes an upload of this issuer
abbrev pub is_upload_of : Lei → KeptEntry → Bool
is_upload_of issuer e = is_upload e && bytes_eq e.office issuer

-- the entry with this number in a list, counted from 1
abbrev pub entry_numbered : History → ℕ → Option KeptEntry
entry_numbered entries number = if number == 0 then None else slice_get entries (number - 1)

-- ---- what a history has of an issuer

-- the answer to the issuer's accreditation
abbrev pub accredited : History → Lei → Option Text
accredited history issuer = option_map (λ e. e.answer) (find (is_accreditation_of issuer) history)

-- the issuer's uploads, in order
abbrev pub uploads : History → Lei → History
uploads history issuer = filter (is_upload_of issuer) history

-- the number of the issuer's last upload, or 0 if there is none
abbrev pub last : History → Lei → ℕ
last history issuer = length (uploads history issuer)

-- the number of the issuer's next upload
abbrev pub next_number : History → Lei → ℕ
next_number history issuer = last history issuer + 1

-- the issuer's upload with this number, counted from 1
abbrev pub upload_at : History → Lei → ℕ → Option KeptEntry
upload_at history issuer number = entry_numbered (uploads history issuer) number

-- the answer to the issuer's upload with this number
abbrev pub kept : History → Lei → ℕ → Option Text
kept history issuer number = option_map (λ e. e.answer) (upload_at history issuer number)

-- ---- what was published

-- the publications, in order
abbrev pub publications : History → History
publications history = filter is_publication history

-- the answer to the publication with this number
abbrev pub published : History → ℕ → Option Text
published history number = option_map (λ e. e.answer) (entry_numbered (publications history) number)

-- ---- the totals

-- the number of bytes of all bodies
abbrev pub kept_bytes : History → ℕ
kept_bytes history = sum_by (λ e. length e.body) history

-- the numbers of entries, of accreditations, of bytes of bodies, and of publications
abbrev pub totals : History → Totals
totals history = record {
  entries = length history;
  issuers = length (filter is_accreditation history);
  kept_bytes = kept_bytes history;
  publications = length (publications history);
}

-- ---- where an upload falls

-- where an upload falls among those of its issuer
pub data Place : Type 0 where
  unknown_issuer : Place
  repeat_of : Text → Place
  number_taken : Place
  ahead : ℕ → Place
  fresh : Place

-- the number counts as taken: it repeats the upload that has it, if that had this body
abbrev pub place_of_taken : Body → Option KeptEntry → Place
place_of_taken body None = number_taken
place_of_taken body (Some e) = if bytes_eq e.body body then repeat_of e.answer else number_taken

-- An issuer that isn't accredited is unknown. Otherwise a number up to that of its last upload counts as taken, with
-- this body or another. A number after the next one is ahead, and the next one is fresh.
abbrev pub place : History → Lei → ℕ → Body → Place
place history issuer number body =
    if is_some (accredited history issuer) then
    (if nat_le number (last history issuer) then place_of_taken body (upload_at history issuer number)
    else (if nat_lt (next_number history issuer) number then ahead (next_number history issuer) else fresh))
    else unknown_issuer
