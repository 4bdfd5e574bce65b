-- The texts of answers: JSON objects (RFC 8259) in their compact form, with their names in byte order.
use Rattle.std.specs.Prelude.{ℕ, ℤ, List, [], ◌∷◌, codes, map, unwrap_or}
use Rattle.serde_json.specs.Data.{Data, number, unsigned, string, array, object, Items, no_items, item, member, no_members}
use Rattle.serde_json.specs.Written.{compact_text}
use Rattle.lei_code.specs.Texts.{Lei, Text}
use Rattle.lei_shapes.specs.Clock.{moment_text}
use Rattle.register_judge.specs.declared.outcome.Verdict.{Verdict}
use Rattle.lei_records.specs.Checks.{IsCheckNumber, check_text}
use Rattle.upload_ledger.specs.declared.totals.Totals.{Totals}

-- the answer when the entry of this number accredits an issuer
abbrev pub accreditation_answer : ℕ → Lei → Data
accreditation_answer entry issuer =
    object (member (codes "entry") (number (unsigned entry)) (member (codes "issuer") (string issuer) no_members))

-- its text
unfoldable pub accreditation_text : ℕ → Lei → Text
accreditation_text entry issuer = compact_text (accreditation_answer entry issuer)

-- `ACCEPTED`, or the text of the check that fails. A law says that each check that is reported has such a text.
abbrev pub verdict_text : Verdict → Text
verdict_text Verdict.Accepted = codes "ACCEPTED"
verdict_text (Verdict.Rejected check) = unwrap_or (check_text check) []

-- if the verdict is that a check fails, there is a check of this number
abbrev pub HasItsCheck : Verdict → Type 0
HasItsCheck Verdict.Accepted = Unit {0}
HasItsCheck (Verdict.Rejected check) = IsCheckNumber check.number

-- the items of an array of texts
abbrev pub strings : List Text → Items
strings [] = no_items
strings (text ∷ texts) = item (string text) (strings texts)

-- the answer to the issuer's upload of this number, taken by the entry of that number
abbrev pub upload_answer : ℕ → Lei → Items → ℕ → Data
upload_answer entry issuer items upload =
    object (member (codes "entry") (number (unsigned entry)) (member (codes "issuer") (string issuer)
    (member (codes "items") (array items) (member (codes "number") (number (unsigned upload)) no_members))))

-- its text, with the verdicts on the upload's items
unfoldable pub upload_text : ℕ → Lei → ℕ → List Verdict → Text
upload_text entry issuer upload verdicts =
    compact_text (upload_answer entry issuer (strings (map verdict_text verdicts)) upload)

-- the answer when the entry of this number makes a publication: its moment, its own number, and how many records,
-- relationships and exceptions it has
abbrev pub publication_answer : ℕ → ℕ → ℤ → ℕ × ℕ × ℕ → Data
publication_answer entry publication moment counts =
    object (member (codes "contentDate") (string (moment_text moment))
    (member (codes "entry") (number (unsigned entry))
    (member (codes "lei") (number (unsigned counts.0))
    (member (codes "publication") (number (unsigned publication))
    (member (codes "repex") (number (unsigned counts.2))
    (member (codes "rr") (number (unsigned counts.1)) no_members))))))

-- its text
unfoldable pub publication_text : ℕ → ℕ → ℤ → ℕ × ℕ × ℕ → Text
publication_text entry publication moment counts = compact_text
    (publication_answer entry publication moment counts)

-- the answer to a request for the status. It has the numbers of entries, issuers, bytes of bodies and publications. It
-- also has the numbers of records, relationships and exceptions that are held, annulled relationships included
abbrev pub status_answer : Totals → ℕ × ℕ × ℕ → Data
status_answer totals held =
    object (member (codes "entries") (number (unsigned totals.entries))
    (member (codes "exceptions") (number (unsigned held.2))
    (member (codes "issuers") (number (unsigned totals.issuers))
    (member (codes "keptBytes") (number (unsigned totals.kept_bytes))
    (member (codes "publications") (number (unsigned totals.publications))
    (member (codes "records") (number (unsigned held.0))
    (member (codes "relationships") (number (unsigned held.1)) no_members)))))))

-- its text
unfoldable pub status_answer_text : Totals → ℕ × ℕ × ℕ → Text
status_answer_text totals held = compact_text (status_answer totals held)
