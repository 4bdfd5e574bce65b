-- The status codes and the words of refusals. This project's profile.
use Rattle.std.specs.Prelude.{ℕ, [], ◌∷◌, ◌++◌, codes, decimal, Option, Some, None}
use Rattle.lei_code.specs.Texts.{Text}
use Rattle.register_words.specs.declared.malformed.Malformed.{Malformed}
use Rattle.register_words.specs.declared.malformed.Malformed.TheVariants.{NotJson, NotAnUpload, NoItems, TooManyItems}
use Rattle.register_words.specs.declared.reply.Refusal.{Refusal}
use Rattle.register_words.specs.declared.reply.Refusal.TheVariants.{TooLong, NoRoute, Path, IssuerUnknown, NumberTaken, NumberAhead, LedgerFull, NotKept, LeiUnknown, NothingPublished, PublicationUnknown, NoBase, NoMemory, KeeperFault, Head, HeadTooLong, LengthRequired}
use Rattle.register_words.specs.declared.reply.Refusal.TheVariants as refusals
use Rattle.register_words.specs.declared.reply.Reply.{Reply}
use Rattle.register_words.specs.declared.reply.Reply.TheVariants as replies

-- the status code of a refusal, following HTTP (RFC 9110)
abbrev pub refusal_status_code : Refusal → ℕ
refusal_status_code TooLong = 413
refusal_status_code NoRoute = 404
refusal_status_code Path = 400
refusal_status_code IssuerUnknown = 404
refusal_status_code NumberTaken = 409
refusal_status_code (NumberAhead k) = 409
refusal_status_code (refusals.Malformed fault) = 400
refusal_status_code LedgerFull = 507
refusal_status_code NotKept = 404
refusal_status_code LeiUnknown = 404
refusal_status_code NothingPublished = 404
refusal_status_code PublicationUnknown = 404
refusal_status_code NoBase = 404
refusal_status_code NoMemory = 500
refusal_status_code KeeperFault = 503
refusal_status_code Head = 400
refusal_status_code HeadTooLong = 431
refusal_status_code LengthRequired = 411
refusal_status_code (refusals.Method allowed) = 405

-- how a body that isn't an upload is reported
abbrev pub malformed_name : Malformed → Text
malformed_name NotJson = codes "MALFORMED NOT_JSON"
malformed_name NotAnUpload = codes "MALFORMED NOT_AN_UPLOAD"
malformed_name NoItems = codes "MALFORMED NO_ITEMS"
malformed_name TooManyItems = codes "MALFORMED TOO_MANY_ITEMS"

-- the name that a refusal is reported by
abbrev pub refusal_name : Refusal → Text
refusal_name TooLong = codes "TOO_LONG"
refusal_name NoRoute = codes "NO_ROUTE"
refusal_name Path = codes "PATH"
refusal_name IssuerUnknown = codes "ISSUER_UNKNOWN"
refusal_name NumberTaken = codes "NUMBER_TAKEN"
refusal_name (NumberAhead k) = codes "NUMBER_AHEAD"
refusal_name (refusals.Malformed fault) = malformed_name fault
refusal_name LedgerFull = codes "LEDGER_FULL"
refusal_name NotKept = codes "NOT_KEPT"
refusal_name LeiUnknown = codes "LEI_UNKNOWN"
refusal_name NothingPublished = codes "NOTHING_PUBLISHED"
refusal_name PublicationUnknown = codes "PUBLICATION_UNKNOWN"
refusal_name NoBase = codes "NO_BASE"
refusal_name NoMemory = codes "NO_MEMORY"
refusal_name KeeperFault = codes "KEEPER_FAULT"
refusal_name Head = codes "HEAD"
refusal_name HeadTooLong = codes "HEAD_TOO_LONG"
refusal_name LengthRequired = codes "LENGTH_REQUIRED"
refusal_name (refusals.Method allowed) = codes "METHOD"

-- the number that some names are reported with
abbrev pub refusal_number : Refusal → Option ℕ
refusal_number TooLong = None
refusal_number NoRoute = None
refusal_number Path = None
refusal_number IssuerUnknown = None
refusal_number NumberTaken = None
refusal_number (NumberAhead k) = Some k
refusal_number (refusals.Malformed fault) = None
refusal_number LedgerFull = None
refusal_number NotKept = None
refusal_number LeiUnknown = None
refusal_number NothingPublished = None
refusal_number PublicationUnknown = None
refusal_number NoBase = None
refusal_number NoMemory = None
refusal_number KeeperFault = None
refusal_number Head = None
refusal_number HeadTooLong = None
refusal_number LengthRequired = None
refusal_number (refusals.Method allowed) = None

-- a space and the number
abbrev pub number_suffix : Option ℕ → Text
number_suffix None = []
number_suffix (Some k) = 32 ∷ decimal k

-- a refusal in words
abbrev pub refusal_words : Refusal → Text
refusal_words refusal = refusal_name refusal ++ number_suffix (refusal_number refusal)

-- ---- replies

-- the status code of a reply
abbrev pub reply_status_code : Reply → ℕ
reply_status_code (replies.Text code kind text) = code
reply_status_code (replies.Words refusal) = refusal_status_code refusal

-- the text of a reply, or the refusal in words
abbrev pub reply_words : Reply → Text
reply_words (replies.Text code kind text) = text
reply_words (replies.Words refusal) = refusal_words refusal
