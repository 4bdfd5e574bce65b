-- The status codes and the words of refusals. This project's profile.
use Rattle.std.specs.Prelude.{ℕ, List, [], ◌∷◌, ◌++◌, codes, decimal}
use Rattle.query_reading.specs.declared.refusal.QueryRefusal.{QueryRefusal}
use Rattle.query_reading.specs.declared.refusal.QueryRefusal.TheVariants.{TooLong, NoRoute, Path, NoWord, TooManyWords, Truncated, DeltaNotRead, WrongBase, OlderDelta, NothingHeld, NotRead, MirrorFull, NoMemory}

-- The status code of a refusal, following HTTP (RFC 9110).
abbrev pub query_code : QueryRefusal → ℕ
query_code TooLong = 413
query_code NoRoute = 404
query_code Path = 400
query_code NoWord = 400
query_code TooManyWords = 400
query_code Truncated = 400
query_code DeltaNotRead = 409
query_code (WrongBase publication from) = 409
query_code OlderDelta = 409
query_code NothingHeld = 404
query_code NotRead = 409
query_code MirrorFull = 507
query_code NoMemory = 500

-- The name that a refusal has in a reply.
abbrev pub query_name : QueryRefusal → List ℕ
query_name TooLong = codes "TOO_LONG"
query_name NoRoute = codes "NO_ROUTE"
query_name Path = codes "PATH"
query_name NoWord = codes "NO_WORD"
query_name TooManyWords = codes "TOO_MANY_WORDS"
query_name Truncated = codes "TRUNCATED"
query_name DeltaNotRead = codes "DELTA_NOT_READ"
query_name (WrongBase publication from) = codes "WRONG_BASE"
query_name OlderDelta = codes "OLDER_DELTA"
query_name NothingHeld = codes "NOTHING_HELD"
query_name NotRead = codes "NOT_READ"
query_name MirrorFull = codes "MIRROR_FULL"
query_name NoMemory = codes "NO_MEMORY"

-- What follows the name: for a wrong base both numbers, the one that is held and the one that the delta starts from.
abbrev pub query_numbers : QueryRefusal → List ℕ
query_numbers TooLong = []
query_numbers NoRoute = []
query_numbers Path = []
query_numbers NoWord = []
query_numbers TooManyWords = []
query_numbers Truncated = []
query_numbers DeltaNotRead = []
query_numbers (WrongBase publication from) = 32 ∷ (decimal publication ++ 32 ∷ decimal from)
query_numbers OlderDelta = []
query_numbers NothingHeld = []
query_numbers NotRead = []
query_numbers MirrorFull = []
query_numbers NoMemory = []

-- A refusal in words.
abbrev pub query_words : QueryRefusal → List ℕ
query_words refusal = query_name refusal ++ query_numbers refusal
