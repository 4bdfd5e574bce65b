-- What is reported of the request at the start of bytes. This project's profile.
use Rattle.std.specs.Prelude.{◌≡◌, ℕ, List}
use Rattle.register_words.specs.Readings.{MayWantMemory}
use Rattle.http_heads.specs.Requests.{IsRequestRead, asked_by_request, request_size}
use Rattle.http_heads.specs.declared.head.Head.{Head}
use Rattle.http_heads.specs.declared.head.HeadRead.{HeadRead}
use Rattle.issuer_http.specs.declared.requests.HttpRead.{HttpRead}

-- The answer for bytes that are read like this.
abbrev pub answer_of : List ℕ → HeadRead → HttpRead
answer_of bytes HeadRead.More = HttpRead.More
answer_of bytes (HeadRead.Bad fault) = HttpRead.Bad fault
answer_of bytes (HeadRead.Whole head) = HttpRead.One (asked_by_request bytes head) (request_size head) head.last

-- The answer reports a complete request at the front of the bytes, or a head there that is refused, or that more bytes
-- are needed.
abbrev pub IsNextRequest : List ℕ → HttpRead → Type 0
IsNextRequest bytes answer = (read : HeadRead) × IsRequestRead bytes read × (answer ≡ answer_of bytes read)

-- The bytes start with a complete upload.
abbrev pub WantsBody : List ℕ → Type 0
WantsBody bytes = (head : Head) × IsRequestRead bytes (HeadRead.Whole head) × MayWantMemory (asked_by_request bytes head)
