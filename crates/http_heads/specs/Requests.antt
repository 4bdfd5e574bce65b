-- The complete requests at the start of bytes: heads, each with a body of the stated length.
use Rattle.std.specs.Prelude.{◌≡◌, ℕ, ◌+◌, List, length, take, drop, nat_le, slice_range, if◌then◌else◌}
use Rattle.register_words.specs.declared.request.Asked.{Asked}
use Rattle.http_heads.specs.Asking.{asked_by_method}
use Rattle.http_heads.specs.Heads.{IsHeadRead}
use Rattle.http_heads.specs.declared.head.Head.{Head}
use Rattle.http_heads.specs.declared.head.HeadRead.{HeadRead}

-- The length of a complete request.
abbrev pub request_size : Head → ℕ
request_size head = head.size + head.body

-- What is read of this many bytes whose head says this: a request is complete once its body is there.
abbrev pub with_body : ℕ → HeadRead → HeadRead
with_body size HeadRead.More = HeadRead.More
with_body size (HeadRead.Bad fault) = HeadRead.Bad fault
with_body size (HeadRead.Whole head) = if nat_le (request_size head) size then HeadRead.Whole head
    else HeadRead.More

-- What is read at the front of bytes: a complete request; or a head that is refused; or more bytes are needed.
abbrev pub IsRequestRead : List ℕ → HeadRead → Type 0
IsRequestRead bytes read = (found : HeadRead) × IsHeadRead bytes found × (read ≡ with_body (length bytes) found)

-- The target of a head at the front of the bytes.
abbrev pub target_in : List ℕ → Head → List ℕ
target_in bytes head = slice_range bytes head.target.start head.target.end

-- The body of a request at the front of the bytes.
abbrev pub body_in : List ℕ → Head → List ℕ
body_in bytes head = take head.body (drop head.size bytes)

-- What the complete request at the front of the bytes asks.
abbrev pub asked_by_request : List ℕ → Head → Asked
asked_by_request bytes head = asked_by_method head.method (target_in bytes head) (body_in bytes head)
