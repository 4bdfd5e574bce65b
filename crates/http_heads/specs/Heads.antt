-- What is read from the head of a request (RFC 9112), by the grammar of `httparse`. The limits and the order of the
-- refusals are this project's profile.
use Rattle.std.specs.Prelude.{◌≡◌, ◌⊎◌, ◌≤◌, ℕ, ◌==◌, Bool, false, true, ◌||◌, List, length, map, take, slice_range, nat_lt, codes, if◌then◌else◌, Option, None, Some}
use Rattle.std.specs.Str.{IsUtf8, bytes_eq}
use Rattle.httparse.specs.Grammar.{HasNoRequest, MayBecomeRequest, NeverHasRequest, ReadsRequest, RequestHead, print_request}
use Rattle.httparse.specs.Spans.{name_and_value}
use Rattle.register_words.specs.declared.reply.Refusal.{Refusal}
use Rattle.http_heads.specs.Headers.{Header, asks_to_close, content_length, header_facts}
use Rattle.http_heads.specs.Routes.{path_of, route_place}
use Rattle.http_heads.specs.declared.head.Head.{Head}
use Rattle.http_heads.specs.declared.head.HeadRead.{HeadRead}
use Rattle.http_heads.specs.declared.headers.ContentLength.{ContentLength}
use Rattle.http_heads.specs.declared.headers.HeaderFacts.{HeaderFacts}
use Rattle.http_heads.specs.declared.routes.Method.{Method}
use Rattle.http_heads.specs.declared.routes.Place.{Place}

-- The method, if it is one that routes distinguish.
abbrev pub method_of : List ℕ → Method
method_of name =
    if bytes_eq name (codes "PUT") then Method.Put
    else (if bytes_eq name (codes "GET") then Method.Get else Method.Other)

-- The headers of a head.
abbrev pub headers_of : RequestHead → List Header
headers_of head = map name_and_value head.fields

-- A head asks to close: its version is 1.0, or a header asks for it.
abbrev pub is_last : RequestHead → Bool
is_last head = head.minor == 0 || asks_to_close (headers_of head)

-- The number of bytes in the body.
abbrev pub body_length : ContentLength → ℕ
body_length (ContentLength.Bytes number) = number
body_length ContentLength.Absent = 0
body_length ContentLength.Wrong = 0

-- The refusal for a stated length: a wrong one, or one of more than 4,194,304 bytes.
abbrev pub fault_of_length : ContentLength → Option Refusal
fault_of_length ContentLength.Absent = None
fault_of_length (ContentLength.Bytes number) = if nat_lt 4194304 number then Some Refusal.TooLong else None
fault_of_length ContentLength.Wrong = Some Refusal.Head

-- The refusal for the headers. That they say how the body is coded comes first.
abbrev pub fault_of_headers : HeaderFacts → Option Refusal
fault_of_headers facts = if facts.coded then Some Refusal.LengthRequired else fault_of_length facts.body

-- The head belongs to an upload, which needs a length, and states none.
abbrev pub lacks_length : Method → Option Place → ContentLength → Bool
lacks_length Method.Put (Some Place.Upload) ContentLength.Absent = true
lacks_length _ _ _ = false

-- The refusal for a missing length of an upload, if the headers aren't refused.
abbrev pub fault_of_upload : Method → Option Place → ContentLength → Option Refusal
fault_of_upload method place body = if lacks_length method place body then Some
    Refusal.LengthRequired else None

-- The first of two faults.
abbrev pub first_fault : Option Refusal → Option Refusal → Option Refusal
first_fault None second = second
first_fault (Some fault) second = Some fault

-- Why a head with at most the allowed number of headers is refused: for what they say, or for a missing length of an
-- upload.
abbrev pub fault_by : HeaderFacts → Method → Option Place → Option Refusal
fault_by facts method place = first_fault (fault_of_headers facts) (fault_of_upload method place facts.body)

-- Why a complete head is refused, by the first reason that applies. It has more than 32 headers, or it is refused for
-- what they say, or it belongs to an upload without a length.
abbrev pub head_fault : RequestHead → Option Refusal
head_fault head =
    if nat_lt 32 (length head.fields) then Some Refusal.HeadTooLong
    else fault_by (header_facts (headers_of head)) (method_of head.method) (route_place (path_of head.target))

-- What was read is this head at the front of the bytes.
pub record IsHead (bytes : List ℕ) (head : RequestHead) (read : Head) : Type 0 where
  pub method : read.method ≡ method_of head.method
  pub ordered : read.target.start ≤ read.target.end
  pub within : read.target.end ≤ length bytes
  pub target : slice_range bytes read.target.start read.target.end ≡ head.target
  pub text : IsUtf8 head.target
  pub body : read.body ≡ body_length (content_length (headers_of head))
  pub last : read.last ≡ is_last head
  pub size : read.size ≡ length (print_request head)
  pub fits : read.size ≤ length bytes

-- The reading reports this complete head: that it is refused, and why, or what it says.
abbrev pub ReportsHead : List ℕ → RequestHead → HeadRead → Type 0
ReportsHead bytes head HeadRead.More = ⊥
ReportsHead bytes head (HeadRead.Bad fault) = head_fault head ≡ Some fault
ReportsHead bytes head (HeadRead.Whole read) = (head_fault head ≡ None) × IsHead bytes head read

-- The reading of this many bytes, the first of which have no complete head and may have one later: 8,192 bytes have to
-- be enough.
abbrev pub unfinished_read : ℕ → HeadRead
unfinished_read size = if nat_lt size 8192 then HeadRead.More else HeadRead.Bad Refusal.HeadTooLong

-- The reading of bytes with this front: the head isn't complete yet; or no head starts like this; or what the head
-- there says.
abbrev pub IsFrontRead : List ℕ → List ℕ → HeadRead → Type 0
IsFrontRead front bytes read =
    (HasNoRequest front × MayBecomeRequest front × (read ≡ unfinished_read (length bytes)))
    ⊎ ((NeverHasRequest front × (read ≡ HeadRead.Bad Refusal.Head))
    ⊎ ((head : RequestHead) × (rest : List ℕ) × ReadsRequest front head rest × ReportsHead bytes head read))

-- The reading of bytes with a head at the front, which is looked for within the first 8,192.
abbrev pub IsHeadRead : List ℕ → HeadRead → Type 0
IsHeadRead bytes read = IsFrontRead (take 8192 bytes) bytes read
