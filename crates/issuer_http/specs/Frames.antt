-- The requests of a connection as the frames of its bytes. This project's profile.
use Rattle.std.specs.Prelude.{◌≡◌, ◌⊎◌, ℕ, Bool, List, [], drop, is_some, if◌then◌else◌, Option, None, Some}
use Rattle.http_heads.specs.Heads.{IsHeadRead}
use Rattle.http_heads.specs.Requests.{IsRequestRead, asked_by_request, request_size}
use Rattle.http_heads.specs.declared.head.Head.{Head}
use Rattle.http_heads.specs.declared.head.HeadRead.{HeadRead}
use Rattle.register_words.specs.Readings.{ReadsAs}
use Rattle.register_words.specs.declared.reply.Refusal.{Refusal}
use Rattle.register_words.specs.declared.reply.Reply.{Reply}
use Rattle.register_words.specs.declared.request.Asked.{Asked}
use Rattle.request_loop.specs.Frames.{Rules}
use Rattle.request_loop.specs.declared.frames.Want.{Want}
use Rattle.issuer_http.specs.Responses.{response_bytes}
use Rattle.issuer_http.specs.declared.ended.HttpEnd.{HttpEnd}

-- A request that asks to close is the last of its connection.
abbrev pub end_if_last : Bool → Option HttpEnd
end_if_last last = if last then Some HttpEnd.Closed else None

-- What the complete request at the front of the bytes wants: what it asks, and whether its connection ends with the
-- answer.
abbrev pub want_of_head : List ℕ → Head → Want Asked HttpEnd
want_of_head bytes head = record { asked = asked_by_request bytes head; ends = end_if_last head.last }

-- A head that is refused wants its refusal, and the connection ends with it.
abbrev pub refusal_want : Refusal → Want Asked HttpEnd
refusal_want fault = record { asked = Asked.Refuse fault; ends = Some HttpEnd.BadHead }

-- The bytes after the complete request at the front.
abbrev pub after_request : List ℕ → Head → List ℕ
after_request bytes head = drop (request_size head) bytes

-- The bytes start with a complete request, which wants this, and these bytes follow it. Or they start with a head that
-- is refused, which wants this, and no byte of it is taken.
abbrev pub IsFrame : List ℕ → Option (Want Asked HttpEnd) → List ℕ → Type 0
IsFrame bytes None rest = ⊥
IsFrame bytes (Some want) rest =
    ((head : Head) × IsRequestRead bytes (HeadRead.Whole head) × (want ≡ want_of_head bytes head)
    × (rest ≡ after_request bytes head))
    ⊎ ((fault : Refusal) × IsRequestRead bytes (HeadRead.Bad fault) × (want ≡ refusal_want fault) × (rest ≡ bytes))

-- There are no bytes, or they are the start of a request that isn't complete yet.
abbrev pub NeedsMore : List ℕ → Type 0
NeedsMore bytes = (bytes ≡ []) ⊎ IsRequestRead bytes HeadRead.More

-- The frames of a connection. Bytes that are only the start of a request want nothing if the input ends with them. A
-- response says whether the connection ends after it.
abbrev pub http_rules : Rules Asked Reply HttpEnd
http_rules = record {
  whole = IsFrame;
  begun = NeedsMore;
  ends = λ bytes frame. frame ≡ None;
  reads_as = ReadsAs;
  refuses = λ asked reply. ⊥;
  text = λ want reply. response_bytes (is_some want.ends) reply;
}

-- ---- inside

-- If the head of the request at the front of the bytes was read, it says this.
abbrev pub IsAwaited : List ℕ → Option Head → Type 0
IsAwaited bytes None = Unit {0}
IsAwaited bytes (Some head) = IsHeadRead bytes (HeadRead.Whole head)

-- The bytes since the last frame are held, and if the head of the next frame was read, it says this.
abbrev pub holds_so : Option Head → List ℕ → List ℕ → Type 0
holds_so awaited held bytes = (held ≡ bytes) × IsAwaited held awaited
