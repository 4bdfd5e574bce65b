-- The numbers of requests that are read, and the refusals of the reader.
use Rattle.std.proofs.Common.{◌≡◌, ℕ, List, [], ◌∷◌, length, Bool, true, false, Option, Some, None, inl, inr, refl, sym, ap, subst}
use Rattle.std.specs.Option.{option_and_then}
use Rattle.std.specs.Prelude.{codes, nat_lt, option_map, if◌then◌else◌}
use Rattle.httparse.specs.Grammar.{RequestHead}
use Rattle.matchit.specs.Params.{named}
use Rattle.matchit.specs.Router.{RouteOf}
use Rattle.register_words.proofs.Numbers.{number_within-range}
use Rattle.register_words.specs.Requests.{HasNumberInRange}
use Rattle.register_words.specs.Words.{base_named, form_named, lei_from, number_in_word, sheet_named}
use Rattle.register_words.specs.declared.reply.Refusal.{Refusal}
use Rattle.register_words.specs.declared.reply.Reply.TheVariants.{Words}
use Rattle.register_words.specs.declared.request.Asked.{Asked}
use Rattle.register_words.specs.declared.request.Asked.TheVariants.{Ask as Asks, Refuse}
use Rattle.register_words.specs.declared.request.Request.{Request}
use Rattle.http_heads.specs.Asking.{accredit_in, asked_at, asked_on, asks, copy_in, delta_in, key_in, kept_in, publish_in, show_in, upload_with_body, words_by}
use Rattle.http_heads.specs.Asking as asking
use Rattle.http_heads.specs.Headers.{header_facts}
use Rattle.http_heads.specs.Heads.{IsHeadRead, fault_by, fault_of_headers, fault_of_length, fault_of_upload, first_fault, head_fault, headers_of, lacks_length, method_of}
use Rattle.http_heads.specs.Requests.{IsRequestRead, asked_by_request, body_in, target_in}
use Rattle.http_heads.specs.Routes.{path_of, route_of, route_place}
use Rattle.http_heads.specs.declared.head.Head.{Head}
use Rattle.http_heads.specs.declared.head.HeadRead.{HeadRead}
use Rattle.http_heads.specs.declared.headers.ContentLength.{ContentLength}
use Rattle.http_heads.specs.declared.headers.HeaderFacts.{HeaderFacts}
use Rattle.http_heads.specs.declared.routes.Method.{Method}
use Rattle.http_heads.specs.declared.routes.Place.{Place}
use Rattle.lei_office.specs.Answering.{MayBeAsked}
use Rattle.lei_office.specs.Faults.{keeper_faults}
use Rattle.lei_office.proofs.Counting.{not_503}
use Rattle.http_heads.proofs.Reading.{bad_of_read}

-- ---- what is asked has a number in its range, and a refusal by the reader reports no fault of the keeper

abbrev pub AsksInRange : Asked → Type 0
AsksInRange (Refuse refusal) = keeper_faults (Words refusal ∷ []) ≡ 0
AsksInRange (Asks request) = HasNumberInRange request

abbrev InRange : Option Request → Type 0
InRange request = AsksInRange (asks request)

bind_range : {A : Type 0} (o : Option A) (f : A → Option Request) → ((x : A) → o ≡ Some x → InRange (f x))
    → InRange (option_and_then f o)
bind_range None f each = refl
bind_range (Some x) f each = each x refl

-- a key has a number in its range
abbrev KeyInRange : (List ℕ × ℕ → Request) → Option (List ℕ × ℕ) → Type 0
KeyInRange request found = InRange (option_map request found)

key_range : (request : List ℕ × ℕ → Request) → ((issuer : List ℕ) (word : List ℕ) (number : ℕ) → number_in_word word ≡ Some number → HasNumberInRange (request (issuer, number)))
    → (words : asking.Words) → KeyInRange request (key_in words)
key_range request each words =
    bind_key (named (codes "lou") words) _ (λ lou _. bind_key (named (codes "number") words) _ (λ word _. bind_key (lei_from lou) _
    (λ issuer _. bind_key (number_in_word word) _ (λ number is. each issuer word number is))))
  where
    bind_key : {A : Type 0} (o : Option A) (f : A → Option (List ℕ × ℕ)) → ((x : A) → o ≡ Some x → KeyInRange request (f x))
        → KeyInRange request (option_and_then f o)
    bind_key None f each = refl
    bind_key (Some x) f each = each x refl

accredit_range : (words : asking.Words) → InRange (accredit_in words)
unfolding accredit_in
accredit_range words = bind_range (named (codes "lou") words) _ (λ lou _. bind_range (lei_from lou) _ (λ issuer _. tt))

upload_range : (words : asking.Words) (body : List ℕ) → InRange (upload_with_body words body)
unfolding upload_with_body
upload_range words body = key_range _ (λ issuer word number is. number_within-range 1 1_000_000 word number is) words

kept_range : (words : asking.Words) → InRange (kept_in words)
unfolding kept_in
kept_range words = key_range _ (λ issuer word number is. tt) words

publish_range : (words : asking.Words) → InRange (publish_in words)
unfolding publish_in
publish_range words =
    bind_range (named (codes "number") words) _ (λ word _. bind_range (number_in_word word) _
    (λ number is. number_within-range 1 1_000_000 word number is))

show_range : (words : asking.Words) → InRange (show_in words)
unfolding show_in
show_range words = bind_range (named (codes "lei") words) _ (λ word _. bind_range (lei_from word) _ (λ lei _. tt))

copy_range : (words : asking.Words) → InRange (copy_in words)
unfolding copy_in
copy_range words =
    bind_range (named (codes "table") words) _ (λ table _. bind_range (named (codes "form") words) _ (λ word _.
    bind_range (sheet_named table) _ (λ sheet _. bind_range (form_named word) _ (λ form _. tt))))

delta_range : (words : asking.Words) → InRange (delta_in words)
unfolding delta_in
delta_range words =
    bind_range (named (codes "base") words) _ (λ name _. bind_range (named (codes "table") words) _ (λ table _.
    bind_range (named (codes "form") words) _ (λ word _. bind_range (base_named name) _ (λ base _. bind_range (sheet_named table) _
    (λ sheet _. bind_range (form_named word) _ (λ form _. tt))))))

at_range : (place : Place) (method : Method) (words : asking.Words) (body : List ℕ) → AsksInRange (asked_at place method words body)
at_range Place.Issuer Method.Put words body = accredit_range words
at_range Place.Issuer Method.Get words body = refl
at_range Place.Issuer Method.Other words body = refl
at_range Place.Upload Method.Put words body = upload_range words body
at_range Place.Upload Method.Get words body = kept_range words
at_range Place.Upload Method.Other words body = refl
at_range Place.Publication Method.Put words body = publish_range words
at_range Place.Publication Method.Get words body = refl
at_range Place.Publication Method.Other words body = refl
at_range Place.Record Method.Put words body = refl
at_range Place.Record Method.Get words body = show_range words
at_range Place.Record Method.Other words body = refl
at_range Place.Copy Method.Put words body = refl
at_range Place.Copy Method.Get words body = copy_range words
at_range Place.Copy Method.Other words body = refl
at_range Place.Delta Method.Put words body = refl
at_range Place.Delta Method.Get words body = delta_range words
at_range Place.Delta Method.Other words body = refl
at_range Place.Status Method.Put words body = refl
at_range Place.Status Method.Get words body = tt
at_range Place.Status Method.Other words body = refl

on_range : (route : Option (RouteOf Place)) (method : Method) (path body : List ℕ) → AsksInRange (asked_on route method path body)
on_range None method path body = refl
on_range (Some route) method path body = at_range route.value method (words_by route path) body

in_range : (bytes : List ℕ) (head : Head) → AsksInRange (asked_by_request bytes head)
in_range bytes head =
    let path = path_of (target_in bytes head) in
    on_range (route_of path) head.method path (body_in bytes head)

-- so it may be asked
range_asked : (asked : Asked) → AsksInRange asked → MayBeAsked asked
range_asked (Refuse refusal) none = not_503 refusal none
range_asked (Asks request) is = is

pub request_asked : (bytes : List ℕ) (head : Head) → MayBeAsked (asked_by_request bytes head)
request_asked bytes head = range_asked (asked_by_request bytes head) (in_range bytes head)

-- ---- a head that is refused reports no fault of the keeper

abbrev NoKeeperFault : Option Refusal → Type 0
NoKeeperFault None = Unit {0}
NoKeeperFault (Some fault) = keeper_faults (Words fault ∷ []) ≡ 0

no_fault_if : (test : Bool) (fault : Refusal) (other : Option Refusal) → keeper_faults (Words fault ∷ []) ≡ 0 → NoKeeperFault other
    → NoKeeperFault (if test then Some fault else other)
no_fault_if true fault other this rest = this
no_fault_if false fault other this rest = rest

first_no_fault : (one two : Option Refusal) → NoKeeperFault one → NoKeeperFault two → NoKeeperFault (first_fault one two)
first_no_fault None two first second = second
first_no_fault (Some fault) two first second = first

length_no_fault : (body : ContentLength) → NoKeeperFault (fault_of_length body)
length_no_fault ContentLength.Absent = tt
length_no_fault (ContentLength.Bytes number) = no_fault_if (nat_lt 4194304 number) Refusal.TooLong None refl tt
length_no_fault ContentLength.Wrong = refl

by_no_fault : (facts : HeaderFacts) (method : Method) (place : Option Place) → NoKeeperFault (fault_by facts method place)
by_no_fault facts method place =
    first_no_fault (fault_of_headers facts) (fault_of_upload method place facts.body)
    (no_fault_if facts.coded Refusal.LengthRequired (fault_of_length facts.body) refl (length_no_fault facts.body))
    (no_fault_if (lacks_length method place facts.body) Refusal.LengthRequired None refl tt)

head_no_fault : (head : RequestHead) → NoKeeperFault (head_fault head)
head_no_fault head =
    let facts = header_facts (headers_of head) in
    let method = method_of head.method in
    let place = route_place (path_of head.target) in
    no_fault_if (nat_lt 32 (length head.fields)) Refusal.HeadTooLong (fault_by facts method place) refl (by_no_fault facts method place)

abbrev fault_in : HeadRead → Option Refusal
fault_in HeadRead.More = None
fault_in (HeadRead.Bad fault) = Some fault
fault_in (HeadRead.Whole head) = None

few_no_fault : (few : Bool) → NoKeeperFault (fault_in (if few then HeadRead.More else HeadRead.Bad Refusal.HeadTooLong))
few_no_fault true = tt
few_no_fault false = refl

bad_no_fault : (bytes : List ℕ) (fault : Refusal) → IsHeadRead bytes (HeadRead.Bad fault) → NoKeeperFault (Some fault)
bad_no_fault bytes fault (inl (none, may, is)) = subst (λ o. NoKeeperFault o) (sym (ap fault_in is)) (few_no_fault _)
bad_no_fault bytes fault (inr (inl (never, is))) = subst (λ o. NoKeeperFault o) (sym (ap fault_in is)) refl
bad_no_fault bytes fault (inr (inr (head, rest, reads, tells))) = subst (λ o. NoKeeperFault o) tells (head_no_fault head)

pub refusal_asked : (bytes : List ℕ) (fault : Refusal) → IsRequestRead bytes (HeadRead.Bad fault) → MayBeAsked (Refuse fault)
refusal_asked bytes fault read = not_503 fault (bad_no_fault bytes fault (bad_of_read bytes fault read))
