-- What is read of bytes, and what stays the same of it if more bytes follow.
use Rattle.std.proofs.Common.{◌≡◌, ◌⊎◌, ℕ, ◌+◌, ◌≤◌, List, ◌∷◌, ◌++◌, length, take, drop, Bool, true, false, refl, sym, ap, ◌∙◌, subst, inl, inr, arith, length-append, length-drop}
use Rattle.std.specs.Prelude.{nat_le, nat_lt, if◌then◌else◌}
use Rattle.std.specs.List.{flat_map}
use Rattle.std.specs.Str.{IsUtf8}
use Rattle.std.proofs.lemmas.Bool.{false≢true}
use Rattle.std.proofs.lemmas.List.{drop-append-le, take-append-le}
use Rattle.std.proofs.lemmas.Bool.Decides.{nat_tests}
use Rattle.httparse.specs.Grammar.{LineEnd, RequestHead, crlf, lf, print_blank, print_end, print_field, print_request, print_version}
use Rattle.http_heads.proofs.MoreBytes as heads
use Rattle.http_heads.proofs.MoreBytes.{range_more}
use Rattle.http_heads.specs.Heads.{IsHead, IsHeadRead}
use Rattle.http_heads.specs.Asking.{asked_by_method}
use Rattle.http_heads.specs.Requests.{IsRequestRead, asked_by_request, body_in, request_size, target_in}
use Rattle.http_heads.specs.declared.head.Head.{Head}
use Rattle.http_heads.specs.declared.head.HeadRead.{HeadRead}
use Rattle.register_words.specs.declared.reply.Refusal.{Refusal}

pub true_or_false : (b : Bool) → (b ≡ true) ⊎ (b ≡ false)
true_or_false true = inl refl
true_or_false false = inr refl

abbrev is_whole : HeadRead → Bool
is_whole HeadRead.More = false
is_whole (HeadRead.Bad fault) = false
is_whole (HeadRead.Whole head) = true

abbrev head_in : Head → HeadRead → Head
head_in other HeadRead.More = other
head_in other (HeadRead.Bad fault) = other
head_in other (HeadRead.Whole head) = head

-- the bytes start with a complete request
pub record Whole (bytes : List ℕ) (head : Head) : Type 0 where
  pub read : IsHeadRead bytes (HeadRead.Whole head)
  pub fits : request_size head ≤ length bytes

abbrev if_there : Head → Bool → HeadRead
if_there head there = if there then HeadRead.Whole head else HeadRead.More

whole_by : (bytes : List ℕ) (head found : Head) → IsHeadRead bytes (HeadRead.Whole found)
    → HeadRead.Whole head ≡ if_there found (nat_le (request_size found) (length bytes))
    → (nat_le (request_size found) (length bytes) ≡ true) ⊎ (nat_le (request_size found) (length bytes) ≡ false) → Whole bytes head
whole_by bytes head found is same (inl fits) =
    let both : HeadRead.Whole head ≡ HeadRead.Whole found = same ∙ ap (if_there found) fits in
    let one : head ≡ found = ap (head_in head) both in
    let W : Head → Type 0 = λ h. Whole bytes h in
    subst W (sym one) (record { read = is; fits = grind (arith, nat_tests) })
whole_by bytes head found is same (inr less) =
    let both : HeadRead.Whole head ≡ HeadRead.More = same ∙ ap (if_there found) less in
    absurd (false≢true (sym (ap is_whole both)))

pub whole_of : (bytes : List ℕ) (head : Head) → IsRequestRead bytes (HeadRead.Whole head) → Whole bytes head
whole_of bytes head (HeadRead.More, is, same) = absurd (false≢true (sym (ap is_whole same)))
whole_of bytes head (HeadRead.Bad fault, is, same) = absurd (false≢true (sym (ap is_whole same)))
whole_of bytes head (HeadRead.Whole found, is, same) =
    whole_by bytes head found is same (true_or_false (nat_le (request_size found) (length bytes)))

-- what is read, by what the head says
pub read_of : (bytes : List ℕ) (head : Head) → IsHeadRead bytes (HeadRead.Whole head)
    → nat_le (request_size head) (length bytes) ≡ true → IsRequestRead bytes (HeadRead.Whole head)
read_of bytes head is fits = (HeadRead.Whole head, is, sym (ap (if_there head) fits))

pub waits_of : (bytes : List ℕ) (head : Head) → IsHeadRead bytes (HeadRead.Whole head)
    → nat_le (request_size head) (length bytes) ≡ false → IsRequestRead bytes HeadRead.More
waits_of bytes head is less = (HeadRead.Whole head, is, sym (ap (if_there head) less))

pub more_of : (bytes : List ℕ) → IsHeadRead bytes HeadRead.More → IsRequestRead bytes HeadRead.More
more_of bytes is = (HeadRead.More, is, refl)

pub bad_of : (bytes : List ℕ) (fault : Refusal) → IsHeadRead bytes (HeadRead.Bad fault) → IsRequestRead bytes (HeadRead.Bad fault)
bad_of bytes fault is = (HeadRead.Bad fault, is, refl)

-- ---- more bytes

pub head_more : (bytes more : List ℕ) (head : Head) → IsHeadRead bytes (HeadRead.Whole head) → IsHeadRead (bytes ++ more) (HeadRead.Whole head)
head_more bytes more head is = heads.read_more bytes more (HeadRead.Whole head) (λ other. false≢true (sym (ap is_whole other))) is

pub read_more : (bytes more : List ℕ) (head : Head) → IsRequestRead bytes (HeadRead.Whole head) → IsRequestRead (bytes ++ more) (HeadRead.Whole head)
read_more bytes more head read =
    let whole = whole_of bytes head read in
    let within : request_size head ≤ length bytes = whole.fits in
    let long : length (bytes ++ more) ≡ length bytes + length more = length-append bytes more in
    let fits : nat_le (request_size head) (length (bytes ++ more)) ≡ true = grind (arith, nat_tests) in
    read_of (bytes ++ more) head (head_more bytes more head whole.read) fits

abbrev is_bad : HeadRead → Bool
is_bad HeadRead.More = false
is_bad (HeadRead.Bad fault) = true
is_bad (HeadRead.Whole head) = false

never_bad : (head : Head) (there : Bool) → is_bad (if_there head there) ≡ false
never_bad head true = refl
never_bad head false = refl

-- and a head that is refused stays so
pub bad_more : (bytes more : List ℕ) (fault : Refusal) → IsRequestRead bytes (HeadRead.Bad fault)
    → IsRequestRead (bytes ++ more) (HeadRead.Bad fault)
bad_more bytes more fault (HeadRead.More, is, same) = absurd (false≢true (sym (ap is_bad same)))
bad_more bytes more fault (HeadRead.Bad found, is, same) = (
  HeadRead.Bad found,
  heads.read_more bytes more (HeadRead.Bad found) (λ other. false≢true (sym (ap is_bad other))) is,
  same,
)
bad_more bytes more fault (HeadRead.Whole found, is, same) =
    absurd (false≢true (sym (ap is_bad same ∙ never_bad found (nat_le (request_size found) (length bytes)))))

-- a refused head has no body to wait for
pub bad_of_read : (bytes : List ℕ) (fault : Refusal) → IsRequestRead bytes (HeadRead.Bad fault) → IsHeadRead bytes (HeadRead.Bad fault)
bad_of_read bytes fault (HeadRead.More, is, same) = absurd (false≢true (sym (ap is_bad same)))
bad_of_read bytes fault (HeadRead.Bad found, is, same) =
    let R : HeadRead → Type 0 = λ read. IsHeadRead bytes read in subst R (sym same) is
bad_of_read bytes fault (HeadRead.Whole found, is, same) =
    absurd (false≢true (sym (ap is_bad same ∙ never_bad found (nat_le (request_size found) (length bytes)))))

-- ---- a head that was read

-- the bytes start with a complete head
pub record Found (bytes : List ℕ) (head : Head) : Type 0 where
  pub printed : RequestHead
  pub is : IsHead bytes printed head

not_whole : (few : Bool) → is_whole (if few then HeadRead.More else HeadRead.Bad Refusal.HeadTooLong) ≡ false
not_whole true = refl
not_whole false = refl

pub found_of : (bytes : List ℕ) (head : Head) → IsHeadRead bytes (HeadRead.Whole head) → Found bytes head
found_of bytes head (inl (none, may, is)) = absurd (false≢true (sym (ap is_whole is ∙ not_whole (nat_lt (length bytes) 8192))))
found_of bytes head (inr (inl (never, is))) = absurd (false≢true (sym (ap is_whole is)))
found_of bytes head (inr (inr (printed, rest, reads, tells))) = record { printed = printed; is = tells.1 }

-- its target stays the same if more bytes follow
pub target_more : (bytes more : List ℕ) (head : Head) → IsHeadRead bytes (HeadRead.Whole head)
    → target_in (bytes ++ more) head ≡ target_in bytes head
target_more bytes more head read =
    let is = (found_of bytes head read).is in
    range_more bytes more head.target.start head.target.end is.ordered is.within

-- and is a text
pub target_text : (bytes : List ℕ) (head : Head) → IsHeadRead bytes (HeadRead.Whole head) → IsUtf8 (target_in bytes head)
target_text bytes head read =
    let is = (found_of bytes head read).is in
    subst (λ (l : List ℕ). IsUtf8 l) (sym is.target) is.text

-- and so does the body
body_more : (bytes more : List ℕ) (head : Head) → request_size head ≤ length bytes → body_in (bytes ++ more) head ≡ body_in bytes head
body_more bytes more head fits =
    let within : head.body ≤ length (drop head.size bytes) = omega (arith, length-drop head.size bytes, fits) in
    ap (take head.body) (drop-append-le head.size bytes more (omega (arith, fits)))
    ∙ take-append-le head.body (drop head.size bytes) more within

-- and what the complete request asks
pub asked_more : (bytes more : List ℕ) (head : Head) → IsRequestRead bytes (HeadRead.Whole head)
    → asked_by_request (bytes ++ more) head ≡ asked_by_request bytes head
asked_more bytes more head read =
    let whole = whole_of bytes head read in
    ap (λ (target : List ℕ). asked_by_method head.method target (body_in (bytes ++ more) head)) (target_more bytes more head whole.read)
    ∙ ap (asked_by_method head.method (target_in bytes head)) (body_more bytes more head whole.fits)

-- ---- a head has bytes

end_some : (e : LineEnd) → 1 ≤ length (print_end e)
end_some crlf = omega arith
end_some lf = omega arith

printed_some : (head : RequestHead) → 1 ≤ length (print_request head)
unfolding print_request
printed_some h =
    let front = print_blank h.blank ++ h.method ++ 32 ∷ h.target ++ 32 ∷ print_version h.minor ++ print_end h.line_end in
    omega (
      arith,
      length-append front (flat_map print_field h.fields ++ print_end h.last),
      length-append (flat_map print_field h.fields) (print_end h.last),
      end_some h.last,
    )

pub head_some : (bytes : List ℕ) (head : Head) → IsHeadRead bytes (HeadRead.Whole head) → 1 ≤ head.size
head_some bytes head read =
    let found = found_of bytes head read in
    let size = found.is.size in
    omega (arith, size, printed_some found.printed)
