-- What was read of bytes stays the same if more bytes follow.
use Rattle.std.proofs.Common.{◌≡◌, ◌≢◌, ◌⊎◌, ℕ, ◌+◌, ◌-◌, ◌≤◌, ◌<◌, List, [], ◌++◌, length, take, drop, Bool, true, false, refl, sym, ap, subst, ◌∙◌, inl, inr, arith, append-nil, append_assoc, length-append, length-drop}
use Rattle.std.specs.Prelude.{nat_le, nat_lt, slice_range, if◌then◌else◌}
use Rattle.std.specs.Str.{IsUtf8}
use Rattle.std.proofs.lemmas.Bool.Decides.{nat_tests}
use Rattle.std.proofs.lemmas.List.{take_all, take-append-le, drop-append-le, take-append-drop}
use Rattle.std.proofs.Math.Seq.{take-append-add}
use Rattle.httparse.specs.Grammar.{HasNoRequest, MayBecomeRequest, NeverHasRequest, ReadsRequest, RequestHead}
use Rattle.httparse.specs.Spans.{IsRequestAt, IsRequestOf}
use Rattle.httparse.specs.declared.spans.HeaderSpan.{HeaderSpan}
use Rattle.httparse.specs.declared.spans.RequestSpans.{RequestSpans}
use Rattle.httparse.proofs.GrammarLemmas.{ReadsRequest-append}
use Rattle.register_words.specs.declared.reply.Refusal.{Refusal}
use Rattle.http_heads.specs.Heads.{IsFrontRead, IsHead, IsHeadRead, ReportsHead, unfinished_read}
use Rattle.http_heads.specs.declared.head.Head.{Head}
use Rattle.http_heads.specs.declared.head.HeadRead.{HeadRead}

-- a test is true or false
true_or_false : (b : Bool) → (b ≡ true) ⊎ (b ≡ false)
true_or_false true = inl refl
true_or_false false = inr refl

-- ---- a head, if more bytes follow

-- a part of the bytes stays the same
pub range_more : (bytes more : List ℕ) (start end : ℕ) → start ≤ end → end ≤ length bytes
    → slice_range (bytes ++ more) start end ≡ slice_range bytes start end
range_more bytes more start end ordered within =
    let far : end - start ≤ length (drop start bytes) = omega (arith, length-drop start bytes, ordered, within) in
    ap (take (end - start)) (drop-append-le start bytes more (omega (arith, ordered, within)))
    ∙ take-append-le (end - start) (drop start bytes) more far

-- and so does the head
pub head_more : (bytes more : List ℕ) (head : RequestHead) (read : Head) → IsHead bytes head read → IsHead (bytes ++ more) head read
head_more bytes more head read is =
    let long : length (bytes ++ more) ≡ length bytes + length more = length-append bytes more in
    let within = is.within in
    let fits = is.fits in
    record {
      method = is.method;
      ordered = is.ordered;
      within = omega (arith, long, within);
      target = range_more bytes more read.target.start read.target.end is.ordered is.within ∙ is.target;
      text = is.text;
      body = is.body;
      last = is.last;
      size = is.size;
      fits = omega (arith, long, fits);
    }

pub tells_more : (bytes more : List ℕ) (head : RequestHead) (read : HeadRead) → ReportsHead bytes head read → ReportsHead (bytes ++ more) head read
tells_more bytes more head HeadRead.More tells = absurd tells
tells_more bytes more head (HeadRead.Bad fault) tells = tells
tells_more bytes more head (HeadRead.Whole read) tells = (tells.0, head_more bytes more head read tells.1)

-- ---- the front, if more bytes follow

-- the front of more bytes continues that of fewer, and is the same if that is full
pub record GoesOn (n : ℕ) (bytes more : List ℕ) : Type 0 where
  pub tail : List ℕ
  pub is : take n (bytes ++ more) ≡ take n bytes ++ tail
  pub full : n ≤ length bytes → tail ≡ []

goes_on_by : (n : ℕ) (bytes more : List ℕ) → (nat_le n (length bytes) ≡ true) ⊎ (nat_le n (length bytes) ≡ false) → GoesOn n bytes more
goes_on_by n bytes more (inl full) =
    let enough : n ≤ length bytes = grind (arith, nat_tests) in
    record { tail = []; is = take-append-le n bytes more enough ∙ sym (append-nil (take n bytes)); full = λ is. refl }
goes_on_by n bytes more (inr few) =
    let short : length bytes < n = grind (arith, nat_tests) in
    let sum : n ≡ length bytes + (n - length bytes) = omega arith in
    record {
      tail = take (n - length bytes) more;
      is = ap (λ k. take k (bytes ++ more)) sum ∙ (take-append-add bytes more (n - length bytes)
          ∙ ap (λ (l : List ℕ). l ++ take (n - length bytes) more) (sym (take_all n bytes (omega arith))));
      full = λ is. absurd (omega arith);
    }

goes_on : (n : ℕ) (bytes more : List ℕ) → GoesOn n bytes more
goes_on n bytes more = goes_on_by n bytes more (true_or_false (nat_le n (length bytes)))

-- no head starts like this, whatever follows
never_more : (front tail : List ℕ) → NeverHasRequest front → NeverHasRequest (front ++ tail)
never_more front tail never further = subst HasNoRequest (sym (append_assoc front tail further)) (never (tail ++ further))

-- what isn't there yet stays absent if all bytes that count are there
stays_away : (front tail bytes more : List ℕ) (read : HeadRead) → (8192 ≤ length bytes → tail ≡ []) → length bytes ≤ length more → read ≢ HeadRead.More → HasNoRequest front → MayBecomeRequest front → read ≡ unfinished_read (length bytes) → (nat_lt (length bytes) 8192 ≡ true) ⊎ (nat_lt (length bytes) 8192 ≡ false) → IsFrontRead (front ++ tail) more read
stays_away front tail bytes more read full grows other none may is (inl few) =
    absurd (other (is ∙ ap (λ b. if b then HeadRead.More else HeadRead.Bad Refusal.HeadTooLong) few))
stays_away front tail bytes more read full grows other none may is (inr many) =
    let enough : 8192 ≤ length bytes = grind (arith, nat_tests) in
    let enough_more : nat_lt (length more) 8192 ≡ false = grind (arith, nat_tests) in
    let same : front ≡ front ++ tail = sym (ap (λ (l : List ℕ). front ++ l) (full enough) ∙ append-nil front) in
    let long : read ≡ HeadRead.Bad Refusal.HeadTooLong = is ∙ ap (λ b. if b then HeadRead.More else HeadRead.Bad Refusal.HeadTooLong) many in
    inl (
      subst HasNoRequest same none,
      subst MayBecomeRequest same may,
      long ∙ sym (ap (λ b. if b then HeadRead.More else HeadRead.Bad Refusal.HeadTooLong) enough_more),
    )

-- what was read of a front stays the same
front_more : (front tail bytes more : List ℕ) (read : HeadRead) → (8192 ≤ length bytes → tail ≡ []) → read ≢ HeadRead.More → IsFrontRead front bytes read → IsFrontRead (front ++ tail) (bytes ++ more) read
front_more front tail bytes more read full other (inl (none, may, is)) = stays_away front tail bytes (bytes ++ more) read full (omega (arith, length-append bytes more)) other none may is (true_or_false (nat_lt (length bytes) 8192))
front_more front tail bytes more read full other (inr (inl (never, is))) = inr (inl (never_more front tail never, is))
front_more front tail bytes more read full other (inr (inr (head, rest, reads, tells))) =
    inr (inr (head, rest ++ tail, ReadsRequest-append front head rest tail reads, tells_more bytes more head read tells))

-- what was read of a head stays the same if more bytes follow
pub read_more : (bytes more : List ℕ) (read : HeadRead) → read ≢ HeadRead.More → IsHeadRead bytes read → IsHeadRead (bytes ++ more) read
read_more bytes more read other is =
    let on = goes_on 8192 bytes more in
    subst (λ (l : List ℕ). IsFrontRead l (bytes ++ more) read) (sym on.is)
    (front_more (take 8192 bytes) on.tail bytes more read on.full other is)

-- ---- what the parser found

-- the target that it found is a text
pub target_text : (front : List ℕ) (spans : List HeaderSpan) (found : RequestSpans) → IsRequestOf front spans found
    → IsUtf8 (slice_range front found.path.start found.path.end)
target_text front spans found (head, at) = subst (λ (l : List ℕ). IsUtf8 l) (sym at.path) at.reads.0.target_text

-- what the head says in the front, it says in the bytes
pub front_read : (bytes front : List ℕ) (spans : List HeaderSpan) (found : RequestSpans) (read : HeadRead) → front ≡ take 8192 bytes
    → IsRequestOf front spans found → ((head : RequestHead) → IsRequestAt front spans found head → ReportsHead front head read)
    → IsHeadRead bytes read
front_read bytes front spans found read is (head, at) tells =
    let R : List ℕ → Type 0 = λ l. ReadsRequest l head (drop found.len front) in
    let T : List ℕ → Type 0 = λ l. ReportsHead l head read in
    let whole : front ++ drop 8192 bytes ≡ bytes =
    ap (λ (l : List ℕ). l ++ drop 8192 bytes) is ∙ take-append-drop 8192 bytes in
    inr (inr (
      head,
      drop found.len front,
      subst R is at.reads,
      subst T whole (tells_more front (drop 8192 bytes) head read (tells head at)),
    ))
