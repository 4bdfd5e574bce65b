-- Bytes are cut into queries in one way.
use Rattle.std.proofs.Common.{◌≡◌, ◌≢◌, ℕ, List, [], ◌∷◌, ◌++◌, length, Option, option_map, inl, inr, refl, sym, ap, ◌∙◌, subst, append_assoc, arith, length-append}
use Rattle.std.proofs.lemmas.List.Elements.{All-head, All-tail}
use Rattle.request_loop.specs.Frames.{Frames, asks_of}
use Rattle.request_loop.specs.declared.frames.Want.{Want}
use Rattle.line_reading.specs.Lines.{HasNoEnd, IsCutAtEnd, Line, line_of}
use Rattle.line_reading.specs.declared.framing.NoEnd.{NoEnd}
use Rattle.query_reading.specs.Inputs.{AsksInOrder}
use Rattle.query_reading.specs.Meanings.{asked_at_end, asked_with, line_says, packet_size}
use Rattle.query_reading.specs.QueryFrames.{IsFirstLine, IsQueryFrame, IsStartOfQuery, query_rules, query_want}
use Rattle.query_reading.specs.declared.asked.QueryAsked.{QueryAsked}
use Rattle.query_reading.proofs.QueryFronts.{Grammars}

-- ---- the first line

abbrev IsOther : ℕ → Type 0
IsOther byte = byte ≢ 10

-- a part before the first LF, and what follows it
cut_once : (p q a b : List ℕ) → HasNoEnd p → HasNoEnd q → p ++ 10 ∷ a ≡ q ++ 10 ∷ b → (p ≡ q) × (a ≡ b)
cut_once [] [] a b none other same = (refl, (let tails : a ≡ b = cc in tails))
cut_once [] (y ∷ q) a b none other same = absurd (All-head IsOther y q other (let head : y ≡ 10 = cc in head))
cut_once (x ∷ p) [] a b none other same = absurd (All-head IsOther x p none (let head : x ≡ 10 = cc in head))
cut_once (x ∷ p) (y ∷ q) a b none other same =
    let heads : x ≡ y = cc in
    let tails : p ++ 10 ∷ a ≡ q ++ 10 ∷ b = cc in
    let more = cut_once p q a b (All-tail IsOther x p none) (All-tail IsOther y q other) tails in
    (ap (λ z. z ∷ p) heads ∙ ap (λ zs. y ∷ zs) more.0, more.1)

parts_of : (bytes p a : List ℕ) → IsCutAtEnd bytes p a → bytes ≡ p ++ 10 ∷ a
parts_of bytes p a ends = ends.parts ∙ append_assoc p (10 ∷ []) a

ends_once : (bytes p q a b : List ℕ) → IsCutAtEnd bytes p a → IsCutAtEnd bytes q b → (p ≡ q) × (a ≡ b)
ends_once bytes p q a b ends other =
    cut_once p q a b ends.none other.none (sym (parts_of bytes p a ends) ∙ parts_of bytes q b other)

no_end : (p a : List ℕ) → HasNoEnd (p ++ 10 ∷ a) → ⊥
no_end [] a none = All-head IsOther 10 a none refl
no_end (x ∷ p) a none = no_end p a (All-tail IsOther x (p ++ 10 ∷ a) none)

ends_never : (bytes p a : List ℕ) → HasNoEnd bytes → IsCutAtEnd bytes p a → ⊥
ends_never bytes p a none ends =
    let N : List ℕ → Type 0 = λ xs. HasNoEnd xs in
    no_end p a (subst N (parts_of bytes p a ends) none)

first_once : (bytes : List ℕ) (x y : Line) → IsFirstLine bytes x → IsFirstLine bytes y → x ≡ y
first_once bytes x y (inl (none, is)) (inl (other, also)) = is ∙ sym also
first_once bytes x y (inl (none, is)) (inr (q, b, ends, also)) = absurd (ends_never bytes q b none ends)
first_once bytes x y (inr (p, a, ends, is)) (inl (none, also)) = absurd (ends_never bytes p a none ends)
first_once bytes x y (inr (p, a, ends, is)) (inr (q, b, other, also)) =
    is ∙ (ap line_of (ends_once bytes p q a b ends other).0 ∙ sym also)

-- ---- frames

cut_at : (xs ys a b : List ℕ) → xs ++ a ≡ ys ++ b → length xs ≡ length ys → (xs ≡ ys) × (a ≡ b)
cut_at [] [] a b same long = (refl, same)
cut_at [] (y ∷ ys) a b same long = absurd (omega (arith, long))
cut_at (x ∷ xs) [] a b same long = absurd (omega (arith, long))
cut_at (x ∷ xs) (y ∷ ys) a b same long =
    let heads : x ≡ y = cc in
    let tails : xs ++ a ≡ ys ++ b = cc in
    let more = cut_at xs ys a b tails (omega (arith, long)) in
    (ap (λ z. z ∷ xs) heads ∙ ap (λ zs. y ∷ zs) more.0, more.1)

abbrev Frame : Type 0 → Type 0 → Type 0
Frame Q H = Option (Want (QueryAsked Q H) NoEnd)

frame_once : {Q H : Type 0} (says : Grammars Q H) (bytes rest others : List ℕ) (frame other : Frame Q H)
    → IsQueryFrame says bytes frame rest → IsQueryFrame says bytes other others → (frame ≡ other) × (rest ≡ others)
frame_once {Q} {H} says bytes rest others frame other is also =
    let ends = ends_once bytes is.part also.part (is.packet ++ rest) (also.packet ++ others) is.ends also.ends in
    let size : length is.packet ≡ length also.packet = is.size
    ∙ (ap (λ part. packet_size (line_says says (line_of part))) ends.0 ∙ sym also.size) in
    let packets = cut_at is.packet also.packet rest others ends.1 size in
    let W : List ℕ → List ℕ → Frame Q H = λ part packet. option_map query_want
    (asked_with (line_says says (line_of part)) packet) in (
      is.frame_is ∙ (ap (λ part. W part is.packet) ends.0 ∙ (ap (λ packet. W also.part packet) packets.0
          ∙ sym also.frame_is)),
      packets.1,
    )

begun_never : {Q H : Type 0} (says : Grammars Q H) (bytes rest : List ℕ) (frame : Frame Q H)
    → IsQueryFrame says bytes frame rest → IsStartOfQuery says bytes → ⊥
begun_never says bytes rest frame is (inl none) = ends_never bytes is.part (is.packet ++ rest) none is.ends
begun_never says bytes rest frame is (inr lacks) =
    let ends = ends_once bytes is.part lacks.part (is.packet ++ rest) lacks.after is.ends lacks.ends in
    let size : length is.packet ≡ packet_size (line_says says (line_of lacks.part)) = is.size
    ∙ ap (λ part. packet_size (line_says says (line_of part))) ends.0 in
    let long : length (is.packet ++ rest) ≡ length lacks.after = ap length ends.1 in
    let no : ⊥ = omega (arith, size, long, length-append is.packet rest, lacks.short) in no

frames_once : {Q H : Type 0} (says : Grammars Q H) (frames others : List (Frame Q H)) (bytes rest end : List ℕ)
    → Frames (query_rules says) bytes frames rest → IsStartOfQuery says rest → Frames (query_rules says) bytes others end
    → IsStartOfQuery says end → (frames ≡ others) × (rest ≡ end)
frames_once says [] [] bytes rest end are begun also ends = (refl, sym are ∙ also)
frames_once {Q} {H} says [] (other ∷ others) bytes rest end are begun also ends =
    let B : List ℕ → Type 0 = λ xs. IsStartOfQuery says xs in
    absurd (begun_never says bytes also.0 other also.1 (subst B (sym are) begun))
frames_once {Q} {H} says (frame ∷ frames) [] bytes rest end are begun also ends =
    let B : List ℕ → Type 0 = λ xs. IsStartOfQuery says xs in
    absurd (begun_never says bytes are.0 frame are.1 (subst B (sym also) ends))
frames_once {Q} {H} says (frame ∷ frames) (other ∷ others) bytes rest end are begun also ends =
    let first = frame_once says bytes are.0 also.0 frame other are.1 also.1 in
    let F : List ℕ → Type 0 = λ xs. Frames (query_rules says) xs frames rest in
    let more = frames_once says frames others also.0 rest end (subst F first.1 are.3) begun also.3 ends in
    (ap (λ f. f ∷ frames) first.0 ∙ ap (λ fs. other ∷ fs) more.0, more.1)

pub asks_once : {Q H : Type 0} (says : Grammars Q H) (bytes : List ℕ) (asks others : List (QueryAsked Q H))
    → AsksInOrder says bytes asks → AsksInOrder says bytes others → asks ≡ others
asks_once {Q} {H} says bytes asks others is also =
    let same = frames_once says is.frames also.frames bytes is.rest also.rest is.are is.begun also.are also.begun in
    let F : List ℕ → Type 0 = λ xs. IsFirstLine xs is.line in
    let line = first_once also.rest is.line also.line (subst F same.1 is.line_is) also.line_is in
    let last : Line → Frame Q H = λ l. option_map query_want (asked_at_end (line_says says l)) in
    is.asks_are ∙ (ap (λ fs. asks_of (fs ++ last is.line ∷ [])) same.0
    ∙ (ap (λ l. asks_of (also.frames ++ last l ∷ [])) line ∙ sym also.asks_are))
