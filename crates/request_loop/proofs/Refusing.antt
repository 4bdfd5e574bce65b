-- Frames that the framing refuses, and which of them have replies in a prefix of the bytes of all replies.
use Rattle.std.proofs.Common.{◌≡◌, ◌⊎◌, inl, inr, ℕ, ℤ, ◌+◌, ◌-◌, ◌<◌, ◌≤◌, List, [], ◌∷◌, ◌++◌, length, take, Bool, true, false, Option, None, Some, refl, sym, ap, ◌∙◌, subst, append_assoc, arith, length-append}
use Rattle.std.specs.Prelude.{nat_lt}
use Rattle.std.proofs.lemmas.List.{take-append-le}
use Rattle.std.proofs.Math.Seq.{take-append-add}
use Rattle.std.proofs.lemmas.Bool.Decides.{nat_tests}
use Rattle.lei_outside.specs.Told.{Grows, WritesFront}
use Rattle.request_loop.specs.Frames.{AreRefused, Fits, Frames, Rules, asks_of, bytes_of_replies}
use Rattle.request_loop.specs.Serving.{AnswersInPart, Progress, Ran}
use Rattle.request_loop.specs.Sessions.{Session}
use Rattle.request_loop.specs.declared.frames.Want.{Want}
use Rattle.request_loop.proofs.Giving.{ClockGives-none}

-- the progress with other written bytes
abbrev pub written_so : {A : Type 0} → Progress A → Option (List ℕ) → Progress A
written_so at written = record at { written = written }

-- refused frames take no moment, and leave the answerer as it is
refused_session : {A W P E : Type 0} (takes : W → Type 0) (step : A → W → List ℤ → P → A → Type 0) (rules : Rules W P E)
    (who : A) (frames : List (Option (Want W E))) (replies : List P) → Fits takes step rules
    → AreRefused rules frames replies → Session step who (asks_of frames) [] replies who
refused_session takes step rules who [] [] fits are = (refl, refl)
refused_session takes step rules who [] (reply ∷ replies) fits are = absurd are
refused_session takes step rules who (None ∷ frames) replies fits are =
    refused_session takes step rules who frames replies fits are
refused_session takes step rules who (Some want ∷ frames) [] fits are = absurd are
refused_session takes step rules who (Some want ∷ frames) (reply ∷ replies) fits are = (
  [],
  [],
  who,
  refl,
  fits.refused want.asked who reply are.0,
  refused_session takes step rules who frames replies fits are.1,
)

pub ran_refused : {A W P E : Type 0} (takes : W → Type 0) (step : A → W → List ℤ → P → A → Type 0) (rules : Rules W P E)
    (before : Progress A) (written : Option (List ℕ)) (frames : List (Option (Want W E))) (replies : List P)
    → Fits takes step rules → AreRefused rules frames replies
    → Grows before.written written (bytes_of_replies rules frames replies) → Ran step rules before frames (written_so before written)
ran_refused takes step rules before written frames replies fits are grows = record {
  moments = [];
  gives = ClockGives-none before.given;
  replies = replies;
  session = refused_session takes step rules before.who frames replies fits are;
  writes = grows;
}

-- ---- a prefix of their replies

-- the first n bytes are the replies to the first of the frames, followed by a proper prefix of the reply to the next
record PartOf {A W P E : Type 0} (step : A → W → List ℤ → P → A → Type 0) (rules : Rules W P E) (who : A)
    (bytes texts : List ℕ) (n : ℕ) : Type 0 where
  frames : List (Option (Want W E))
  rest : List ℕ
  want : Want W E
  after : List ℕ
  are : Frames rules bytes frames rest
  whole : rules.whole rest (Some want) after
  replies : List P
  reply : P
  session : Session step who (asks_of (frames ++ Some want ∷ [])) [] (replies ++ reply ∷ []) who
  part : ℕ
  short : part < length (rules.text want reply)
  front : take n texts ≡ bytes_of_replies rules frames replies ++ take part (rules.text want reply)

-- a place in a list, or one after its end
within_or_after : (test : Bool) (n len : ℕ) → nat_lt n len ≡ test → (n < len) ⊎ ((m : ℕ) × (n ≡ len + m))
within_or_after true n len is = let within : n < len = grind (arith, nat_tests) in inl within
within_or_after false n len is = let after : len ≤ n = grind (arith, nat_tests) in inr (n - len, omega arith)

part_next : {A W P E : Type 0} (step : A → W → List ℤ → P → A → Type 0) (rules : Rules W P E) (who : A)
    (bytes after texts : List ℕ) (want : Want W E) (reply : P) (n : ℕ) → rules.whole bytes (Some want) after
    → want.ends ≡ None → step who want.asked [] reply who
    → ((m : ℕ) → m < length texts → PartOf step rules who after texts m) → n < length (rules.text want reply ++ texts)
    → (n < length (rules.text want reply)) ⊎ ((m : ℕ) × (n ≡ length (rules.text want reply) + m))
    → PartOf step rules who bytes (rules.text want reply ++ texts) n
part_next step rules who bytes after texts want reply n whole goes made others short (inl within) = record {
  frames = [];
  rest = bytes;
  want = want;
  after = after;
  are = refl;
  whole = whole;
  replies = [];
  reply = reply;
  session = ([], [], who, refl, made, (refl, refl));
  part = n;
  short = within;
  front = take-append-le n (rules.text want reply) texts (omega (arith, within));
}
part_next {W = W} {E = E} step rules who bytes after texts want reply n whole goes made others short (inr (m, is)) =
    let text = rules.text want reply in
    let next = others m (omega (arith, short, is, length-append text texts)) in
    let first : Option (Want W E) = Some want in
    record {
      frames = first ∷ next.frames;
      rest = next.rest;
      want = next.want;
      after = next.after;
      are = (after, whole, goes, next.are);
      whole = next.whole;
      replies = reply ∷ next.replies;
      reply = next.reply;
      session = ([], [], who, refl, made, next.session);
      part = next.part;
      short = next.short;
      front = ap (λ k. take k (text ++ texts)) is ∙ (take-append-add text texts m
          ∙ (ap (λ (l : List ℕ). text ++ l) next.front
          ∙ sym (append_assoc text (bytes_of_replies rules next.frames next.replies)
          (take next.part (rules.text next.want next.reply)))));
    }

part_of : {A W P E : Type 0} (takes : W → Type 0) (step : A → W → List ℤ → P → A → Type 0) (rules : Rules W P E) (who : A)
    (bytes : List ℕ) (frames : List (Option (Want W E))) (rest : List ℕ) (replies : List P) (n : ℕ)
    → Fits takes step rules → Frames rules bytes frames rest → AreRefused rules frames replies
    → n < length (bytes_of_replies rules frames replies) → PartOf step rules who bytes (bytes_of_replies rules frames replies) n
part_of takes step rules who bytes [] rest [] n fits are refused short = absurd (omega (arith, short))
part_of takes step rules who bytes [] rest (reply ∷ replies) n fits are refused short = absurd refused
part_of {W = W} {E = E} takes step rules who bytes (None ∷ frames) rest replies n fits (after, whole, goes, others) refused short =
    let next = part_of takes step rules who after frames rest replies n fits others refused short in
    let first : Option (Want W E) = None in
    record {
      frames = first ∷ next.frames;
      rest = next.rest;
      want = next.want;
      after = next.after;
      are = (after, whole, goes, next.are);
      whole = next.whole;
      replies = next.replies;
      reply = next.reply;
      session = next.session;
      part = next.part;
      short = next.short;
      front = next.front;
    }
part_of takes step rules who bytes (Some want ∷ frames) rest [] n fits are refused short = absurd refused
part_of takes step rules who bytes (Some want ∷ frames) rest (reply ∷ replies) n fits (after, whole, goes, others) refused short =
    part_next step rules who bytes after (bytes_of_replies rules frames replies) want reply n whole goes
    (fits.refused want.asked who reply refused.0)
    (λ m few. part_of takes step rules who after frames rest replies m fits others refused.1 few) short
    (within_or_after (nat_lt n (length (rules.text want reply))) n (length (rules.text want reply)) refl)

pub stops_refusing : {A W P E : Type 0} (takes : W → Type 0) (step : A → W → List ℤ → P → A → Type 0) (rules : Rules W P E)
    (before : Progress A) (written left : Option (List ℕ)) (bytes : List ℕ) (frames : List (Option (Want W E)))
    (rest : List ℕ) (replies : List P) → Fits takes step rules → Frames rules bytes frames rest
    → AreRefused rules frames replies → WritesFront before.written written (bytes_of_replies rules frames replies)
    → AnswersInPart step rules before bytes left (written_so before written)
stops_refusing takes step rules before written left bytes frames rest replies fits are refused front =
    let part = part_of takes step rules before.who bytes frames rest replies front.0 fits are refused front.1 in
    let G : List ℕ → Type 0 = λ l. Grows before.written written l in (
      part.frames,
      part.rest,
      part.want,
      part.are,
      inl (part.after, part.whole),
      record {
        moments = [];
        gives = ClockGives-none before.given;
        replies = part.replies;
        reply = part.reply;
        session = part.session;
        part = part.part;
        short = part.short;
        writes = subst G part.front front.2;
      },
    )
