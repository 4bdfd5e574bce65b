-- What was answered, and what was answered after it.
use Rattle.std.proofs.Common.{◌≡◌, ◌⊎◌, inl, inr, ℕ, ℤ, List, [], ◌∷◌, ◌++◌, length, take, Option, None, Some, Result, Ok, Err, refl, sym, ap, ◌∙◌, subst, append_assoc}
use Rattle.std.proofs.lemmas.List.{append-nil}
use Rattle.lei_outside.specs.Told.{Grows, WritesFront}
use Rattle.lei_outside.specs.declared.faults.SinkFault.{SinkFault}
use Rattle.lei_outside.proofs.Told.{Grows-none, Grows-join}
use Rattle.request_loop.specs.Frames.{Fits, IsMeant, Rules, asks_of, bytes_of_replies}
use Rattle.request_loop.specs.Serving.{AnswersWant, Progress, Ran, Stopped}
use Rattle.request_loop.specs.Sessions.{Session}
use Rattle.request_loop.specs.Wires.{IsSent}
use Rattle.request_loop.specs.declared.frames.Want.{Want}
use Rattle.request_loop.proofs.FrameLists.{asks_join, texts_join}
use Rattle.request_loop.proofs.Giving.{ClockGives-none, ClockGives-join}
use Rattle.request_loop.proofs.Sessions.{session-join, session-length, session-one}

-- each frame that asks something has its reply
pub replies-of : {A W P E : Type 0} (step : A → W → List ℤ → P → A → Type 0) (rules : Rules W P E) (start : Progress A)
    (frames : List (Option (Want W E))) (now : Progress A) → (ran : Ran step rules start frames now)
    → length ran.replies ≡ length (asks_of frames)
replies-of step rules start frames now ran =
    session-length step start.who now.who (asks_of frames) ran.moments ran.replies ran.session

-- a session of what frames ask, and then of what more frames ask
session-frames : {A W P E : Type 0} (step : A → W → List ℤ → P → A → Type 0) (old mid new : A)
    (frames more : List (Option (Want W E))) (xs ys : List ℤ) (replies others : List P)
    → Session step old (asks_of frames) xs replies mid → Session step mid (asks_of more) ys others new
    → Session step old (asks_of (frames ++ more)) (xs ++ ys) (replies ++ others) new
session-frames {W = W} step old mid new frames more xs ys replies others first second =
    let S : List W → Type 0 = λ asks. Session step old asks (xs ++ ys) (replies ++ others) new in
    subst S (sym (asks_join frames more))
    (session-join step old mid new (asks_of frames) (asks_of more) xs ys replies others first second)

pub ran_nothing : {A W P E : Type 0} (step : A → W → List ℤ → P → A → Type 0) (rules : Rules W P E) (at : Progress A)
    → Ran step rules at [] at
ran_nothing step rules at = record {
  moments = [];
  gives = ClockGives-none at.given;
  replies = [];
  session = (refl, refl);
  writes = Grows-none at.written;
}

pub ran_join : {A W P E : Type 0} (step : A → W → List ℤ → P → A → Type 0) (rules : Rules W P E)
    (start mid now : Progress A) (frames more : List (Option (Want W E))) → Ran step rules start frames mid
    → Ran step rules mid more now → Ran step rules start (frames ++ more) now
ran_join step rules start mid now frames more first second =
    let G : List ℕ → Type 0 = λ bytes. Grows start.written now.written bytes in
    record {
      moments = first.moments ++ second.moments;
      gives = ClockGives-join start.given mid.given now.given first.moments second.moments first.gives second.gives;
      replies = first.replies ++ second.replies;
      session = session-frames step start.who mid.who now.who frames more first.moments second.moments first.replies
          second.replies first.session second.session;
      writes = subst G
          (sym (texts_join rules frames more first.replies second.replies (replies-of step rules start frames mid first)))
          (Grows-join start.written mid.written now.written (bytes_of_replies rules frames first.replies)
          (bytes_of_replies rules more second.replies) first.writes second.writes);
    }

-- a frame that wants nothing
pub ran_none : {A W P E : Type 0} (step : A → W → List ℤ → P → A → Type 0) (rules : Rules W P E) (before after : Progress A)
    → after ≡ before → Ran step rules before (None ∷ []) after
ran_none {A} step rules before after same =
    let R : Progress A → Type 0 = λ now. Ran step rules before (None ∷ []) now in
    subst R (sym same) (record {
      moments = [];
      gives = ClockGives-none before.given;
      replies = [];
      session = (refl, refl);
      writes = Grows-none before.written;
    })

-- a reply that was written in full
pub ran_one : {A W P E : Type 0} (step : A → W → List ℤ → P → A → Type 0) (rules : Rules W P E) (before after : Progress A)
    (want : Want W E) (done : Unit {0}) → AnswersWant step rules before want (Ok done) after
    → Ran step rules before (Some want ∷ []) after
ran_one step rules before after want done answered =
    let G : List ℕ → Type 0 = λ bytes. Grows before.written after.written bytes in
    record {
      moments = answered.moments;
      gives = answered.gives;
      replies = answered.reply ∷ [];
      session = session-one step before.who after.who want.asked answered.moments answered.reply answered.made;
      writes = subst G (sym (append-nil (rules.text want answered.reply))) answered.writes;
    }

-- a reply of which only a prefix was written
pub stopped_one : {A W P E : Type 0} (step : A → W → List ℤ → P → A → Type 0) (rules : Rules W P E)
    (before after : Progress A) (want : Want W E) (fault : SinkFault) → AnswersWant step rules before want (Err fault) after
    → Stopped step rules before [] want after
stopped_one step rules before after want fault answered =
    let front : WritesFront before.written after.written (rules.text want answered.reply) = answered.writes in
    record {
      moments = answered.moments;
      gives = answered.gives;
      replies = [];
      reply = answered.reply;
      session = session-one step before.who after.who want.asked answered.moments answered.reply answered.made;
      part = front.0;
      short = front.1;
      writes = front.2;
    }

pub stopped_join : {A W P E : Type 0} (step : A → W → List ℤ → P → A → Type 0) (rules : Rules W P E)
    (start mid now : Progress A) (frames more : List (Option (Want W E))) (want : Want W E)
    → Ran step rules start frames mid → Stopped step rules mid more want now
    → Stopped step rules start (frames ++ more) want now
stopped_join {A} {W} {P} {E} step rules start mid now frames more want first second =
    let before = bytes_of_replies rules frames first.replies in
    let tail = take second.part (rules.text want second.reply) in
    let moments = first.moments ++ second.moments in
    let last : List (Option (Want W E)) = Some want ∷ [] in
    let G : List ℕ → Type 0 = λ bytes. Grows start.written now.written bytes in
    let S : List (Option (Want W E)) → Type 0 = λ fs.
    Session step start.who (asks_of fs) moments ((first.replies ++ second.replies) ++ second.reply ∷ []) now.who in
    let T : List P → Type 0 = λ rs. Session step start.who (asks_of (frames ++ (more ++ last))) moments rs now.who in
    let same = replies-of step rules start frames mid first in
    record {
      moments = moments;
      gives = ClockGives-join start.given mid.given now.given first.moments second.moments first.gives second.gives;
      replies = first.replies ++ second.replies;
      reply = second.reply;
      session = subst S (sym (append_assoc frames more last))
          (subst T (sym (append_assoc first.replies second.replies (second.reply ∷ [])))
          (session-frames step start.who mid.who now.who frames (more ++ last) first.moments second.moments first.replies
          (second.replies ++ second.reply ∷ []) first.session second.session));
      part = second.part;
      short = second.short;
      writes = subst G
          (sym (append_assoc before (bytes_of_replies rules more second.replies) tail)
          ∙ ap (λ (bytes : List ℕ). bytes ++ tail) (sym (texts_join rules frames more first.replies second.replies same)))
          (Grows-join start.written mid.written now.written before (bytes_of_replies rules more second.replies ++ tail)
          first.writes second.writes);
    }

-- ---- what was read instead of what was meant

step_meant : {A W P E : Type 0} (takes : W → Type 0) (step : A → W → List ℤ → P → A → Type 0) (rules : Rules W P E)
    (old new : A) (meant read : W) (moments : List ℤ) (reply : P) → Fits takes step rules
    → (read ≡ meant) ⊎ rules.reads_as meant read → step old read moments reply new → step old meant moments reply new
step_meant {W = W} takes step rules old new meant read moments reply fits (inl same) made =
    let S : W → Type 0 = λ asked. step old asked moments reply new in subst S same made
step_meant takes step rules old new meant read moments reply fits (inr reads) made =
    fits.same meant read old new moments reply reads made

pub answers_meant : {A W P E : Type 0} (takes : W → Type 0) (step : A → W → List ℤ → P → A → Type 0) (rules : Rules W P E)
    (before after : Progress A) (meant read : Want W E) (sent : Result (Unit {0}) SinkFault) → Fits takes step rules
    → IsMeant rules meant read → AnswersWant step rules before read sent after
    → AnswersWant step rules before meant sent after
answers_meant takes step rules before after meant read sent fits is answered =
    let S : List ℕ → Type 0 = λ bytes. IsSent before.written after.written bytes sent in
    record {
      moments = answered.moments;
      gives = answered.gives;
      reply = answered.reply;
      made = step_meant takes step rules before.who after.who meant.asked read.asked answered.moments answered.reply fits
          is.asked answered.made;
      writes = subst S (is.text answered.reply) answered.writes;
    }
