-- If frames that are lines were served, the lines were answered.
use Rattle.std.proofs.Common.{◌≡◌, ◌⊎◌, ◌<◌, ℕ, ℤ, List, [], ◌∷◌, ◌++◌, length, take, Bool, true, false, cond, eqb, Option, None, Some, inl, inr, refl, sym, ap, ◌∙◌, subst, append_assoc, arith, length-append}
use Rattle.std.proofs.lemmas.List.{append-nil}
use Rattle.std.proofs.Math.Seq.{take-length}
use Rattle.std.specs.Str.Lines.{lines}
use Rattle.lei_outside.specs.Told.{Grows, IsAtEnd}
use Rattle.register_words.specs.Readings.{MayWantMemory, ReadsAs}
use Rattle.register_words.specs.declared.reply.Refusal.TheVariants.{NoMemory}
use Rattle.register_words.specs.declared.reply.Reply.{Reply}
use Rattle.register_words.specs.declared.request.Asked.{Asked}
use Rattle.register_words.specs.declared.request.Asked.TheVariants.{Refuse}
use Rattle.request_loop.specs.Frames.{Frames, GoesOn, asks_of, bytes_of_replies}
use Rattle.request_loop.specs.Serving.{AnswersAll, AnswersInPart, AnswersToEnd, Progress, Ran, Stopped}
use Rattle.request_loop.specs.Sessions.{Session}
use Rattle.request_loop.specs.declared.frames.Want.{Want}
use Rattle.request_loop.proofs.FrameLists.{asks_join, frames_join, frames_one}
use Rattle.request_loop.proofs.Sessions.{session-length}
use Rattle.line_reading.specs.Lines.{HasNoEnd, IsClosed, IsCutAtEnd, Line, last_part, line_of, whole_part}
use Rattle.line_reading.specs.LineFrames.{IsReadOf, line_rules, want_for, want_of_line}
use Rattle.line_reading.specs.LineRuns.{AnsweredFront, AnsweredLines, AreTextsOf, asks_of_lines}
use Rattle.line_reading.specs.Replies.{reply_text, reply_texts}
use Rattle.line_reading.specs.Requests.{line_asks}
use Rattle.line_reading.specs.declared.framing.NoEnd.{NoEnd}
use Rattle.line_reading.proofs.LineFronts.{text_same}
use Rattle.line_reading.proofs.LineLemmas.{HasNoEnd-last_part, IsClosed-append, IsClosed-whole_part, lines-closed, lines-end, lines-first, parts_of, whole_part-is}
use Rattle.line_reading.proofs.Lined.{Frame, goes_on, wants_asked}

-- ---- what lines ask, and what their frames ask

asks_of_lines-append : (xs ys : List Line) → asks_of_lines (xs ++ ys) ≡ asks_of_lines xs ++ asks_of_lines ys
asks_of_lines-append [] ys = refl
asks_of_lines-append (line ∷ xs) ys =
    elim (eqb (length line) 0)
    as (λ b. cond b (asks_of_lines (xs ++ ys)) (line_asks line ∷ asks_of_lines (xs ++ ys)) ≡ cond b (asks_of_lines xs)
    (line_asks line ∷ asks_of_lines xs) ++ asks_of_lines ys) [
      | true ↦ asks_of_lines-append xs ys
      | false ↦ ap (λ asks. line_asks line ∷ asks) (asks_of_lines-append xs ys)
    ]

asks_first : (is_empty : Bool) (line : Line) (asks : List Asked) (frames : List Frame) → asks ≡ asks_of frames
    → cond is_empty asks (line_asks line ∷ asks) ≡ asks_of (cond is_empty None (Some (want_for (line_asks line))) ∷ frames)
asks_first true line asks frames same = same
asks_first false line asks frames same = ap (λ xs. line_asks line ∷ xs) same

asks_last : (is_empty : Bool) (line : Line) → eqb (length line) 0 ≡ is_empty
    → asks_of_lines (cond is_empty [] (line ∷ [])) ≡ asks_of (cond is_empty None (Some (want_for (line_asks line))) ∷ [])
asks_last true line is = refl
asks_last false line is = ap (λ (b : Bool). cond b [] (line_asks line ∷ [])) is

-- frames at the front of the bytes are whole lines
record Lined (bytes : List ℕ) (frames : List Frame) (rest : List ℕ) : Type 0 where
  front : List ℕ
  parts : bytes ≡ front ++ rest
  closed : IsClosed front
  asks : asks_of_lines (lines front) ≡ asks_of frames

lined : (frames : List Frame) (bytes rest : List ℕ) → Frames line_rules bytes frames rest → Lined bytes frames rest
lined [] bytes rest is = record { front = []; parts = is; closed = inl refl; asks = refl }
lined (frame ∷ frames) bytes rest is =
    let line = is.1.0 in
    let ends = is.1.1 in
    let more = lined frames is.0 rest is.3 in
    let whole = line ++ 10 ∷ [] in
    let first : lines (whole ++ more.front) ≡ line_of line ∷ lines more.front =
    ap lines (append_assoc line (10 ∷ []) more.front) ∙ lines-first line more.front ends.none in
    record {
      front = whole ++ more.front;
      parts = ends.parts ∙ (ap (λ xs. whole ++ xs) more.parts ∙ sym (append_assoc whole more.front rest));
      closed = IsClosed-append whole more.front (inr (line, refl)) more.closed;
      asks = ap asks_of_lines first
          ∙ (asks_first (eqb (length (line_of line)) 0) (line_of line) (asks_of_lines (lines more.front)) frames more.asks
          ∙ ap (λ f. asks_of (f ∷ frames)) (sym is.1.2));
    }

-- these are the lines that have ended, if no line of the rest has
lines-whole : (bytes front rest : List ℕ) → bytes ≡ front ++ rest → IsClosed front → HasNoEnd rest
    → lines (whole_part bytes) ≡ lines front
lines-whole bytes front rest parts closed none = ap (λ xs. lines (whole_part xs)) parts
    ∙ ap lines (whole_part-is front rest closed none)

-- otherwise they precede those of the rest
whole_part-after : (front rest : List ℕ) → IsClosed front → whole_part (front ++ rest) ≡ front ++ whole_part rest
whole_part-after front rest closed =
    ap (λ xs. whole_part (front ++ xs)) (sym (parts_of rest))
    ∙ (ap whole_part (sym (append_assoc front (whole_part rest) (last_part rest)))
    ∙ whole_part-is (front ++ whole_part rest) (last_part rest)
    (IsClosed-append front (whole_part rest) closed (IsClosed-whole_part rest)) (HasNoEnd-last_part rest))

lines-after : (bytes front rest : List ℕ) → bytes ≡ front ++ rest → IsClosed front
    → lines (whole_part bytes) ≡ lines front ++ lines (whole_part rest)
lines-after bytes front rest parts closed =
    ap (λ xs. lines (whole_part xs)) parts
    ∙ (ap lines (whole_part-after front rest closed) ∙ lines-closed front (whole_part rest) closed)

-- with the last line they are all lines
asks_to_end : (bytes rest : List ℕ) (frames : List Frame) → Lined bytes frames rest → HasNoEnd rest
    → asks_of_lines (lines bytes) ≡ asks_of (frames ++ want_of_line rest ∷ [])
asks_to_end bytes rest frames is none =
    let last = cond (eqb (length rest) 0) [] (rest ∷ []) in
    ap (λ xs. asks_of_lines (lines xs)) is.parts
    ∙ (ap asks_of_lines (lines-end is.front rest is.closed none)
    ∙ (asks_of_lines-append (lines is.front) last
    ∙ (ap (λ xs. xs ++ asks_of_lines last) is.asks
    ∙ (ap (λ xs. asks_of frames ++ xs) (asks_last (eqb (length rest) 0) rest refl)
    ∙ sym (asks_join frames (want_of_line rest ∷ []))))))

-- ---- the texts of replies

texts_are : (frames : List Frame) (replies : List Reply) → bytes_of_replies line_rules frames replies ≡ reply_texts (asks_of frames) replies
texts_are [] replies = refl
texts_are (None ∷ frames) replies = texts_are frames replies
texts_are (Some want ∷ frames) [] = refl
texts_are (Some want ∷ frames) (reply ∷ replies) = ap (λ xs. reply_text want.asked reply ++ xs) (texts_are frames replies)

none_written : (asks : List Asked) (written : List ℕ) → AreTextsOf asks [] written → written ≡ []
none_written [] written texts = texts
none_written (ask ∷ asks) written texts = texts

-- a whole text, followed by the texts of more replies
AreTextsOf-next : (ask : Asked) (asks : List Asked) (reply : Reply) (replies : List Reply) (written : List ℕ)
    → AreTextsOf asks replies written → AreTextsOf (ask ∷ asks) (reply ∷ replies) (reply_text ask reply ++ written)
AreTextsOf-next ask asks reply [] written texts = (
  length (reply_text ask reply),
  ap (λ xs. reply_text ask reply ++ xs) (none_written asks written texts)
      ∙ (append-nil (reply_text ask reply) ∙ sym (take-length (reply_text ask reply))),
)
AreTextsOf-next ask asks reply (next ∷ replies) written texts = (written, refl, texts)

whole_texts : (asks : List Asked) (replies : List Reply) → AreTextsOf asks replies (reply_texts asks replies)
whole_texts [] replies = refl
whole_texts (ask ∷ asks) [] = refl
whole_texts (ask ∷ asks) (reply ∷ replies) =
    AreTextsOf-next ask asks reply replies (reply_texts asks replies) (whole_texts asks replies)

-- the same with only a prefix of the last text
cut_texts : (asks : List Asked) (ask : Asked) (replies : List Reply) (reply : Reply) (n : ℕ) → length asks ≡ length replies
    → AreTextsOf (asks ++ ask ∷ []) (replies ++ reply ∷ []) (reply_texts asks replies ++ take n (reply_text ask reply))
cut_texts [] ask [] reply n same = (n, refl)
cut_texts [] ask (other ∷ replies) reply n same = absurd (omega (arith, same))
cut_texts (first ∷ asks) ask [] reply n same = absurd (omega (arith, same))
cut_texts (first ∷ asks) ask (other ∷ replies) reply n same =
    let T : List ℕ → Type 0 = λ xs. AreTextsOf (first ∷ (asks ++ ask ∷ [])) (other ∷ (replies ++ reply ∷ [])) xs in
    let front = take n (reply_text ask reply) in
    subst T (sym (append_assoc (reply_text first other) (reply_texts asks replies) front))
    (AreTextsOf-next first (asks ++ ask ∷ []) other (replies ++ reply ∷ []) (reply_texts asks replies ++ front)
    (cut_texts asks ask replies reply n (omega (arith, same))))

-- ---- all whole lines were answered

abbrev pub Steps : Type 0 → Type 1
Steps A = A → Asked → List ℤ → Reply → A → Type 0

ran_lines : {A : Type 0} (step : Steps A) (start now : Progress A) (frames : List Frame) (all : List Line)
    → asks_of_lines all ≡ asks_of frames → Ran step line_rules start frames now → AnsweredLines step start all now
ran_lines step start now frames all same ran =
    let S : List Asked → Type 0 = λ asks. Session step start.who asks ran.moments ran.replies now.who in
    let G : List ℕ → Type 0 = λ texts. Grows start.written now.written texts in
    record {
      moments = ran.moments;
      gives = ran.gives;
      replies = ran.replies;
      session = subst S (sym same) ran.session;
      writes = subst G (texts_are frames ran.replies ∙ ap (λ asks. reply_texts asks ran.replies) (sym same)) ran.writes;
    }

pub answered_all : {A : Type 0} (step : Steps A) (start now : Progress A) (bytes : List ℕ)
    → AnswersAll step line_rules start bytes now → AnsweredLines step start (lines (whole_part bytes)) now
answered_all step start now bytes (rest, (frames, are, ran), none) =
    let is = lined frames bytes rest are in
    ran_lines step start now frames (lines (whole_part bytes))
    (ap asks_of_lines (lines-whole bytes is.front rest is.parts is.closed none) ∙ is.asks) ran

-- ---- what a last line means for which there was no memory

abbrev pub SameSteps : {A : Type 0} → Steps A → Type 0
SameSteps {A} step = (meant read : Asked) (old new : A) (moments : List ℤ) (reply : Reply) → ReadsAs meant read
    → step old read moments reply new → step old meant moments reply new

session_meant : {A : Type 0} (step : Steps A) (old new : A) (asks : List Asked) (meant read : Asked) (moments : List ℤ)
    (replies : List Reply) → SameSteps step → ReadsAs meant read → Session step old (asks ++ read ∷ []) moments replies new
    → Session step old (asks ++ meant ∷ []) moments replies new
session_meant step old new [] meant read moments [] same reads session = absurd session
session_meant step old new [] meant read moments (reply ∷ replies) same reads session = (
  session.0,
  session.1,
  session.2,
  session.3,
  same meant read old session.2 session.0 reply reads session.4,
  session.5,
)
session_meant step old new (ask ∷ asks) meant read moments [] same reads session = absurd session
session_meant step old new (ask ∷ asks) meant read moments (reply ∷ replies) same reads session = (
  session.0,
  session.1,
  session.2,
  session.3,
  session.4,
  session_meant step session.2 new asks meant read session.1 replies same reads session.5,
)

abbrev no_memory : Frame
no_memory = Some (want_for (Refuse NoMemory))

texts_meant : (frames : List Frame) (what : Asked) (replies : List Reply) → MayWantMemory what
    → bytes_of_replies line_rules (frames ++ no_memory ∷ []) replies ≡ bytes_of_replies line_rules (frames ++ Some (want_for what) ∷ []) replies
texts_meant [] what [] wants = refl
texts_meant [] what (reply ∷ replies) wants = ap (λ xs. xs ++ []) (text_same what reply wants)
texts_meant (None ∷ frames) what replies wants = texts_meant frames what replies wants
texts_meant (Some want ∷ frames) what [] wants = refl
texts_meant (Some want ∷ frames) what (reply ∷ replies) wants =
    ap (λ xs. reply_text want.asked reply ++ xs) (texts_meant frames what replies wants)

asks_meant : {A : Type 0} (step : Steps A) (old new : A) (frames : List Frame) (what : Asked) (moments : List ℤ) (replies : List Reply)
    → SameSteps step → MayWantMemory what → Session step old (asks_of (frames ++ no_memory ∷ [])) moments replies new
    → Session step old (asks_of (frames ++ Some (want_for what) ∷ [])) moments replies new
asks_meant step old new frames what moments replies same wants session =
    let S : List Asked → Type 0 = λ asks. Session step old asks moments replies new in
    subst S (sym (asks_join frames (Some (want_for what) ∷ [])))
    (session_meant step old new (asks_of frames) what (Refuse NoMemory) moments replies same (wants, refl)
    (subst S (asks_join frames (no_memory ∷ [])) session))

ran_meant : {A : Type 0} (step : Steps A) (start now : Progress A) (frames : List Frame) (what : Asked) → SameSteps step
    → MayWantMemory what → Ran step line_rules start (frames ++ no_memory ∷ []) now
    → Ran step line_rules start (frames ++ Some (want_for what) ∷ []) now
ran_meant step start now frames what same wants ran =
    let G : List ℕ → Type 0 = λ texts. Grows start.written now.written texts in
    record {
      moments = ran.moments;
      gives = ran.gives;
      replies = ran.replies;
      session = asks_meant step start.who now.who frames what ran.moments ran.replies same wants ran.session;
      writes = subst G (texts_meant frames what ran.replies wants) ran.writes;
    }

ran_to_end : {A : Type 0} (step : Steps A) (start now : Progress A) (frames : List Frame) (rest : List ℕ) (frame : Frame)
    → SameSteps step → IsReadOf rest frame → Ran step line_rules start (frames ++ frame ∷ []) now
    → Ran step line_rules start (frames ++ want_of_line rest ∷ []) now
ran_to_end step start now frames rest frame same (inl is) ran =
    let R : Frame → Type 0 = λ f. Ran step line_rules start (frames ++ f ∷ []) now in
    subst R is ran
ran_to_end step start now frames rest frame same (inr read) ran =
    let R : Frame → Type 0 = λ f. Ran step line_rules start (frames ++ f ∷ []) now in
    subst R (sym (wants_asked rest read.0)) (ran_meant step start now frames (line_asks rest) same read.1 (subst R read.2 ran))

pub answered_to_end : {A : Type 0} (step : Steps A) (start now : Progress A) (bytes : List ℕ) → SameSteps step
    → AnswersToEnd step line_rules start bytes now → AnsweredLines step start (lines bytes) now
answered_to_end step start now bytes same (frames, rest, frame, are, none, ends, ran) =
    ran_lines step start now (frames ++ want_of_line rest ∷ []) (lines bytes)
    (asks_to_end bytes rest frames (lined frames bytes rest are) none)
    (ran_to_end step start now frames rest frame same ends ran)

-- ---- a prefix of the lines was answered

stopped_front : {A : Type 0} (step : Steps A) (start now : Progress A) (frames : List Frame) (want : Want Asked NoEnd)
    (all front rest : List Line) → all ≡ front ++ rest → asks_of_lines front ≡ asks_of (frames ++ Some want ∷ [])
    → Stopped step line_rules start frames want now → AnsweredFront step start all now
stopped_front step start now frames want all front rest parts same stop =
    let replies = stop.replies ++ stop.reply ∷ [] in
    let asks = asks_of frames in
    let part = take stop.part (reply_text want.asked stop.reply) in
    let S : List Asked → Type 0 = λ xs. Session step start.who xs stop.moments replies now.who in
    let T : List Asked → Type 0 = λ xs. AreTextsOf xs replies (reply_texts asks stop.replies ++ part) in
    let G : List ℕ → Type 0 = λ texts. Grows start.written now.written (texts ++ part) in
    let is : asks_of_lines front ≡ asks ++ want.asked ∷ [] = same ∙ asks_join frames (Some want ∷ []) in
    let long = session-length step start.who now.who (asks_of (frames ++ Some want ∷ [])) stop.moments replies stop.session in
    let asks_long : length (asks_of (frames ++ Some want ∷ [])) ≡ length (asks ++ want.asked ∷ []) =
    ap length (asks_join frames (Some want ∷ [])) in
    let equal : length asks ≡ length stop.replies = omega
    (arith, long, asks_long, length-append asks (want.asked ∷ []), length-append stop.replies (stop.reply ∷ [])) in
    record {
      front = front;
      rest = rest;
      parts = parts;
      moments = stop.moments;
      gives = stop.gives;
      replies = replies;
      session = subst S (sym same) stop.session;
      texts = reply_texts asks stop.replies ++ part;
      are_texts = subst T (sym is) (cut_texts asks want.asked stop.replies stop.reply stop.part equal);
      writes = subst G (texts_are frames stop.replies) stop.writes;
    }

-- a prefix of the lines that have ended
stopped_whole : {A : Type 0} (step : Steps A) (start now : Progress A) (bytes rest after : List ℕ) (frames : List Frame)
    (want : Want Asked NoEnd) (part : List ℕ) → Frames line_rules bytes frames rest → IsCutAtEnd rest part after
    → Some want ≡ want_of_line (line_of part) → Stopped step line_rules start frames want now
    → AnsweredFront step start (lines (whole_part bytes)) now
stopped_whole step start now bytes rest after frames want part are ends is stop =
    let goes = let P : Frame → Type 0 = λ f. GoesOn f in subst P (sym is) (goes_on (line_of part)) in
    let all = frames_join line_rules bytes rest frames (Some want ∷ []) after are
    (frames_one line_rules rest (Some want) after (part, ends, is) goes) in
    let front = lined (frames ++ Some want ∷ []) bytes after all in
    stopped_front step start now frames want (lines (whole_part bytes)) (lines front.front) (lines (whole_part after))
    (lines-after bytes front.front after front.parts front.closed) front.asks stop

stop_meant : {A : Type 0} (step : Steps A) (start now : Progress A) (frames : List Frame) (what : Asked) (want : Want Asked NoEnd)
    → SameSteps step → MayWantMemory what → Some want ≡ no_memory → Stopped step line_rules start frames want now
    → Stopped step line_rules start frames (want_for what) now
stop_meant {A} step start now frames what want same wants is stop =
    let F : Want Asked NoEnd → Type 0 = λ w. Stopped step line_rules start frames w now in
    let read : want ≡ want_for (Refuse NoMemory) = cc in
    let then = subst F read stop in
    let text = text_same what then.reply wants in
    let L : List ℕ → Type 0 = λ xs. then.part < length xs in
    let G : List ℕ → Type 0 = λ xs. Grows start.written now.written
    (bytes_of_replies line_rules frames then.replies ++ take then.part xs) in
    record {
      moments = then.moments;
      gives = then.gives;
      replies = then.replies;
      reply = then.reply;
      session = asks_meant step start.who now.who frames what then.moments (then.replies ++ then.reply ∷ []) same wants
          then.session;
      part = then.part;
      short = subst L text then.short;
      writes = subst G text then.writes;
    }

-- a prefix of all lines, if the input has ended
stopped_last : {A : Type 0} (step : Steps A) (start now : Progress A) (bytes rest : List ℕ) (frames : List Frame)
    (want : Want Asked NoEnd) → SameSteps step → Frames line_rules bytes frames rest → HasNoEnd rest → IsReadOf rest (Some want)
    → Stopped step line_rules start frames want now → AnsweredFront step start (lines bytes) now
stopped_last step start now bytes rest frames want same are none (inl is) stop =
    let asks = asks_to_end bytes rest frames (lined frames bytes rest are) none
    ∙ ap (λ f. asks_of (frames ++ f ∷ [])) (sym is) in
    stopped_front step start now frames want (lines bytes) (lines bytes) [] (sym (append-nil (lines bytes))) asks stop
stopped_last step start now bytes rest frames want same are none (inr read) stop =
    let what = line_asks rest in
    let asks = asks_to_end bytes rest frames (lined frames bytes rest are) none
    ∙ ap (λ f. asks_of (frames ++ f ∷ [])) (wants_asked rest read.0) in
    stopped_front step start now frames (want_for what) (lines bytes) (lines bytes) [] (sym (append-nil (lines bytes))) asks
    (stop_meant step start now frames what want same read.1 read.2 stop)

-- a prefix of the lines that have ended was answered, or a prefix of all lines if the input has ended
abbrev pub AnsweredSome : {A : Type 0} → Steps A → Progress A → List ℕ → Option (List ℕ) → Progress A → Type 0
AnsweredSome step start bytes left now =
    AnsweredFront step start (lines (whole_part bytes)) now
    ⊎ (IsAtEnd left × AnsweredFront step start (lines bytes) now)

pub answered_in_part : {A : Type 0} (step : Steps A) (start now : Progress A) (bytes : List ℕ) (left : Option (List ℕ))
    → SameSteps step → AnswersInPart step line_rules start bytes left now → AnsweredSome step start bytes left now
answered_in_part step start now bytes left same (frames, rest, want, are, inl (after, (part, ends, is)), stop) =
    inl (stopped_whole step start now bytes rest after frames want part are ends is stop)
answered_in_part step start now bytes left same (frames, rest, want, are, inr (ended, none, last), stop) =
    inr (ended, stopped_last step start now bytes rest frames want same are none last stop)

-- if all lines were answered, a prefix of them was
pub all_front : {A : Type 0} (step : Steps A) (start now : Progress A) (all : List Line) → AnsweredLines step start all now
    → AnsweredFront step start all now
all_front step start now all answered =
    record {
      front = all;
      rest = [];
      parts = sym (append-nil all);
      moments = answered.moments;
      gives = answered.gives;
      replies = answered.replies;
      session = answered.session;
      texts = reply_texts (asks_of_lines all) answered.replies;
      are_texts = whole_texts (asks_of_lines all) answered.replies;
      writes = answered.writes;
    }
