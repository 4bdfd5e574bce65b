-- What was answered to an input.
use Rattle.std.proofs.Common.{◌≡◌, ℕ, ℤ, List, [], ◌∷◌, ◌++◌, length, Option, None, Some, option_map, inl, inr, refl, sym, ap, ◌∙◌, subst, arith}
use Rattle.lei_outside.specs.Told.{Grows}
use Rattle.request_loop.specs.Frames.{asks_of, bytes_of_replies}
use Rattle.request_loop.specs.Serving.{AnswersToEnd, Progress, Ran}
use Rattle.request_loop.specs.Sessions.{Session}
use Rattle.request_loop.specs.declared.frames.Want.{Want}
use Rattle.request_loop.proofs.FrameLists.{asks_join}
use Rattle.request_loop.proofs.Sessions.{session-length}
use Rattle.line_reading.specs.Lines.{Line}
use Rattle.line_reading.specs.declared.framing.NoEnd.{NoEnd}
use Rattle.query_reading.specs.Inputs.{AnswersInput, AsksInOrder}
use Rattle.query_reading.specs.Meanings.{asked_at_end, line_says}
use Rattle.query_reading.specs.QueryFrames.{IsReadAs, QueryReadsAs, query_rules, query_want}
use Rattle.query_reading.specs.Replies.{all_bytes, query_bytes}
use Rattle.query_reading.specs.declared.asked.QueryAsked.{QueryAsked}
use Rattle.query_reading.specs.declared.refusal.QueryRefusal.TheVariants.{NoMemory}
use Rattle.query_reading.specs.declared.reply.QueryReply.{QueryReply}
use Rattle.query_reading.proofs.Likeness.{Steps}
use Rattle.query_reading.proofs.QueryFronts.{Grammars}

abbrev Frame : Type 0 → Type 0 → Type 0
Frame Q H = Option (Want (QueryAsked Q H) NoEnd)

-- the bytes of the replies to frames are those of the replies
texts_all : {Q H : Type 0} (says : Grammars Q H) (frames : List (Frame Q H)) (replies : List QueryReply)
    → length replies ≡ length (asks_of frames) → bytes_of_replies (query_rules says) frames replies ≡ all_bytes replies
texts_all says [] [] same = refl
texts_all says [] (reply ∷ replies) same = absurd (omega (arith, same))
texts_all says (None ∷ frames) replies same = texts_all says frames replies same
texts_all says (Some want ∷ frames) [] same = absurd (omega (arith, same))
texts_all says (Some want ∷ frames) (reply ∷ replies) same =
    let rest : length replies ≡ length (asks_of frames) = omega (arith, same) in
    ap (λ xs. query_bytes reply ++ xs) (texts_all says frames replies rest)

-- what was read instead of the last is answered as what was meant may be
abbrev pub AnswersAlike : {A Q H : Type 0} → Steps A (QueryAsked Q H) QueryReply → Type 0
AnswersAlike {A} {Q} {H} step = (meant read : QueryAsked Q H) (old new : A) (moments : List ℤ) (reply : QueryReply)
    → QueryReadsAs meant read → step old read moments reply new → step old meant moments reply new

session_meant : {A Q H : Type 0} (step : Steps A (QueryAsked Q H) QueryReply) (old new : A) (asks : List
    (QueryAsked Q H))
    (meant read : QueryAsked Q H) (moments : List ℤ) (replies : List QueryReply) → AnswersAlike step
    → QueryReadsAs meant read
    → Session step old (asks ++ read ∷ []) moments replies new
    → Session step old (asks ++ meant ∷ []) moments replies new
session_meant step old new [] meant read moments [] same reads session = absurd session
session_meant step old new [] meant read moments (reply ∷ replies) same reads
    (given, rest, between, parts, made, others) =
    (given, rest, between, parts, same meant read old between given reply reads made, others)
session_meant step old new (ask ∷ asks) meant read moments [] same reads session = absurd session
session_meant step old new (ask ∷ asks) meant read moments (reply ∷ replies) same reads
    (given, rest, between, parts, made, others) =
    (given, rest, between, parts, made, session_meant step between new asks meant read rest replies same reads others)

answers_by : {A Q H : Type 0} (step : Steps A (QueryAsked Q H) QueryReply) (says : Grammars Q H)
    (start now : Progress A)
    (bytes rest : List ℕ) (line : Line) (frames : List (Frame Q H)) (meant read : Option (QueryAsked Q H))
    → AnswersAlike step → ((asks : List (QueryAsked Q H)) → asks ≡ asks_of (frames ++ option_map query_want meant ∷ [])
    → AsksInOrder says bytes asks) → IsReadAs meant read
    → Ran step (query_rules says) start (frames ++ option_map query_want read ∷ []) now
    → AnswersInput step says start.who start.written bytes now.who now.written
answers_by {A} {Q} {H} step says start now bytes rest line frames meant read same are (inl is) ran =
    let all = frames ++ option_map query_want read ∷ [] in
    let G : List ℕ → Type 0 = λ xs. Grows start.written now.written xs in
    let long = session-length step start.who now.who (asks_of all) ran.moments ran.replies ran.session in
    record {
      asks = asks_of all;
      asks_are = are (asks_of all) (ap (λ r. asks_of (frames ++ option_map query_want r ∷ [])) is);
      moments = ran.moments;
      replies = ran.replies;
      session = ran.session;
      writes = subst G (texts_all says all ran.replies long) ran.writes;
    }
answers_by {A} {Q} {H} step says start now bytes rest line frames meant read same are (inr
    (asked, is, takes, refused)) ran =
    let none : QueryAsked Q H = QueryAsked.Refuse NoMemory in
    let all = frames ++ option_map query_want read ∷ [] in
    let G : List ℕ → Type 0 = λ xs. Grows start.written now.written xs in
    let S : List (QueryAsked Q H) → Type 0 = λ xs. Session step start.who xs ran.moments ran.replies now.who in
    let long = session-length step start.who now.who (asks_of all) ran.moments ran.replies ran.session in
    let last : asks_of all ≡ asks_of frames ++ none ∷ [] = ap (λ r. asks_of
    (frames ++ option_map query_want r ∷ [])) refused
    ∙ asks_join frames (Some (query_want none) ∷ []) in
    let asks_are : asks_of frames ++ asked ∷ [] ≡ asks_of (frames ++ option_map query_want meant ∷ []) =
    sym (ap (λ r. asks_of (frames ++ option_map query_want r ∷ [])) is ∙ asks_join frames (Some (query_want asked) ∷ [])) in
    record {
      asks = asks_of frames ++ asked ∷ [];
      asks_are = are (asks_of frames ++ asked ∷ []) asks_are;
      moments = ran.moments;
      replies = ran.replies;
      session = session_meant step start.who now.who (asks_of frames) asked none ran.moments ran.replies same
          (takes, refl)
          (subst S last ran.session);
      writes = subst G (texts_all says all ran.replies long) ran.writes;
    }

pub answers_input : {A Q H : Type 0} (step : Steps A (QueryAsked Q H) QueryReply) (says : Grammars Q H)
    (start now : Progress A) (bytes : List ℕ) → AnswersAlike step → AnswersToEnd step (query_rules says) start bytes now
    → AnswersInput step says start.who start.written bytes now.who now.written
answers_input {A} {Q} {H} step says start now bytes same
    (frames, rest, frame, are, begun, (read, (line, first, reads), frame_is), ran) =
    let meant = asked_at_end (line_says says line) in
    let R : Frame Q H → Type 0 = λ f. Ran step (query_rules says) start (frames ++ f ∷ []) now in
    answers_by step says start now bytes rest line frames meant read same
    (λ asks is. record {
      frames = frames;
      rest = rest;
      line = line;
      are = are;
      begun = begun;
      line_is = first;
      asks_are = is;
    }) reads (subst R frame_is ran)
