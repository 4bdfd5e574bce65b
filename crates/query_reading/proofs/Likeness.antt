-- What was served, as it is for another answerer that acts alike.
use Rattle.std.proofs.Common.{ℕ, ℤ, List, [], ◌∷◌, ◌++◌, inl, inr, Option, None, Some, refl, sym, subst}
use Rattle.request_loop.specs.Frames.{Rules, asks_of}
use Rattle.request_loop.specs.Moments.{ClockGives}
use Rattle.request_loop.specs.Serving.{AnswersAll, AnswersInPart, Completes, EndsWith, Progress, Ran, Serves, Stopped, progress}
use Rattle.request_loop.specs.Sessions.{Session}
use Rattle.request_loop.specs.declared.frames.Ended.{Ended}
use Rattle.request_loop.specs.declared.frames.Want.{Want}

-- steps of an answerer
abbrev pub Steps : Type 0 → Type 0 → Type 0 → Type 1
Steps A W P = A → W → List ℤ → P → A → Type 0

-- whatever is like the state before a step goes, by its own step, to what is like the state after it
abbrev pub DoesAlike : {A B W P : Type 0} → Steps A W P → (B → A → Type 0) → Steps B W P → Type 0
DoesAlike {A} {B} {W} {P} step like other =
    (old new : A) (ask : W) (moments : List ℤ) (reply : P) (own : B) → like own old → step old ask moments reply new
    → (next : B) × like next new × other own ask moments reply next

session_alike : {A B W P : Type 0} (step : Steps A W P) (like : B → A → Type 0) (other : Steps B W P)
    → DoesAlike step like other → (old new : A) (own : B) (asks : List W) (moments : List ℤ) (replies : List P)
    → like own old → Session step old asks moments replies new
    → (next : B) × like next new × Session other own asks moments replies next
session_alike {A} step like other alike old new own [] moments [] is session =
    let L : A → Type 0 = λ who. like own who in
    (own, subst L (sym session.1) is, (session.0, refl))
session_alike step like other alike old new own [] moments (reply ∷ replies) is session = absurd session
session_alike step like other alike old new own (ask ∷ asks) moments [] is session = absurd session
session_alike step like other alike old new own (ask ∷ asks) moments (reply ∷ replies) is
    (given, rest, between, parts, made, others) =
    let first = alike old between ask given reply own is made in
    let more = session_alike step like other alike between new first.0 asks rest replies first.1 others in
    (more.0, more.1, (given, rest, first.0, parts, first.2, more.2))

-- moments of a clock that tells nothing
untold : (before after : Option (List ℤ)) (moments : List ℤ) → ClockGives before after moments
    → ClockGives None None moments
untold before after moments gives = record { told = tt; range = gives.range }

-- the progress of the other, whose clock tells nothing
abbrev pub progress_like : {A B : Type 0} → B → Progress A → Progress B
progress_like own at = progress own None at.written

ran_alike : {A B W P E : Type 0} (step : Steps A W P) (like : B → A
    → Type 0) (other : Steps B W P) (rules : Rules W P E)
    → DoesAlike step like other → (start now : Progress A) (own : B) (frames : List (Option (Want W E)))
    → like own start.who → Ran step rules start frames now
    → (next : B) × like next now.who × Ran other rules (progress_like own start) frames (progress_like next now)
ran_alike step like other rules alike start now own frames is ran =
    let all = session_alike step like other alike start.who now.who own (asks_of frames) ran.moments ran.replies is
    ran.session in (
      all.0,
      all.1,
      record {
        moments = ran.moments;
        gives = untold start.given now.given ran.moments ran.gives;
        replies = ran.replies;
        session = all.2;
        writes = ran.writes;
      },
    )

stopped_alike : {A B W P E : Type 0} (step : Steps A W P) (like : B → A
    → Type 0) (other : Steps B W P) (rules : Rules W P E)
    → DoesAlike step like other → (start now : Progress A) (own : B) (frames : List (Option (Want W E)))
    (want : Want W E)
    → like own start.who → Stopped step rules start frames want now
    → (next : B) × like next now.who × Stopped other rules (progress_like own start) frames want
    (progress_like next now)
stopped_alike step like other rules alike start now own frames want is stop =
    let all = session_alike step like other alike start.who now.who own (asks_of
    (frames ++ Some want ∷ [])) stop.moments
    (stop.replies ++ stop.reply ∷ []) is stop.session in (
      all.0,
      all.1,
      record {
        moments = stop.moments;
        gives = untold start.given now.given stop.moments stop.gives;
        replies = stop.replies;
        reply = stop.reply;
        session = all.2;
        part = stop.part;
        short = stop.short;
        writes = stop.writes;
      },
    )

all_alike : {A B W P E : Type 0} (step : Steps A W P) (like : B → A
    → Type 0) (other : Steps B W P) (rules : Rules W P E)
    → DoesAlike step like other → (start now : Progress A) (own : B) (bytes : List ℕ) → like own start.who
    → AnswersAll step rules start bytes now
    → (next : B) × like next now.who × AnswersAll other rules (progress_like own start) bytes (progress_like next now)
all_alike step like other rules alike start now own bytes is (rest, (frames, are, ran), begun) =
    let so = ran_alike step like other rules alike start now own frames is ran in
    (so.0, so.1, (rest, (frames, are, so.2), begun))

in_part_alike : {A B W P E : Type 0} (step : Steps A W P) (like : B → A
    → Type 0) (other : Steps B W P) (rules : Rules W P E)
    → DoesAlike step like other → (start now : Progress A) (own : B) (bytes : List ℕ) (left : Option (List ℕ))
    → like own start.who → AnswersInPart step rules start bytes left now
    → (next : B) × like next now.who
    × AnswersInPart other rules (progress_like own start) bytes left (progress_like next now)
in_part_alike step like other rules alike start now own bytes left is (frames, rest, want, are, wants, stop) =
    let so = stopped_alike step like other rules alike start now own frames want is stop in
    (so.0, so.1, (frames, rest, want, are, wants, so.2))

ends_alike : {A B W P E : Type 0} (step : Steps A W P) (like : B → A
    → Type 0) (other : Steps B W P) (rules : Rules W P E)
    (most : ℕ) (ended : Ended E) → DoesAlike step like other → (start now : Progress A) (own : B) (bytes : List ℕ)
    (left : Option (List ℕ)) → like own start.who → EndsWith step rules most ended start bytes left now
    → (next : B) × like next now.who
    × EndsWith other rules most ended (progress_like own start) bytes left (progress_like next now)
ends_alike step like other rules most Ended.AtEnd alike start now own bytes left is
    (few, at_end, (frames, rest, frame, are, begun, ends, ran)) =
    let so = ran_alike step like other rules alike start now own (frames ++ frame ∷ []) is ran in
    (so.0, so.1, (few, at_end, (frames, rest, frame, are, begun, ends, so.2)))
ends_alike step like other rules most (Ended.By end) alike start now own bytes left is
    (few, (frames, rest, want, after, are, whole, ends, ran)) =
    let so = ran_alike step like other rules alike start now own (frames ++ Some want ∷ []) is ran in
    (so.0, so.1, (few, (frames, rest, want, after, are, whole, ends, so.2)))
ends_alike step like other rules most Ended.ReadFault alike start now own bytes left is (few, all) =
    let so = all_alike step like other rules alike start now own bytes is all in
    (so.0, so.1, (few, so.2))
ends_alike step like other rules most Ended.WriteFault alike start now own bytes left is (few, part) =
    let so = in_part_alike step like other rules alike start now own bytes left is part in
    (so.0, so.1, (few, so.2))
ends_alike step like other rules most Ended.InputLimit alike start now own bytes left is
    (earlier, last, parts, full, some, short, all) =
    let so = all_alike step like other rules alike start now own earlier is all in
    (so.0, so.1, (earlier, last, parts, full, some, short, so.2))
ends_alike step like other rules most Ended.NoMemory alike start now own bytes left is (few, inl all) =
    let so = all_alike step like other rules alike start now own bytes is all in
    (so.0, so.1, (few, inl so.2))
ends_alike step like other rules most Ended.NoMemory alike start now own bytes left is (few, inr part) =
    let so = in_part_alike step like other rules alike start now own bytes left is part in
    (so.0, so.1, (few, inr so.2))

pub serves_alike : {A B W P E : Type 0} (step : Steps A W P) (like : B → A
    → Type 0) (other : Steps B W P) (rules : Rules W P E)
    (most : ℕ) (ended : Ended E) → DoesAlike step like other
    → (start now : Progress A) (left left_now : Option (List ℕ))
    (own : B) → like own start.who → Serves step rules most start left now left_now ended
    → (next : B) × like next now.who
    × Serves other rules most (progress_like own start) left (progress_like next now) left_now ended
serves_alike step like other rules most ended alike start now left left_now own is serves =
    let so = ends_alike step like other rules most ended alike start now own serves.bytes left_now is serves.ends in
    (so.0, so.1, record { bytes = serves.bytes; takes = serves.takes; ends = so.2 })

pub completes_alike : {A B W P E : Type 0} (step : Steps A W P) (like : B → A → Type 0) (other : Steps B W P)
    (rules : Rules W P E) (most : ℕ) (ended : Ended E) → DoesAlike step like other → (start now : Progress A)
    (bytes : List ℕ) (own : B) → like own start.who → ((next : B) × like next now.who)
    → Completes step rules most ended start bytes now
    → (next : B) × like next now.who
    × Completes other rules most ended (progress_like own start) bytes (progress_like next now)
completes_alike step like other rules most Ended.AtEnd alike start now bytes own is some
    (few, (frames, rest, frame, are, begun, ends, ran)) =
    let so = ran_alike step like other rules alike start now own (frames ++ frame ∷ []) is ran in
    (so.0, so.1, (few, (frames, rest, frame, are, begun, ends, so.2)))
completes_alike step like other rules most (Ended.By end) alike start now bytes own is some
    (frames, rest, want, after, are, whole, ends, ran) =
    let so = ran_alike step like other rules alike start now own (frames ++ Some want ∷ []) is ran in
    (so.0, so.1, (frames, rest, want, after, are, whole, ends, so.2))
completes_alike step like other rules most Ended.ReadFault alike start now bytes own is some done = absurd done
completes_alike step like other rules most Ended.WriteFault alike start now bytes own is some done = absurd done
completes_alike step like other rules most Ended.InputLimit alike start now bytes own is some done =
    (some.0, some.1, done)
completes_alike step like other rules most Ended.NoMemory alike start now bytes own is some done = absurd done
