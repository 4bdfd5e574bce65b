-- What serving did, seen for a part of the answerer.
use Rattle.std.proofs.Common.{inl, inr, ℕ, ℤ, List, [], ◌∷◌, ◌++◌, Option, Some}
use Rattle.request_loop.specs.Frames.{Rules, asks_of}
use Rattle.request_loop.specs.Serving.{AnswersAll, AnswersInPart, AnswersToEnd, AnswersToLast, Completes, EndsWith, Progress, Ran, Serves, Stopped}
use Rattle.request_loop.specs.declared.frames.Ended.{Ended}
use Rattle.request_loop.specs.declared.frames.Want.{Want}
use Rattle.request_loop.proofs.Sessions.{session-through}

-- the progress with this part of the answerer
abbrev pub progress_of : {A B : Type 0} → (A → B) → Progress A → Progress B
progress_of part at = record { who = part at.who; given = at.given; written = at.written }

-- each step of the answerer is a step of the part
abbrev pub StepsOf : {A B W P : Type 0} → (A → W → List ℤ → P → A → Type 0) → (A → B) → (B → W → List ℤ → P → B → Type 0)
    → Type 0
StepsOf {A} {B} {W} {P} step part part_step = (old new : A) (ask : W) (moments : List ℤ) (reply : P)
    → step old ask moments reply new → part_step (part old) ask moments reply (part new)

pub ran_of : {A B W P E : Type 0} (step : A → W → List ℤ → P → A → Type 0) (part : A → B)
    (part_step : B → W → List ℤ → P → B → Type 0) (rules : Rules W P E) → StepsOf step part part_step
    → (start now : Progress A) (frames : List (Option (Want W E))) → Ran step rules start frames now
    → Ran part_step rules (progress_of part start) frames (progress_of part now)
ran_of step part part_step rules each start now frames ran = record {
  moments = ran.moments;
  gives = ran.gives;
  replies = ran.replies;
  session = session-through step part part_step each start.who now.who (asks_of frames) ran.moments ran.replies ran.session;
  writes = ran.writes;
}

pub stopped_of : {A B W P E : Type 0} (step : A → W → List ℤ → P → A → Type 0) (part : A → B)
    (part_step : B → W → List ℤ → P → B → Type 0) (rules : Rules W P E) → StepsOf step part part_step
    → (start now : Progress A) (frames : List (Option (Want W E))) (want : Want W E)
    → Stopped step rules start frames want now
    → Stopped part_step rules (progress_of part start) frames want (progress_of part now)
stopped_of step part part_step rules each start now frames want stopped = record {
  moments = stopped.moments;
  gives = stopped.gives;
  replies = stopped.replies;
  reply = stopped.reply;
  session = session-through step part part_step each start.who now.who (asks_of (frames ++ Some want ∷ [])) stopped.moments
      (stopped.replies ++ stopped.reply ∷ []) stopped.session;
  part = stopped.part;
  short = stopped.short;
  writes = stopped.writes;
}

all_of : {A B W P E : Type 0} (step : A → W → List ℤ → P → A → Type 0) (part : A → B)
    (part_step : B → W → List ℤ → P → B → Type 0) (rules : Rules W P E) → StepsOf step part part_step
    → (start now : Progress A) (bytes : List ℕ) → AnswersAll step rules start bytes now
    → AnswersAll part_step rules (progress_of part start) bytes (progress_of part now)
all_of step part part_step rules each start now bytes (rest, (frames, are, ran), begun) =
    (rest, (frames, are, ran_of step part part_step rules each start now frames ran), begun)

end_of : {A B W P E : Type 0} (step : A → W → List ℤ → P → A → Type 0) (part : A → B)
    (part_step : B → W → List ℤ → P → B → Type 0) (rules : Rules W P E) → StepsOf step part part_step
    → (start now : Progress A) (bytes : List ℕ) → AnswersToEnd step rules start bytes now
    → AnswersToEnd part_step rules (progress_of part start) bytes (progress_of part now)
end_of step part part_step rules each start now bytes (frames, rest, frame, are, begun, ends, ran) =
    (frames, rest, frame, are, begun, ends, ran_of step part part_step rules each start now (frames ++ frame ∷ []) ran)

last_of : {A B W P E : Type 0} (step : A → W → List ℤ → P → A → Type 0) (part : A → B)
    (part_step : B → W → List ℤ → P → B → Type 0) (rules : Rules W P E) → StepsOf step part part_step
    → (end : E) (start now : Progress A) (bytes : List ℕ) → AnswersToLast step rules end start bytes now
    → AnswersToLast part_step rules end (progress_of part start) bytes (progress_of part now)
last_of step part part_step rules each end start now bytes (frames, rest, want, after, are, whole, ends, ran) = (
  frames,
  rest,
  want,
  after,
  are,
  whole,
  ends,
  ran_of step part part_step rules each start now (frames ++ Some want ∷ []) ran,
)

in_part_of : {A B W P E : Type 0} (step : A → W → List ℤ → P → A → Type 0) (part : A → B)
    (part_step : B → W → List ℤ → P → B → Type 0) (rules : Rules W P E) → StepsOf step part part_step
    → (start now : Progress A) (bytes : List ℕ) (left : Option (List ℕ)) → AnswersInPart step rules start bytes left now
    → AnswersInPart part_step rules (progress_of part start) bytes left (progress_of part now)
in_part_of step part part_step rules each start now bytes left (frames, rest, want, are, wants, stopped) =
    (frames, rest, want, are, wants, stopped_of step part part_step rules each start now frames want stopped)

pub ends_of : {A B W P E : Type 0} (step : A → W → List ℤ → P → A → Type 0) (part : A → B)
    (part_step : B → W → List ℤ → P → B → Type 0) (rules : Rules W P E) → StepsOf step part part_step
    → (most : ℕ) (ended : Ended E) (start now : Progress A) (bytes : List ℕ) (left : Option (List ℕ))
    → EndsWith step rules most ended start bytes left now
    → EndsWith part_step rules most ended (progress_of part start) bytes left (progress_of part now)
ends_of step part part_step rules each most Ended.AtEnd start now bytes left (few, ended, all) =
    (few, ended, end_of step part part_step rules each start now bytes all)
ends_of step part part_step rules each most (Ended.By end) start now bytes left (few, last) =
    (few, last_of step part part_step rules each end start now bytes last)
ends_of step part part_step rules each most Ended.ReadFault start now bytes left (few, all) =
    (few, all_of step part part_step rules each start now bytes all)
ends_of step part part_step rules each most Ended.WriteFault start now bytes left (few, some) =
    (few, in_part_of step part part_step rules each start now bytes left some)
ends_of step part part_step rules each most Ended.InputLimit start now bytes left
    (earlier, last, are, long, some, short, all) =
    (earlier, last, are, long, some, short, all_of step part part_step rules each start now earlier all)
ends_of step part part_step rules each most Ended.NoMemory start now bytes left (few, inl all) =
    (few, inl (all_of step part part_step rules each start now bytes all))
ends_of step part part_step rules each most Ended.NoMemory start now bytes left (few, inr some) =
    (few, inr (in_part_of step part part_step rules each start now bytes left some))

pub serves_of : {A B W P E : Type 0} (step : A → W → List ℤ → P → A → Type 0) (part : A → B)
    (part_step : B → W → List ℤ → P → B → Type 0) (rules : Rules W P E) → StepsOf step part part_step
    → (most : ℕ) (ended : Ended E) (start now : Progress A) (left left_now : Option (List ℕ))
    → Serves step rules most start left now left_now ended
    → Serves part_step rules most (progress_of part start) left (progress_of part now) left_now ended
serves_of step part part_step rules each most ended start now left left_now serves = record {
  bytes = serves.bytes;
  takes = serves.takes;
  ends = ends_of step part part_step rules each most ended start now serves.bytes left_now serves.ends;
}

pub completes_of : {A B W P E : Type 0} (step : A → W → List ℤ → P → A → Type 0) (part : A → B)
    (part_step : B → W → List ℤ → P → B → Type 0) (rules : Rules W P E) → StepsOf step part part_step
    → (most : ℕ) (ended : Ended E) (start now : Progress A) (bytes : List ℕ)
    → Completes step rules most ended start bytes now
    → Completes part_step rules most ended (progress_of part start) bytes (progress_of part now)
completes_of step part part_step rules each most Ended.AtEnd start now bytes (few, all) =
    (few, end_of step part part_step rules each start now bytes all)
completes_of step part part_step rules each most (Ended.By end) start now bytes last =
    last_of step part part_step rules each end start now bytes last
completes_of step part part_step rules each most Ended.ReadFault start now bytes never = absurd never
completes_of step part part_step rules each most Ended.WriteFault start now bytes never = absurd never
completes_of step part part_step rules each most Ended.InputLimit start now bytes full = full
completes_of step part part_step rules each most Ended.NoMemory start now bytes never = absurd never
