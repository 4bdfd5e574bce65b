-- What serving does, and how it ends.
use Rattle.std.specs.Prelude.{◌≡◌, ◌⊎◌, ◌<◌, ◌≤◌, ℕ, ℤ, List, [], ◌∷◌, ◌++◌, length, take, Option, None, Some, Result, Ok, Err}
use Rattle.lei_outside.specs.Told.{Grows, IsAtEnd, Loses}
use Rattle.lei_outside.specs.declared.faults.SinkFault.{SinkFault}
use Rattle.request_loop.specs.Frames.{Frames, Rules, asks_of, bytes_of_replies}
use Rattle.request_loop.specs.Moments.{ClockGives}
use Rattle.request_loop.specs.Sessions.{Session}
use Rattle.request_loop.specs.Wires.{IsSent}
use Rattle.request_loop.specs.declared.frames.Ended.{Ended}
use Rattle.request_loop.specs.declared.frames.Want.{Want}
use Rattle.request_loop.specs.declared.read_buffer.ReadFault.{ReadFault}

-- One read gives at most 65,536 bytes (64 KiB).
abbrev pub read_limit : ℕ
read_limit = 65_536

-- ---- what was answered

-- The progress of serving: the answerer, the moments that the clock has given, and the bytes that were written. It has
-- `None` for what a device doesn't tell.
pub record Progress (A : Type 0) : Type 0 where
  pub who : A
  pub given : Option (List ℤ)
  pub written : Option (List ℕ)

-- The progress with these three parts.
abbrev pub progress : {A : Type 0} → A → Option (List ℤ) → Option (List ℕ) → Progress A
progress who given written = record { who = who; given = given; written = written }

-- Since the start these frames were answered, in order, at moments of the clock, by steps from one state of the
-- answerer to the next. The bytes that were written are those of the replies, in order.
pub record Ran {A W P E : Type 0} (step : A → W → List ℤ → P → A → Type 0) (rules : Rules W P E)
    (start : Progress A) (frames : List (Option (Want W E))) (now : Progress A) : Type 0 where
  pub moments : List ℤ
  pub gives : ClockGives start.given now.given moments
  pub replies : List P
  pub session : Session step start.who (asks_of frames) moments replies now.who
  pub writes : Grows start.written now.written (bytes_of_replies rules frames replies)

-- The same, and after these frames what one more wants. Only a proper prefix of the reply to it was written.
pub record Stopped {A W P E : Type 0} (step : A → W → List ℤ → P → A → Type 0) (rules : Rules W P E)
    (start : Progress A) (frames : List (Option (Want W E))) (want : Want W E)
    (now : Progress A) : Type 0 where
  pub moments : List ℤ
  pub gives : ClockGives start.given now.given moments
  pub replies : List P
  pub reply : P
  pub session : Session step start.who (asks_of (frames ++ Some want ∷ [])) moments
      (replies ++ reply ∷ []) now.who
  pub part : ℕ
  pub short : part < length (rules.text want reply)
  pub writes : Grows start.written now.written
      (bytes_of_replies rules frames replies ++ take part (rules.text want reply))

-- ---- by the bytes that were taken

-- The whole frames at the front of the bytes were answered up to this rest, and the session goes on.
abbrev pub AnswersTo : {A W P E : Type 0} → (A → W → List ℤ → P → A → Type 0) → Rules W P E
    → Progress A → List ℕ → List ℕ → Progress A → Type 0
AnswersTo {A} {W} {P} {E} step rules start bytes rest now =
    (frames : List (Option (Want W E))) × Frames rules bytes frames rest × Ran step rules start frames now

-- All whole frames of the bytes were answered, and the session goes on.
abbrev pub AnswersAll : {A W P E : Type 0} → (A → W → List ℤ → P → A → Type 0) → Rules W P E
    → Progress A → List ℕ → Progress A → Type 0
AnswersAll step rules start bytes now =
    (rest : List ℕ) × AnswersTo step rules start bytes rest now × rules.begun rest

-- All whole frames of the bytes were answered, and so was what is left after them when the input ends.
abbrev pub AnswersToEnd : {A W P E : Type 0} → (A → W → List ℤ → P → A → Type 0) → Rules W P E
    → Progress A → List ℕ → Progress A → Type 0
AnswersToEnd {A} {W} {P} {E} step rules start bytes now =
    (frames : List (Option (Want W E))) × (rest : List ℕ) × (frame : Option (Want W E))
    × Frames rules bytes frames rest × rules.begun rest × rules.ends rest frame
    × Ran step rules start (frames ++ frame ∷ []) now

-- The whole frames of the bytes were answered up to and including the first that ends the session.
abbrev pub AnswersToLast : {A W P E : Type 0} → (A → W → List ℤ → P → A → Type 0) → Rules W P E
    → E → Progress A → List ℕ → Progress A → Type 0
AnswersToLast {A} {W} {P} {E} step rules end start bytes now =
    (frames : List (Option (Want W E))) × (rest : List ℕ) × (want : Want W E) × (after : List ℕ)
    × Frames rules bytes frames rest × rules.whole rest (Some want) after × (want.ends ≡ Some end)
    × Ran step rules start (frames ++ Some want ∷ []) now

-- A frame of these bytes wants this: they start with a whole one, or the input ends with them.
abbrev pub Wants : {W P E : Type 0} → Rules W P E → Option (List ℕ) → List ℕ → Want W E → Type 0
Wants rules left bytes want =
    ((after : List ℕ) × rules.whole bytes (Some want) after)
    ⊎ (IsAtEnd left × rules.begun bytes × rules.ends bytes (Some want))

-- Some whole frames at the front of the bytes were answered, and only a proper prefix of the reply to the next one was
-- written.
abbrev pub AnswersInPart : {A W P E : Type 0} → (A → W → List ℤ → P → A → Type 0) → Rules W P E
    → Progress A → List ℕ → Option (List ℕ) → Progress A → Type 0
AnswersInPart {A} {W} {P} {E} step rules start bytes left now =
    (frames : List (Option (Want W E))) × (rest : List ℕ) × (want : Want W E)
    × Frames rules bytes frames rest × Wants rules left rest want × Stopped step rules start frames want now

-- The bytes are as many as end a session. They end with at least one and at most as many as one read gives, and all
-- whole frames before these last bytes were answered.
abbrev pub AnswersToLimit : {A W P E : Type 0} → (A → W → List ℤ → P → A → Type 0) → Rules W P E
    → ℕ → Progress A → List ℕ → Progress A → Type 0
AnswersToLimit step rules most start bytes now =
    (earlier : List ℕ) × (last : List ℕ) × (bytes ≡ earlier ++ last) × (length bytes ≡ most)
    × (0 < length last) × (length last ≤ read_limit) × AnswersAll step rules start earlier now

-- ---- how serving ends

-- How serving ends after these bytes were taken, with these left.
abbrev pub EndsWith : {A W P E : Type 0} → (A → W → List ℤ → P → A → Type 0) → Rules W P E → ℕ → Ended E
    → Progress A → List ℕ → Option (List ℕ) → Progress A → Type 0
EndsWith step rules most Ended.AtEnd start bytes left now =
    (length bytes < most) × IsAtEnd left × AnswersToEnd step rules start bytes now
EndsWith step rules most (Ended.By end) start bytes left now =
    (length bytes < most) × AnswersToLast step rules end start bytes now
EndsWith step rules most Ended.ReadFault start bytes left now =
    (length bytes < most) × AnswersAll step rules start bytes now
EndsWith step rules most Ended.WriteFault start bytes left now =
    (length bytes < most) × AnswersInPart step rules start bytes left now
EndsWith step rules most Ended.InputLimit start bytes left now = AnswersToLimit step rules
    most start bytes now
EndsWith step rules most Ended.NoMemory start bytes left now =
    (length bytes < most)
    × (AnswersAll step rules start bytes now ⊎ AnswersInPart step rules start bytes left now)

-- What serving does: it takes bytes from the wire, answers the frames in them, and ends.
pub record Serves {A W P E : Type 0} (step : A → W → List ℤ → P → A → Type 0) (rules : Rules W P E) (most : ℕ)
    (start : Progress A) (left : Option (List ℕ)) (now : Progress A) (left_now : Option (List ℕ))
    (ended : Ended E) : Type 0
  where
    pub bytes : List ℕ
    pub takes : Loses left left_now bytes
    pub ends : EndsWith step rules most ended start bytes left_now now

-- The result of serving a wire with these bytes left, if neither of its sides fails and memory never runs out. All
-- bytes were taken and answered, or those up to the first frame that ends the session. Or there are at least as many
-- bytes as end a session.
abbrev pub Completes : {A W P E : Type 0} → (A → W → List ℤ → P → A → Type 0) → Rules W P E → ℕ → Ended E
    → Progress A → List ℕ → Progress A → Type 0
Completes step rules most Ended.AtEnd start bytes now =
    (length bytes < most) × AnswersToEnd step rules start bytes now
Completes step rules most (Ended.By end) start bytes now = AnswersToLast step rules end start bytes now
Completes step rules most Ended.ReadFault start bytes now = ⊥
Completes step rules most Ended.WriteFault start bytes now = ⊥
Completes step rules most Ended.InputLimit start bytes now = most ≤ length bytes
Completes step rules most Ended.NoMemory start bytes now = ⊥

-- ---- parts of a session

-- What was wanted got its reply, by one step, at moments of the clock. The reply was written, or only a proper prefix
-- of it.
pub record AnswersWant {A W P E : Type 0} (step : A → W → List ℤ → P → A → Type 0) (rules : Rules W P E)
    (before : Progress A) (want : Want W E) (sent : Result (Unit {0}) SinkFault)
    (after : Progress A) : Type 0 where
  pub moments : List ℤ
  pub gives : ClockGives before.given after.given moments
  pub reply : P
  pub made : step before.who want.asked moments reply after.who
  pub writes : IsSent before.written after.written (rules.text want reply) sent

-- What a frame wants was answered, and the session goes on or ends.
abbrev pub AnswersFrame : {A W P E : Type 0} → (A → W → List ℤ → P → A → Type 0) → Rules W P E → Progress A
    → Option (Want W E) → Result (Unit {0}) (Ended E) → Progress A → Type 0
AnswersFrame step rules before None (Ok done) after = after ≡ before
AnswersFrame step rules before None (Err ended) after = ⊥
AnswersFrame step rules before (Some want) (Ok done) after =
    (want.ends ≡ None) × AnswersWant step rules before want (Ok (tt {0})) after
AnswersFrame step rules before (Some want) (Err Ended.AtEnd) after = ⊥
AnswersFrame step rules before (Some want) (Err (Ended.By end)) after =
    (want.ends ≡ Some end) × AnswersWant step rules before want (Ok (tt {0})) after
AnswersFrame step rules before (Some want) (Err Ended.ReadFault) after = ⊥
AnswersFrame step rules before (Some want) (Err Ended.WriteFault) after =
    AnswersWant step rules before want (Err SinkFault.Failed) after
AnswersFrame step rules before (Some want) (Err Ended.InputLimit) after = ⊥
AnswersFrame step rules before (Some want) (Err Ended.NoMemory) after =
    AnswersWant step rules before want (Err SinkFault.NoMemory) after

-- What is left when the input ends was answered, and serving ends.
abbrev pub AnswersLast : {A W P E : Type 0} → (A → W → List ℤ → P → A → Type 0) → Rules W P E → Progress A
    → Option (Want W E) → Ended E → Progress A → Type 0
AnswersLast step rules before None Ended.AtEnd after = after ≡ before
AnswersLast step rules before None (Ended.By end) after = ⊥
AnswersLast step rules before None Ended.ReadFault after = ⊥
AnswersLast step rules before None Ended.WriteFault after = ⊥
AnswersLast step rules before None Ended.InputLimit after = ⊥
AnswersLast step rules before None Ended.NoMemory after = ⊥
AnswersLast step rules before (Some want) Ended.AtEnd after = AnswersWant step rules before want
    (Ok (tt {0})) after
AnswersLast step rules before (Some want) (Ended.By end) after = ⊥
AnswersLast step rules before (Some want) Ended.ReadFault after = ⊥
AnswersLast step rules before (Some want) Ended.WriteFault after =
    AnswersWant step rules before want (Err SinkFault.Failed) after
AnswersLast step rules before (Some want) Ended.InputLimit after = ⊥
AnswersLast step rules before (Some want) Ended.NoMemory after =
    AnswersWant step rules before want (Err SinkFault.NoMemory) after

-- How serving ends if nothing could be read.
abbrev pub ended_unread : {E : Type 0} → ReadFault → Ended E
ended_unread ReadFault.Failed = Ended.ReadFault
ended_unread ReadFault.NoMemory = Ended.NoMemory

-- How serving ends if a reply couldn't be written.
abbrev pub ended_unsent : {E : Type 0} → SinkFault → Ended E
ended_unsent SinkFault.Failed = Ended.WriteFault
ended_unsent SinkFault.NoMemory = Ended.NoMemory
