-- Sessions with a caller of a hall.
use Rattle.std.proofs.Common.{◌≡◌, inl, inr, ℕ, ℤ, List, [], ◌∷◌, ◌++◌, length, Option, Some, refl, sym, ap, ◌∙◌, subst, append_assoc}
use Rattle.std.proofs.lemmas.List.{append-nil}
use Rattle.register_words.specs.declared.reply.Reply.{Reply}
use Rattle.register_words.specs.declared.request.Asked.{Asked}
use Rattle.register_words.specs.declared.request.Asked.TheVariants.{Ask, Refuse}
use Rattle.request_loop.specs.Frames.{Fits, Rules}
use Rattle.request_loop.specs.Serving.{EndsWith, Progress, Serves}
use Rattle.request_loop.specs.Sessions.{Session}
use Rattle.request_loop.specs.declared.frames.Ended.{Ended}
use Rattle.request_loop.specs.declared.frames.Want.{Want}
use Rattle.request_loop.proofs.Sessions.{session-keeps}
use Rattle.register_words.specs.Readings.{ReadsAs, RefusesBy}
use Rattle.lei_office.specs.Answering.{MayBeAsked}
use Rattle.lei_office.proofs.Sessions.{may_be_read}
use Rattle.turnstile.specs.declared.view.Member.{Member}
use Rattle.lei_hall.specs.declared.answers.Told.{Told}
use Rattle.lei_hall.specs.Calling.{AskTurn, GrewBy, IsSamePass, TakesTurns, Turns}
use Rattle.lei_hall.specs.Passes.{HallPass, member}

-- ---- one step

refuses_so : (asked : Asked) (who : HallPass) (reply : Reply) → RefusesBy asked reply → AskTurn who asked [] reply who
refuses_so (Ask request) who reply refuses = absurd refuses
refuses_so (Refuse refusal) who reply (same, apart) = (refl, same, refl)

reads_so : (meant read : Asked) (old new : HallPass) (moments : List ℤ) (reply : Reply) → ReadsAs meant read
    → AskTurn old read moments reply new → AskTurn old meant moments reply new
reads_so (Ask request) read old new moments reply (takes, same) step =
    let S : Asked → Type 0 = λ asked. AskTurn old asked moments reply new in
    let made = subst S same step in
    inr (takes, made.0, made.1, made.2)
reads_so (Refuse refusal) read old new moments reply reads step = absurd reads.0

-- so a framing whose frames ask what may be asked fits a caller; if a runtime has to have this property, it is said
pub caller_fits : {E : Type 0} (S : Type 0) (rules : Rules Asked Reply E) → S
    → ((bytes : List ℕ) (want : Want Asked E) (rest : List ℕ) → rules.whole bytes (Some want) rest → MayBeAsked want.asked)
    → ((bytes : List ℕ) (want : Want Asked E) → rules.ends bytes (Some want) → MayBeAsked want.asked)
    → ((meant read : Asked) → rules.reads_as meant read → ReadsAs meant read)
    → ((asked : Asked) (reply : Reply) → rules.refuses asked reply → RefusesBy asked reply)
    → Fits (λ asked. MayBeAsked asked × S) AskTurn rules
caller_fits S rules such whole ends reads refuses = record {
  whole = λ bytes want rest is. (whole bytes want rest is, such);
  ends = λ bytes want is. (ends bytes want is, such);
  reads = λ meant read is. (may_be_read meant read (reads meant read is), such);
  same = λ meant read old new moments reply is step. reads_so meant read old new moments reply (reads meant read is) step;
  refused = λ asked who reply is. refuses_so asked who reply (refuses asked reply is);
}

-- ---- sessions

same_turn : (old new : HallPass) (asked : Asked) (moments : List ℤ) (reply : Reply) → AskTurn old asked moments reply new → IsSamePass old new
same_turn old new (Refuse refusal) moments reply (none, own, same) = subst (IsSamePass old) (sym same) (refl, refl, refl)
same_turn old new (Ask request) moments reply (inl (m, one, turn)) = (turn.table, turn.number, turn.limits)
same_turn old new (Ask request) moments reply (inr (takes, none, own, same)) = subst (IsSamePass old) (sym same) (refl, refl, refl)

-- the pass stays the same one
pub session_same : (old new : HallPass) (asks : List Asked) (moments : List ℤ) (replies : List Reply) → Session AskTurn old asks moments replies new
    → IsSamePass old new
session_same =
    session-keeps AskTurn IsSamePass (λ who. (refl, refl, refl)) (λ old mid new first then. (then.0 ∙ first.0, then.1 ∙ first.1, then.2 ∙ first.2)) same_turn

unput : (request_or : Asked) (before between after : HallPass) (asks : List Asked) (moments given rest : List ℤ) (replies : List Reply)
    → moments ≡ given ++ rest → given ≡ [] → between ≡ before → GrewBy between asks rest replies after → GrewBy before asks moments replies after
unput request_or before between after asks moments given rest replies parts none same grew =
    let all : moments ≡ rest = parts ∙ ap (λ (l : List ℤ). l ++ rest) none in
    subst (λ (l : List ℤ). GrewBy before asks l replies after) (sym all) (subst (λ (p : HallPass). GrewBy p asks rest replies after) same grew)

-- what a pass was told grew by what was put to the office
pub session_grew : (before after : HallPass) (asks : List Asked) (moments : List ℤ) (replies : List Reply) → Session AskTurn before asks moments replies after
    → GrewBy before asks moments replies after
session_grew before after [] moments [] (none, same) = record {
  members = [];
  told = ap (λ (p : HallPass). p.told) same ∙ sym (append-nil before.told);
  turns = same;
  told_of = (none, refl);
}
session_grew before after [] moments (reply ∷ replies) session = absurd session
session_grew before after (asked ∷ asks) moments [] session = absurd session
session_grew before after (Refuse refusal ∷ asks) moments (reply ∷ replies) (given, rest, between, parts, (none, own, same), others) =
    let grew = unput (Refuse refusal) before between after asks moments given rest replies parts none same (session_grew between after asks rest replies others) in
    record { members = grew.members; told = grew.told; turns = grew.turns; told_of = grew.told_of }
session_grew before after (Ask request ∷ asks) moments (reply ∷ replies) (given, rest, between, parts, inl (m, one, turn), others) =
    let grew = session_grew between after asks rest replies others in
    let t : Member Told = member request m reply (length turn.history) turn.from turn.to in
    record {
      members = t ∷ grew.members;
      told = grew.told ∙ ap (λ (l : List (Member Told)). l ++ grew.members) turn.told ∙ append_assoc before.told (t ∷ []) grew.members;
      turns = (between, turn, turn.told, grew.turns);
      told_of = inl (m, rest, t, grew.members, parts ∙ ap (λ (l : List ℤ). l ++ rest) one, refl, refl, grew.told_of);
    }
session_grew before after (Ask request ∷ asks) moments (reply ∷ replies) (given, rest, between, parts, inr (takes, none, own, same), others) =
    let grew = unput (Ask request) before between after asks moments given rest replies parts none same (session_grew between after asks rest replies others) in
    record { members = grew.members; told = grew.told; turns = grew.turns; told_of = inr (takes, own, grew.told_of) }

-- ---- turns alone

pub takes_none : (pass : HallPass) → TakesTurns pass pass
takes_none pass = record { members = []; told = sym (append-nil pass.told); turns = refl }

turns_join : (before mid after : HallPass) (first then : List (Member Told)) → Turns before first mid → Turns mid then after
    → Turns before (first ++ then) after
turns_join before mid after [] then same turns = subst (λ (p : HallPass). Turns p then after) same turns
turns_join before mid after (t ∷ first) then (between, turn, told, others) turns =
    (between, turn, told, turns_join between mid after first then others turns)

pub takes_join : (before mid after : HallPass) → TakesTurns before mid → TakesTurns mid after → TakesTurns before after
takes_join before mid after first then = record {
  members = first.members ++ then.members;
  told = then.told ∙ ap (λ (l : List (Member Told)). l ++ then.members) first.told ∙ append_assoc before.told first.members then.members;
  turns = turns_join before mid after first.members then.members first.turns then.turns;
}

pub session_turns : (before after : HallPass) (asks : List Asked) (moments : List ℤ) (replies : List Reply) → Session AskTurn before asks moments replies after
    → TakesTurns before after
session_turns before after asks moments replies session =
    let grew = session_grew before after asks moments replies session in
    record { members = grew.members; told = grew.told; turns = grew.turns }

-- ---- the session of serving

-- what holds for the two ends of each session holds for those of serving
module _ {A W P E : Type 0} (step : A → W → List ℤ → P → A → Type 0) (rules : Rules W P E) (keeps : A → A → Type 0)
    (each : (old new : A) (asks : List W) (moments : List ℤ) (replies : List P) → Session step old asks moments replies new → keeps old new) where
  ends_keep : (most : ℕ) (ended : Ended E) (start : Progress A) (bytes : List ℕ) (left : Option (List ℕ)) (now : Progress A)
      → EndsWith step rules most ended start bytes left now → keeps start.who now.who
  ends_keep most Ended.AtEnd start bytes left now (short, done, (frames, rest, frame, are, begun, ends, ran)) =
      each start.who now.who _ ran.moments ran.replies ran.session
  ends_keep most (Ended.By end) start bytes left now (short, (frames, rest, want, after, are, whole, ends, ran)) =
      each start.who now.who _ ran.moments ran.replies ran.session
  ends_keep most Ended.ReadFault start bytes left now (short, (rest, (frames, are, ran), begun)) =
      each start.who now.who _ ran.moments ran.replies ran.session
  ends_keep most Ended.WriteFault start bytes left now (short, (frames, rest, want, are, wants, stopped)) =
      each start.who now.who _ stopped.moments _ stopped.session
  ends_keep most Ended.InputLimit start bytes left now (earlier, last, parts, size, some, few, (rest, (frames, are, ran), begun)) =
      each start.who now.who _ ran.moments ran.replies ran.session
  ends_keep most Ended.NoMemory start bytes left now (short, inl (rest, (frames, are, ran), begun)) =
      each start.who now.who _ ran.moments ran.replies ran.session
  ends_keep most Ended.NoMemory start bytes left now (short, inr (frames, rest, want, are, wants, stopped)) =
      each start.who now.who _ stopped.moments _ stopped.session

  pub serves_keep : (most : ℕ) (start : Progress A) (left : Option (List ℕ)) (now : Progress A) (left_now : Option (List ℕ)) (ended : Ended E)
      → Serves step rules most start left now left_now ended → keeps start.who now.who
  serves_keep most start left now left_now ended serves = ends_keep most ended start serves.bytes left_now now serves.ends
