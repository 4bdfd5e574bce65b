-- Sessions with an office.
use Rattle.std.proofs.Common.{◌≡◌, ℕ, ℤ, List, [], ◌∷◌, ◌++◌, Contains, Option, Some, inl, inr, refl, sym, ap, subst, arith}
use Rattle.lei_values.specs.Count.{Rose}
use Rattle.register_history.specs.Kept.{StaysUntold}
use Rattle.register_history.specs.Legal.{AskStep, replies_to}
use Rattle.register_history.specs.Legal as legal
use Rattle.register_history.specs.Replies.{Step}
use Rattle.register_history.proofs.KeptLemmas.{untold-join}
use Rattle.register_history.proofs.Sessions.{exact}
use Rattle.register_words.specs.declared.reply.Refusal.{Refusal}
use Rattle.register_words.specs.declared.reply.Refusal.TheVariants.{KeeperFault, NoMemory}
use Rattle.register_words.specs.declared.reply.Reply.{Reply}
use Rattle.register_words.specs.declared.reply.Reply.TheVariants.{Words}
use Rattle.register_words.specs.declared.request.Asked.{Asked}
use Rattle.register_words.specs.declared.request.Asked.TheVariants.{Ask, Refuse}
use Rattle.register_words.specs.declared.request.Request.{Request}
use Rattle.request_loop.specs.Counts.{RoseBy}
use Rattle.request_loop.specs.Frames.{Fits, Rules, asks_of}
use Rattle.request_loop.specs.Serving.{EndsWith, Progress, Ran, Serves, Stopped}
use Rattle.request_loop.specs.Sessions.{Session}
use Rattle.request_loop.specs.declared.frames.Ended.{Ended}
use Rattle.request_loop.specs.declared.frames.Want.{Want}
use Rattle.request_loop.proofs.Counting.{RoseBy-none, session-counts}
use Rattle.request_loop.proofs.Parts.{ends_of, progress_of}
use Rattle.request_loop.proofs.Sessions.{session-keeps}
use Rattle.register_words.specs.Readings.{ReadsAs, RefusesBy}
use Rattle.lei_office.specs.Answering.{CountedOffice, MayBeAsked, OfficeStep, StepsBy}
use Rattle.lei_office.specs.Faults.{is_keeper_fault, keeper_faults}
use Rattle.lei_office.proofs.Counting.{none_counted, none_reported, reply_rose}

-- ---- one step

-- a request that was answered at a moment
pub asked_step : (old new : CountedOffice) (request : Request) (moment : ℤ) (reply : Reply)
    → Step old.office request moment reply new.office → (¬ (reply ≡ Words KeeperFault) → new.faults ≡ old.faults)
    → (reply ≡ Words KeeperFault → Rose old.faults new.faults) → StaysUntold old.kept new.kept
    → OfficeStep old (Ask request) (moment ∷ []) reply new
asked_step old new request moment reply step kept rose untold = record {
  made = inl (moment, refl, step);
  refuses = reply_rose reply old.faults new.faults kept rose;
  untold = untold;
}

none_rose : (refusal : Refusal) (faults : ℕ) → keeper_faults (Words refusal ∷ []) ≡ 0
    → RoseBy (keeper_faults (Words refusal ∷ [])) faults faults
none_rose refusal faults none =
    let R : ℕ → Type 0 = λ n. RoseBy n faults faults in subst R (sym none) (RoseBy-none faults faults refl)

-- a refusal by the reader, which is its own reply
pub refused_step : (who : CountedOffice) (refusal : Refusal) → MayBeAsked (Refuse refusal)
    → OfficeStep who (Refuse refusal) [] (Words refusal) who
refused_step who refusal apart = record {
  made = (refl, refl, refl);
  refuses = none_rose refusal who.faults (none_counted refusal apart);
  untold = λ some. some;
}

-- the same for a refusal that the rules of a framing give
pub refuses_so : (asked : Asked) (who : CountedOffice) (reply : Reply) → RefusesBy asked reply
    → OfficeStep who asked [] reply who
refuses_so (Ask request) who reply refuses = absurd refuses
refuses_so (Refuse refusal) who reply (same, apart) =
    let S : Reply → Type 0 = λ r. OfficeStep who (Refuse refusal) [] r who in
    subst S (sym same) (refused_step who refusal apart)

-- what is read instead of an upload may be asked, and each answer to it is one to the upload
pub may_be_read : (meant read : Asked) → ReadsAs meant read → MayBeAsked read
may_be_read (Ask request) read (takes, same) =
    subst MayBeAsked (sym same) (λ is. omega (arith, is))
may_be_read (Refuse refusal) read reads = absurd reads.0

pub reads_so : (meant read : Asked) (old new : CountedOffice) (moments : List ℤ) (reply : Reply) → ReadsAs meant read
    → OfficeStep old read moments reply new → OfficeStep old meant moments reply new
reads_so (Ask request) read old new moments reply (takes, same) step =
    let S : Asked → Type 0 = λ asked. AskStep old.office asked moments reply new.office in
    let made = subst S same step.made in
    record { made = inr (takes, made.0, made.1, made.2); refuses = step.refuses; untold = step.untold }
reads_so (Refuse refusal) read old new moments reply reads step = absurd reads.0

-- so a framing whose frames ask only what may be asked fits every answerer that has an office. `S` is what such an
-- answerer needs of its runtime
pub office_fits : {A E : Type 0} (S : Type 0) (part : A → CountedOffice) (rules : Rules Asked Reply E) → S
    → ((bytes : List ℕ) (want : Want Asked E) (rest : List ℕ) → rules.whole bytes (Some want) rest → MayBeAsked want.asked)
    → ((bytes : List ℕ) (want : Want Asked E) → rules.ends bytes (Some want) → MayBeAsked want.asked)
    → ((meant read : Asked) → rules.reads_as meant read → ReadsAs meant read)
    → ((asked : Asked) (reply : Reply) → rules.refuses asked reply → RefusesBy asked reply)
    → Fits (λ asked. MayBeAsked asked × S) (StepsBy part) rules
office_fits S part rules such whole ends reads refuses = record {
  whole = λ bytes want rest is. (whole bytes want rest is, such);
  ends = λ bytes want is. (ends bytes want is, such);
  reads = λ meant read is. (may_be_read meant read (reads meant read is), such);
  same = λ meant read old new moments reply is step. reads_so meant read (part old) (part new) moments reply
      (reads meant read is) step;
  refused = λ asked who reply is. refuses_so asked (part who) reply (refuses asked reply is);
}

-- ---- sessions

-- at most as many replies report a fault of the keeper as its calls have failed
pub office_counts : (old new : CountedOffice) (asks : List Asked) (moments : List ℤ) (replies : List Reply)
    → Session OfficeStep old asks moments replies new → RoseBy (keeper_faults replies) old.faults new.faults
office_counts old new asks moments replies session =
    session-counts OfficeStep (λ (o : CountedOffice). o.faults) is_keeper_fault
    (λ first last ask given reply step. step.refuses) old new asks moments replies session

-- a session of an office's steps is a session of its history
pub office_session : (old new : CountedOffice) (asks : List Asked) (moments : List ℤ) (replies : List Reply)
    → Session OfficeStep old asks moments replies new → legal.OfficeSession old.office asks moments replies new.office
office_session old new [] moments [] session = (session.0, ap (λ (o : CountedOffice). o.office) session.1)
office_session old new [] moments (reply ∷ replies) session = absurd session
office_session old new (ask ∷ asks) moments [] session = absurd session
office_session old new (ask ∷ asks) moments (reply ∷ replies) (given, rest, between, parts, step, others) =
    (given, rest, between.office, parts, step.made, office_session between new asks rest replies others)

-- the replies, if memory never runs out and no call of the keeper fails
pub office_exact : (old new : CountedOffice) (asks : List Asked) (moments : List ℤ) (replies : List Reply)
    → Session OfficeStep old asks moments replies new → ¬ (Rose old.faults new.faults)
    → ¬ (Contains replies (Words NoMemory)) → replies ≡ replies_to old.office asks moments
office_exact old new asks moments replies session still lacks =
    exact asks old.office new.office moments replies (office_session old new asks moments replies session) lacks
    (none_reported replies old.faults new.faults (office_counts old new asks moments replies session) still)

-- ---- what the keeper tells

-- what was untold before a session stays untold
session_untold : (old new : CountedOffice) (asks : List Asked) (moments : List ℤ) (replies : List Reply)
    → Session OfficeStep old asks moments replies new → StaysUntold old.kept new.kept
session_untold =
    session-keeps OfficeStep (λ (old : CountedOffice) (new : CountedOffice). StaysUntold old.kept new.kept) (λ who some. some)
    (λ old mid new. untold-join old.kept mid.kept new.kept) (λ old new ask moments reply step. step.untold)

ran_untold : {E : Type 0} (rules : Rules Asked Reply E) (start now : Progress CountedOffice)
    (frames : List (Option (Want Asked E))) → Ran OfficeStep rules start frames now
    → StaysUntold start.who.kept now.who.kept
ran_untold rules start now frames ran =
    session_untold start.who now.who (asks_of frames) ran.moments ran.replies ran.session

stopped_untold : {E : Type 0} (rules : Rules Asked Reply E) (start now : Progress CountedOffice)
    (frames : List (Option (Want Asked E))) (want : Want Asked E) → Stopped OfficeStep rules start frames want now
    → StaysUntold start.who.kept now.who.kept
stopped_untold rules start now frames want stopped =
    session_untold start.who now.who (asks_of (frames ++ Some want ∷ [])) stopped.moments
    (stopped.replies ++ stopped.reply ∷ []) stopped.session

ends_untold : {E : Type 0} (rules : Rules Asked Reply E) (most : ℕ) (ended : Ended E) (start now : Progress CountedOffice)
    (bytes : List ℕ) (left : Option (List ℕ)) → EndsWith OfficeStep rules most ended start bytes left now
    → StaysUntold start.who.kept now.who.kept
ends_untold rules most Ended.AtEnd start now bytes left (few, at_end, (frames, rest, frame, are, begun, ends, ran)) =
    ran_untold rules start now (frames ++ frame ∷ []) ran
ends_untold rules most (Ended.By end) start now bytes left (few, (frames, rest, want, after, are, whole, ends, ran)) =
    ran_untold rules start now (frames ++ Some want ∷ []) ran
ends_untold rules most Ended.ReadFault start now bytes left (few, (rest, (frames, are, ran), begun)) =
    ran_untold rules start now frames ran
ends_untold rules most Ended.WriteFault start now bytes left (few, (frames, rest, want, are, wants, stopped)) =
    stopped_untold rules start now frames want stopped
ends_untold rules most Ended.InputLimit start now bytes left
    (earlier, last, are, long, some, short, (rest, (frames, cut, ran), begun)) =
    ran_untold rules start now frames ran
ends_untold rules most Ended.NoMemory start now bytes left (few, inl (rest, (frames, are, ran), begun)) =
    ran_untold rules start now frames ran
ends_untold rules most Ended.NoMemory start now bytes left (few, inr (frames, rest, want, are, wants, stopped)) =
    stopped_untold rules start now frames want stopped

-- the same for serving, with any answerer that has an office
pub serves_untold : {A E : Type 0} (part : A → CountedOffice) (rules : Rules Asked Reply E) (most : ℕ) (ended : Ended E)
    (start now : Progress A) (left left_now : Option (List ℕ))
    → Serves (StepsBy part) rules most start left now left_now ended
    → StaysUntold (part start.who).kept (part now.who).kept
serves_untold part rules most ended start now left left_now serves =
    ends_untold rules most ended (progress_of part start) (progress_of part now) serves.bytes left_now
    (ends_of (StepsBy part) part OfficeStep rules (λ old new ask moments reply step. step) most ended start now serves.bytes
    left_now serves.ends)
