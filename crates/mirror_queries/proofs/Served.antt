-- A served mirror whose packets are all of one trail.
use Rattle.std.proofs.Common.{◌≡◌, ◌≤◌, ℕ, List, [], ◌∷◌, ◌++◌, length, Option, None, Some, inl, inr, refl, sym, subst}
use Rattle.std.specs.List.{All}
use Rattle.std.proofs.lemmas.List.Elements.{All-append, All-cons, All-nil}
use Rattle.std.specs.Prelude.{option_map}
use Rattle.copy_forms.specs.Trails.{IsSoundTrail, Trail}
use Rattle.lei_mirror.specs.Following.{FollowsTrail}
use Rattle.lei_mirror.specs.Mirrors.{MirrorState}
use Rattle.line_reading.specs.declared.framing.NoEnd.{NoEnd}
use Rattle.query_reading.specs.Meanings.{asked_at_end, line_says}
use Rattle.query_reading.specs.QueryFrames.{EndsInput, IsReadAs, query_want, query_whole_on}
use Rattle.query_reading.specs.declared.asked.QueryAsked.{QueryAsked}
use Rattle.query_reading.specs.declared.grammar.LineMeaning.{LineMeaning}
use Rattle.query_reading.specs.declared.refusal.QueryRefusal.TheVariants.{NoMemory}
use Rattle.request_loop.specs.Frames.{Frames, GoesOn, asks_of}
use Rattle.request_loop.specs.Serving.{AnswersAll, AnswersInPart, EndsWith, Progress, Ran, Serves, Stopped, Wants}
use Rattle.request_loop.specs.declared.frames.Ended.{Ended}
use Rattle.request_loop.specs.declared.frames.Want.{Want}
use Rattle.request_loop.proofs.FrameLists.{asks_join, frames_join, frames_more, frames_one}
use Rattle.mirror_queries.specs.Answering.{MirrorAsked, MirrorStep}
use Rattle.mirror_queries.specs.Following.{ArePacketsOfTrail, IsAskedOfTrail, TrailStep}
use Rattle.mirror_queries.specs.Grammar.{MirrorMeaning, mirror_says}
use Rattle.mirror_queries.specs.Serving.{mirror_rules}
use Rattle.mirror_queries.proofs.Steps.{session_follows}

-- what a frame may want
abbrev Frame : Type 0
Frame = Option (Want MirrorAsked NoEnd)

-- ---- what is asked

some_same : (one other : MirrorAsked) → Some one ≡ Some other → one ≡ other
some_same one other is = cc

-- nothing that is asked ends a session
goes_on : (end : Option NoEnd) → end ≡ None
goes_on None = refl
goes_on (Some end) = elim end [ ]

frame_goes_on : (frame : Frame) → GoesOn frame
frame_goes_on None = tt
frame_goes_on (Some want) = goes_on want.ends

-- a line without its packet doesn't ask for one to be taken
last_of_trail : (trail : Trail) (meaning : Option MirrorMeaning) (asked : MirrorAsked)
    → asked_at_end meaning ≡ Some asked → IsAskedOfTrail trail asked
last_of_trail trail meaning asked is = by meaning asked is
  where
    at : (one : MirrorAsked) (asked : MirrorAsked) → Some one ≡ Some asked → IsAskedOfTrail trail one
        → IsAskedOfTrail trail asked
    at one asked is of =
        let same : one ≡ asked = some_same one asked is in subst (λ a. IsAskedOfTrail trail a) same of

    by : (meaning : Option MirrorMeaning) (asked : MirrorAsked) → asked_at_end meaning ≡ Some asked
        → IsAskedOfTrail trail asked
    by None asked is = cc
    by (Some (LineMeaning.Refused refusal)) asked is = at (QueryAsked.Refuse refusal) asked is tt
    by (Some (LineMeaning.Query query)) asked is = at (QueryAsked.Query query) asked is tt
    by (Some (LineMeaning.Packet head size)) asked is = at (QueryAsked.Refuse _) asked is tt
    by (Some (LineMeaning.Skipped refusal size)) asked is = at (QueryAsked.Refuse refusal) asked is tt

-- what was read from such a line
read_of_trail : (trail : Trail) (meaning : Option MirrorMeaning) (read : Option MirrorAsked)
    → IsReadAs (asked_at_end meaning) read → All (IsAskedOfTrail trail) (asks_of (option_map query_want read ∷ []))
read_of_trail trail meaning None reads = All-nil (IsAskedOfTrail trail)
read_of_trail trail meaning (Some asked) (inl same) =
    All-cons (IsAskedOfTrail trail) asked [] (last_of_trail trail meaning asked (sym same))
    (All-nil (IsAskedOfTrail trail))
read_of_trail trail meaning (Some asked) (inr other) =
    let is : asked ≡ QueryAsked.Refuse NoMemory = some_same asked (QueryAsked.Refuse NoMemory) other.3 in
    All-cons (IsAskedOfTrail trail) asked [] (subst (λ a. IsAskedOfTrail trail a) (sym is) tt)
    (All-nil (IsAskedOfTrail trail))

-- what is left at the end of the input
end_of_trail : (trail : Trail) (rest : List ℕ) (frame : Frame) → EndsInput mirror_says rest frame
    → All (IsAskedOfTrail trail) (asks_of (frame ∷ []))
end_of_trail trail rest frame (read, (line, is_first, reads), is) =
    let A : Frame → Type 0 = λ f. All (IsAskedOfTrail trail) (asks_of (f ∷ [])) in
    subst A (sym is) (read_of_trail trail (line_says mirror_says line) read reads)

-- frames, followed by one more
asks_more : (trail : Trail) (frames : List Frame) (frame : Frame) → All (IsAskedOfTrail trail) (asks_of frames)
    → All (IsAskedOfTrail trail) (asks_of (frame ∷ [])) → All (IsAskedOfTrail trail) (asks_of (frames ++ frame ∷ []))
asks_more trail frames frame first last =
    let A : List MirrorAsked → Type 0 = λ asks. All (IsAskedOfTrail trail) asks in
    subst A (sym (asks_join frames (frame ∷ [])))
    (All-append (IsAskedOfTrail trail) (asks_of frames) (asks_of (frame ∷ [])) first last)

-- a prefix of the bytes
front_of_trail : (trail : Trail) (bytes earlier last : List ℕ) → bytes ≡ earlier ++ last → ArePacketsOfTrail trail bytes
    → ArePacketsOfTrail trail earlier
front_of_trail trail bytes earlier last parts of frames rest are =
    let F : List ℕ → Type 0 = λ b. Frames mirror_rules b frames (rest ++ last) in
    of frames (rest ++ last)
    (subst F (sym parts) (frames_more mirror_rules (query_whole_on mirror_says) earlier last frames rest are))

-- frames at the front of the bytes, followed by one more that is wanted
wanted_of_trail : (trail : Trail) (bytes : List ℕ) (left : Option (List ℕ)) (frames : List Frame) (rest : List ℕ)
    (want : Want MirrorAsked NoEnd) → ArePacketsOfTrail trail bytes → Frames mirror_rules bytes frames rest
    → Wants mirror_rules left rest want → All (IsAskedOfTrail trail) (asks_of (frames ++ Some want ∷ []))
wanted_of_trail trail bytes left frames rest want of are (inl (after, whole)) =
    of (frames ++ Some want ∷ []) after (frames_join mirror_rules bytes rest frames (Some want ∷ []) after are
    (frames_one mirror_rules rest (Some want) after whole (goes_on want.ends)))
wanted_of_trail trail bytes left frames rest want of are (inr (at_end, begun, ends)) =
    asks_more trail frames (Some want) (of frames rest are) (end_of_trail trail rest (Some want) ends)

-- ---- what was answered

module _ (trail : Trail) (on : IsSoundTrail trail) (few : length trail ≤ 1_000_000) where
  ran_follows : (start now : Progress MirrorState) (frames : List Frame) → FollowsTrail trail start.who
      → All (IsAskedOfTrail trail) (asks_of frames) → Ran MirrorStep mirror_rules start frames now
      → FollowsTrail trail now.who × Ran (TrailStep trail) mirror_rules start frames now
  ran_follows start now frames follows of ran =
      let so =
      session_follows trail on few start.who (asks_of frames) ran.moments ran.replies now.who follows of ran.session in (
        so.0,
        record { moments = ran.moments; gives = ran.gives; replies = ran.replies; session = so.1; writes = ran.writes },
      )

  stopped_follows : (start now : Progress MirrorState) (frames : List Frame) (want : Want MirrorAsked NoEnd)
      → FollowsTrail trail start.who → All (IsAskedOfTrail trail) (asks_of (frames ++ Some want ∷ []))
      → Stopped MirrorStep mirror_rules start frames want now
      → FollowsTrail trail now.who × Stopped (TrailStep trail) mirror_rules start frames want now
  stopped_follows start now frames want follows of stop =
      let so = session_follows trail on few start.who (asks_of (frames ++ Some want ∷ [])) stop.moments
      (stop.replies ++ stop.reply ∷ []) now.who follows of stop.session in (
        so.0,
        record {
          moments = stop.moments;
          gives = stop.gives;
          replies = stop.replies;
          reply = stop.reply;
          session = so.1;
          part = stop.part;
          short = stop.short;
          writes = stop.writes;
        },
      )

  all_follow : (start now : Progress MirrorState) (bytes : List ℕ) → FollowsTrail trail start.who
      → ArePacketsOfTrail trail bytes → AnswersAll MirrorStep mirror_rules start bytes now
      → FollowsTrail trail now.who × AnswersAll (TrailStep trail) mirror_rules start bytes now
  all_follow start now bytes follows of (rest, (frames, are, ran), begun) =
      let so = ran_follows start now frames follows (of frames rest are) ran in
      (so.0, (rest, (frames, are, so.1), begun))

  part_follows : (start now : Progress MirrorState) (bytes : List ℕ) (left : Option (List ℕ))
      → FollowsTrail trail start.who → ArePacketsOfTrail trail bytes
      → AnswersInPart MirrorStep mirror_rules start bytes left now
      → FollowsTrail trail now.who × AnswersInPart (TrailStep trail) mirror_rules start bytes left now
  part_follows start now bytes left follows of (frames, rest, want, are, wants, stop) =
      let asks = wanted_of_trail trail bytes left frames rest want of are wants in
      let so = stopped_follows start now frames want follows asks stop in
      (so.0, (frames, rest, want, are, wants, so.1))

  ends_follow : (most : ℕ) (ended : Ended NoEnd) (start now : Progress MirrorState) (bytes : List ℕ)
      (left : Option (List ℕ)) → FollowsTrail trail start.who → ArePacketsOfTrail trail bytes
      → EndsWith MirrorStep mirror_rules most ended start bytes left now
      → FollowsTrail trail now.who × EndsWith (TrailStep trail) mirror_rules most ended start bytes left now
  ends_follow most Ended.AtEnd start now bytes left follows of
      (short, at_end, (frames, rest, frame, are, begun, ends, ran)) =
      let asks = asks_more trail frames frame (of frames rest are) (end_of_trail trail rest frame ends) in
      let so = ran_follows start now (frames ++ frame ∷ []) follows asks ran in
      (so.0, (short, at_end, (frames, rest, frame, are, begun, ends, so.1)))
  ends_follow most (Ended.By end) start now bytes left follows of is = elim end [ ]
  ends_follow most Ended.ReadFault start now bytes left follows of (short, all) =
      let so = all_follow start now bytes follows of all in
      (so.0, (short, so.1))
  ends_follow most Ended.WriteFault start now bytes left follows of (short, part) =
      let so = part_follows start now bytes left follows of part in
      (so.0, (short, so.1))
  ends_follow most Ended.InputLimit start now bytes left follows of (earlier, last, parts, full, some, few_last, all) =
      let so = all_follow start now earlier follows (front_of_trail trail bytes earlier last parts of) all in
      (so.0, (earlier, last, parts, full, some, few_last, so.1))
  ends_follow most Ended.NoMemory start now bytes left follows of (short, inl all) =
      let so = all_follow start now bytes follows of all in
      (so.0, (short, inl so.1))
  ends_follow most Ended.NoMemory start now bytes left follows of (short, inr part) =
      let so = part_follows start now bytes left follows of part in
      (so.0, (short, inr so.1))

  pub serves_follow : (most : ℕ) (start now : Progress MirrorState) (left left_now : Option (List ℕ))
      (ended : Ended NoEnd)
      → FollowsTrail trail start.who → (serves : Serves MirrorStep mirror_rules most start left now left_now ended)
      → ArePacketsOfTrail trail serves.bytes
      → FollowsTrail trail now.who × Serves (TrailStep trail) mirror_rules most start left now left_now ended
  serves_follow most start now left left_now ended follows serves of =
      let so = ends_follow most ended start now serves.bytes left_now follows of serves.ends in
      (so.0, record { bytes = serves.bytes; takes = serves.takes; ends = so.1 })
