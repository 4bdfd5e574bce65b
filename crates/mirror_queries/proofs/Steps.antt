-- What stays true during a session of a mirror.
use Rattle.std.proofs.Common.{◌≡◌, ◌⊎◌, ◌<◌, ◌≤◌, ℕ, zero, suc, ℤ, List, [], ◌∷◌, length, Bool, true, false, Some, inl, inr, refl, sym, ap, subst, ◌∙◌, arith}
use Rattle.std.specs.List.{All}
use Rattle.std.proofs.lemmas.List.Elements.{All-head, All-nil, All-tail}
use Rattle.lei_code.specs.Texts.{Text}
use Rattle.register_words.specs.declared.sheets.Sheet.{Sheet}
use Rattle.copy_forms.specs.Json.{json_copy}
use Rattle.copy_forms.specs.Trails.{IsSoundTrail, Trail, copy_head}
use Rattle.lei_mirror.specs.Following.{FollowsTrail, IsCopyAt, IsKeptOfTrail, IsOfTrail, ShowsCopyOf}
use Rattle.lei_mirror.specs.Mirrors.{IsReadyToShow, IsSheetShown, MirrorState, SettlesIn, TakesBytes, empty_mirror, is_past, mirror_at, sheet_copy, with_packet}
use Rattle.lei_mirror.specs.Packets.{IsNoPacket}
use Rattle.lei_mirror.proofs.FollowingLemmas.{take_follows}
use Rattle.query_reading.specs.declared.asked.QueryAsked.{QueryAsked}
use Rattle.query_reading.specs.declared.reply.QueryReply.{QueryReply}
use Rattle.request_loop.specs.Sessions.{Session}
use Rattle.mirror_queries.specs.Answering.{MirrorAsked, MirrorStep, PacketStep, ShowStep}
use Rattle.mirror_queries.specs.Following.{IsAskedOfTrail, IsCopyShown, TrailStep}
use Rattle.mirror_queries.specs.declared.grammar.PacketHead.{PacketHead}

-- ---- the number of the publication that is shown

settles_rise : (moves : ℕ) (state settled : MirrorState) → SettlesIn moves state settled
    → state.tables.publication ≤ settled.tables.publication
settles_rise zero state settled settles =
    let same : settled.tables.publication ≡ state.tables.publication =
    ap (λ (s : MirrorState). s.tables.publication) settles.1 in
    omega (arith, same)
settles_rise (suc moves) state settled settles =
    let ready : IsReadyToShow state.tables.publication state.kept settles.0 = settles.1.ready in
    let later : state.tables.publication < settles.0 = ready.later in
    let more : settles.0 ≤ settled.tables.publication =
    settles_rise moves (mirror_at state settles.0) settled settles.2 in
    omega (arith, later, more)

same_rise : (old new : MirrorState) → new ≡ old → old.tables.publication ≤ new.tables.publication
same_rise old new is =
    let same : new.tables.publication ≡ old.tables.publication =
    ap (λ (s : MirrorState). s.tables.publication) is in
    omega (arith, same)

takes_rise : (old new : MirrorState) (head : PacketHead) (packet : Text) → TakesBytes old head.kind head.sheet packet new
    → old.tables.publication ≤ new.tables.publication
takes_rise old new head packet takes = by (is_past old takes.packet) refl
  where
    by : (b : Bool) → is_past old takes.packet ≡ b → old.tables.publication ≤ new.tables.publication
    by true past = same_rise old new (takes.takes.past past)
    by false is_new =
        let settles = takes.takes.settles is_new in
        settles_rise settles.moves (with_packet old takes.packet) new settles.settles

step_rises : (old new : MirrorState) (asked : MirrorAsked) (moments : List ℤ) (reply : QueryReply)
    → MirrorStep old asked moments reply new → old.tables.publication ≤ new.tables.publication
step_rises old new (QueryAsked.Refuse refusal) moments reply step = same_rise old new step.2
step_rises old new (QueryAsked.Query query) moments reply step = same_rise old new step.2
step_rises old new (QueryAsked.Packet head packet) moments reply step = elim step.1 [
  | inl takes ↦ takes_rise old new head packet takes.takes
  | inr (inl refuses) ↦ same_rise old new refuses.stays
  | inr (inr (inl lacks)) ↦ same_rise old new lacks.stays
  | inr (inr (inr wants)) ↦ same_rise old new wants.stays
]

pub session_rises : (old : MirrorState) (asks : List MirrorAsked) (moments : List ℤ) (replies : List QueryReply)
    (new : MirrorState) → Session MirrorStep old asks moments replies new
    → old.tables.publication ≤ new.tables.publication
session_rises old [] moments [] new session = same_rise old new session.1
session_rises old [] moments (reply ∷ replies) new session = absurd session
session_rises old (ask ∷ asks) moments [] new session = absurd session
session_rises old (ask ∷ asks) moments (reply ∷ replies) new (given, rest, between, parts, made, others) =
    let first : old.tables.publication ≤ between.tables.publication = step_rises old between ask given reply made in
    let more : between.tables.publication ≤ new.tables.publication =
    session_rises between asks rest replies new others in
    omega (arith, first, more)

-- ---- a trail

-- a mirror that has taken nothing follows each trail
pub empty_follows : (trail : Trail) → FollowsTrail trail empty_mirror
empty_follows trail = record {
  shows = λ some. absurd (omega (arith, some));
  keeps = All-nil (IsKeptOfTrail trail);
}

-- the copy that is shown is the trail's
copy_follows : (trail : Trail) (state : MirrorState) (sheet : Sheet) (bytes : Text) → FollowsTrail trail state
    → 1 ≤ state.tables.publication → IsSheetShown state sheet bytes
    → IsCopyAt trail state.tables.publication sheet bytes
copy_follows trail state sheet bytes follows some shown =
    let shows : ShowsCopyOf trail state.tables.publication sheet (sheet_copy state.tables sheet) =
    follows.shows some sheet in
    let heads : Some shown.head ≡ Some (copy_head state.tables.publication shows.publication) =
    sym shown.head_is ∙ shows.head_is in
    let head : shown.head ≡ copy_head state.tables.publication shows.publication = cc in
    record {
      publication = shows.publication;
      at = shows.at;
      bytes_are = shown.copy.text ∙ λ i. json_copy (head i) (shows.rows_are i);
    }

module _ (trail : Trail) (on : IsSoundTrail trail) (few : length trail ≤ 1_000_000) where
  same_follows : (old new : MirrorState) → FollowsTrail trail old → new ≡ old → FollowsTrail trail new
  same_follows old new follows is = let F : MirrorState → Type 0 = λ s. FollowsTrail trail s in subst F (sym is) follows

  -- what is taken is a packet, and so one of the trail
  taken_of_trail : (old new : MirrorState) (head : PacketHead) (packet : Text)
      → IsOfTrail trail head.kind head.sheet packet ⊎ IsNoPacket head.kind head.sheet packet
      → TakesBytes old head.kind head.sheet packet new → IsOfTrail trail head.kind head.sheet packet
  taken_of_trail old new head packet of takes = elim of [
    | inl is ↦ is
    | inr none ↦ absurd (none takes.packet takes.is)
  ]

  packet_follows : (old new : MirrorState) (head : PacketHead) (packet : Text) (reply : QueryReply)
      → FollowsTrail trail old → IsAskedOfTrail trail (QueryAsked.Packet head packet)
      → PacketStep old head packet reply new → FollowsTrail trail new
  packet_follows old new head packet reply follows of step = elim step [
    | inl takes ↦ take_follows trail on few old new head.kind head.sheet packet takes.short
        (taken_of_trail old new head packet of takes.takes) follows takes.takes
    | inr (inl refuses) ↦ same_follows old new follows refuses.stays
    | inr (inr (inl lacks)) ↦ same_follows old new follows lacks.stays
    | inr (inr (inr wants)) ↦ same_follows old new follows wants.stays
  ]

  reply_follows : (state : MirrorState) (sheet : Sheet) (reply : QueryReply) → FollowsTrail trail state
      → ShowStep state sheet reply → IsCopyShown trail state.tables.publication sheet reply
  reply_follows state sheet reply follows step =
      let C : QueryReply → Type 0 = λ r. IsCopyShown trail state.tables.publication sheet r in
      elim step [
        | inl nothing ↦ subst C (sym nothing.reply_is) tt
        | inr (inl shows) ↦ subst C (sym shows.reply_is)
            (copy_follows trail state sheet shows.bytes follows shows.some shows.is)
        | inr (inr wants) ↦ subst C (sym wants) tt
      ]

  step_follows : (old new : MirrorState) (asked : MirrorAsked) (moments : List ℤ) (reply : QueryReply)
      → FollowsTrail trail old → IsAskedOfTrail trail asked → MirrorStep old asked moments reply new
      → TrailStep trail old asked moments reply new
  step_follows old new (QueryAsked.Refuse refusal) moments reply follows of step =
      record { step = step; follows = follows; stays = same_follows old new follows step.2; shows = tt }
  step_follows old new (QueryAsked.Query query) moments reply follows of step = record {
    step = step;
    follows = follows;
    stays = same_follows old new follows step.2;
    shows = reply_follows old query.sheet reply follows step.1;
  }
  step_follows old new (QueryAsked.Packet head packet) moments reply follows of step = record {
    step = step;
    follows = follows;
    stays = packet_follows old new head packet reply follows of step.1;
    shows = tt;
  }

  pub session_follows : (old : MirrorState) (asks : List MirrorAsked) (moments : List ℤ) (replies : List QueryReply)
      (new : MirrorState) → FollowsTrail trail old → All (IsAskedOfTrail trail) asks
      → Session MirrorStep old asks moments replies new
      → FollowsTrail trail new × Session (TrailStep trail) old asks moments replies new
  session_follows old [] moments [] new follows of session = (same_follows old new follows session.1, session)
  session_follows old [] moments (reply ∷ replies) new follows of session = absurd session
  session_follows old (ask ∷ asks) moments [] new follows of session = absurd session
  session_follows old (ask ∷ asks) moments (reply ∷ replies) new follows of
      (given, rest, between, parts, made, others) =
      let first : TrailStep trail old ask given reply between =
      step_follows old between ask given reply follows (All-head (IsAskedOfTrail trail) ask asks of) made in
      let more =
      session_follows between asks rest replies new first.stays (All-tail (IsAskedOfTrail trail) ask asks of) others in
      (more.0, (given, rest, between, parts, first, more.1))
