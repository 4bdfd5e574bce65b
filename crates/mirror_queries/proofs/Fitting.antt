-- Lines as the queries of a mirror.
use Rattle.std.proofs.Common.{◌≡◌, ℤ, List, [], inr, refl, sym, subst}
use Rattle.request_loop.specs.Frames.{Fits}
use Rattle.lei_mirror.specs.Mirrors.{MirrorState}
use Rattle.query_reading.specs.QueryFrames.{QueryReadsAs}
use Rattle.query_reading.specs.declared.asked.QueryAsked.{QueryAsked}
use Rattle.query_reading.specs.declared.refusal.QueryRefusal.TheVariants.{NoMemory}
use Rattle.query_reading.specs.declared.reply.QueryReply.{QueryReply}
use Rattle.mirror_queries.specs.Answering.{MirrorAsked, MirrorStep, ShowStep}
use Rattle.mirror_queries.specs.Serving.{mirror_rules}
use Rattle.mirror_queries.specs.declared.grammar.ShowQuery.{ShowQuery}

unread : (meant : MirrorAsked) (old new : MirrorState) (moments : List ℤ) (reply : QueryReply)
    → QueryReadsAs meant (QueryAsked.Refuse NoMemory) → MirrorStep old (QueryAsked.Refuse NoMemory) moments reply new
    → MirrorStep old meant moments reply new
unread (QueryAsked.Refuse refusal) old new moments reply reads answered = absurd reads.0
unread (QueryAsked.Query query) old new moments reply reads answered =
    (answered.0, inr (inr answered.1), answered.2)
unread (QueryAsked.Packet head packet) old new moments reply reads answered =
    (answered.0, inr (inr (inr (record { reply_is = answered.1; stays = answered.2 }))))

read_alike : (meant read : MirrorAsked) (old new : MirrorState) (moments : List ℤ) (reply : QueryReply)
    → QueryReadsAs meant read → MirrorStep old read moments reply new → MirrorStep old meant moments reply new
read_alike meant read old new moments reply reads answered =
    let S : MirrorAsked → Type 0 = λ asked. MirrorStep old asked moments reply new in
    unread meant old new moments reply (reads.0, refl) (subst S reads.1 answered)

pub mirror_fits : Fits (λ asked. Unit {0}) MirrorStep mirror_rules
mirror_fits = record {
  whole = λ bytes want rest is. tt;
  ends = λ bytes want is. tt;
  reads = λ meant read is. tt;
  same = read_alike;
  refused = λ asked who reply is. absurd is;
}

-- ---- a step of the server

pub show_step : (state : MirrorState) (asked : MirrorAsked) (query : ShowQuery) (reply : QueryReply)
    → asked ≡ QueryAsked.Query query → ShowStep state query.sheet reply → MirrorStep state asked [] reply state
show_step state asked query reply is shows =
    let S : MirrorAsked → Type 0 = λ a. MirrorStep state a [] reply state in
    subst S (sym is) (refl, shows, refl)
