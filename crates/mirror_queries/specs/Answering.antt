-- What a mirror answers to a query, and how a packet changes it. This project's profile.
use Rattle.std.specs.Prelude.{◌≡◌, ◌⊎◌, ◌<◌, ◌≤◌, ◌^◌, ℕ, ℤ, List, [], ◌∷◌, ◌++◌, length, decimal}
use Rattle.lei_code.specs.Texts.{Text}
use Rattle.register_words.specs.declared.sheets.Sheet.{Sheet}
use Rattle.lei_mirror.specs.Mirrors.{HasNoRoom, IsSheetShown, MirrorState, TakesBytes}
use Rattle.lei_mirror.specs.Packets.{IsNoPacket}
use Rattle.lei_mirror.specs.declared.faults.MirrorFault.{MirrorFault}
use Rattle.query_reading.specs.declared.asked.QueryAsked.{QueryAsked}
use Rattle.query_reading.specs.declared.refusal.QueryRefusal.{QueryRefusal}
use Rattle.query_reading.specs.declared.reply.QueryReply.{QueryReply}
use Rattle.mirror_queries.specs.declared.grammar.PacketHead.{PacketHead}
use Rattle.mirror_queries.specs.declared.grammar.ShowQuery.{ShowQuery}

-- What is asked of a mirror.
abbrev pub MirrorAsked : Type 0
MirrorAsked = QueryAsked ShowQuery PacketHead

-- ---- SHOW

-- No publication is shown.
pub record ShowsNothing (state : MirrorState) (reply : QueryReply) : Type 0 where
  pub none : state.tables.publication ≡ 0
  pub reply_is : reply ≡ QueryReply.Refused QueryRefusal.NothingHeld

-- A publication is shown, and the reply is the copy of this table that is shown.
pub record ShowsCopy (state : MirrorState) (sheet : Sheet) (reply : QueryReply) : Type 0 where
  pub some : 1 ≤ state.tables.publication
  pub bytes : Text
  pub is : IsSheetShown state sheet bytes
  pub reply_is : reply ≡ QueryReply.File bytes

-- The reply to SHOW: no publication is shown, the copy is shown, or memory ran out.
abbrev pub ShowStep : MirrorState → Sheet → QueryReply → Type 0
ShowStep state sheet reply =
    ShowsNothing state reply ⊎ ShowsCopy state sheet reply
    ⊎ (reply ≡ QueryReply.Refused QueryRefusal.NoMemory)

-- ---- COPY and DELTA

-- The answer if a packet was taken: the number of the publication that is shown, and the number of packets that are
-- kept.
abbrev pub progress_text : ℕ → ℕ → Text
progress_text shown kept = decimal shown ++ 32 ∷ decimal kept

-- The refusal of a packet that isn't taken.
abbrev pub packet_refusal : MirrorFault → QueryRefusal
packet_refusal MirrorFault.NotRead = QueryRefusal.NotRead
packet_refusal MirrorFault.Full = QueryRefusal.MirrorFull
packet_refusal MirrorFault.NoMemory = QueryRefusal.NoMemory

-- The bytes are a packet, and it is taken. The reply says what the mirror shows and keeps afterwards. There are fewer
-- than 2^64 bytes, as is true of all bytes in memory.
pub record TakesQuery (state : MirrorState) (head : PacketHead) (packet : Text) (reply : QueryReply)
    (new : MirrorState) : Type 0 where
  pub short : length packet < 2 ^ 64
  pub takes : TakesBytes state head.kind head.sheet packet new
  pub reply_is : reply ≡ QueryReply.Text (progress_text new.tables.publication (length new.kept))

-- The bytes aren't a packet, and nothing changes.
pub record RefusesMirrorPacket (state : MirrorState) (head : PacketHead) (packet : Text) (reply : QueryReply)
    (new : MirrorState) : Type 0 where
  pub none : IsNoPacket head.kind head.sheet packet
  pub reply_is : reply ≡ QueryReply.Refused QueryRefusal.NotRead
  pub stays : new ≡ state

-- The bytes are a packet that would be kept, but there is no room for it, and nothing changes.
pub record LacksRoom (state : MirrorState) (head : PacketHead) (packet : Text) (reply : QueryReply)
    (new : MirrorState) : Type 0 where
  pub full : HasNoRoom state head.kind head.sheet packet
  pub reply_is : reply ≡ QueryReply.Refused QueryRefusal.MirrorFull
  pub stays : new ≡ state

-- Memory ran out, and nothing changes.
pub record LacksMemory (state : MirrorState) (reply : QueryReply) (new : MirrorState) : Type 0 where
  pub reply_is : reply ≡ QueryReply.Refused QueryRefusal.NoMemory
  pub stays : new ≡ state

-- The reply to COPY or DELTA, and the mirror afterwards.
abbrev pub PacketStep : MirrorState → PacketHead → Text → QueryReply → MirrorState → Type 0
PacketStep state head packet reply new =
    TakesQuery state head packet reply new ⊎ RefusesMirrorPacket state head packet reply new
    ⊎ LacksRoom state head packet reply new ⊎ LacksMemory state reply new

-- ---- queries

-- The reply to what is asked, and the mirror afterwards. The clock isn't read. SHOW and every refusal leave the mirror
-- as it is.
abbrev pub MirrorStep : MirrorState → MirrorAsked → List ℤ → QueryReply → MirrorState → Type 0
MirrorStep state (QueryAsked.Refuse refusal) moments reply new =
    (moments ≡ []) × (reply ≡ QueryReply.Refused refusal) × (new ≡ state)
MirrorStep state (QueryAsked.Query query) moments reply new =
    (moments ≡ []) × ShowStep state query.sheet reply × (new ≡ state)
MirrorStep state (QueryAsked.Packet head packet) moments reply new =
    (moments ≡ []) × PacketStep state head packet reply new
