-- A mirror that takes only packets of one trail of publications.
use Rattle.std.specs.Prelude.{◌⊎◌, ℕ, ℤ, List, Option}
use Rattle.std.specs.List.{All}
use Rattle.register_words.specs.declared.sheets.Sheet.{Sheet}
use Rattle.copy_forms.specs.Trails.{Trail}
use Rattle.lei_mirror.specs.Following.{FollowsTrail, IsCopyAt, IsOfTrail}
use Rattle.lei_mirror.specs.Mirrors.{MirrorState}
use Rattle.lei_mirror.specs.Packets.{IsNoPacket}
use Rattle.line_reading.specs.declared.framing.NoEnd.{NoEnd}
use Rattle.query_reading.specs.declared.asked.QueryAsked.{QueryAsked}
use Rattle.query_reading.specs.declared.reply.QueryReply.{QueryReply}
use Rattle.request_loop.specs.Frames.{Frames, asks_of}
use Rattle.request_loop.specs.declared.frames.Want.{Want}
use Rattle.mirror_queries.specs.Answering.{MirrorAsked, MirrorStep}
use Rattle.mirror_queries.specs.Serving.{mirror_rules}

-- If bytes are sent as a packet, they are one of the trail, or no packet at all. A mirror refuses what is no packet.
abbrev pub IsAskedOfTrail : Trail → MirrorAsked → Type 0
IsAskedOfTrail trail (QueryAsked.Refuse refusal) = Unit {0}
IsAskedOfTrail trail (QueryAsked.Query query) = Unit {0}
IsAskedOfTrail trail (QueryAsked.Packet head packet) =
    IsOfTrail trail head.kind head.sheet packet ⊎ IsNoPacket head.kind head.sheet packet

-- What whole frames at the front of the bytes send as packets are packets of the trail, or no packets at all.
abbrev pub ArePacketsOfTrail : Trail → List ℕ → Type 0
ArePacketsOfTrail trail bytes =
    (frames : List (Option (Want MirrorAsked NoEnd))) (rest : List ℕ) → Frames mirror_rules bytes frames rest
    → All (IsAskedOfTrail trail) (asks_of frames)

-- If the reply is a file, it is the table's copy of the publication with this number in the trail.
abbrev pub IsCopyShown : Trail → ℕ → Sheet → QueryReply → Type 0
IsCopyShown trail shown sheet (QueryReply.Text text) = Unit {0}
IsCopyShown trail shown sheet (QueryReply.File bytes) = IsCopyAt trail shown sheet bytes
IsCopyShown trail shown sheet (QueryReply.Refused refusal) = Unit {0}

-- If a table is asked for and the reply is a file, the file is that copy.
abbrev pub ShowsOfTrail : Trail → ℕ → MirrorAsked → QueryReply → Type 0
ShowsOfTrail trail shown (QueryAsked.Refuse refusal) reply = Unit {0}
ShowsOfTrail trail shown (QueryAsked.Query query) reply = IsCopyShown trail shown query.sheet reply
ShowsOfTrail trail shown (QueryAsked.Packet head packet) reply = Unit {0}

-- A step of a mirror that follows the trail before and after it. A file that is shown is the copy of the publication
-- that is shown at that time.
pub record TrailStep (trail : Trail) (old : MirrorState) (asked : MirrorAsked) (moments : List ℤ) (reply : QueryReply)
    (new : MirrorState) : Type 0 where
  pub step : MirrorStep old asked moments reply new
  pub follows : FollowsTrail trail old
  pub stays : FollowsTrail trail new
  pub shows : ShowsOfTrail trail old.tables.publication asked reply
