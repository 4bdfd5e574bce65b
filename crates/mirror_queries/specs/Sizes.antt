-- The sizes of packets that are asked to be taken.
use Rattle.std.specs.Prelude.{◌<◌, ◌^◌, length}
use Rattle.query_reading.specs.declared.asked.QueryAsked.{QueryAsked}
use Rattle.mirror_queries.specs.Answering.{MirrorAsked}

-- A packet has fewer than 2^64 bytes, as is true of all bytes in memory.
abbrev pub HasShortPacket : MirrorAsked → Type 0
HasShortPacket (QueryAsked.Refuse refusal) = Unit {0}
HasShortPacket (QueryAsked.Query query) = Unit {0}
HasShortPacket (QueryAsked.Packet head packet) = length packet < 2 ^ 64
