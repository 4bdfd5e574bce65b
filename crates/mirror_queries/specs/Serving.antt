-- A mirror that is served.
use Rattle.std.specs.Prelude.{ℕ, List, Option, None}
use Rattle.request_loop.specs.Frames.{Rules}
use Rattle.request_loop.specs.Serving.{Progress, progress}
use Rattle.line_reading.specs.declared.framing.NoEnd.{NoEnd}
use Rattle.lei_mirror.specs.Mirrors.{MirrorState}
use Rattle.query_reading.specs.QueryFrames.{query_rules}
use Rattle.query_reading.specs.declared.reply.QueryReply.{QueryReply}
use Rattle.mirror_queries.specs.Answering.{MirrorAsked}
use Rattle.mirror_queries.specs.Grammar.{mirror_says}

-- How an input is cut into the queries of a mirror, and what is written for each reply.
abbrev pub mirror_rules : Rules MirrorAsked QueryReply NoEnd
mirror_rules = query_rules mirror_says

-- How far a mirror has come: its state, and the bytes that were written. No clock gives it moments.
abbrev pub mirror_progress : MirrorState → Option (List ℕ) → Progress MirrorState
mirror_progress state written = progress state None written
