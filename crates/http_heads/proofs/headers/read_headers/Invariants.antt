use Rattle.std.proofs.Common.{◌≡◌, drop, map}
use Rattle.httparse.specs.Spans.{header_bytes}
use Rattle.http_heads.specs.Headers.{header_facts}
use Rattle.http_heads.proofs.headers.read_headers.Given as goal

-- what the headers at the index and after it say
abbrev pub invariant-loop-index : goal.invariant-loop-index
invariant-loop-index l = l.facts ≡ header_facts (map (header_bytes l.front) (drop l.index l.headers))
