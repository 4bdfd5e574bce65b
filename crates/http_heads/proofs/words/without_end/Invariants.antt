use Rattle.std.proofs.Common.{◌≡◌, reverse, length}
use Rattle.httparse.specs.Grammar.{skip_ows}
use Rattle.http_heads.proofs.words.without_end.Given as goal

abbrev pub invariant-loop-last : goal.invariant-loop-last
invariant-loop-last l = reverse (skip_ows (reverse l.rest)) ≡ reverse (skip_ows (reverse l.bytes))

abbrev pub decreases-loop-last : goal.decreases-loop-last
decreases-loop-last l = length l.rest
