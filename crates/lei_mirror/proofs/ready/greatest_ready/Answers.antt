use Rattle.lei_mirror.proofs.ReadyLemmas.{greatest_found, none_ready}
use Rattle.lei_mirror.proofs.ready.greatest_ready.Goals as goal

pub returns-then-shown-greatest : goal.returns-then-shown-greatest
returns-then-shown-greatest c =
    greatest_found c.args.shown c.args.kept.now c.loop-packet.packet-index c.loop-packet.greatest c.loop-packet.invariant c.loop-packet-test.false
    c.if-shown-greatest.true

pub returns-else-shown-greatest : goal.returns-else-shown-greatest
returns-else-shown-greatest c =
    none_ready c.args.shown c.args.kept.now c.loop-packet.packet-index c.loop-packet.greatest c.loop-packet.invariant c.loop-packet-test.false
    c.if-shown-greatest.false
