use Rattle.std.proofs.Common.{◌<◌, ◌^◌, length, rules}
use Rattle.lei_mirror.specs.Mirrors.{TakesBytes}
use Rattle.lei_mirror.proofs.FollowingLemmas.{take_follows}
use Rattle.lei_mirror.proofs.mirror.Mirror.take.Goals as goal

pub returns-clause-follows : goal.returns-clause-follows
returns-clause-follows c = λ trail on few of follows.
    let short : length c.args.bytes.now < 2 ^ 64 = search rules in
    let takes : TakesBytes c.args.self.now c.args.kind c.args.sheet c.args.bytes.now c.take_packet.new.self = record {
      packet = c.in_ok-packet.packet;
      is = c.in_ok-packet.ensures.found;
      takes = c.in_ok-take_packet.ensures.takes;
    } in
    take_follows trail on few c.args.self.now c.take_packet.new.self c.args.kind c.args.sheet c.args.bytes.now short of follows takes
