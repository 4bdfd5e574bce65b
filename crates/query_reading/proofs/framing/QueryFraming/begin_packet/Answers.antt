use Rattle.std.proofs.Common.{◌≡◌, ◌≤◌, ◌⊎◌, ◌+◌, List, ℕ, length, take, drop, ap, subst, arith, length-drop}
use Rattle.std.proofs.lemmas.List.{drop-drop}
use Rattle.query_reading.specs.declared.asked.QueryAsked.{QueryAsked}
use Rattle.query_reading.specs.declared.refusal.QueryRefusal.TheVariants.{NoMemory}
use Rattle.query_reading.proofs.QueryFronts.{packet_frame}
use Rattle.query_reading.proofs.framing.QueryFraming.begin_packet.Goals as goal

pub returns : goal.returns
returns g c ends is =
    let held = c.args.held.now in
    let end = c.args.end in
    let size = c.args.size in
    let back = c.split_at.ensures.back in
    let A : List ℕ → Type 0 = λ xs. (c.packet_of-asked.result ≡ QueryAsked.Packet c.args.head (take size xs))
    ⊎ (c.packet_of-asked.result ≡ QueryAsked.Refuse NoMemory) in
    let long : size ≤ length (drop (end + 1) held) = omega (arith, c.if-after-size.false, ap length back) in
    packet_frame g.G.Grammar.says held held (take end held) (drop (end + 1) held) (end + 1 + size) size c.args.head
    c.packet_of-asked.result c.want_of.result (omega (arith, long, length-drop (end + 1) held, c.requires.within))
    (omega arith) ends is long (drop-drop size (end + 1) held)
    (subst A back c.packet_of-asked.ensures) c.want_of.ensures
