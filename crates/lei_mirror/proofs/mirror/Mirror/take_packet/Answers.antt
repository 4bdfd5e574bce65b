use Rattle.std.proofs.Common.{◌≡◌, ◌+◌, ◌||◌, false, ap, length, nat_le, nat_lt, subst, sym, ◌∙◌}
use Rattle.std.specs.List.{list_any}
use Rattle.lei_mirror.specs.Mirrors.{MirrorState, TakesPacket, bytes_in, is_mirror_full, is_past}
use Rattle.lei_mirror.specs.Packets.{is_like}
use Rattle.lei_mirror.proofs.TakingLemmas.{keeps_on, stays_mirror}
use Rattle.lei_mirror.proofs.mirror.Mirror.take_packet.Goals as goal

pub invariant_of-self-2 : goal.invariant_of-self-2
invariant_of-self-2 c =
    let room : is_mirror_full (record { tables = c.self.inside.tables; kept = c.self.inside.kept.items }) c.args.packet ≡ false =
    ap (λ l. nat_le 64 (length l) || nat_lt 536_870_912 (bytes_in l + c.args.packet.size)) (sym c.as_slice-2.ensures.value) ∙ sym c.is_full.ensures ∙ c.if-is_full.false in
    stays_mirror c.self.inside.tables c.self.inside.kept.items c.args.packet c.keep.new.tables c.keep.new.kept.items c.self.invariant c.requires.sound room
    c.in_ok-keep.ensures.tables c.in_ok-keep.ensures.kept

pub returns-clause-takes : goal.returns-clause-takes
returns-clause-takes c =
    let new : is_past (record { tables = c.self.inside.tables; kept = c.self.inside.kept.items }) c.args.packet ≡ false =
    ap (λ l. nat_le c.args.packet.head.publication c.self.inside.tables.publication || list_any (is_like c.args.packet) l) (sym c.as_slice.ensures.value)
    ∙ sym c.is_past.ensures ∙ c.if-is_past.false in
    let room : is_mirror_full (record { tables = c.self.inside.tables; kept = c.self.inside.kept.items }) c.args.packet ≡ false =
    ap (λ l. nat_le 64 (length l) || nat_lt 536_870_912 (bytes_in l + c.args.packet.size)) (sym c.as_slice-2.ensures.value) ∙ sym c.is_full.ensures ∙ c.if-is_full.false in
    let F : MirrorState → Type 0 = λ state. TakesPacket state c.args.packet (record { tables = c.keep.new.tables; kept = c.keep.new.kept.items }) in
    subst F c.self.view_is
    (keeps_on c.self.inside.tables c.self.inside.kept.items c.args.packet c.keep.new.tables c.keep.new.kept.items c.self.invariant new room
    c.in_ok-keep.ensures.settles c.in_ok-keep.ensures.kept)
