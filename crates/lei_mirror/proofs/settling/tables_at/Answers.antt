use Rattle.std.proofs.Common.{sym, subst}
use Rattle.register_words.specs.declared.sheets.Sheet.{Sheet}
use Rattle.lei_mirror.specs.Settling.{IsSoundFor}
use Rattle.lei_mirror.specs.States.{AreTables}
use Rattle.lei_mirror.proofs.PacketLemmas.{packet_for_sound}
use Rattle.lei_mirror.proofs.settling.tables_at.Goals as goal

pub copy_after-requires-clause-rows : goal.copy_after-requires-clause-rows
copy_after-requires-clause-rows c = let are : AreTables c.args.tables.now = c.requires.tables in (are Sheet.Lei).rows_are

pub copy_after-requires-2-clause-rows : goal.copy_after-requires-2-clause-rows
copy_after-requires-2-clause-rows c = let are : AreTables c.args.tables.now = c.requires.tables in (are Sheet.Rr).rows_are

pub copy_after-requires-3-clause-rows : goal.copy_after-requires-3-clause-rows
copy_after-requires-3-clause-rows c = let are : AreTables c.args.tables.now = c.requires.tables in (are Sheet.Repex).rows_are

pub copy_after-requires-clause-packet : goal.copy_after-requires-clause-packet
copy_after-requires-clause-packet c =
    subst (IsSoundFor Sheet.Lei) (sym c.packet_for-lei.ensures) (packet_for_sound c.args.tables.now.publication c.args.kept.now c.args.number Sheet.Lei c.requires.packets)

pub copy_after-requires-2-clause-packet : goal.copy_after-requires-2-clause-packet
copy_after-requires-2-clause-packet c =
    subst (IsSoundFor Sheet.Rr) (sym c.packet_for-rr.ensures) (packet_for_sound c.args.tables.now.publication c.args.kept.now c.args.number Sheet.Rr c.requires.packets)

pub copy_after-requires-3-clause-packet : goal.copy_after-requires-3-clause-packet
copy_after-requires-3-clause-packet c =
    subst (IsSoundFor Sheet.Repex) (sym c.packet_for-repex.ensures)
    (packet_for_sound c.args.tables.now.publication c.args.kept.now c.args.number Sheet.Repex c.requires.packets)
