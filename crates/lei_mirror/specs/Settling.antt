-- How a mirror moves as far as it can, if packets are dropped only afterwards.
use Rattle.std.specs.Prelude.{◌≡◌, ℕ, List, Option, None, Some, filter, option_map, ⊤}
use Rattle.std.specs.Borrow.{Bor}
use Rattle.register_words.specs.declared.sheets.Sheet.{Sheet}
use Rattle.lei_mirror.specs.declared.packet.Packet.{Packet}
use Rattle.lei_mirror.specs.declared.tables.Tables.{Tables}
use Rattle.lei_mirror.specs.Mirrors.{IsGreatestReady, IsReadyToShow, MirrorState, Settles, is_ahead}
use Rattle.lei_mirror.specs.States.{IsSoundPacket}

-- The packet of a reference, if there is one.
abbrev pub packet_now : Option (Bor Packet) → Option Packet
packet_now packet = option_map (λ packet. packet.now) packet

-- If there is a packet that brings a sheet to a publication, it is a sound one of this sheet.
abbrev pub IsSoundFor : Sheet → Option Packet → Type 0
IsSoundFor sheet None = ⊤
IsSoundFor sheet (Some packet) = IsSoundPacket packet × (packet.sheet ≡ sheet)

-- The greatest ready publication was found, or none is ready.
abbrev pub FindsGreatest : ℕ → List Packet → Option ℕ → Type 0
FindsGreatest shown kept None = (number : ℕ) → IsReadyToShow shown kept number → ⊥
FindsGreatest shown kept (Some number) = IsGreatestReady shown kept number

-- The mirror with these tables, and with those of the packets that are ahead of them.
abbrev pub mirror_of : Tables → List Packet → MirrorState
mirror_of tables kept = record { tables = tables; kept = filter (is_ahead tables.publication) kept }

-- A mirror with the first tables and these packets settles with the other tables.
abbrev pub SettlesTo : Tables → List Packet → Tables → Type 0
SettlesTo tables kept settled = Settles (mirror_of tables kept) (mirror_of settled kept)
