-- Which change of a record's registration status is permitted, and who may make it. This project's profile.
use Rattle.std.specs.Prelude.{Option, Some, None}
use Rattle.lei_shapes.specs.declared.lists.RecordStatus.{RecordStatus}
use Rattle.status_rules.specs.declared.transitions.Party.{Party}

-- N: the issuer that the item names as its manager.
abbrev pub N : Option Party
N = Some Party.New

-- M: the issuer that the held record names as its manager.
abbrev pub M : Option Party
M = Some Party.Manager

-- R: the issuer that the held record is to be transferred to.
abbrev pub R : Option Party
R = Some Party.Receiver

-- Nobody: the change is not permitted.
abbrev pub none : Option Party
none = None

-- A row of the table of transitions: who may make the change, for each status that an item may have. The order of the
-- columns is ISSUED, LAPSED, PENDING_TRANSFER, PENDING_ARCHIVAL, RETIRED, DUPLICATE, ANNULLED.
abbrev pub TransitionRow : Type 0
TransitionRow =
    Option Party × Option Party × Option Party × Option Party × Option Party × Option Party
    × Option Party

-- The row of the held status, or the first row if no record is held.
abbrev pub transitions_from : Option RecordStatus → TransitionRow
transitions_from None = (N, none, none, none, none, none, none)
transitions_from (Some RecordStatus.Issued) = (M, M, M, none, M, M, M)
transitions_from (Some RecordStatus.Lapsed) = (M, M, M, none, M, M, M)
transitions_from (Some RecordStatus.PendingTransfer) = (M, M, M, M, none, none, none)
transitions_from (Some RecordStatus.PendingArchival) = (R, R, M, none, none, none, none)
transitions_from (Some RecordStatus.Retired) = (M, none, none, none, M, none, none)
transitions_from (Some RecordStatus.Duplicate) = (none, none, none, none, none, M, none)
transitions_from (Some RecordStatus.Annulled) = (none, none, none, none, none, none, none)

-- What a row has in the column of the item's status.
abbrev pub party_in_column : RecordStatus → TransitionRow → Option Party
party_in_column RecordStatus.Issued row = row.0
party_in_column RecordStatus.Lapsed row = row.1
party_in_column RecordStatus.PendingTransfer row = row.2
party_in_column RecordStatus.PendingArchival row = row.3
party_in_column RecordStatus.Retired row = row.4
party_in_column RecordStatus.Duplicate row = row.5
party_in_column RecordStatus.Annulled row = row.6

-- Who may change the held status to the item's status, or nobody if the change isn't permitted.
abbrev pub party : Option RecordStatus → RecordStatus → Option Party
party old new = party_in_column new (transitions_from old)
