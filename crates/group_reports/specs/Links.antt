-- What group reports keep of two golden copies, of `lei` and of `rr`: this project's profile.
use Rattle.std.specs.Prelude.{◌≡◌, ◌≢◌, ℕ, Bool, true, false, ◌&&◌, if◌then◌else◌, List, Option, Some, find, map, option_map, codes, ⊤}
use Rattle.std.specs.Str.{bytes_eq}
use Rattle.lei_code.specs.Texts.{Lei, Text}
use Rattle.lei_records.specs.Rows.{text_at}
use Rattle.copy_csv.specs.declared.heads.Head.{Head}
use Rattle.copy_csv.specs.Sheets.{SheetRow}
use Rattle.group_reports.specs.declared.faults.GroupFault.{GroupFault}
use Rattle.group_reports.specs.declared.faults.GroupFault.TheVariants as faults
use Rattle.group_reports.specs.declared.kinds.LinkKind.{LinkKind}

-- ---- links

-- A row of `rr`: its start, what it says of it, and its end.
pub record Link : Type 0 where
  pub start : Lei
  pub kind : LinkKind
  pub end : Lei

-- What a relationship of a type says of its start, if it is ACTIVE.
abbrev pub kind_of_type : Text → LinkKind
kind_of_type text =
    if bytes_eq text (codes "IS_DIRECTLY_CONSOLIDATED_BY") then LinkKind.Direct
    else if bytes_eq text (codes "IS_ULTIMATELY_CONSOLIDATED_BY") then LinkKind.Ultimate
    else LinkKind.Other

-- The same for a type and a status.
abbrev pub kind_by : Text → Text → LinkKind
kind_by text status = if bytes_eq status (codes "ACTIVE") then kind_of_type text else LinkKind.Other

-- The second text of a row of `rr` is the type of the relationship, and the fourth its status.
abbrev pub link_kind : SheetRow → LinkKind
link_kind row = kind_by (text_at row.texts 2) (text_at row.texts 4)

-- A row of `rr` as a link. Its first text is the start, and its third the end.
abbrev pub link_of : SheetRow → Link
link_of row = record { start = text_at row.texts 1; kind = link_kind row; end = text_at row.texts 3 }

-- ---- what is kept

-- The key of a row of `lei`, which is its LEI, and the legal name.
abbrev pub Name : Type 0
Name = Text × Text

-- The key and the name are the first and the second text of the row.
abbrev pub key_and_name : SheetRow → Name
key_and_name row = (text_at row.texts 1, text_at row.texts 2)

-- The LEI and the name of each row of `lei`, and each row of `rr` as a link, in the order of the rows.
pub record GroupTable : Type 0 where
  pub names : List Name
  pub links : List Link

-- The table is that of these rows, of `lei` and of `rr`.
pub record IsGroupTable (lei rr : List SheetRow) (table : GroupTable) : Type 0 where
  pub names_are : table.names ≡ map key_and_name lei
  pub links_are : table.links ≡ map link_of rr

-- The number of the publication of a copy, which is known only in JSON.
abbrev pub head_publication : Option Head → Option ℕ
head_publication head = option_map (λ head. head.publication) head

-- Why two copies don't go together: they are from two publications, and the numbers of both are given. This says
-- nothing of lack of memory.
abbrev pub IsGroupFault : Option Head → Option Head → GroupFault → Type 0
IsGroupFault lei rr (faults.OtherPublication p q) =
    (head_publication lei ≡ Some p) × (head_publication rr ≡ Some q) × (p ≢ q)
IsGroupFault lei rr faults.NoMemory = ⊤

-- ---- parents

-- The link says that this is the direct parent of an entity.
abbrev pub is_direct_link : LinkKind → Bool
is_direct_link LinkKind.Direct = true
is_direct_link LinkKind.Ultimate = false
is_direct_link LinkKind.Other = false

-- The link says that this is the ultimate parent of an entity.
abbrev pub is_ultimate : LinkKind → Bool
is_ultimate LinkKind.Direct = false
is_ultimate LinkKind.Ultimate = true
is_ultimate LinkKind.Other = false

-- The direct parent of an entity, if it has one: the end of the first link that names one. Links are in the order of
-- the keys of their rows.
abbrev pub direct : List Link → Lei → Option Lei
direct links lei = option_map (λ link. link.end) (find (λ link. is_direct_link link.kind && bytes_eq lei link.start) links)

-- The reported ultimate parent of an entity, if one is reported: the end of the first link that names one.
abbrev pub reported : List Link → Lei → Option Lei
reported links lei = option_map (λ link. link.end) (find (λ link. is_ultimate link.kind && bytes_eq lei link.start) links)

-- ---- names

-- The name in the row of an entity, if it has a row. It may be empty.
abbrev pub name_at : List Name → Lei → Option Text
name_at names lei = option_map (λ name. name.1) (find (λ name. bytes_eq lei name.0) names)
