-- Indexes: what was noted under an authority key, and under a start and a type.
use Rattle.std.specs.Prelude.{◌≡◌, ℕ, Bool, Option, Some, None, is_some, option_and_then, option_map, true}
use Rattle.std.specs.BTreeMap.{BTreeMap, IsEmpty, get_by, get_by_text}
use Rattle.std.specs.Borrow.{Bor}
use Rattle.std.specs.Cmp.Lexicographic.{slice_cmp}
use Rattle.std.specs.Ordering.{nat_cmp, ordering_then}
use Rattle.lei_code.specs.Texts.{Lei, Text}
use Rattle.lei_shapes.specs.declared.lists.RelationType.{RelationType}
use Rattle.lei_shapes.specs.Lists.{relation_type_text}
use Rattle.lei_records.specs.Cells.{holds}
use Rattle.lei_records.specs.Relations.{is_active_of}
use Rattle.lei_records.specs.Rows.{Row}
use Rattle.register_table.specs.declared.ends.Ends.{Ends}
use Rattle.short_texts.specs.Packed.{at_pair}
use Rattle.register_table.specs.declared.authority_key_index.AuthorityKeyIndex.{AuthorityKeyIndex}
use Rattle.register_table.specs.declared.long_key_index.LongKeyIndex.{LongKeyIndex}
use Rattle.register_table.specs.declared.short_key_index.ShortKeyIndex.{ShortKeyIndex}

-- What is under a key that has a text of more than 15 bytes: the LEI that was last noted there. After the key was
-- freed, no LEI is under it.
abbrev pub noted_long : LongKeyIndex → Text → Text → Option (Option Lei)
noted_long long authority id = option_and_then (λ ids. get_by_text ids id) (get_by_text long.map authority)

-- What is under a key of two short texts that have these numbers.
abbrev pub noted_short : ShortKeyIndex → ℕ × ℕ → Option (Option Lei)
noted_short short key = get_by (λ k. ordering_then (nat_cmp key.0 k.0) (nat_cmp key.1 k.1)) short.map

-- What is under an authority key: the LEI that was last noted there, or none after the key was freed. The index doesn't
-- have a key if no LEI was ever noted under it, or if it was dropped.
abbrev pub noted_holder : AuthorityKeyIndex → Text → Text → Option (Option Lei)
noted_holder holders = at_pair (noted_short holders.short) (noted_long holders.long)

-- The LEI under an authority key, if there is one.
abbrev pub holder_in : AuthorityKeyIndex → Text → Text → Option Lei
holder_in holders authority id = option_and_then (λ noted. noted) (noted_holder holders authority id)

-- What is under a start and the text of a type: the end that was last noted there, or none after they were freed.
abbrev pub end_under : BTreeMap (Lei × Bor Text) (Option Lei) → Lei → Text → Option (Option Lei)
end_under map start text =
    get_by (λ k. ordering_then (slice_cmp nat_cmp start k.0) (slice_cmp nat_cmp text k.1.now)) map

-- What is under a start and a type.
abbrev pub noted_end : Ends → Lei → RelationType → Option (Option Lei)
noted_end ends start kind = end_under ends.map start (relation_type_text kind)

-- The end under a start and a type, if there is one.
abbrev pub end_in_index : Ends → Lei → RelationType → Option Lei
end_in_index ends start kind = option_and_then (λ noted. noted) (noted_end ends start kind)

-- What is under a key after it is freed: no LEI, if the index has the key.
abbrev pub after_freeing : Option (Option Lei) → Option (Option Lei)
after_freeing = option_map (λ noted. None)

-- What is under a key after it is dropped: the index no longer has it, unless it has an LEI.
abbrev pub after_dropping : Option (Option Lei) → Option (Option Lei)
after_dropping None = None
after_dropping (Some None) = None
after_dropping (Some (Some lei)) = Some (Some lei)

-- The index has the authority, but no id under it.
abbrev pub IsBare : {Y X : Type 0} → Option (BTreeMap Y X) → Type 0
IsBare None = ⊥
IsBare (Some ids) = IsEmpty ids

-- A record holds an authority key that the index doesn't have.
pub record HoldsNewKey (row : Row) (holders : AuthorityKeyIndex) : Type 0 where
  pub authority : Text
  pub id : Text
  pub held : holds authority id row ≡ true
  pub none : noted_holder holders authority id ≡ None

-- A relationship is active, and the index doesn't have its start and type.
pub record HasNewEnd (row : Row) (ends : Ends) : Type 0 where
  pub start : Lei
  pub kind : RelationType
  pub active : is_active_of start kind row ≡ true
  pub none : noted_end ends start kind ≡ None

-- Marked keys of both indexes: a test for authority keys, and one for starts with types.
pub record Marks : Type 0 where
  pub by_key : Text → Text → Bool
  pub by_start : Lei → RelationType → Bool

-- The keys that the indexes have, with or without an LEI.
abbrev pub noted_in : AuthorityKeyIndex → Ends → Marks
noted_in holders ends = record {
  by_key = λ authority id. is_some (noted_holder holders authority id);
  by_start = λ start kind. is_some (noted_end ends start kind);
}

-- The keys that have an LEI in the indexes.
abbrev pub taken_in : AuthorityKeyIndex → Ends → Marks
taken_in holders ends = record {
  by_key = λ authority id. is_some (holder_in holders authority id);
  by_start = λ start kind. is_some (end_in_index ends start kind);
}
