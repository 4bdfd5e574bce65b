use Rattle.std.proofs.Common.{◌≡◌, true, take}
use Rattle.std.specs.List.{list_all}
use Rattle.name_search.specs.Keys.{is_one_of_keys}
use Rattle.name_search.specs.Walks.{NotesStay, keys_under}
use Rattle.name_search.proofs.postings.Postings.note_of_delta.Given as goal

-- the key is noted under the words so far, and what was noted still is
abbrev pub invariant-loop-word : goal.invariant-loop-word
invariant-loop-word l = record {
  stays : NotesStay l.fn.self l.self;
  noted : list_all (λ word. is_one_of_keys l.row.0 (keys_under l.self word)) (take l.word-index l.word-items) ≡ true;
}
