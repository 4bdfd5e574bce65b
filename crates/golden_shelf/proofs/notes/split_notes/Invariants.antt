use Rattle.std.proofs.Common.{◌≡◌, ◌++◌}
use Rattle.std.specs.List.{filter}
use Rattle.register_words.specs.declared.sheets.Sheet.{Sheet}
use Rattle.golden_shelf.specs.Keys.{is_key_of}
use Rattle.golden_shelf.proofs.notes.split_notes.Given as goal

-- the notes of each sheet so far, and those that are left, are all of its notes
abbrev pub invariant-loop-note : goal.invariant-loop-note
invariant-loop-note l =
    (l.parts.lei.items ++ filter (λ note. is_key_of Sheet.Lei note.key) l.note-iterator.rest.items
    ≡ filter (λ note. is_key_of Sheet.Lei note.key) l.fn.notes.items)
    × (l.parts.rr.items ++ filter (λ note. is_key_of Sheet.Rr note.key) l.note-iterator.rest.items
    ≡ filter (λ note. is_key_of Sheet.Rr note.key) l.fn.notes.items)
    × (l.parts.repex.items ++ filter (λ note. is_key_of Sheet.Repex note.key) l.note-iterator.rest.items
    ≡ filter (λ note. is_key_of Sheet.Repex note.key) l.fn.notes.items)
