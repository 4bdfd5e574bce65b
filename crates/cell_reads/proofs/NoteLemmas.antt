-- What noting one cell or several adds to the list of those that were read.
use Rattle.std.specs.Prelude.{◌≡◌, ◌<◌, ◌+◌, ◌-◌, ℕ, zero, suc, List, [], ◌∷◌, ◌++◌, map, slice_get, Some, None, IsTrue}
use Rattle.std.specs.List.{Contains}
use Rattle.std.specs.Option.{option_map_or}
use mathlib.Core.Logic.{inl, inr}
use Rattle.std.proofs.Common.{refl, sym, ap, subst, ◌∙◌, arith, rules}
use Rattle.std.proofs.lemmas.List.Elements.{Contains-append_cases, Contains-append_left, Contains-push, Contains-push_cases}
use Rattle.lei_records.specs.declared.view.CellKey.{CellKey}
use Rattle.lei_records.specs.declared.view.CellSeen.{CellSeen}
use Rattle.lei_records.specs.declared.view.Seen.{Seen}
use Rattle.lei_records.specs.Cells.{Cells}
use Rattle.lei_records.specs.Walks.{walk_members}
use Rattle.relation_rules.specs.Needs.{lacks}
use Rattle.successor_rules.specs.Walks.{SeenNext, held_lei, known_next}
use Rattle.cell_reads.specs.Notes.{IsCovered, IsListedKey, NotesCells}
use Rattle.cell_reads.specs.Reads.{AnswersReads, HasCell, Listed}

none_in : (key : CellKey) → Contains [] key → ⊥
none_in key at = search rules

only : (own key : CellKey) → Contains (own ∷ []) key → own ≡ key
only own key at = search rules

-- noting no cells changes nothing
pub notes-none : (cells : Cells) (reads : Listed) → NotesCells cells reads reads []
notes-none cells reads = record {
  grows = λ key found at. at;
  answers = λ is. is;
  covers = λ key at. absurd (none_in key at);
}

-- a cell that is covered needs no noting
notes-covered : (cells : Cells) (reads : Listed) (own : CellKey) → IsCovered reads cells own → NotesCells cells reads reads (own ∷ [])
notes-covered cells reads own covered = record {
  grows = λ key found at. at;
  answers = λ is. is;
  covers = λ key at. subst (IsCovered reads cells) (only own key at) covered;
}

pub notes-listed : (cells : Cells) (reads : Listed) (own : CellKey) → IsListedKey reads own → NotesCells cells reads reads (own ∷ [])
notes-listed cells reads own listed = notes-covered cells reads own (inr listed)

pub notes-lacking : (cells : Cells) (reads : Listed) (own : CellKey) → IsTrue (lacks cells own) → NotesCells cells reads reads (own ∷ [])
notes-lacking cells reads own lacking = notes-covered cells reads own (inl lacking)

-- a cell is appended to the list
answers_more : (cells : Cells) (old : Listed) (own : CellKey) (had : CellSeen) → HasCell cells own had → AnswersReads old cells
    → AnswersReads (old ++ (own, had) ∷ []) cells
answers_more cells old own had has answers key found at =
    elim (Contains-push_cases old (own, had) (key, found) at) as (λ _. HasCell cells key found) [
      | inl before ↦ answers key found before
      | inr same ↦ subst (λ read. HasCell cells read.0 read.1) same has
    ]

pub notes-added : (cells : Cells) (old new : Listed) (own : CellKey) (had : CellSeen) → new ≡ old ++ (own, had) ∷ [] → HasCell cells own had
    → NotesCells cells old new (own ∷ [])
notes-added cells old new own had is has =
    let P : Listed → Type 0 = λ reads. NotesCells cells old reads (own ∷ []) in
    subst P (sym is) (record {
      grows = λ key found at. Contains-append_left old ((own, had) ∷ []) (key, found) at;
      answers = answers_more cells old own had has;
      covers = λ key at. subst (IsCovered (old ++ (own, had) ∷ []) cells) (only own key at) (inr (had, Contains-push old (own, had)));
    })

-- a covered cell stays covered as the list grows
covered_later : (cells : Cells) (old new : Listed) (keys : List CellKey) (key : CellKey) → NotesCells cells old new keys
    → IsCovered old cells key → IsCovered new cells key
covered_later cells old new keys key notes (inl lacking) = inl lacking
covered_later cells old new keys key notes (inr listed) = inr (listed.0, notes.grows key listed.0 listed.1)

-- noting some cells, and then others, is noting all of them
pub notes-then : (cells : Cells) (old between new : Listed) (first second : List CellKey) → NotesCells cells old between first
    → NotesCells cells between new second → NotesCells cells old new (first ++ second)
notes-then cells old between new first second before after = record {
  grows = λ key found at. after.grows key found (before.grows key found at);
  answers = λ is. after.answers (before.answers is);
  covers = λ key at. elim (Contains-append_cases first second key at) as (λ _. IsCovered new cells key) [
    | inl of_first ↦ covered_later cells between new second key after (before.covers key of_first)
    | inr of_second ↦ after.covers key of_second
  ];
}

-- ---- a walk

-- the cells of the first n members of a walk
abbrev pub walk_keys : ℕ → SeenNext → (List ℕ → CellKey) → List ℕ → List CellKey
walk_keys n answers cell first = map cell (walk_members n (known_next answers) first)

-- noting the members that are left, from this one on, completes the noting of the whole walk
abbrev pub GoesOn : Cells → Listed → Listed → ℕ → SeenNext → (List ℕ → CellKey) → List ℕ → List ℕ → Type 0
GoesOn cells old now left answers cell member first =
    (last : Listed) → NotesCells cells now last (walk_keys left answers cell member) → NotesCells cells old last (walk_keys 200 answers cell first)

-- the cells of a walk from a member are its own, and those of the walk from the member that it names
keys-suc : (n : ℕ) (answers : SeenNext) (cell : List ℕ → CellKey) (member : List ℕ)
    → walk_keys (suc n) answers cell member ≡ cell member ∷ map cell (option_map_or (walk_members n (known_next answers)) (known_next answers member) [])
unfolding walk_members
keys-suc n answers cell member = refl

keys-next : (n : ℕ) (answers : SeenNext) (cell : List ℕ → CellKey) (member next : List ℕ) → answers member ≡ Seen.Held next
    → walk_keys (suc n) answers cell member ≡ cell member ∷ walk_keys n answers cell next
keys-next n answers cell member next is =
    keys-suc n answers cell member ∙ ap (λ seen. cell member ∷ map cell (option_map_or (walk_members n (known_next answers)) (held_lei seen) [])) is

keys-last : (n : ℕ) (answers : SeenNext) (cell : List ℕ → CellKey) (member : List ℕ) → held_lei (answers member) ≡ None
    → walk_keys (suc n) answers cell member ≡ cell member ∷ []
keys-last n answers cell member is =
    keys-suc n answers cell member ∙ ap (λ next. cell member ∷ map cell (option_map_or (walk_members n (known_next answers)) next [])) is

keys-zero : (answers : SeenNext) (cell : List ℕ → CellKey) (member : List ℕ) → walk_keys zero answers cell member ≡ []
unfolding walk_members
keys-zero answers cell member = refl

one_less : (c : ℕ) → c < 200 → 200 - c ≡ suc (200 - (c + 1))
one_less c less = omega arith

module _ (cells : Cells) (old now after : Listed) (answers : SeenNext) (cell : List ℕ → CellKey) (member first : List ℕ) (c : ℕ) where
  -- the walk goes on to the next member
  pub walk-next : (next : List ℕ) → c < 200 → GoesOn cells old now (200 - c) answers cell member first → NotesCells cells now after (cell member ∷ [])
      → answers member ≡ Seen.Held next → GoesOn cells old after (200 - (c + 1)) answers cell next first
  walk-next next less goes_on noted is last rest =
      let P : List CellKey → Type 0 = NotesCells cells now last in
      goes_on last (subst P (sym (ap (λ n. walk_keys n answers cell member) (one_less c less) ∙ keys-next (200 - (c + 1)) answers cell member next is))
      (notes-then cells now after last (cell member ∷ []) (walk_keys (200 - (c + 1)) answers cell next) noted rest))

  -- no next member is known
  walk-last : c < 200 → GoesOn cells old now (200 - c) answers cell member first → NotesCells cells now after (cell member ∷ [])
      → held_lei (answers member) ≡ None → NotesCells cells old after (walk_keys 200 answers cell first)
  walk-last less goes_on noted is =
      let P : List CellKey → Type 0 = NotesCells cells now after in
      goes_on after (subst P (sym (ap (λ n. walk_keys n answers cell member) (one_less c less) ∙ keys-last (200 - (c + 1)) answers cell member is)) noted)

  pub walk-ends : c < 200 → GoesOn cells old now (200 - c) answers cell member first → NotesCells cells now after (cell member ∷ [])
      → answers member ≡ Seen.Empty → NotesCells cells old after (walk_keys 200 answers cell first)
  walk-ends less goes_on noted is = walk-last less goes_on noted (ap held_lei is)

  pub walk-lacks : c < 200 → GoesOn cells old now (200 - c) answers cell member first → NotesCells cells now after (cell member ∷ [])
      → answers member ≡ Seen.Missing → NotesCells cells old after (walk_keys 200 answers cell first)
  walk-lacks less goes_on noted is = walk-last less goes_on noted (ap held_lei is)

-- no members are left: all were noted
pub walk-all : (cells : Cells) (old now : Listed) (answers : SeenNext) (cell : List ℕ → CellKey) (member first : List ℕ) (left : ℕ) → left ≡ 0
    → GoesOn cells old now left answers cell member first → NotesCells cells old now (walk_keys 200 answers cell first)
walk-all cells old now answers cell member first left is goes_on =
    let P : List CellKey → Type 0 = NotesCells cells now now in
    goes_on now (subst P (sym (ap (λ n. walk_keys n answers cell member) is ∙ keys-zero answers cell member)) (notes-none cells now))

-- ---- successors

-- the record of the first successor is among those that are named
pub first_named : (successors : List (List ℕ)) (lei : List ℕ) → slice_get successors 0 ≡ Some lei → Contains (map CellKey.Rec successors) (CellKey.Rec lei)
first_named [] lei is = cc
first_named (successor ∷ successors) lei is = (0, omega arith, let same : successor ≡ lei = cc in ap CellKey.Rec same)
