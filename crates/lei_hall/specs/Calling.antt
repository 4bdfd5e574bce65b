-- A caller of a hall, as the one who answers in a session.
use Rattle.std.specs.Prelude.{◌≡◌, ◌⊎◌, ℤ, List, [], ◌∷◌, ◌++◌, Option, None, Some}
use Rattle.atomic_table.specs.Seated.{TableId}
use Rattle.register_words.specs.Requests.{TakesMemoryToRead}
use Rattle.register_words.specs.declared.reply.Refusal.TheVariants.{NoMemory}
use Rattle.register_words.specs.declared.reply.Reply.{Reply}
use Rattle.register_words.specs.declared.reply.Reply.TheVariants.{Words}
use Rattle.register_words.specs.declared.request.Asked.{Asked}
use Rattle.register_words.specs.declared.request.Asked.TheVariants.{Ask, Refuse}
use Rattle.turnstile.specs.Passes.{new_pass}
use Rattle.turnstile.specs.declared.view.Member.{Member}
use Rattle.lei_hall.specs.declared.answers.Told.{Told}
use Rattle.lei_hall.specs.Passes.{HallPass, told}
use Rattle.lei_hall.specs.Turns.{Turn}

-- What was asked got this reply, at these moments, and led from one state of a pass to another. A refusal by the reader
-- is its own reply: it takes no moment and no turn. A request takes one moment and one turn. If memory ran out while an
-- upload was read, that is answered instead of its turn, at no moment.
abbrev pub AskTurn : HallPass → Asked → List ℤ → Reply → HallPass → Type 0
AskTurn before (Refuse refusal) moments reply after =
    (moments ≡ []) × (reply ≡ Words refusal) × (after ≡ before)
AskTurn before (Ask request) moments reply after =
    ((m : ℤ) × (moments ≡ m ∷ []) × Turn before request m reply after)
    ⊎ (TakesMemoryToRead request × (moments ≡ []) × (reply ≡ Words NoMemory) × (after ≡ before))

-- ---- what a session tells a pass

-- The same pass at two moments: its table, its number and its limits stay.
abbrev pub IsSamePass : HallPass → HallPass → Type 0
IsSamePass before after =
    (after.table ≡ before.table) × (after.number ≡ before.number) × (after.stays ≡ before.stays)

-- One turn for each of these members leads, in order, from one state of a pass to the other.
abbrev pub Turns : HallPass → List (Member Told) → HallPass → Type 0
Turns before [] after = after ≡ before
Turns before (t ∷ members) after =
    (between : HallPass) × Turn before t.piece.request t.piece.moment t.piece.reply between
    × (between.told ≡ before.told ++ t ∷ []) × Turns between members after

-- These members are told of what was asked, at these moments, with these replies. There is one member for each request
-- that was put to the office, in order. There is none for a refusal by the reader, or for an upload that ran out of
-- memory while it was read.
abbrev pub AreToldOf : List Asked → List ℤ → List Reply → List (Member Told) → Type 0
AreToldOf [] moments replies members = (moments ≡ []) × (members ≡ [])
AreToldOf (asked ∷ asks) moments [] members = ⊥
AreToldOf (Refuse refusal ∷ asks) moments (reply ∷ replies) members = AreToldOf asks moments replies members
AreToldOf (Ask request ∷ asks) moments (reply ∷ replies) members =
    ((m : ℤ) × (rest : List ℤ) × (t : Member Told) × (others : List (Member Told)) × (moments ≡ m ∷ rest)
    × (members ≡ t ∷ others) × (t.piece ≡ told request m reply) × AreToldOf asks rest replies others)
    ⊎ (TakesMemoryToRead request × (reply ≡ Words NoMemory) × AreToldOf asks moments replies members)

-- What a pass was told grew by such members, and one turn for each leads from its state before to its state after.
pub record GrewBy (before : HallPass) (asks : List Asked) (moments : List ℤ) (replies : List Reply)
    (after : HallPass) : Type 0 where
  pub members : List (Member Told)
  pub told : after.told ≡ before.told ++ members
  pub turns : Turns before members after
  pub told_of : AreToldOf asks moments replies members

-- What a pass was told grew by some members, and one turn for each leads, in order, from its state before to its state
-- after.
pub record TakesTurns (before after : HallPass) : Type 0 where
  pub members : List (Member Told)
  pub told : after.told ≡ before.told ++ members
  pub turns : Turns before members after

-- ---- inside

-- The pass of a caller, which always has one.
abbrev pub pass_in : TableId → Option HallPass → HallPass
pass_in table (Some pass) = pass
pass_in table None = new_pass table 0 [] []
