-- A look of a caller, and a turn after it.
use Rattle.std.proofs.Common.{◌≡◌, ◌==◌, ◌+◌, ◌∷◌, ◌++◌, ℕ, ℤ, List, [], length, true, cond, Option, None, Result, refl, sym, ap, ◌∙◌, subst}
use Rattle.std.proofs.lemmas.Bool.{eq-eqb}
use Rattle.std.proofs.lemmas.List.{append-nil}
use Rattle.fetched_cells.specs.declared.fetched.Fetched.{Fetched}
use Rattle.lei_values.specs.KeptTables.{KeptTables}
use Rattle.lei_values.specs.declared.entry.KeptEntry.{KeptEntry}
use Rattle.lei_values.specs.declared.no_memory.NoMemory.{NoMemory}
use Rattle.lei_records.specs.declared.view.CellKey.{CellKey}
use Rattle.register_history.specs.Legal.{Legal}
use Rattle.register_history.specs.State.{OfficeState, office_of}
use Rattle.register_words.specs.declared.limits.Limits.{Limits}
use Rattle.register_words.specs.declared.reply.Reply.{Reply}
use Rattle.register_words.specs.declared.request.Request.{Request}
use Rattle.turnstile.specs.Meaning.{Meaning, meaning, mine_after}
use Rattle.turnstile.specs.Passes.{IsTurn, pass_after, with_seen}
use Rattle.turnstile.proofs.Prefixes.{prefix_self, prefix_trans}
use Rattle.lei_hall.specs.declared.answers.Told.{Told}
use Rattle.lei_hall.specs.Looks.{Fetches, Looks, SeesMore}
use Rattle.lei_hall.specs.Passes.{HallPass, ReportsSo, SlotView, limits_of, numbers_of}
use Rattle.lei_hall.specs.Turns.{Turn}

-- a number is equal to itself
same_number : (n : ℕ) → (n == n) ≡ true
same_number n = eq-eqb n n refl

-- if the list has as many entries as before, no place is made
none_made : (first n : ℕ) (mine : List ℕ) → mine_after first n n mine ≡ mine
none_made first n mine = ap (λ b. cond b mine (mine ++ (first + n) ∷ [])) (same_number n)

-- A turn of a pass at the turnstile that fetched cells from the office and left it unchanged is a look.
pub looked : {K : Type 0} (tables : K → Option KeptTables) (faults : K → ℕ) (before after : HallPass) (x y : SlotView K) (keys : List CellKey)
    (fetched : Result Fetched NoMemory) → y ≡ x → Legal x.office.office → Fetches x.office.office keys fetched
    → IsTurn (meaning (λ s. s.office.office.history) (λ s. faults s.office.keeper) (λ s. numbers_of s.office.office.limits (tables s.opened.keeper)) 1 ReportsSo)
    before None x y after → Looks before keys fetched after
looked {K} tables faults before after x y keys fetched same legal cells turn =
    let m : Meaning (SlotView K) KeptEntry Told =
    meaning (λ s. s.office.office.history) (λ s. faults s.office.keeper) (λ s. numbers_of s.office.office.limits (tables s.opened.keeper)) 1 ReportsSo in
    let history = x.office.office.history in
    let limits : x.office.office.limits ≡ limits_of before.stays = ap limits_of turn.stays in
    let office : x.office.office ≡ office_of (limits_of before.stays) history = ap (λ (l : Limits). office_of l history) limits in
    let stays : HallPass = pass_after m before None x x in
    let is : after ≡ stays = turn.after_is ∙ ap (λ (s : SlotView K). pass_after m before None x s) same in
    let seen : stays ≡ with_seen before history = λ i. record {
      table = before.table;
      number = before.number;
      seen = history;
      mine = none_made 1 (length history) before.mine i;
      told = append-nil before.told i;
      stays = before.stays;
    } in
    let L : HallPass → Type 0 = λ p. Looks before keys fetched p in
    subst L (sym (is ∙ seen)) (record {
      sees = record { seen = turn.seen; same = refl };
      legal = subst Legal office legal;
      cells = subst (λ (o : OfficeState). Fetches o keys fetched) office cells;
    })

-- The same, if the values that were lent and returned are the turn's.
pub looked_by : {K : Type 0} (tables : K → Option KeptTables) (faults : K → ℕ) (before after : HallPass) (x y lent back : SlotView K) (keys : List CellKey)
    (fetched : Result Fetched NoMemory) → lent ≡ x → back ≡ y → back ≡ lent → Legal lent.office.office → Fetches lent.office.office keys fetched
    → IsTurn (meaning (λ s. s.office.office.history) (λ s. faults s.office.keeper) (λ s. numbers_of s.office.office.limits (tables s.opened.keeper)) 1 ReportsSo)
    before None x y after → Looks before keys fetched after
looked_by {K} tables faults before after x y lent back keys fetched lends leaves same legal cells turn =
    looked tables faults before after x y keys fetched (sym leaves ∙ same ∙ lends)
    (subst (λ (s : SlotView K). Legal s.office.office) lends legal)
    (subst (λ (s : SlotView K). Fetches s.office.office keys fetched) lends cells) turn

-- ---- what may come before a turn

-- nothing was seen
pub sees_same : (pass : HallPass) → SeesMore pass pass
sees_same pass = record { seen = prefix_self pass.seen; same = refl }

-- A turn of a pass that has seen more is a turn of the pass as it was.
pub turn_later : (before mid after : HallPass) (request : Request) (moment : ℤ) (reply : Reply) → SeesMore before mid
    → Turn mid request moment reply after → Turn before request moment reply after
turn_later before mid after request moment reply sees turn =
    let T : HallPass → Type 0 = λ p. Turn p request moment reply after in
    let now = subst T sees.same turn in
    record {
      history = now.history;
      from = now.from;
      to = now.to;
      seen = prefix_trans before.seen mid.seen now.history sees.seen now.seen;
      front = now.front;
      step = now.step;
      legal = now.legal;
      told = now.told;
      mine = now.mine;
      later = now.later;
      faults = now.faults;
      fault = now.fault;
      table = now.table;
      number = now.number;
      limits = now.limits;
    }
