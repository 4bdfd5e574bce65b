-- The rule of a turnstile. Its first two words are the number of tickets that were drawn and the ticket that is served,
-- both modulo 2 ^ 64. The others are event counts, and the rule says nothing of them. Its one slot has the value.
use Rattle.std.specs.Prelude.{◌≡◌, ℕ, zero, suc, ◌+◌, ◌≤◌, ◌<◌, ◌%◌, ◌^◌, ◌==◌, ◌⊎◌, List, [], ◌∷◌, ◌++◌, length, nat_lt, if◌then◌else◌}
use mathlib.Core.Option.{Option, some, none}
use lib.ListN.{get_elem?}
use Rattle.atomic_table.specs.Table.{State}
use Rattle.turnstile.specs.declared.view.Stage.{Stage}
use Rattle.turnstile.specs.declared.view.Member.{Member}
use Rattle.turnstile.specs.declared.view.Account.{Account}
use Rattle.turnstile.specs.declared.view.View.{View}
use Rattle.turnstile.specs.Lists.{Each, total, IsPrefix}
use Rattle.turnstile.specs.Meaning.{Meaning}

-- ---- what all turns have made and told, in their order

-- The places of the entries that the pass k made. Each entry has its maker, and the first entry is at `at`.
abbrev pub made_by : ℕ → ℕ → List ℕ → List ℕ
made_by k at [] = []
made_by k at (maker ∷ makers) = if k == maker then at
    ∷ made_by k (at + 1) makers else made_by k (at + 1) makers

module _ {D : Type 0} where
  -- what the pass k was told, from all that was told, each member with the number of its pass
  abbrev pub told_to : ℕ → List (ℕ × Member D) → List (Member D)
  told_to k [] = []
  told_to k (t ∷ ts) = if k == t.0 then t.1 ∷ told_to k ts else told_to k ts

  -- each stretch from one count of faults to another starts at the end of the previous one, or later
  abbrev pub InOrder : ℕ → List (ℕ × Member D) → Type 0
  InOrder count [] = Unit {0}
  InOrder count (t ∷ ts) = (count ≤ t.1.from) × (t.1.from ≤ t.1.to) × InOrder t.1.to ts

  -- the end of the last stretch
  abbrev pub last_count : ℕ → List (ℕ × Member D) → ℕ
  last_count count [] = count
  last_count count (t ∷ ts) = last_count t.1.to ts

-- All turns so far: the tickets served and drawn, the list, and the makers of the entries after the opening. The record
-- also has the members that were told, each with the number of its pass.
pub record Past (E D : Type 0) : Type 0 where
  pub serving : ℕ
  pub drawn : ℕ
  pub history : List E
  pub makers : List ℕ
  pub members : List (ℕ × Member D)

-- ---- views

-- 1 for a seat that has a ticket
abbrev pub busy_at : Stage → ℕ
busy_at Stage.Idle = 0
busy_at Stage.Waiting = 1
busy_at Stage.InTurn = 1

-- 1 for the seat in turn
abbrev pub in_turn_at : Stage → ℕ
in_turn_at Stage.Idle = 0
in_turn_at Stage.Waiting = 0
in_turn_at Stage.InTurn = 1

module _ {D : Type 0} where
  -- the initial account of the pass k
  abbrev pub new_account : ℕ → List ℕ → Account D
  new_account k stays = record { number = k; stays = stays; mine = []; told = [] }

  -- the initial accounts of n passes, starting with k
  abbrev pub accounts_from : ℕ → ℕ → List ℕ → List (Account D)
  accounts_from k zero stays = []
  accounts_from k (suc n) stays = new_account k stays ∷ accounts_from (k + 1) n stays

  -- how many of the accounts have the number k
  abbrev pub with_number : ℕ → List (Account D) → ℕ
  with_number k accounts = total (λ a. if k == a.number then 1 else 0) accounts

  abbrev pub after_first : List (Account D) → List (Account D)
  after_first [] = []
  after_first (a ∷ rest) = rest

  abbrev pub only_first : List (Account D) → List (Account D)
  only_first [] = []
  only_first (a ∷ rest) = a ∷ []

module _ {E D : Type 0} where
  abbrev pub busy : View E D → ℕ
  busy v = busy_at v.stage

  abbrev pub in_turn : View E D → ℕ
  in_turn v = in_turn_at v.stage

  -- the number of passes that the seat represents
  abbrev pub passes : View E D → ℕ
  passes v = length v.accounts

  -- how many of these have the number k
  abbrev pub number_count : ℕ → View E D → ℕ
  number_count k v = with_number k v.accounts

  abbrev pub idle_view : List E → List E → List (Account D) → View E D
  idle_view seen aside accounts =
      record { stage = Stage.Idle; ticket = 0; from = 0; seen = seen; aside = aside; accounts = accounts }

  -- the view of a seat that another one absorbed
  abbrev pub spent_view : View E D
  spent_view = idle_view [] [] []

  abbrev pub waiting_view : View E D → ℕ → View E D
  waiting_view v t =
      record {
        stage = Stage.Waiting;
        ticket = t;
        from = v.from;
        seen = v.seen;
        aside = v.aside;
        accounts = v.accounts;
      }

  abbrev pub turn_view : View E D → List E → ℕ → View E D
  turn_view v list faults =
      record {
        stage = Stage.InTurn;
        ticket = v.ticket;
        from = faults;
        seen = list;
        aside = [];
        accounts = v.accounts;
      }

  -- An idle view is split in two: the new seat has the first account, and the old one keeps the others.
  abbrev pub left_part : View E D → View E D
  left_part v = idle_view v.seen [] (after_first v.accounts)

  abbrev pub right_part : View E D → View E D
  right_part v = idle_view v.seen [] (only_first v.accounts)

  -- Two idle views are joined: the accounts of the absorbed one precede the others.
  abbrev pub both_parts : View E D → View E D → View E D
  both_parts v w = idle_view v.seen w.seen (w.accounts ++ v.accounts)

-- ---- the rule

-- 1 for the numbers of the n passes
abbrev pub once_below : ℕ → ℕ → ℕ
once_below k n = if nat_lt k n then 1 else 0

-- the number of the first entry after the opening
abbrev pub first_place : {T E D : Type 0} → Meaning T E D → T → ℕ
first_place m opened = m.first + length (m.entries opened)

module _ {T E D : Type 0} (m : Meaning T E D) (opened : T) where
  -- The account says what happened to its pass, and has the numbers that stay.
  pub record AccountFits (makers : List ℕ) (members : List (ℕ × Member D)) (a : Account D) : Type 0 where
    pub mine : a.mine ≡ made_by a.number (first_place m opened) makers
    pub told : a.told ≡ told_to a.number members
    pub stays : a.stays ≡ m.stays opened

  -- What a seat knows is true: the lists that it has seen are fronts of the one list, and its accounts fit. If it has a
  -- ticket, this ticket is out. If it is in turn, its ticket is served, and it has seen the whole list. At the start of
  -- this turn the count of faults was at least every told count.
  pub record ViewFits (past : Past E D) (v : View E D) : Type 0 where
    pub seen : IsPrefix v.seen past.history
    pub aside : IsPrefix v.aside past.history
    pub accounts : Each (AccountFits past.makers past.members) v.accounts
    pub ticket : busy v ≡ 1 → (past.serving ≤ v.ticket) × (v.ticket < past.drawn) × (1 ≤ passes v)
    pub turn : in_turn v ≡ 1 →
        (v.ticket ≡ past.serving) × (v.seen ≡ past.history)
        × (last_count (m.faults opened) past.members ≤ v.from)

  -- All views fit. There are as many tickets out as seats that have one, and each such seat has its own. There are n
  -- passes, with the numbers below n, each in one account of one seat.
  pub record ViewsFit (n : ℕ) (past : Past E D) (views : List (View E D)) : Type 0 where
    pub each : (id : ℕ) (v : View E D) → get_elem? views id ≡ some v → ViewFits past v
    pub tickets : past.serving + total busy views ≡ past.drawn
    pub own : (i j : ℕ) (v w : View E D) → get_elem? views i ≡ some v → get_elem? views j ≡ some w →
        busy v ≡ 1 → busy w ≡ 1 → v.ticket ≡ w.ticket → i ≡ j
    pub count : total passes views ≡ n
    pub numbers : (k : ℕ) → total (number_count k) views ≡ once_below k n

  -- What happened since the opening fits. Each entry that was added has a maker, a number below n. The stretches of
  -- faults are in order, and what has to hold for each member holds.
  pub record PastFits (n : ℕ) (past : Past E D) : Type 0 where
    pub list : (added : List E) × (past.history ≡ m.entries opened ++ added)
        × (length added ≡ length past.makers)
    pub makers : Each (λ k. k < n) past.makers
    pub faults : InOrder (m.faults opened) past.members
    pub told : Each (λ t. m.tells t.1) past.members

  -- The value is at home and represents the list, or it is out with a seat in turn.
  abbrev pub IsHome : Past E D → List (Option T) → List (View E D) → Type 0
  IsHome past homes views =
      ((x : T) × (homes ≡ some x ∷ []) × (m.entries x ≡ past.history) × (m.stays x ≡ m.stays opened)
      × (last_count (m.faults opened) past.members ≤ m.faults x))
      ⊎ ((homes ≡ none ∷ []) × ((id : ℕ) × (v : View E D) × (get_elem? views id ≡ some v) × (in_turn v ≡ 1)))

  pub record IsKept (n : ℕ) (s : State T (View E D)) : Type 0 where
    pub past : Past E D
    pub events : List ℕ
    pub words : s.words ≡ past.drawn % 2 ^ 64 ∷ past.serving % 2 ^ 64 ∷ events
    pub few : n < 2 ^ 64
    pub views : ViewsFit n past s.views
    pub so_far : PastFits n past
    pub home : IsHome past s.homes s.views
