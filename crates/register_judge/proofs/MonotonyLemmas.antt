-- Views that know more: suppose a second view answers as a first one for each cell that the first one has. Then checks
-- that have a result over the first view have the same result over the second.
use Rattle.std.specs.Prelude.{◌≡◌, ℕ, zero, suc, List, ◌∷◌, [], true, false, Option, Some, None, slice_get, ⊤}
use Rattle.std.specs.List.{Contains}
use Rattle.std.specs.Option.{option_map_or}
use Rattle.std.specs.Str.{bytes_eq}
use Rattle.std.proofs.Common.{refl, sym, ap, subst, ◌⊎◌, inl, inr, arith}
use Rattle.std.proofs.lemmas.Bool.{false≢true, or_cases}
use Rattle.std.proofs.lemmas.List.Elements.{Contains-append_left, Contains-append_right}
use Rattle.lei_records.specs.Checks.{FailedCheck}
use Rattle.lei_records.specs.declared.view.CellKey.{CellKey}
use Rattle.lei_records.specs.declared.view.RecCell.{RecCell}
use Rattle.lei_records.specs.declared.view.Seen.{Seen}
use Rattle.lei_records.specs.Cells.{Cells}
use Rattle.lei_records.specs.Walks.{Next, walk_members}
use Rattle.authority_rules.specs.Taken.{unless_own}
use Rattle.successor_rules.specs.declared.walks.Walked.{Walked}
use Rattle.successor_rules.specs.Levels.{lacks_nexts}
use Rattle.successor_rules.specs.Successors.{seen_successor, successor_seen, successors_seen}
use Rattle.successor_rules.proofs.LevelLemmas.{has, same_text}
use Rattle.successor_rules.specs.Walks.{SeenNext, held_lei, known_next, walk_over}
use Rattle.successor_rules.proofs.WalkLemmas.{walk_in, walk_in-ends, walk_in-lacks, walk_in-meets, walk_in-next, walk_in-zero}
use Rattle.relation_rules.specs.declared.checked.Checked.{Checked}
use Rattle.relation_rules.specs.Checking.{check_walked, on_seen, unless_failed}

-- ---- one answer

-- the second answer is the first one, unless that is missing
abbrev pub Less : {X : Type 0} → Seen X → Seen X → Type 0
Less (Seen.Held x) other = other ≡ Seen.Held x
Less Seen.Empty other = other ≡ Seen.Empty
Less Seen.Missing other = ⊤

-- this holds for the answers of the two views for the cell of this key
abbrev pub LessAt : Cells → Cells → CellKey → Type 0
LessAt a b (CellKey.Rec lei) = Less (a.record_cell lei) (b.record_cell lei)
LessAt a b (CellKey.Rel start kind end) = Less (a.relation start kind end) (b.relation start kind end)
LessAt a b (CellKey.Exc lei category) = Less (a.exception lei category) (b.exception lei category)
LessAt a b (CellKey.Key authority id) = Less (a.holder authority id) (b.holder authority id)
LessAt a b (CellKey.Act start kind) = Less (a.active start kind) (b.active start kind)

pub less-same : {X : Type 0} (seen : Seen X) → Less seen seen
less-same (Seen.Held x) = refl
less-same Seen.Empty = refl
less-same Seen.Missing = tt

pub less-own : (own : List ℕ) (a b : Seen (List ℕ)) → Less a b → Less (unless_own own a) (unless_own own b)
less-own own (Seen.Held lei) b less =
    let P : Seen (List ℕ) → Type 0 = λ seen. Less (unless_own own (Seen.Held lei)) (unless_own own seen) in
    subst P (sym less) (less-same (unless_own own (Seen.Held lei)))
less-own own Seen.Empty b less = ap (unless_own own) less
less-own own Seen.Missing b less = tt

pub less-successor : (a b : Seen RecCell) → Less a b → Less (successor_seen a) (successor_seen b)
less-successor (Seen.Held cell) b less =
    let P : Seen RecCell → Type 0 = λ seen. Less (seen_successor (slice_get cell.successors 0)) (successor_seen seen) in
    subst P (sym less) (less-same (seen_successor (slice_get cell.successors 0)))
less-successor Seen.Empty b less = ap successor_seen less
less-successor Seen.Missing b less = tt

-- the first answer names the same successors as the second, or its cell is missing
pub nearer : (a b : Seen RecCell) → Less a b → (lacks_nexts (successors_seen a) ≡ true) ⊎ (successors_seen a ≡ successors_seen b)
nearer (Seen.Held cell) b less = inr (ap successors_seen (sym less))
nearer Seen.Empty b less = inr (ap successors_seen (sym less))
nearer Seen.Missing b less = inl refl

-- what a list has is contained in it
pub contained : (leis : List (List ℕ)) (lei : List ℕ) → has leis lei ≡ true → Contains leis lei
contained [] lei at = absurd (false≢true at)
contained (own ∷ leis) lei at = elim (or_cases (bytes_eq lei own) (has leis lei) at) [
  | inl same ↦ (0, omega arith, sym (same_text lei own same))
  | inr later ↦ Contains-append_right (own ∷ []) leis lei (contained leis lei later)
]

-- ---- walks

-- the walk over the second view has the same result, unless the first view lacks a cell
abbrev pub LessWalked : Walked → Walked → Type 0
LessWalked Walked.Meets other = other ≡ Walked.Meets
LessWalked Walked.Long other = other ≡ Walked.Long
LessWalked Walked.Ends other = other ≡ Walked.Ends
LessWalked (Walked.Missing key) other = ⊤

-- two walks have the same result, or the first one lacks a cell
pub less-walked : (a b : Walked) → (a ≡ b) ⊎ ((key : CellKey) × (a ≡ Walked.Missing key)) → LessWalked a b
less-walked a b (inr lacks) = let P : Walked → Type 0 = λ walked. LessWalked walked b in subst P (sym lacks.1) tt
less-walked a b (inl same) = let P : Walked → Type 0 = λ walked. LessWalked a walked in subst P same (walked-same a)
  where
    walked-same : (walked : Walked) → LessWalked walked walked
    walked-same Walked.Meets = refl
    walked-same Walked.Long = refl
    walked-same Walked.Ends = refl
    walked-same (Walked.Missing key) = tt

walked-by : (a a' b b' : Walked) → a ≡ a' → b ≡ b' → LessWalked a' b' → LessWalked a b
walked-by a a' b b' a_is b_is less =
    let P : Walked → Type 0 = λ walked. LessWalked walked b in
    subst P (sym a_is) (subst (LessWalked a') (sym b_is) less)

first_of : (n : ℕ) (next : Next) (first : List ℕ) → Contains (walk_members (suc n) next first) first
unfolding walk_members
first_of n next first = Contains-append_left (first ∷ []) (option_map_or (walk_members n next) (next first) []) first (0, omega arith, refl)

others_of : (n : ℕ) (next : Next) (first lei member : List ℕ) → next first ≡ Some lei → Contains (walk_members n next lei) member
    → Contains (walk_members (suc n) next first) member
unfolding walk_members
others_of n next first lei member is at =
    subst (λ named. Contains (first ∷ option_map_or (walk_members n next) named []) member) (sym is) (Contains-append_right (first ∷ []) (walk_members n next lei) member at)

-- this holds for the answers for the members of the walk, as far as the first view knows it
abbrev pub LessAlong : ℕ → SeenNext → SeenNext → List ℕ → Type 0
LessAlong n a b first = (member : List ℕ) → Contains (walk_members n (known_next a) first) member → Less (a member) (b member)

module _ (a b : SeenNext) (key : List ℕ → CellKey) (start : List ℕ) where
  -- the walks of up to this many members
  abbrev IsLess : ℕ → List ℕ → Type 0
  IsLess n first = LessAlong n a b first → LessWalked (walk_in n a key start first) (walk_in n b key start first)

  -- given what the first view answers for the first member
  less_step : (n : ℕ) (first : List ℕ) (seen : Seen (List ℕ)) → ((second : List ℕ) → IsLess n second) → bytes_eq start first ≡ false
      → LessAlong (suc n) a b first → a first ≡ seen → LessWalked (walk_in (suc n) a key start first) (walk_in (suc n) b key start first)
  less_step n first (Seen.Held lei) rest other less is =
      let same : b first ≡ Seen.Held lei =
      (let P : Seen (List ℕ) → Type 0 = λ seen. Less seen (b first) in subst P is (less first (first_of n (known_next a) first))) in
      walked-by _ (walk_in n a key start lei) _ (walk_in n b key start lei) (walk_in-next n a key start first lei other is) (walk_in-next n b key start first lei other same)
      (rest lei (λ member at. less member (others_of n (known_next a) first lei member (ap held_lei is) at)))
  less_step n first Seen.Empty rest other less is =
      let same : b first ≡ Seen.Empty =
      (let P : Seen (List ℕ) → Type 0 = λ seen. Less seen (b first) in subst P is (less first (first_of n (known_next a) first))) in
      walked-by _ Walked.Ends _ Walked.Ends (walk_in-ends n a key start first other is) (walk_in-ends n b key start first other same) refl
  less_step n first Seen.Missing rest other less is =
      walked-by _ (Walked.Missing (key first)) _ _ (walk_in-lacks n a key start first other is) refl tt

  less_walk : (n : ℕ) (first : List ℕ) → IsLess n first
  less_walk zero first less = walked-by _ Walked.Long _ Walked.Long (walk_in-zero a key start first) (walk_in-zero b key start first) refl
  less_walk (suc n) first less =
      elim (bytes_eq start first) as (λ t. bytes_eq start first ≡ t → LessWalked (walk_in (suc n) a key start first) (walk_in (suc n) b key start first)) [
        | true ↦ λ met. walked-by _ Walked.Meets _ Walked.Meets (walk_in-meets n a key start first met) (walk_in-meets n b key start first met) refl
        | false ↦ λ other. less_step n first (a first) (less_walk n) other less refl
      ] refl

  pub less-walk_over : (first : List ℕ) → LessAlong 200 a b first → LessWalked (walk_over a key start first) (walk_over b key start first)
  less-walk_over first less = less_walk 200 first less

-- ---- checks

-- the checks over the second view have the same result, unless the first view lacks a cell
abbrev pub LessChecked : Checked → Checked → Type 0
LessChecked Checked.Passes other = other ≡ Checked.Passes
LessChecked (Checked.Fails check) other = other ≡ Checked.Fails check
LessChecked (Checked.Missing key) other = ⊤

pub checked-same : (checked : Checked) → LessChecked checked checked
checked-same Checked.Passes = refl
checked-same (Checked.Fails check) = refl
checked-same (Checked.Missing key) = tt

pub less-on_seen : {X : Type 0} (a b : Seen X) (own : CellKey) (f g : Option X → Checked) → Less a b → ((cell : Option X) → LessChecked (f cell) (g cell))
    → LessChecked (on_seen a own f) (on_seen b own g)
less-on_seen {X} (Seen.Held x) b own f g less then =
    let P : Seen X → Type 0 = λ seen. LessChecked (f (Some x)) (on_seen seen own g) in
    subst P (sym less) (then (Some x))
less-on_seen {X} Seen.Empty b own f g less then =
    let P : Seen X → Type 0 = λ seen. LessChecked (f None) (on_seen seen own g) in
    subst P (sym less) (then None)
less-on_seen Seen.Missing b own f g less then = tt

pub less-unless_failed : (failed : Option FailedCheck) (a b : Checked) → LessChecked a b → LessChecked (unless_failed failed a) (unless_failed failed b)
less-unless_failed None a b less = less
less-unless_failed (Some check) a b less = refl

pub less-check_walked : (cycle long : ℕ) (a b : Walked) (c d : Checked) → LessWalked a b → LessChecked c d
    → LessChecked (check_walked cycle long a c) (check_walked cycle long b d)
less-check_walked cycle long Walked.Meets b c d walked less = ap (λ w. check_walked cycle long w d) walked
less-check_walked cycle long Walked.Long b c d walked less = ap (λ w. check_walked cycle long w d) walked
less-check_walked cycle long Walked.Ends b c d walked less =
    let P : Walked → Type 0 = λ w. LessChecked c (check_walked cycle long w d) in
    subst P (sym walked) less
less-check_walked cycle long (Walked.Missing key) b c d walked less = tt
