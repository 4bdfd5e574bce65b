-- Bases: what a search from the back finds is the last, and what is kept for a trail has the trail's moments.
use Rattle.std.proofs.Common.{◌≡◌, ℕ, suc, ◌+◌, ◌-◌, ◌<◌, ◌≤◌, ℤ, take, Bool, true, false, cond, ◌&&◌, subst, Option, None, Some, List, [], ◌∷◌, ◌++◌, length, refl, sym, ap, ◌∙◌, arith}
use Rattle.std.specs.Prelude.{Err, IfErr, IfOk, MatchResult, Ok, Result, int_le, is_some, nat_le, unwrap_or}
use Rattle.std.specs.List.{slice_get, slice_index_or}
use Rattle.std.proofs.lemmas.List.{length-map, length-take-le, take_more}
use Rattle.std.proofs.lemmas.Bool.{false≢true, leb-true}
use Rattle.copy_forms.specs.Trails.{Trail}
use Rattle.register_words.specs.declared.base.Base.{Base}
use Rattle.golden_shelf.specs.declared.issue.Issue.{Issue}
use Rattle.golden_shelf.specs.declared.fault.ShelfFault.{ShelfFault}
use Rattle.golden_shelf.specs.Bases.{base_in, by_age, count_after_first, last_until, latest_moment, moments_in, number_for_base, publication_numbered, trail_moments}
use Rattle.golden_shelf.specs.Shelves.{AreIssuesOf}

-- the last moment within a bound, after one more moment was appended
pub until_push : (bound : ℤ) (moments : List ℤ) (m : ℤ)
    → last_until bound (moments ++ m ∷ []) ≡ cond (int_le m bound) (Some (length moments + 1)) (last_until bound moments)
until_push bound [] m = by (int_le m bound)
  where
    by : (b : Bool) → count_after_first None b ≡ cond b (Some 1) None
    by true = refl
    by false = refl
until_push bound (x ∷ moments) m =
    ap (λ o. count_after_first o (int_le x bound)) (until_push bound moments m) ∙ by (int_le m bound)
  where
    by : (b : Bool) → count_after_first (cond b (Some (length moments + 1)) (last_until bound moments)) (int_le x bound)
        ≡ cond b (Some (suc (length moments) + 1)) (count_after_first (last_until bound moments) (int_le x bound))
    by true = ap Some (omega arith)
    by false = refl

-- the moment of the last publication is the last moment
pub last_is : (issues : List Issue) (latest : Issue) (base : Base) → Some latest ≡ slice_get issues (length issues - 1)
    → base_in (moments_in issues) base ≡ number_for_base (moments_in issues) latest.moment base
last_is [] latest base at = absurd (false≢true (sym (ap is_some at)))
last_is (first ∷ later) latest base at = ap (λ m. number_for_base (moments_in (first ∷ later)) m base) (by first later at)
  where
    by : (first : Issue) (later : List Issue) → Some latest ≡ slice_get (first ∷ later) (length (first ∷ later) - 1)
        → latest_moment first.moment (moments_in later) ≡ latest.moment
    by first [] at = ap (λ (o : Option Issue). (unwrap_or o first).moment) (sym at)
    by first (next ∷ later) at =
        let e : length (first ∷ next ∷ later) - 1 ≡ suc (length (next ∷ later) - 1) = omega arith in
        by next later (at ∙ ap (slice_get (first ∷ next ∷ later)) e)

-- what is kept for a trail has the trail's moments
pub same_moments : (issues : List Issue) (trail : Trail) → AreIssuesOf issues trail → moments_in issues ≡ trail_moments trail
same_moments [] [] are = refl
same_moments [] (p ∷ trail) are = absurd are
same_moments (i ∷ issues) [] are = absurd are
same_moments (i ∷ issues) (p ∷ trail) are =
    ap (λ m. m ∷ moments_in issues) are.0.moment_is ∙ ap (λ l. p.moment ∷ l) (same_moments issues trail are.1)

-- one step of the search from the back
pub until_step : (bound : ℤ) (issues : List Issue) (n : ℕ) (x : Issue) → 0 < n → n ≤ length issues → x ≡ slice_index_or issues (n - 1) x
    → last_until bound (moments_in (take n issues)) ≡ cond (int_le x.moment bound) (Some n) (last_until bound (moments_in (take (n - 1) issues)))
until_step bound issues n x some most is =
    let m : n - 1 + 1 ≡ n = omega (arith, some) in
    let front : List Issue = take (n - 1) issues in
    let long : length (moments_in front) ≡ n - 1 = length-map front (λ (i : Issue). i.moment) ∙ length-take-le (n - 1) issues (omega (arith, some, most)) in
    let whole : take n issues ≡ front ++ x ∷ [] =
    ap (λ k. take k issues) (sym m) ∙ take_more issues (n - 1) x (omega (arith, some, most)) ∙ ap (λ y. front ++ y ∷ []) (sym is) in
    ap (λ l. last_until bound (moments_in l)) whole ∙ ap (last_until bound) (push_moment front x)
    ∙ until_push bound (moments_in front) x.moment
    ∙ ap (λ k. cond (int_le x.moment bound) (Some k) (last_until bound (moments_in front))) (ap (λ k. k + 1) long ∙ m)
  where
    push_moment : (issues : List Issue) (x : Issue) → moments_in (issues ++ x ∷ []) ≡ moments_in issues ++ x.moment ∷ []
    push_moment [] x = refl
    push_moment (i ∷ issues) x = ap (λ l. i.moment ∷ l) (push_moment issues x)

-- ---- the number that is found is that of a publication

until_within : (bound : ℤ) (moments : List ℤ) (n : ℕ) → last_until bound moments ≡ Some n → n ≤ length moments
until_within bound [] n is = absurd (false≢true (ap is_some is))
until_within bound (m ∷ moments) n is = by (last_until bound moments) (until_within bound moments) (int_le m bound) is
  where
    by : (o : Option ℕ) → ((k : ℕ) → o ≡ Some k → k ≤ length moments) → (b : Bool) → count_after_first o b ≡ Some n → n ≤ suc (length moments)
    by (Some k) later b is = let e : k + 1 ≡ n = ap (λ o. unwrap_or o n) is in let w = later k refl in omega (arith, e, w)
    by None later true is = let e : 1 ≡ n = ap (λ o. unwrap_or o n) is in omega (arith, e)
    by None later false is = absurd (false≢true (ap is_some is))

abbrev ok_of : (r : Result ℕ ShelfFault) → ℕ → ℕ
ok_of (Ok p) d = p
ok_of (Err fault) d = d

abbrev fails : (r : Result ℕ ShelfFault) → Bool
fails (Ok p) = false
fails (Err fault) = true

abbrev fault_in : (r : Result ℕ ShelfFault) → ShelfFault → ShelfFault
fault_in (Ok p) d = d
fault_in (Err fault) d = fault

both : (a b : Bool) → (a && b) ≡ true → b ≡ true
both true b e = e
both false b e = absurd (false≢true e)

numbered_within : (count number p : ℕ) → publication_numbered count number ≡ Ok p → p ≤ count
numbered_within count number p is = by (nat_le 1 number && nat_le number count) refl is
  where
    by : (b : Bool) → (nat_le 1 number && nat_le number count) ≡ b → cond b (Ok number) (Err ShelfFault.PublicationUnknown) ≡ Ok p → p ≤ count
    by true fits is =
        subst (λ n. n ≤ count) (ap (λ r. ok_of r number) is) (leb-true number count (both (nat_le 1 number) (nat_le number count) fits))
    by false fits is = absurd (false≢true (sym (ap fails is)))

aged_within : (bound : ℤ) (moments : List ℤ) (p : ℕ) → by_age (last_until bound moments) ≡ Ok p → p ≤ length moments
aged_within bound moments p is = by (last_until bound moments) (until_within bound moments) is
  where
    by : (o : Option ℕ) → ((k : ℕ) → o ≡ Some k → k ≤ length moments) → by_age o ≡ Ok p → p ≤ length moments
    by (Some k) within is = within p (ap (λ r. Some (ok_of r k)) is)
    by None within is = absurd (false≢true (sym (ap fails is)))

base_within : (moments : List ℤ) (base : Base) (p : ℕ) → base_in moments base ≡ Ok p → p ≤ length moments
base_within [] base p is = absurd (false≢true (sym (ap fails is)))
base_within (m ∷ moments) (Base.Number number) p is = numbered_within (length (m ∷ moments)) number p is
base_within (m ∷ moments) Base.LastDay p is = aged_within _ (m ∷ moments) p is
base_within (m ∷ moments) Base.LastWeek p is = aged_within _ (m ∷ moments) p is
base_within (m ∷ moments) Base.LastMonth p is = aged_within _ (m ∷ moments) p is

pub found_within : (issues now : List Issue) (base : Base) (r : Result ℕ ShelfFault) (p : ℕ) → issues ≡ now → r ≡ base_in (moments_in issues) base → r ≡ Ok p
    → p ≤ length now
found_within issues now base r p same is ok =
    subst (λ n. p ≤ n) (length-map issues (λ (i : Issue). i.moment) ∙ ap length same) (base_within (moments_in issues) base p (sym is ∙ ok))

pub found_some : (issues now : List Issue) (base : Base) (r : Result ℕ ShelfFault) (p : ℕ) → issues ≡ now → r ≡ base_in (moments_in issues) base → r ≡ Ok p
    → now ≡ [] → ⊥
found_some issues now base r p same is ok none =
    false≢true (sym (ap fails (sym is ∙ ok)) ∙ ap (λ l. fails (base_in (moments_in l) base)) (same ∙ none))

-- ---- the result for a base

-- if a base names no publication, the reason is the same for the kept moments and the trail
pub refused_so : {B : Type 0} (issues now : List Issue) (trail : Trail) (base : Base) (r : Result ℕ ShelfFault) (fault other : ShelfFault) → issues ≡ now
    → AreIssuesOf now trail → r ≡ base_in (moments_in issues) base → r ≡ Err fault → base_in (trail_moments trail) base ≡ Err other
    → ◌≡◌ {A = Result B ShelfFault} (Err fault) (Err other)
refused_so issues now trail base r fault other same are is err named_so =
    ap Err (ap (λ r. fault_in r fault) (sym err ∙ is ∙ ap (λ l. base_in (moments_in l) base) same ∙ ap (λ l. base_in l base) (same_moments now trail are) ∙ named_so))

-- a base that names a publication isn't refused
pub not_found : (issues now : List Issue) (trail : Trail) (base : Base) (r : Result ℕ ShelfFault) (fault : ShelfFault) (p : ℕ) → issues ≡ now
    → AreIssuesOf now trail → r ≡ base_in (moments_in issues) base → r ≡ Err fault → base_in (trail_moments trail) base ≡ Ok p → ⊥
not_found issues now trail base r fault p same are is err found =
    false≢true (sym (ap fails found) ∙ ap fails (sym (sym err ∙ is ∙ ap (λ l. base_in (moments_in l) base) same ∙ ap (λ l. base_in l base) (same_moments now trail are))))

pub not_refused : (issues now : List Issue) (trail : Trail) (base : Base) (r : Result ℕ ShelfFault) (fault : ShelfFault) (p : ℕ) → issues ≡ now
    → AreIssuesOf now trail → r ≡ base_in (moments_in issues) base → r ≡ Ok p → base_in (trail_moments trail) base ≡ Err fault → ⊥
not_refused issues now trail base r fault p same are is ok refused =
    false≢true (ap fails (sym ok ∙ is ∙ ap (λ l. base_in (moments_in l) base) same ∙ ap (λ l. base_in l base) (same_moments now trail are) ∙ refused))

-- the number that is found is the one that the base names
pub found_so : (issues now : List Issue) (trail : Trail) (base : Base) (r : Result ℕ ShelfFault) (p q : ℕ) → issues ≡ now
    → AreIssuesOf now trail → r ≡ base_in (moments_in issues) base → r ≡ Ok p → base_in (trail_moments trail) base ≡ Ok q → p ≡ q
found_so issues now trail base r p q same are is ok found =
    ap (λ r. ok_of r p) (sym ok ∙ is ∙ ap (λ l. base_in (moments_in l) base) same ∙ ap (λ l. base_in l base) (same_moments now trail are) ∙ found)

pub in_both : {T E : Type 0} (r : Result T E) (P : T → Type 0) (Q : E → Type 0) → IfOk r P → IfErr r Q → MatchResult r P Q
in_both (Ok x) P Q p q = p
in_both (Err e) P Q p q = q

pub in_err : {T E : Type 0} (r : Result T E) (P Q : E → Type 0) → IfErr r P → ((e : E) → P e → Q e) → IfErr r Q
in_err (Ok x) P Q p f = tt
in_err (Err e) P Q p f = f e p
