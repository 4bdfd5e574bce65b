-- Looking up the LEIs that were found, one after another: the progress, and the result.
use Rattle.std.specs.Prelude.{◌≡◌, ℕ, zero, suc, ◌+◌, ◌<◌, ◌≤◌, Bool, true, false, not, cond, ◌||◌, nat_lt, List, [], ◌∷◌, ◌++◌, length, take, drop, get_or, Option, Some, None, find}
use Rattle.std.specs.Option.{option_or}
use Rattle.std.specs.Str.{bytes_eq}
use Rattle.std.proofs.Common.{refl, sym, ap, subst, ◌∙◌, arith, append_assoc}
use Rattle.std.proofs.Math.Bool.{or-false}
use Rattle.std.proofs.lemmas.Bool.{and_parts, cond-false, le-ltb, lt-ltb, not-true}
use Rattle.std.proofs.lemmas.List.{append-nil, length-append, take-append-drop, take-append-le, take_all, take_more}
use Rattle.std.proofs.lemmas.List.Folds.{find-append}
use Rattle.lei_records.specs.declared.view.CellKey.{CellKey}
use Rattle.successor_rules.specs.declared.walks.Walked.{Walked}
use Rattle.successor_rules.specs.Chains.{Nexts}
use Rattle.successor_rules.specs.Levels.{SeenNexts, each_once, first_lacking, has_wide_levels, held_nexts, is_back, known_nexts, lacks_nexts, levels, next_level, onward_leis, others, reachable, spread_over}
use Rattle.successor_rules.specs.Walks.{unless_lacking}
use Rattle.successor_rules.proofs.LevelLemmas.{has, has-append, has-at, next-append, once-append, once-has}
use Rattle.successor_rules.proofs.RiseLemmas.{Begins, begins_both, begins_length, begins_on, gathered, gathered-begins, levels-has, others-begin, others-next}

-- a list with the LEIs of another list that it lacks
abbrev pub joined : List ℕ → List (List ℕ) → List (List ℕ) → List (List ℕ)
joined own found leis = found ++ each_once (own ∷ found) leis

-- an LEI that was gathered isn't the entity's own
not_own : (own : List ℕ) (leis : List (List ℕ)) (lei : List ℕ) → has (each_once (own ∷ []) leis) lei ≡ true → bytes_eq lei own ≡ false
not_own own leis lei at =
    let parts = and_parts (has leis lei) (not (has (own ∷ []) lei)) (sym (once-has (own ∷ []) leis lei) ∙ at) in
    sym (or-false (bytes_eq lei own)) ∙ not-true (has (own ∷ []) lei) parts.1

-- a full array has the first of all
pub cut_full : (own : List ℕ) (now total leis : List (List ℕ)) (i : ℕ) → joined own now (drop i leis) ≡ total → length now ≡ 200 → now ≡ take 200 total
cut_full own now total leis i so_far full =
    sym (ap (take 200) (sym so_far)
    ∙ (take-append-le 200 now (each_once (own ∷ now) (drop i leis)) (omega (arith, full)) ∙ take_all 200 now (omega (arith, full))))

-- after more were joined, a list still has the next place
pub joined-longer : (own : List ℕ) (found leis now : List (List ℕ)) (i : ℕ) → now ≡ joined own found leis → i < length found → i + 1 ≤ length now
joined-longer own found leis now i is less =
    let count = ap length is ∙ length-append found (each_once (own ∷ found) leis) in omega arith

-- if one list starts with the other, both have the same front
front_of : (xs ys : List (List ℕ)) → Begins xs ys → 200 ≤ length xs → take 200 xs ≡ take 200 ys
front_of xs ys begins many = sym (ap (take 200) begins.is ∙ take-append-le 200 xs begins.rest many)

module _ (nexts : Nexts) (own : List ℕ) (first : List (List ℕ)) where
  -- after the first i were looked up: all that they and the first level name was found, and nothing else. They are
  -- reached in i levels.
  pub record Stage (i : ℕ) (found : List (List ℕ)) : Type 0 where
    pub all : found ≡ gathered nexts own first (take i found)
    pub early : Begins (take i found) (others i nexts own first)

  pub begun : (found : List (List ℕ)) → found ≡ joined own [] first → Stage 0 found
  unfolding levels
  begun found is = record {
    all = is ∙ ap (each_once (own ∷ [])) (sym (append-nil first));
    early = record { rest = []; is = refl };
  }

  -- one more is looked up
  gathered-push : (leis : List (List ℕ)) (lei : List ℕ)
      → gathered nexts own first (leis ++ lei ∷ []) ≡ joined own (gathered nexts own first leis) (onward_leis nexts own lei)
  gathered-push leis lei =
      ap (λ l. each_once (own ∷ []) (first ++ l)) (next-append nexts own leis (lei ∷ [])
      ∙ ap (λ l. next_level nexts own leis ++ l) (append-nil (onward_leis nexts own lei)))
      ∙ (ap (each_once (own ∷ [])) (sym (append_assoc first (next_level nexts own leis) (onward_leis nexts own lei)))
      ∙ once-append (own ∷ []) (first ++ next_level nexts own leis) (onward_leis nexts own lei))

  module _ (i : ℕ) (found : List (List ℕ)) (lei : List ℕ) (stage : Stage i found) (less : i < length found)
      (is : lei ≡ get_or found i []) where
    pub names_all : onward_leis nexts own lei ≡ nexts lei
    names_all =
        let at : has found lei ≡ true = subst (λ l. has found l ≡ true) (sym is) (has-at found i [] less) in
        let other = not_own own (first ++ next_level nexts own (take i found)) lei (subst (λ l. has l lei ≡ true) stage.all at) in
        cond-false (bytes_eq lei own) [] (nexts lei) other

    pub front : (more : List (List ℕ)) → take (i + 1) (found ++ more) ≡ take i found ++ lei ∷ []
    front more =
        take-append-le (i + 1) found more (omega arith)
        ∙ (take_more found i [] less ∙ ap (λ l. take i found ++ l ∷ []) (sym is))

    joined-gathered : joined own found (nexts lei) ≡ gathered nexts own first (take i found ++ lei ∷ [])
    joined-gathered =
        ap (joined own found) (sym names_all)
        ∙ (ap (λ l. joined own l (onward_leis nexts own lei)) stage.all ∙ sym (gathered-push (take i found) lei))

    found-early : Begins found (others (suc i) nexts own first)
    found-early =
        subst (λ l. Begins l (others (suc i) nexts own first)) (sym stage.all)
        (subst (Begins (gathered nexts own first (take i found))) (sym (others-next nexts own first i))
        (gathered-begins nexts own first (take i found) (others i nexts own first) stage.early))

    front-early : Begins (take i found ++ lei ∷ []) (others (suc i) nexts own first)
    front-early =
        begins_on (take i found ++ lei ∷ []) found (others (suc i) nexts own first)
        (record {
          rest = drop (i + 1) found;
          is = sym (take-append-drop (i + 1) found) ∙ ap (λ l. l ++ drop (i + 1) found)
              (take_more found i [] less ∙ ap (λ l. take i found ++ l ∷ []) (sym is));
        })
        found-early

    pub one_asked : (now : List (List ℕ)) → now ≡ joined own found (nexts lei) → Stage (i + 1) now
    one_asked now added = record {
      all = added ∙ (joined-gathered ∙ ap (gathered nexts own first) (sym taken));
      early = subst (λ n. Begins (take (i + 1) now) (others n nexts own first)) next
          (subst (λ l. Begins l (others (suc i) nexts own first)) (sym taken) front-early);
    }
      where
        next : suc i ≡ i + 1
        next = omega arith

        taken : take (i + 1) now ≡ take i found ++ lei ∷ []
        taken = ap (take (i + 1)) added ∙ front (each_once (own ∷ found) (nexts lei))

    -- what was found with what this one names is reached in 201 levels
    joined-begins : length found ≤ 200 → Begins (joined own found (nexts lei)) (others 201 nexts own first)
    joined-begins few =
        begins_on (joined own found (nexts lei)) (others (suc (suc i)) nexts own first) (others 201 nexts own first)
        (subst (λ l. Begins l (others (suc (suc i)) nexts own first)) (sym joined-gathered)
        (subst (Begins (gathered nexts own first (take i found ++ lei ∷ []))) (sym (others-next nexts own first (suc i)))
        (gathered-begins nexts own first (take i found ++ lei ∷ []) (others (suc i) nexts own first) front-early)))
        (others-begin nexts own first (suc (suc i)) 201 (omega arith))

    -- too many are found
    pub wide_then : length found ≤ 200 → 200 < length (joined own found (nexts lei)) → has_wide_levels nexts own first ≡ true
    wide_then few many =
        let longer = begins_length (joined own found (nexts lei)) (others 201 nexts own first) (joined-begins few) in
        lt-ltb 200 (length (others 201 nexts own first)) (omega arith)

    -- the first 200 of them are the first that are reached
    pub cut_then : length found ≤ 200 → 200 < length (joined own found (nexts lei)) → take 200 (joined own found (nexts lei)) ≡ reachable nexts own first
    cut_then few many = front_of (joined own found (nexts lei)) (others 201 nexts own first) (joined-begins few) (omega arith)

  first-begins : Begins (joined own [] first) (others 201 nexts own first)
  unfolding levels
  first-begins =
      subst (λ l. Begins l (others 201 nexts own first)) (ap (each_once (own ∷ [])) (append-nil first))
      (others-begin nexts own first 1 201 (omega arith))

  pub wide_at_once : 200 < length (joined own [] first) → has_wide_levels nexts own first ≡ true
  wide_at_once many =
      let longer = begins_length (joined own [] first) (others 201 nexts own first) first-begins in
      lt-ltb 200 (length (others 201 nexts own first)) (omega arith)

  pub cut_at_once : 200 < length (joined own [] first) → take 200 (joined own [] first) ≡ reachable nexts own first
  cut_at_once many = front_of (joined own [] first) (others 201 nexts own first) first-begins (omega arith)

  -- ---- all were looked up

  module _ (i : ℕ) (found : List (List ℕ)) (stage : Stage i found) (whole : length found ≤ i) where
    closed : found ≡ gathered nexts own first found
    closed = stage.all ∙ ap (gathered nexts own first) (take_all i found whole)

    none_more : (n : ℕ) → Begins (others n nexts own first) found
    unfolding levels
    none_more zero = record { rest = found; is = refl }
    none_more (suc n) =
        subst (λ l. Begins l found) (sym (others-next nexts own first n))
        (subst (Begins (gathered nexts own first (others n nexts own first))) (sym closed)
        (gathered-begins nexts own first (others n nexts own first) found (none_more n)))

    pub found_all : (n : ℕ) → i ≤ n → others n nexts own first ≡ found
    found_all n enough =
        begins_both (others n nexts own first) found (none_more n)
        (begins_on found (others i nexts own first) (others n nexts own first)
        (subst (λ l. Begins l (others i nexts own first)) (take_all i found whole) stage.early)
        (others-begin nexts own first i n enough))

    pub reached_all : i ≤ 201 → length found ≤ 200 → found ≡ reachable nexts own first
    reached_all enough few = sym (ap (take 200) (found_all 201 enough) ∙ take_all 200 found few)

    pub not_wide : i ≤ 200 → length found ≤ 200 → has_wide_levels nexts own first ≡ false
    not_wide enough few =
        ap (λ l. nat_lt 200 (length l)) (found_all 201 (omega arith)) ∙ le-ltb 200 (length found) few

    pub back_is : i ≤ 200 → is_back nexts own first ≡ has (first ++ next_level nexts own found) own
    back_is enough =
        levels-has nexts own first 200 own ∙ ap (λ l. has (first ++ next_level nexts own l) own) (found_all 200 enough)

-- ---- over a view

abbrev pub lack_in : SeenNexts → List (List ℕ) → Option (List ℕ)
lack_in answers leis = find (λ lei. lacks_nexts (answers lei)) leis

module _ (answers : SeenNexts) (own : List ℕ) (first : List (List ℕ)) where
  -- what the walk knows after this many were looked up
  pub record Asked (i : ℕ) (found : List (List ℕ)) (is_met : Bool) (lacking : Option (List ℕ)) : Type 0 where
    pub stage : Stage (known_nexts answers) own first i found
    pub within : i ≤ length found
    pub met : is_met ≡ has (first ++ next_level (known_nexts answers) own (take i found)) own
    pub lacks : lacking ≡ lack_in answers (take i found)

  pub asked_none : (found : List (List ℕ)) (is_met : Bool) → found ≡ joined own [] first → is_met ≡ has first own
      → Asked 0 found is_met None
  asked_none found is_met is met = record {
    stage = begun (known_nexts answers) own first found is;
    within = omega arith;
    met = met ∙ ap (λ l. has l own) (sym (append-nil first));
    lacks = refl;
  }

  module _ (i : ℕ) (found : List (List ℕ)) (is_met : Bool) (lacking : Option (List ℕ)) (lei : List ℕ)
      (asked : Asked i found is_met lacking) (less : i < length found) (is : lei ≡ get_or found i []) where
    pub asked_one : (now : List (List ℕ)) (met : Bool) (lacks : Option (List ℕ)) → now ≡ joined own found (held_nexts (answers lei))
        → met ≡ (is_met || has (held_nexts (answers lei)) own)
        → lacks ≡ option_or lacking (cond (lacks_nexts (answers lei)) (Some lei) None) → Asked (i + 1) now met lacks
    asked_one now met lacks added meets lack = record {
      stage = one_asked (known_nexts answers) own first i found lei asked.stage less is now added;
      within =
          let count = ap length added ∙ length-append found (each_once (own ∷ found) (held_nexts (answers lei))) in omega arith;
      met = meets ∙ (ap (λ b. b || has (held_nexts (answers lei)) own) asked.met
          ∙ (sym (has-append (first ++ next_level (known_nexts answers) own (take i found)) (held_nexts (answers lei)) own)
          ∙ ap (λ l. has l own) named));
      lacks = lack ∙ (ap (λ o. option_or o (cond (lacks_nexts (answers lei)) (Some lei) None)) asked.lacks
          ∙ (sym (find-append (λ l. lacks_nexts (answers l)) (take i found) (lei ∷ [])) ∙ ap (lack_in answers) (sym taken)));
    }
      where
        taken : take (i + 1) now ≡ take i found ++ lei ∷ []
        taken = ap (take (i + 1)) added
            ∙ front (known_nexts answers) own first i found lei asked.stage less is (each_once (own ∷ found) (held_nexts (answers lei)))

        named : (first ++ next_level (known_nexts answers) own (take i found)) ++ held_nexts (answers lei)
            ≡ first ++ next_level (known_nexts answers) own (take (i + 1) now)
        named =
            append_assoc first (next_level (known_nexts answers) own (take i found)) (held_nexts (answers lei))
            ∙ ap (λ l. first ++ l) (ap (λ l. next_level (known_nexts answers) own (take i found) ++ l)
            (sym (append-nil (onward_leis (known_nexts answers) own lei)
            ∙ names_all (known_nexts answers) own first i found lei asked.stage less is))
            ∙ (sym (next-append (known_nexts answers) own (take i found) (lei ∷ [])) ∙ ap (next_level (known_nexts answers) own) (sym taken)))

    pub asked_too_many : (key : List ℕ → CellKey) → length found ≤ 200 → 200 < length (joined own found (held_nexts (answers lei)))
        → Walked.Long ≡ spread_over answers key own first
    asked_too_many key few many =
        ap (λ b. cond b Walked.Long (unless_lacking key (first_lacking answers own first)
        (cond (is_back (known_nexts answers) own first) Walked.Meets Walked.Ends)))
        (sym (wide_then (known_nexts answers) own first i found lei asked.stage less is few many))

  pub first_too_many : (key : List ℕ → CellKey) → 200 < length (joined own [] first) → Walked.Long ≡ spread_over answers key own first
  first_too_many key many =
      ap (λ b. cond b Walked.Long (unless_lacking key (first_lacking answers own first)
      (cond (is_back (known_nexts answers) own first) Walked.Meets Walked.Ends)))
      (sym (wide_at_once (known_nexts answers) own first many))

  pub asked_all : (i : ℕ) (found : List (List ℕ)) (is_met : Bool) (lacking : Option (List ℕ)) (key : List ℕ → CellKey)
      → Asked i found is_met lacking → length found ≤ 200 → length found ≤ i
      → unless_lacking key lacking (cond is_met Walked.Meets Walked.Ends) ≡ spread_over answers key own first
  asked_all i found is_met lacking key asked few whole =
      let within = asked.within in let enough : i ≤ 200 = omega arith in
      let nexts = known_nexts answers in
      let wide = not_wide nexts own first i found asked.stage whole enough few in
      let all = found_all nexts own first i found asked.stage whole 201 (omega arith) in
      let taken = take_all i found whole in
      let lack : lacking ≡ first_lacking answers own first = asked.lacks ∙ ap (lack_in answers) (taken ∙ sym all) in
      let met : is_met ≡ is_back nexts own first =
      asked.met ∙ (ap (λ l. has (first ++ next_level nexts own l) own) taken
      ∙ sym (back_is nexts own first i found asked.stage whole enough)) in
      λ k. cond (sym wide k) Walked.Long (unless_lacking key (lack k) (cond (met k) Walked.Meets Walked.Ends))
