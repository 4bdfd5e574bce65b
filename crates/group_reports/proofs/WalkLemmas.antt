-- Walks up along direct parents, and their ends.
use Rattle.std.specs.Prelude.{◌≡◌, ℕ, zero, suc, ◌+◌, ◌-◌, ◌<◌, ◌≤◌, Bool, true, false, cond, ◌&&◌, List, length, Option, None, Some, find, is_some, is_none, option_and_then}
use Rattle.std.specs.List.{range_with_len}
use Rattle.std.proofs.Common.{refl, sym, ap, ◌∙◌, ◌⊎◌, inl, inr, arith}
use Rattle.std.proofs.lemmas.Bool.{and_parts, cases_lt, false≢true}
use Rattle.lei_code.specs.Texts.{Lei}
use Rattle.group_reports.specs.Groups.{ends_after, entity_above, top}
use Rattle.group_reports.specs.Links.{Link, direct}
use Rattle.group_reports.proofs.ChainLemmas.{Least, least-few, lei_or, some_least}
use Rattle.group_reports.proofs.ListLemmas.{FoundAt, finds, found}

-- no number is found if none passes
none_found : (p : ℕ → Bool) (from n : ℕ) → ((k : ℕ) → from ≤ k → k < from + n → p k ≡ false) → find p (range_with_len from n) ≡ None
none_found p from zero fails = refl
none_found p from (suc n) fails =
    ap (λ b. cond b (Some from) (find p (range_with_len (from + 1) n))) (fails from (omega arith) (omega arith))
    ∙ none_found p (from + 1) n (λ k low high. fails k (omega (arith, low)) (omega (arith, high)))

some-is : (o : Option Lei) → is_none o ≡ true → o ≡ None
some-is None is = refl
some-is (Some lei) is = absurd (false≢true is)

module _ (links : List Link) where
  -- a walk that ended stays so
  gone_on : (lei : Lei) (k n : ℕ) → entity_above links lei k ≡ None → entity_above links lei (n + k) ≡ None
  gone_on lei k zero gone = ap (entity_above links lei) (let same : zero + k ≡ k = omega arith in same) ∙ gone
  gone_on lei k (suc n) gone =
      ap (entity_above links lei) (let more : suc n + k ≡ suc (n + k) = omega arith in more)
      ∙ ap (option_and_then (direct links)) (gone_on lei k n gone)

  gone_at : (lei : Lei) (k j : ℕ) → k ≤ j → entity_above links lei k ≡ None → entity_above links lei j ≡ None
  gone_at lei k j after gone =
      ap (entity_above links lei) (let same : j ≡ (j - k) + k = omega (arith, after) in same)
      ∙ gone_on lei k (j - k) gone

  -- the walk ended after fewer steps than this
  pub record Ended (lei : Lei) (m : ℕ) (end : Lei) : Type 0 where
    pub steps : ℕ
    pub before : steps < m
    pub leads : entity_above links lei steps ≡ Some end
    pub over : direct links end ≡ None

  -- where this many steps lead; at the end of the walk, steps stay there
  abbrev pub Far : Lei → ℕ → Lei → Type 0
  Far lei m end = (entity_above links lei m ≡ Some end) ⊎ Ended lei m end

  pub far_step : (lei : Lei) (m : ℕ) (end : Lei) (o : Option Lei) → direct links end ≡ o → Far lei m end → Far lei (suc m) (lei_or end o)
  far_step lei m end None none (inl at) = inr (record { steps = m; before = omega arith; leads = at; over = none })
  far_step lei m end None none (inr ended) =
      let before : ended.steps < m = ended.before in
      inr (record { steps = ended.steps; before = omega (arith, before); leads = ended.leads; over = none })
  far_step lei m end (Some next) step (inl at) = inl (ap (option_and_then (direct links)) at ∙ step)
  far_step lei m end (Some next) step (inr ended) =
      let never : None ≡ Some next = sym ended.over ∙ step in absurd cc

  -- ---- the computed ultimate parent

  module _ (lei : Lei) where
    -- without a direct parent there is none
    pub top_alone : direct links lei ≡ None → top links lei ≡ None
    top_alone none =
        ap (option_and_then (entity_above links lei))
        (none_found (λ k. ends_after links lei k) 1 (length links)
        (λ k low high. ap (λ o. is_some o && is_none (entity_above links lei (suc k))) (gone_at lei 1 k low none)))

    -- nor if the walk continues after as many steps as there are links
    pub top_around : (end next : Lei) (m : ℕ) → length links ≤ m → Far lei m end → direct links end ≡ Some next → top links lei ≡ None
    top_around end next m enough (inr ended) step = let never : None ≡ Some next = sym ended.over ∙ step in absurd cc
    top_around end next m enough (inl at) step =
        ap (option_and_then (entity_above links lei)) (none_found (λ k. ends_after links lei k) 1 (length links) (λ k low high. goes_on k high (entity_above links lei (suc k)) refl))
      where
        further : entity_above links lei (suc m) ≡ Some next
        further = ap (option_and_then (direct links)) at ∙ step

        drop_end : (a : Bool) → (a && false) ≡ false
        drop_end true = refl
        drop_end false = refl

        goes_on : (k : ℕ) → k < 1 + length links → (o : Option Lei) → entity_above links lei (suc k) ≡ o → ends_after links lei k ≡ false
        goes_on k high (Some other) is =
            ap (λ o. is_some (entity_above links lei k) && is_none o) is ∙ drop_end (is_some (entity_above links lei k))
        goes_on k high None is =
            let never : None ≡ Some next = sym (gone_at lei (suc k) (suc m) (omega (arith, high, enough)) is) ∙ further in
            absurd cc

    -- otherwise it is the end of the walk
    pub top_end : (end next : Lei) (m : ℕ) → Far lei m end → direct links lei ≡ Some next → direct links end ≡ None → top links lei ≡ Some end
    top_end end next m far step over = by (least far)
      where
        least : Far lei m end → Least links end lei
        least (inl at) = some_least links end lei m at
        least (inr ended) = some_least links end lei ended.steps ended.leads

        some : (k : ℕ) → entity_above links lei k ≡ Some end → 1 ≤ k
        some zero is =
            let same : lei ≡ end = ap (lei_or lei) is in
            let never : None ≡ Some next = sym over ∙ (ap (direct links) (sym same) ∙ step) in
            absurd cc
        some (suc k) is = omega arith

        at_end : (k : ℕ) → entity_above links lei k ≡ Some end → ends_after links lei k ≡ true
        at_end k is =
            ap (λ o. is_some o && is_none (entity_above links lei (suc k))) is
            ∙ ap is_none (ap (option_and_then (direct links)) is ∙ over)

        same_end : (k j : ℕ) → entity_above links lei k ≡ Some end → FoundAt (λ k. ends_after links lei k) 1 (length links) j → j ≡ k
        same_end k j is at = order (cases_lt j k) (cases_lt k j)
          where
            order : (j < k) ⊎ (k ≤ j) → (k < j) ⊎ (j ≤ k) → j ≡ k
            order (inl less) other =
                let parts = and_parts (is_some (entity_above links lei j)) (is_none (entity_above links lei (suc j))) at.passes in
                let never : None ≡ Some end = sym (gone_at lei (suc j) k (omega (arith, less)) (some-is (entity_above links lei (suc j)) parts.1)) ∙ is in
                absurd cc
            order (inr up_to) (inl more) = absurd (false≢true (sym (at.first k (some k is) more) ∙ at_end k is))
            order (inr up_to) (inr down_to) = omega (arith, up_to, down_to)

        by : Least links end lei → top links lei ≡ Some end
        by first =
            let k = first.steps in
            let is : entity_above links lei k ≡ Some end = first.is.leads in
            let few : k ≤ length links = least-few links end k lei first.is in
            let one = finds (λ k. ends_after links lei k) 1 (length links) k (some k is) (omega (arith, few)) (at_end k is) in
            ap (option_and_then (entity_above links lei)) one.is
            ∙ (ap (entity_above links lei) (same_end k one.number is (found (λ k. ends_after links lei k) 1 (length links) one.number one.is)) ∙ is)
