-- Where many steps up lead, by places.
use Rattle.std.specs.Prelude.{◌≡◌, ℕ, zero, suc, ◌+◌, ◌<◌, ◌≤◌, List, Option, None, Some, get_or, is_none, is_some, length, map, cond, unwrap_or}
use Rattle.std.proofs.Common.{refl, sym, ap, subst, ◌∙◌, inl, arith}
use Rattle.std.proofs.lemmas.List.{length-map}
use Rattle.lei_code.specs.Texts.{Lei}
use Rattle.group_reports.specs.Groups.{top}
use Rattle.group_reports.specs.Links.{Link, direct}
use Rattle.group_reports.specs.Places.{FindsEach, FindsTops, IsBelow, LeadsBy, LeadsFar, at, at_some, end_by, stay, stays, step_up}
use Rattle.group_reports.proofs.ChainLemmas.{lei_or}
use Rattle.group_reports.proofs.ListLemmas.{get_or-map}
use Rattle.group_reports.proofs.WalkLemmas.{Far, far_step, top_alone, top_around, top_end}

module _ (parents : List (Option ℕ)) where
  stays_add : (k n place : ℕ) → stays parents (k + n) place ≡ stays parents k (stays parents n place)
  stays_add zero n place = ap (λ m. stays parents m place) (let same : zero + n ≡ n = omega arith in same)
  stays_add (suc k) n place =
      ap (λ m. stays parents m place) (let more : suc k + n ≡ suc (k + n) = omega arith in more) ∙ ap (stay parents) (stays_add k n place)

  twice_leads : (steps : ℕ) (far further : List ℕ) → LeadsBy parents steps far → further ≡ map (λ place. get_or far place 0) far
      → LeadsBy parents (steps + steps) further
  twice_leads steps far further leads is = record {
    counted = ap length is ∙ (length-map far (λ place. get_or far place 0) ∙ leads.counted);
    within = λ place inside. subst (λ p. p < length parents) (sym (next place inside)) (leads.within (get_or far place 0) (leads.within place inside));
    each = λ place inside.
        next place inside
        ∙ (leads.each (get_or far place 0) (leads.within place inside)
        ∙ (ap (stays parents steps) (leads.each place inside) ∙ sym (stays_add steps steps place)));
  }
    where
      next : (place : ℕ) → place < length parents → get_or further place 0 ≡ get_or far (get_or far place 0) 0
      next place inside =
          ap (λ l. get_or l place 0) is
          ∙ get_or-map (λ p. get_or far p 0) far place 0 0 (subst (λ n. place < n) (sym leads.counted) inside)

  pub far_twice : (steps most : ℕ) (far further : List ℕ) → LeadsFar parents steps far → further ≡ map (λ place. get_or far place 0) far
      → most ≤ steps + steps → LeadsFar parents most further
  far_twice steps most far further leads is few =
      let enough : steps ≤ leads.steps = leads.enough in
      record {
        steps = leads.steps + leads.steps;
        enough = omega (arith, enough, few);
        leads = twice_leads leads.steps far further leads.leads is;
      }

  pub tops_by : (least : ℕ) (far : List ℕ) (tops : List (Option ℕ)) → LeadsFar parents least far → length tops ≡ length parents
      → ((place : ℕ) → IsBelow (length parents) (step_up tops place))
      → ((place : ℕ) → place < length parents → step_up tops place ≡ end_by parents place (get_or far place 0)) → FindsTops parents least tops
  tops_by least far tops leads counted within each = record {
    steps = leads.steps;
    enough = leads.enough;
    counted = counted;
    within = λ place. subst (λ n. IsBelow n (step_up tops place)) (sym counted) (within place);
    each = λ place inside. each place inside ∙ ap (end_by parents place) (leads.leads.each place inside);
  }

-- ---- the same for LEIs

module _ (links : List Link) (leis : List Lei) (parents : List (Option ℕ)) (finds : FindsEach leis parents (direct links)) where
  stay_within : (place : ℕ) → place < length leis → stay parents place < length leis
  stay_within place within = by (step_up parents place) (subst (λ n. IsBelow n (step_up parents place)) finds.counted (finds.within place))
    where
      by : (o : Option ℕ) → IsBelow (length leis) o → unwrap_or o place < length leis
      by None below = within
      by (Some other) below = below

  stays_within : (k place : ℕ) → place < length leis → stays parents k place < length leis
  stays_within zero place within = within
  stays_within (suc k) place within = stay_within (stays parents k place) (stays_within k place within)

  stay_lei : (place : ℕ) → lei_or (at leis place) (at_some leis (step_up parents place)) ≡ at leis (stay parents place)
  stay_lei place = by (step_up parents place)
    where
      by : (o : Option ℕ) → lei_or (at leis place) (at_some leis o) ≡ at leis (unwrap_or o place)
      by None = refl
      by (Some other) = refl

  far : (k place : ℕ) → place < length leis → Far links (at leis place) k (at leis (stays parents k place))
  far zero place within = inl refl
  far (suc k) place within =
      subst (Far links (at leis place) (suc k)) (stay_lei (stays parents k place))
      (far_step links (at leis place) k (at leis (stays parents k place)) (at_some leis (step_up parents (stays parents k place)))
      (sym (finds.each (stays parents k place) (stays_within k place within))) (far k place within))

  top_at : (k place : ℕ) → length links ≤ k → place < length leis
      → at_some leis (end_by parents place (stays parents k place)) ≡ top links (at leis place)
  top_at k place enough within =
      by (step_up parents place) (sym (finds.each place within)) (step_up parents (stays parents k place))
      (sym (finds.each (stays parents k place) (stays_within k place within)))
    where
      by : (o : Option ℕ) → direct links (at leis place) ≡ at_some leis o → (p : Option ℕ)
          → direct links (at leis (stays parents k place)) ≡ at_some leis p
          → at_some leis (cond (is_none o) None (cond (is_some p) None (Some (stays parents k place))))
          ≡ top links (at leis place)
      by None none p step_up = sym (top_alone links (at leis place) none)
      by (Some first) up (Some next) step_up =
          sym (top_around links (at leis place) (at leis (stays parents k place)) (at leis next) k enough (far k place within) step_up)
      by (Some first) up None over =
          sym (top_end links (at leis place) (at leis (stays parents k place)) (at leis first) k (far k place within) up over)

  pub finds_tops : (tops : List (Option ℕ)) → FindsTops parents (length links) tops → FindsEach leis tops (top links)
  finds_tops tops ends = record {
    counted = ends.counted ∙ finds.counted;
    within = ends.within;
    each = λ place within.
        ap (at_some leis) (ends.each place (subst (λ n. place < n) (sym finds.counted) within))
        ∙ top_at ends.steps place ends.enough within;
  }
