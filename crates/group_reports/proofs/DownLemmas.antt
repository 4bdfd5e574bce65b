-- A walk down, level by level.
use Rattle.std.specs.Prelude.{◌≡◌, ℕ, suc, ◌+◌, ◌-◌, ◌<◌, ◌≤◌, Bool, List, [], ◌∷◌, ◌++◌, length, map, filter, flat_map}
use Rattle.std.specs.List.{range_with_len}
use Rattle.std.proofs.Common.{refl, sym, ap, ◌∙◌, append-nil, arith}
use Rattle.lei_code.specs.Texts.{Lei}
use Rattle.group_reports.specs.Links.{Link}
use Rattle.group_reports.specs.Listings.{Member}
use Rattle.group_reports.specs.Groups.{members_at, starts}
use Rattle.group_reports.proofs.Levels.{is_next}
use Rattle.group_reports.specs.Listings.{all_members, at_depth, member_of}
use Rattle.group_reports.proofs.LevelLemmas.{depths, level_at, next_members, none_after}
use Rattle.group_reports.proofs.ListLemmas.{has}
use Rattle.group_reports.proofs.ReportLemmas.{next_level}

added_none : {A : Type 0} (xs ys zs : List A) → zs ≡ xs ++ ys → length zs ≡ length xs → ys ≡ []
added_none [] [] zs is same = refl
added_none [] (y ∷ ys) zs is same = absurd (let long : length zs ≡ suc (length ys) = ap length is in omega (arith, long, same))
added_none (x ∷ xs) ys [] is same = absurd (omega (arith, same))
added_none (x ∷ xs) ys (z ∷ zs) is same = added_none xs ys zs (ap rest is) (omega (arith, same))
  where
    rest : {A : Type 0} → List A → List A
    rest [] = []
    rest (x ∷ xs) = xs

unmapped : (f : Lei → Member) (xs : List Lei) → map f xs ≡ [] → xs ≡ []
unmapped f [] none = refl
unmapped f (x ∷ xs) none = absurd (let long : suc (length (map f xs)) ≡ 0 = ap length none in omega (arith, long))

module _ (links : List Link) (root : Lei) where
  -- the members down to a level were made, the level is known, and together with those below it they are all
  pub record Down (made : List Member) (test : Lei → Bool) (steps : ℕ) : Type 0 where
    pub all :
        made ++ map (member_of links root) (flat_map (members_at links root) (range_with_len (steps + 1) (length links - steps)))
        ≡ all_members links root
    pub level : (lei : Lei) → test lei ≡ has (level_at links root steps) lei

  down_made : (made after : List Member) (test : Lei → Bool) (steps : ℕ) (leis : List Lei) → leis ≡ starts links → Down made test steps
      → after ≡ made ++ map (at_depth (steps + 1)) (filter (is_next links root test) leis)
      → after ≡ made ++ map (member_of links root) (members_at links root (steps + 1))
  down_made made after test steps leis are down is =
      let more : suc steps ≡ steps + 1 = omega arith in
      is
      ∙ (ap (λ l. made ++ map (at_depth (steps + 1)) (filter (is_next links root test) l)) are
      ∙ (ap (λ l. made ++ map (at_depth (steps + 1)) l) (next_members links root steps test down.level ∙ ap (members_at links root) more)
      ∙ ap (λ l. made ++ l) (depths links root (steps + 1) (starts links))))

  pub down_on : (made after : List Member) (test next : Lei → Bool) (steps : ℕ) (leis : List Lei) → leis ≡ starts links → Down made test steps
      → steps < length links → after ≡ made ++ map (at_depth (steps + 1)) (filter (is_next links root test) leis)
      → ((lei : Lei) → next lei ≡ has (filter (is_next links root test) leis) lei) → Down after next (steps + 1)
  down_on made after test next steps leis are down within is held =
      let more : suc steps ≡ steps + 1 = omega arith in
      record {
        all = next_level (member_of links root) (members_at links root) made after (all_members links root) steps (length links) within down.all
            (down_made made after test steps leis are down is);
        level = λ lei.
            held lei
            ∙ (ap (λ l. has (filter (is_next links root test) l) lei) are
            ∙ (ap (λ l. has l lei) (next_members links root steps test down.level)
            ∙ ap (λ k. has (level_at links root k) lei) more));
      }

  pub down_end : (made after : List Member) (test : Lei → Bool) (steps : ℕ) (leis : List Lei) → leis ≡ starts links → Down made test steps
      → steps < length links → after ≡ made ++ map (at_depth (steps + 1)) (filter (is_next links root test) leis)
      → length after ≡ length made → after ≡ all_members links root
  down_end made after test steps leis are down within is same =
      let more : suc steps ≡ steps + 1 = omega arith in
      let put = down_made made after test steps leis are down is in
      let none : members_at links root (suc steps) ≡ [] =
      ap (members_at links root) more
      ∙ unmapped (member_of links root) (members_at links root (steps + 1))
      (added_none made (map (member_of links root) (members_at links root (steps + 1))) after put same) in
      let rest : flat_map (members_at links root) (range_with_len (steps + 1 + 1) (length links - (steps + 1))) ≡ [] =
      ap (λ k. flat_map (members_at links root) (range_with_len (k + 1) (length links - (steps + 1)))) (sym more)
      ∙ none_after links root steps (length links - (steps + 1)) none in
      sym (append-nil after)
      ∙ (ap (λ l. after ++ map (member_of links root) l) (sym rest)
      ∙ next_level (member_of links root) (members_at links root) made after (all_members links root) steps (length links) within down.all put)

  pub down_over : (made : List Member) (test : Lei → Bool) (steps : ℕ) → Down made test steps → length links ≤ steps → made ≡ all_members links root
  down_over made test steps down over =
      let left : length links - steps ≡ 0 = omega (arith, over) in
      sym (append-nil made)
      ∙ (ap (λ n. made ++ map (member_of links root) (flat_map (members_at links root) (range_with_len (steps + 1) n))) (sym left) ∙ down.all)

  pub down_first : (test : Lei → Bool) → ((lei : Lei) → test lei ≡ has (root ∷ []) lei) → Down [] test 0
  down_first test is =
      let all : length links - 0 ≡ length links = omega arith in
      record {
        all = ap (λ n. map (member_of links root) (flat_map (members_at links root) (range_with_len 1 n))) all;
        level = is;
      }
