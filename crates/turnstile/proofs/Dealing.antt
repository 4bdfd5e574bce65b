-- Passes and their seats, and passes that are separated one by one.
use Rattle.std.proofs.Common.{◌≡◌, ℕ, zero, suc, ◌+◌, ◌-◌, ◌≤◌, ◌<◌, List, [], ◌∷◌, ◌++◌, length, length-append, refl, sym, ap, ◌∙◌, subst, ⊎_elim, Some, slice_get, arith}
use Rattle.atomic_table.specs.Seated.{TableId}
use Rattle.atomic_table.specs.Table.{Me}
use Rattle.turnstile.specs.declared.view.View.{View}
use Rattle.turnstile.specs.Rule.{accounts_from, idle_view, left_part, right_part}
use Rattle.turnstile.specs.Passes.{PassView, pass_of, view_of, new_pass, AreNew, AreOf, HaveAll}
use Rattle.turnstile.specs.Lists.{Each}
use Rattle.turnstile.proofs.Closing.{all_of_each}
use Rattle.std.proofs.lemmas.Bool.Decides.{leb_tells}

module _ {E D : Type 0} (table : TableId) (seen : List E) (stays : List ℕ) where
  right_is : (k n : ℕ) → 1 ≤ n → right_part (idle_view {E = E} {D = D} seen [] (accounts_from k n stays)) ≡ view_of (new_pass table k seen stays)
  right_is k zero h = absurd (omega (arith, h))
  right_is k (suc n) h = refl

  left_is : (k n n' : ℕ) → n ≡ suc n' → left_part (idle_view {E = E} {D = D} seen [] (accounts_from k n stays)) ≡ idle_view seen [] (accounts_from (k + 1) n' stays)
  left_is k n n' e = ap (λ (i : ℕ). left_part (idle_view {E = E} {D = D} seen [] (accounts_from k i stays))) e

  -- new passes belong to the table
  new_of : (j : ℕ) (ps : List (PassView E D)) → AreNew table seen stays j ps → Each (λ p. p.table ≡ table) ps
  new_of j [] h = tt
  new_of j (p ∷ ps) h = (ap (λ (q : PassView E D). q.table) h.0, new_of (j + 1) ps h.1)

  -- and each number belongs to one
  new_have : (j k : ℕ) (ps : List (PassView E D)) → AreNew table seen stays j ps → j ≤ k → k < j + length ps
      → (i : ℕ) × (p : PassView E D) × (slice_get ps i ≡ Some p) × (p.number ≡ k)
  new_have j k [] h low high = absurd (omega (arith, low, high))
  new_have j k (p ∷ ps) h low high = ⊎_elim
      (λ t. let r = new_have (j + 1) k ps h.1 (omega (arith, t.1)) (omega (arith, high)) in (suc r.0, r.1, r.2, r.3))
      (λ t. let same : j ≡ k = omega (arith, low, t.1) in (0, p, refl, ap (λ (q : PassView E D). q.number) h.0 ∙ same))
      (leb_tells (suc j) k)

  new_all : (n : ℕ) (ps : List (PassView E D)) → AreNew table seen stays 0 ps → length ps ≡ n → AreOf table ps × HaveAll n ps
  new_all n ps h count = (all_of_each (λ (p : PassView E D). p.table ≡ table) ps (new_of 0 ps h), λ k low. new_have 0 k ps h (omega arith) (omega (arith, low, count)))

  new_push : (j k : ℕ) (ps : List (PassView E D)) (p : PassView E D) → AreNew table seen stays j ps → k ≡ j + length ps → p ≡ new_pass table k seen stays
      → AreNew table seen stays j (ps ++ p ∷ [])
  new_push j k [] p h at e = (e ∙ ap (λ (i : ℕ). new_pass table i seen stays) (omega (arith, at)), tt)
  new_push j k (q ∷ ps) p h at e = (h.0, new_push (j + 1) k ps p h.1 (omega (arith, at)) e)

  -- The list has all passes.
  pub record AllDealt (passes : ℕ) (items : List (PassView E D)) : Type 0 where
    pub count : length items ≡ passes
    pub new : AreNew table seen stays 0 items
    pub all : AreOf table items × HaveAll passes items

module _ {T E D : Type 0} where
  -- a seat with the view of a pass is one
  pub is_pass : (table : TableId) (me : Me T (View E D)) (p : PassView E D) → me ≡ (view_of p, []) → me ≡ (view_of (pass_of table (me.0 ∷ [])), [])
  is_pass table me p e = subst (λ (q : Me T (View E D)). q ≡ (view_of (pass_of table (q.0 ∷ [])), [])) (sym e) refl

  pass_is : (table : TableId) (me : Me T (View E D)) (k : ℕ) (seen : List E) (stays : List ℕ) → me ≡ (view_of (new_pass table k seen stays), [])
      → pass_of table (me.0 ∷ []) ≡ new_pass table k seen stays
  pass_is table me k seen stays e = ap (λ (q : Me T (View E D)). pass_of table (q.0 ∷ [])) e

  module _ (table : TableId) (seen : List E) (stays : List ℕ) (passes : ℕ) where
    -- The list has the passes below k, and the seat has the accounts of the others.
    pub record Dealt (k : ℕ) (items : List (PassView E D)) (me : Me T (View E D)) : Type 0 where
      pub me_is : me ≡ (idle_view seen [] (accounts_from k (passes - k) stays), [])
      pub count : length items ≡ k
      pub new : AreNew table seen stays 0 items

    cut_is : (k : ℕ) (items : List (PassView E D)) (me part : Me T (View E D)) → Dealt k items me → k < passes → part ≡ (right_part me.0, [])
        → part ≡ (view_of (new_pass table k seen stays), [])
    cut_is k items me part d left is =
        is ∙ ap (λ (q : Me T (View E D)). (right_part q.0, [])) d.me_is ∙ ap (λ (v : View E D). (v, [])) (right_is table seen stays k (passes - k) (omega (arith, left)))

    pub cut_off : (k : ℕ) (items : List (PassView E D)) (me part : Me T (View E D)) (cut : TableId) → Dealt k items me → k < passes → part ≡ (right_part me.0, [])
        → part ≡ (view_of (pass_of cut (part.0 ∷ [])), [])
    cut_off k items me part cut d left is = is_pass cut part (new_pass table k seen stays) (cut_is k items me part d left is)

    -- the last one
    last_is : (k : ℕ) (items : List (PassView E D)) (me : Me T (View E D)) → Dealt k items me → passes ≡ k + 1 → me ≡ (view_of (new_pass table k seen stays), [])
    last_is k items me d last =
        let one : passes - k ≡ 1 = omega (arith, last) in
        d.me_is ∙ ap (λ (i : ℕ). (idle_view seen [] (accounts_from k i stays), [])) one

    pub last_off : (k : ℕ) (items : List (PassView E D)) (me : Me T (View E D)) (cut : TableId) → Dealt k items me → passes ≡ k + 1 → me ≡ (view_of (pass_of cut (me.0 ∷ [])), [])
    last_off k items me cut d last = is_pass cut me (new_pass table k seen stays) (last_is k items me d last)

    pushed_new : (k : ℕ) (items : List (PassView E D)) (me part : Me T (View E D)) (cut : TableId) (p : PassView E D) (items' : List (PassView E D)) → Dealt k items me
        → part ≡ (view_of (new_pass table k seen stays), []) → cut ≡ table → p ≡ pass_of cut (part.0 ∷ []) → items' ≡ items ++ p ∷ [] → AreNew table seen stays 0 items'
    pushed_new k items me part cut p items' d is same made pushed =
        subst (AreNew table seen stays 0) (sym pushed)
        (new_push table seen stays 0 k items p d.new (let c = d.count in omega (arith, c))
        (made ∙ ap (λ (t : TableId). pass_of t (part.0 ∷ [])) same ∙ pass_is table part k seen stays is))

    pub dealt_more : (k : ℕ) (items : List (PassView E D)) (me part after : Me T (View E D)) (cut : TableId) (p : PassView E D) (items' : List (PassView E D)) → Dealt k items me
        → k + 1 < passes → part ≡ (right_part me.0, []) → after ≡ (left_part me.0, me.1) → cut ≡ table → p ≡ pass_of cut (part.0 ∷ []) → items' ≡ items ++ p ∷ []
        → Dealt (k + 1) items' after
    dealt_more k items me part after cut p items' d left is rest same made pushed =
        let one = length-append items (p ∷ []) in
        let count = d.count in
        let longer : length items' ≡ length (items ++ p ∷ []) = ap length pushed in
        record {
          me_is = rest ∙ ap (λ (q : Me T (View E D)). (left_part q.0, q.1)) d.me_is
              ∙ ap (λ (v : View E D). (v, [])) (left_is table seen stays k (passes - k) (passes - (k + 1)) (omega (arith, left)));
          count = omega (arith, one, count, longer);
          new = pushed_new k items me part cut p items' d (cut_is k items me part d (omega (arith, left)) is) same made pushed;
        }

    pub dealt_all : (k : ℕ) (items : List (PassView E D)) (me : Me T (View E D)) (cut : TableId) (p : PassView E D) (items' : List (PassView E D)) → Dealt k items me
        → passes ≡ k + 1 → cut ≡ table → p ≡ pass_of cut (me.0 ∷ []) → items' ≡ items ++ p ∷ [] → AllDealt table seen stays passes items'
    dealt_all k items me cut p items' d last same made pushed =
        let count : length items' ≡ passes = ap length pushed ∙ length-append items (p ∷ []) ∙ ap (λ (i : ℕ). i + 1) d.count ∙ sym last in
        let new = pushed_new k items me me cut p items' d (last_is k items me d last) same made pushed in
        record { count = count; new = new; all = new_all table seen stays passes items' new count }

    pub dealt_none : (items : List (PassView E D)) (me : Me T (View E D)) → items ≡ [] → me ≡ (idle_view seen [] (accounts_from 0 passes stays), []) → Dealt 0 items me
    dealt_none items me none e =
        let all : passes ≡ passes - 0 = omega arith in
        record {
          me_is = e ∙ ap (λ (i : ℕ). (idle_view seen [] (accounts_from 0 i stays), [])) all;
          count = ap length none;
          new = subst (AreNew table seen stays 0) (sym none) tt;
        }
