-- Passes that a seat absorbed, from the last to the first.
use Rattle.std.proofs.Common.{◌≡◌, ℕ, List, [], ◌∷◌, ◌++◌, map, append_assoc, All, refl, sym, ap, ◌∙◌, subst}
use Rattle.atomic_table.specs.Table.{Me, Final, Seen}
use Rattle.atomic_table.specs.Seated.{TableId}
use mathlib.Core.Option.{some}
use lib.ListN.{get_elem?}
use Rattle.turnstile.specs.declared.view.View.{View}
use Rattle.turnstile.specs.Lists.{Each, IsPrefix, longer}
use Rattle.turnstile.specs.Rule.{idle_view, IsKept}
use Rattle.turnstile.specs.Meaning.{Meaning}
use Rattle.turnstile.specs.Passes.{PassView, view_of, account_at, HaveAll}
use Rattle.turnstile.proofs.Prefixes.{prefix_self, prefix_trans}
use Rattle.turnstile.proofs.Views.{Each_map}
use Rattle.turnstile.proofs.Closing.{each_of_all, IsEnd, ended}

each_last : {X : Type 0} (P : X → Type 0) (xs : List X) (x : X) (ys : List X) → Each P (xs ++ x ∷ ys) → P x
each_last P [] x ys h = h.0
each_last P (y ∷ xs) x ys h = each_last P xs x ys h.1

module _ {T E D : Type 0} where
  -- Of all passes, those that are left precede those that the seat absorbed.
  pub record Gathered (all left : List (PassView E D)) (me : Me T (View E D)) : Type 0 where
    pub taken : List (PassView E D)
    pub are : all ≡ left ++ taken
    pub me_is : me ≡ (idle_view me.0.seen [] (map account_at taken), [])
    pub fronts : Each (λ p. IsPrefix p.seen me.0.seen) taken

  pub gathered_first : (all left : List (PassView E D)) (p : PassView E D) (me : Me T (View E D)) → all ≡ left ++ p ∷ [] → me ≡ (view_of p, []) → Gathered all left me
  gathered_first all left p me e is =
      subst (Gathered all left) (sym is) (record { taken = p ∷ []; are = e; me_is = refl; fronts = (prefix_self p.seen, tt) })

  pub gathered_more : (all left left' : List (PassView E D)) (p : PassView E D) (me after : Me T (View E D)) → Gathered all left me → left ≡ left' ++ p ∷ []
      → after ≡ (idle_view (longer me.0.seen p.seen) [] (account_at p ∷ me.0.accounts), [])
      → IsPrefix me.0.seen (longer me.0.seen p.seen) × IsPrefix p.seen (longer me.0.seen p.seen) → Gathered all left' after
  gathered_more all left left' p me after g e is fronts =
      let seen = longer me.0.seen p.seen in
      let accounts : me.0.accounts ≡ map account_at g.taken = ap (λ (q : Me T (View E D)). q.0.accounts) g.me_is in
      subst (Gathered all left') (sym (is ∙ ap (λ l. (idle_view seen [] (account_at p ∷ l), [])) accounts))
      (record {
        taken = p ∷ g.taken;
        are = g.are ∙ ap (λ l. l ++ g.taken) e ∙ append_assoc left' (p ∷ []) g.taken;
        me_is = refl;
        fronts = (
          fronts.1,
          Each_map (λ (q : PassView E D). IsPrefix q.seen me.0.seen) (λ (q : PassView E D). IsPrefix q.seen seen)
              (λ q h. prefix_trans q.seen me.0.seen seen h fronts.0) g.taken g.fronts,
        );
      })

  -- each pass that is left belongs to the table
  pub gathered_table : (table : TableId) (all left left' : List (PassView E D)) (p : PassView E D) (me : Me T (View E D)) → All (λ q. q.table ≡ table) all
      → Gathered all left me → left ≡ left' ++ p ∷ [] → p.table ≡ table
  gathered_table table all left left' p me h g e =
      each_last (λ (q : PassView E D). q.table ≡ table) left' p g.taken
      (subst (Each (λ (q : PassView E D). q.table ≡ table)) (g.are ∙ ap (λ l. l ++ g.taken) e ∙ append_assoc left' (p ∷ []) g.taken) (each_of_all _ all h))

module _ {T E D : Type 0} (m : Meaning T E D) where
  -- the end, if none is left
  pub gathered_all : (opened opened' : T) (n n' id : ℕ) (all left : List (PassView E D)) (me : Me T (View E D)) (ws : List ℕ) (xs : List T) (x : T)
      → opened' ≡ opened → n' ≡ n → Gathered all left me → left ≡ [] → HaveAll n' all
      → Final (Seen (IsKept m opened n) id me.0) ws xs → get_elem? xs 0 ≡ some x → IsEnd m opened' n' all x
  gathered_all opened opened' n n' id all left me ws xs x same count g none have final found =
      let are : all ≡ g.taken = g.are ∙ ap (λ l. l ++ g.taken) none in
      let v : me.0 ≡ idle_view me.0.seen [] (map account_at all) = ap (λ (q : Me T (View E D)). q.0) g.me_is ∙ ap (λ l. idle_view me.0.seen [] (map account_at l)) (sym are) in
      let fronts : Each (λ (p : PassView E D). IsPrefix p.seen me.0.seen) all = subst (Each (λ (p : PassView E D). IsPrefix p.seen me.0.seen)) (sym are) g.fronts in
      let final' : Final (Seen (IsKept m opened' n') id (idle_view me.0.seen [] (map account_at all))) ws xs =
      subst (λ (o : T). Final (Seen (IsKept m o n') id (idle_view me.0.seen [] (map account_at all))) ws xs) (sym same)
      (subst (λ (k : ℕ). Final (Seen (IsKept m opened k) id (idle_view me.0.seen [] (map account_at all))) ws xs) (sym count)
      (subst (λ (w : View E D). Final (Seen (IsKept m opened n) id w) ws xs) v final)) in
      ended m opened' n' id me.0.seen all ws xs x have fronts final' found
