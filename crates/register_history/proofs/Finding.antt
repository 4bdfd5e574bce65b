-- What is found in sorted entries, and in those of them that pass a test.
use Rattle.std.proofs.Common.{◌≡◌, ◌&&◌, Bool, true, false, cond, List, [], ◌∷◌, filter, Option, Some, None, refl, sym, ap, subst, ◌∙◌, T}
use Rattle.std.specs.FinMap.Entries.{below_all, find, is_sorted}
use Rattle.std.specs.Ordering.{eq_by_cmp, is_eq, is_lt}
use Rattle.std.specs.declared.cmp.Ordering.{Ordering}
use Rattle.std.specs.declared.cmp.Ordering.TheVariants.{Less, Equal, Greater}

-- what passes a test, if there is something
abbrev pub only : {X : Type 0} → (X → Bool) → Option X → Option X
only p None = None
only p (Some x) = cond (p x) (Some x) None

pub both : (p q : Bool) → T p → T q → T (p && q)
both true q a b = b
both false q a b = a

pub first : (p q : Bool) → T (p && q) → T p
first true q t = tt
first false q t = absurd t

pub second : (p q : Bool) → T (p && q) → T q
second true q t = t
second false q t = absurd t

lower : (o : Ordering) → T (is_lt o) → is_eq o ≡ false
lower Less t = refl
lower Equal t = absurd t
lower Greater t = absurd t

module _ {K X : Type 0} (R : K → K → Ordering) (exact : (x y : K) → eq_by_cmp R x y ≡ true → x ≡ y) where
  pub find_below : (key : K) (es : List (K × X)) → T (below_all R key es) → find R key es ≡ None
  find_below key [] t = refl
  find_below key (e ∷ es) t = ap (λ b. cond b (Some e.1) (find R key es)) (lower (R key e.0) (first _ _ t)) ∙ find_below key es (second _ _ t)

  module _ (p : X → Bool) where
    below_passing : (key : K) (es : List (K × X)) → T (below_all R key es) → T (below_all R key (filter (λ e. p e.1) es))
    below_passing key [] t = tt
    below_passing key (e ∷ es) t = elim (p e.1) as (λ b. T (below_all R key (cond b (e ∷ filter (λ e. p e.1) es) (filter (λ e. p e.1) es)))) [
      | true ↦ both _ _ (first _ _ t) (below_passing key es (second _ _ t))
      | false ↦ below_passing key es (second _ _ t)
    ]

    -- under a key, what is found is what is found among all, if it passes
    pub find_passing : (key : K) (es : List (K × X)) → T (is_sorted R es) → find R key (filter (λ e. p e.1) es) ≡ only p (find R key es)
    find_passing key [] t = refl
    find_passing key (e ∷ es) t =
        let rest = filter (λ e. p e.1) es in
        let more = find_passing key es (second _ _ t) in
        elim (eq_by_cmp R key e.0) as (λ b. eq_by_cmp R key e.0 ≡ b → find R key (cond (p e.1) (e ∷ rest) rest) ≡ only p (cond b (Some e.1) (find R key es))) [
          | true ↦ λ same.
              let none : find R key es ≡ None = find_below key es (subst (λ k. T (below_all R k es)) (sym (exact key e.0 same)) (first _ _ t)) in
              elim (p e.1) as (λ b. find R key (cond b (e ∷ rest) rest) ≡ cond b (Some e.1) None) [
                | true ↦ ap (λ b. cond b (Some e.1) (find R key rest)) same
                | false ↦ more ∙ ap (only p) none
              ]
          | false ↦ λ apart.
              elim (p e.1) as (λ b. find R key (cond b (e ∷ rest) rest) ≡ only p (find R key es)) [
                | true ↦ ap (λ b. cond b (Some e.1) (find R key rest)) apart ∙ more
                | false ↦ more
              ]
        ] refl
