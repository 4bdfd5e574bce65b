-- A piece that is handed over front by front.
use Rattle.std.proofs.Common.{◌≡◌, ℕ, ◌-◌, ◌<◌, List, [], ◌++◌, length, take, drop, refl, sym, ◌∙◌, ap, subst, arith, append_assoc, length-append, length-drop, take-append-drop}
use Rattle.std.specs.Prelude.{Option}
use Rattle.std.proofs.lemmas.List.{append-nil, take_at, take_all}
use Rattle.lei_outside.specs.Told.{Grows, WritesFront}
use Rattle.lei_outside.proofs.Told.{Grows-none, Grows-join}

-- a front of the piece was written, and this is left of it
pub record Handed (old new : Option (List ℕ)) (piece left : List ℕ) : Type 0 where
  pub front : List ℕ
  pub split : front ++ left ≡ piece
  pub grows : Grows old new front

-- before the first write
pub handed_none : (told : Option (List ℕ)) (piece : List ℕ) → Handed told told piece piece
handed_none told piece = record { front = []; split = refl; grows = Grows-none told }

-- a write took this many bytes more
pub handed_more : (old mid new : Option (List ℕ)) (piece left : List ℕ) (n : ℕ) → Handed old mid piece left → Grows mid new (take n left) → Handed old new piece (take (length left - n) (drop n left))
handed_more old mid new piece left n so_far more =
    let rest : take (length left - n) (drop n left) ≡ drop n left = take_all (length left - n) (drop n left) (omega (arith, length-drop n left)) in
    record {
      front = so_far.front ++ take n left;
      split = ap (λ (l : List ℕ). (so_far.front ++ take n left) ++ l) rest ∙ append_assoc so_far.front (take n left) (drop n left) ∙ ap (λ (l : List ℕ). so_far.front ++ l) (take-append-drop n left) ∙ so_far.split;
      grows = Grows-join old mid new so_far.front (take n left) so_far.grows more;
    }

-- nothing is left
pub handed_all : (old new : Option (List ℕ)) (piece left : List ℕ) → Handed old new piece left → left ≡ [] → Grows old new piece
handed_all old new piece left so_far none =
    let whole : so_far.front ≡ piece = sym (append-nil so_far.front) ∙ ap (λ (l : List ℕ). so_far.front ++ l) (sym none) ∙ so_far.split in
    subst (λ (l : List ℕ). Grows old new l) whole so_far.grows

-- a write failed while some was left
pub handed_front : (old mid new : Option (List ℕ)) (piece left : List ℕ) → Handed old mid piece left → 0 < length left → Grows mid new [] → WritesFront old new piece
handed_front old mid new piece left so_far some stays =
    let front : so_far.front ≡ take (length so_far.front) piece = sym (take_at so_far.front left (length so_far.front) refl) ∙ ap (λ (l : List ℕ). take (length so_far.front) l) so_far.split in
    let same : Grows old new (so_far.front ++ []) = Grows-join old mid new so_far.front [] so_far.grows stays in
    (length so_far.front, omega (arith, length-append so_far.front left, ap length so_far.split), subst (λ (l : List ℕ). Grows old new l) (append-nil so_far.front ∙ front) same)
