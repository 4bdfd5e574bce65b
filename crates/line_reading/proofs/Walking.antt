-- Where the lines of a block end, and which frames they are.
use Rattle.std.proofs.Common.{◌≡◌, ℕ, ◌+◌, ◌≤◌, List, [], ◌∷◌, ◌++◌, length, take, drop, Some, None, sym, ap, ◌∙◌, subst, append_assoc, arith}
use Rattle.std.proofs.lemmas.List.{take-append-drop, drop-drop}
use Rattle.std.proofs.Math.Seq.{take-add}
use Rattle.memchr.specs.Find.{IsFirstByte, is_byte}
use Rattle.line_reading.specs.Lines.{HasNoEnd, IsCutAtEnd}
use Rattle.line_reading.proofs.LineLemmas.{HasNoEnd-append, HasNoEnd-before, HasNoEnd-unfound, cut_at_end}

regrouped : (front part behind : List ℕ)
    → front ++ ((part ++ 10 ∷ []) ++ behind) ≡ ((front ++ part) ++ 10 ∷ []) ++ behind
regrouped front part behind =
    sym (append_assoc front (part ++ 10 ∷ []) behind)
    ∙ ap (λ xs. xs ++ behind) (sym (append_assoc front part (10 ∷ [])))

pub next_end : (rest : List ℕ) (seen at : ℕ) → seen ≤ length rest → HasNoEnd (take seen rest)
    → IsFirstByte (is_byte 10) (drop seen rest) (Some at)
    → IsCutAtEnd rest (take (seen + at) rest) (drop (seen + at + 1) rest)
next_end rest seen at within unseen found =
    let behind = drop seen rest in
    let part : take (seen + at) rest ≡ take seen rest ++ take at behind = take-add seen at rest in
    let place : seen + at + 1 ≡ seen + (at + 1) = omega arith in
    let after : drop (seen + at + 1) rest ≡ drop (at + 1) behind = ap (λ n. drop n rest) place
    ∙ sym (drop-drop (at + 1) seen rest) in
    let N : List ℕ → Type 0 = λ xs. HasNoEnd xs in
    record {
      parts = sym (take-append-drop seen rest)
          ∙ (ap (λ xs. take seen rest ++ xs) (cut_at_end behind at found)
          ∙ (regrouped (take seen rest) (take at behind) (drop (at + 1) behind)
          ∙ (ap (λ xs. (xs ++ 10 ∷ []) ++ drop (at + 1) behind) (sym part)
          ∙ ap (λ xs. (take (seen + at) rest ++ 10 ∷ []) ++ xs) (sym after))));
      none = subst N (sym part)
          (HasNoEnd-append (take seen rest) (take at behind) unseen (HasNoEnd-before behind at found));
    }

pub no_end : (rest : List ℕ) (seen : ℕ) → HasNoEnd (take seen rest) → IsFirstByte (is_byte 10) (drop seen rest) None
    → HasNoEnd rest
no_end rest seen unseen nowhere =
    let N : List ℕ → Type 0 = λ xs. HasNoEnd xs in
    subst N (take-append-drop seen rest)
    (HasNoEnd-append (take seen rest) (drop seen rest) unseen (HasNoEnd-unfound (drop seen rest) nowhere))
