-- Bytes that are cut into texts.
use Rattle.std.proofs.Common.{◌≡◌, ℕ, zero, suc, ◌+◌, ◌-◌, ◌<◌, ◌≤◌, inl, inr, List, [], ◌∷◌, ◌++◌, Bool, true, false, ◌&&◌, cond, length, get_or, map, take, drop, nat_le, refl, sym, subst, ap, ◌∙◌, arith, append_assoc, length-append}
use Rattle.std.specs.List.{concat, list_all}
use Rattle.std.specs.Str.{IsUtf8, is_utf8}
use Rattle.std.proofs.lemmas.Bool.{false≢true}
use Rattle.std.proofs.lemmas.List.{append-nil, take-append-le, take-append-drop, drop-append-le, map-append, length-drop, length-map, drop_all, drop_at, drop-drop, get_or-map, take_all}
use Rattle.std.proofs.lemmas.Bool.Decides.{eqb_tells}
use Rattle.lei_code.specs.Texts.{Text}
use Rattle.lei_records.specs.Rows.{text_at}
use Rattle.std.proofs.lemmas.List.Folds.{list_all-append}
use Rattle.std.proofs.lemmas.Str.{IsUtf8-from_is_utf8}
use Rattle.copy_csv.specs.Cuts.{IsCut, IsSpan, Span, holds_text, last_end, part, parts_at_ends, spans}

both : (a b : Bool) → a ≡ true → b ≡ true → (a && b) ≡ true
both true b p q = q
both false b p q = p

left : (a b : Bool) → (a && b) ≡ true → a ≡ true
left true b p = refl
left false b p = p

right : (a b : Bool) → (a && b) ≡ true → b ≡ true
right true b p = p
right false b p = absurd (false≢true p)

-- what `holds_text` says of one span
pub record Holds (bytes : List ℕ) (span : Span) : Type 0 where
  pub ordered : span.start ≤ span.end
  pub within : span.end ≤ length bytes
  pub utf8 : is_utf8 (part bytes span) ≡ true

pub holds : (bytes : List ℕ) (span : Span) → holds_text bytes span ≡ true → Holds bytes span
holds bytes span h =
    let ordered : Bool = nat_le span.start span.end in
    let within : Bool = nat_le span.end (length bytes) in
    let utf8 : Bool = is_utf8 (part bytes span) in
    let lies : (ordered && within) ≡ true = left (ordered && within) utf8 h in
    let first : nat_le span.start span.end ≡ true = left ordered within lies in
    let second : nat_le span.end (length bytes) ≡ true = right ordered within lies in
    record {
      ordered = grind (arith, first);
      within = grind (arith, second);
      utf8 = right (ordered && within) utf8 h;
    }

pub holding : (bytes : List ℕ) (span : Span) → Holds bytes span → holds_text bytes span ≡ true
holding bytes span h =
    let o : span.start ≤ span.end = h.ordered in
    let w : span.end ≤ length bytes = h.within in
    let ordered : Bool = nat_le span.start span.end in
    let within : Bool = nat_le span.end (length bytes) in
    let first : nat_le span.start span.end ≡ true = grind (arith, o) in
    let second : nat_le span.end (length bytes) ≡ true = grind (arith, w) in
    both (ordered && within) (is_utf8 (part bytes span)) (both ordered within first second) h.utf8

pub holds_at : (bytes : List ℕ) (spans : List Span) (k : ℕ) (d : Span) → list_all (holds_text bytes) spans ≡ true
    → k < length spans → holds_text bytes (get_or spans k d) ≡ true
holds_at bytes [] k d all within = absurd (omega arith)
holds_at bytes (span ∷ spans) zero d all within = left _ _ all
holds_at bytes (span ∷ spans) (suc k) d all within = holds_at bytes spans k d (right _ _ all) (omega arith)

-- bytes that are appended change no part
part-longer : (bytes more : List ℕ) (span : Span) → Holds bytes span → part (bytes ++ more) span ≡ part bytes span
part-longer bytes more span h =
    let o : span.start ≤ span.end = h.ordered in
    let w : span.end ≤ length bytes = h.within in
    ap (take (span.end - span.start)) (drop-append-le span.start bytes more (omega arith))
    ∙ take-append-le (span.end - span.start) (drop span.start bytes) more (rw (length-drop span.start bytes) (omega arith))

holds-longer : (bytes more : List ℕ) (span : Span) → Holds bytes span → holds_text (bytes ++ more) span ≡ true
holds-longer bytes more span h =
    let w : span.end ≤ length bytes = h.within in
    holding (bytes ++ more) span (record {
      ordered = h.ordered;
      within = rw (length-append bytes more) (omega arith);
      utf8 = ap is_utf8 (part-longer bytes more span h) ∙ h.utf8;
    })

parts-longer : (bytes more : List ℕ) (spans : List Span) → list_all (holds_text bytes) spans ≡ true
    → map (part (bytes ++ more)) spans ≡ map (part bytes) spans
parts-longer bytes more [] all = refl
parts-longer bytes more (span ∷ spans) all =
    let first = part-longer bytes more span (holds bytes span (left _ _ all)) in
    let others = parts-longer bytes more spans (right _ _ all) in
    λ i. first i ∷ others i

all-longer : (bytes more : List ℕ) (spans : List Span) → list_all (holds_text bytes) spans ≡ true
    → list_all (holds_text (bytes ++ more)) spans ≡ true
all-longer bytes more [] all = refl
all-longer bytes more (span ∷ spans) all =
    both _ _ (holds-longer bytes more span (holds bytes span (left _ _ all))) (all-longer bytes more spans (right _ _ all))

-- the span of a text at the end of the bytes
part-last : (bytes text : List ℕ) (span : Span) → span.start ≡ length bytes → span.end ≡ length (bytes ++ text)
    → part (bytes ++ text) span ≡ text
part-last bytes text span from to = rw (from, to, length-append bytes text) (last bytes text)
  where
    last : (bytes text : List ℕ) → take ((length bytes + length text) - length bytes) (drop (length bytes) (bytes ++ text)) ≡ text
    last bytes text = ap (take ((length bytes + length text) - length bytes)) (drop_at bytes text (length bytes) refl)
        ∙ take_all ((length bytes + length text) - length bytes) text (omega arith)

-- ---- ends

spans-push : (start : ℕ) (ends : List ℕ) (end : ℕ)
    → spans start (ends ++ end ∷ []) ≡ spans start ends ++ record { start = last_end start ends; end = end } ∷ []
spans-push start [] end = refl
spans-push start (first ∷ ends) end = ap (λ l. record { start = start; end = first } ∷ l) (spans-push first ends end)

last-push : (start : ℕ) (ends : List ℕ) (end : ℕ) → last_end start (ends ++ end ∷ []) ≡ end
last-push start [] end = refl
last-push start (first ∷ ends) end = last-push first ends end

pub length-spans : (start : ℕ) (ends : List ℕ) → length (spans start ends) ≡ length ends
length-spans start [] = refl
length-spans start (first ∷ ends) = ap suc (length-spans first ends)

span-first : (ends : List ℕ) (other : Span) → 0 < length ends → get_or (spans 0 ends) 0 other ≡ record { start = 0; end = get_or ends 0 0 }
span-first [] other some = absurd (omega arith)
span-first (first ∷ ends) other some = refl

span-later : (start : ℕ) (ends : List ℕ) (k : ℕ) (other : Span) → suc k < length ends
    → get_or (spans start ends) (suc k) other ≡ record { start = get_or ends k 0; end = get_or ends (suc k) 0 }
span-later start [] k other within = absurd (omega arith)
span-later start (first ∷ []) k other within = absurd (omega arith)
span-later start (first ∷ second ∷ ends) zero other within = refl
span-later start (first ∷ second ∷ ends) (suc k) other within = span-later first (second ∷ ends) k other (omega arith)

pub span-of_first : (ends : List ℕ) (index end : ℕ) → index ≡ 0 → index < length ends → end ≡ get_or ends index 0 → IsSpan ends index 0 end
span-of_first ends zero end none within is = λ other. span-first ends other within ∙ ap (λ n. record { start = 0; end = n }) (sym is)
span-of_first ends (suc k) end none within is = absurd (omega arith)

pub span-of_later : (ends : List ℕ) (index start end : ℕ) → (index ≡ 0 → ⊥) → index < length ends → start ≡ get_or ends (index - 1) 0
    → end ≡ get_or ends index 0 → IsSpan ends index start end
span-of_later ends zero start end some within from to = absurd (some refl)
span-of_later ends (suc k) start end some within from to =
    let before : suc k - 1 ≡ k = omega arith in
    let begins : start ≡ get_or ends k 0 = from ∙ ap (λ n. get_or ends n 0) before in
    λ other. span-later 0 ends k other within ∙ (λ i. record { start = sym begins i; end = sym to i })

-- ---- texts

-- a text is appended to the others
pub parts_at_ends-push : (bytes text ends : List ℕ) (end : ℕ) → IsCut bytes ends → end ≡ length (bytes ++ text)
    → parts_at_ends (bytes ++ text) (ends ++ end ∷ []) ≡ parts_at_ends bytes ends ++ text ∷ []
parts_at_ends-push bytes text ends end is to =
    let span : Span = record { start = last_end 0 ends; end = end } in
    ap (map (part (bytes ++ text))) (spans-push 0 ends end)
    ∙ map-append (part (bytes ++ text)) (spans 0 ends) (span ∷ [])
    ∙ (λ i. parts-longer bytes text (spans 0 ends) is.each i ++ part-last bytes text span is.whole to i ∷ [])

pub IsCut-push : (bytes text ends : List ℕ) (end : ℕ) → IsCut bytes ends → end ≡ length (bytes ++ text) → is_utf8 text ≡ true
    → IsCut (bytes ++ text) (ends ++ end ∷ [])
IsCut-push bytes text ends end is to utf8 =
    let span : Span = record { start = last_end 0 ends; end = end } in
    let from : span.start ≡ length bytes = is.whole in record {
      each = ap (list_all (holds_text (bytes ++ text))) (spans-push 0 ends end)
          ∙ list_all-append (holds_text (bytes ++ text)) (spans 0 ends) (span ∷ []) ∙ both _ _ (all-longer bytes text (spans 0 ends) is.each)
          (both _ true (holding (bytes ++ text) span (record {
            ordered = rw (from, to, length-append bytes text) (omega arith);
            within = rw to (omega arith);
            utf8 = ap is_utf8 (part-last bytes text span from to) ∙ utf8;
          })) refl);
      whole = last-push 0 ends end ∙ to;
    }

pub IsCut-none : IsCut [] []
IsCut-none = record { each = refl; whole = refl }

-- each part is UTF-8
parts-utf8 : (bytes : List ℕ) (spans : List Span) → list_all (holds_text bytes) spans ≡ true → list_all is_utf8 (map (part bytes) spans) ≡ true
parts-utf8 bytes [] all = refl
parts-utf8 bytes (span ∷ spans) all =
    let first : holds_text bytes span ≡ true = left (holds_text bytes span) (list_all (holds_text bytes) spans) all in
    let h : Holds bytes span = holds bytes span first in
    both (is_utf8 (part bytes span)) (list_all is_utf8 (map (part bytes) spans)) h.utf8
    (parts-utf8 bytes spans (right (holds_text bytes span) (list_all (holds_text bytes) spans) all))

pub parts_at_ends-utf8_of : (bytes ends : List ℕ) → IsCut bytes ends → list_all is_utf8 (parts_at_ends bytes ends) ≡ true
parts_at_ends-utf8_of bytes ends is = parts-utf8 bytes (spans 0 ends) is.each

-- what is known of the text at a place
pub record TextAt (bytes ends : List ℕ) (place start end : ℕ) : Type 0 where
  pub ordered : start ≤ end
  pub within : end ≤ length bytes
  pub value : take (end - start) (drop start bytes) ≡ text_at (parts_at_ends bytes ends) place
  pub utf8 : IsUtf8 (take (end - start) (drop start bytes))

pub text-at : (bytes ends : List ℕ) (place start end : ℕ) → IsCut bytes ends → 1 ≤ place → place ≤ length (parts_at_ends bytes ends)
    → IsSpan ends (place - 1) start end → TextAt bytes ends place start end
text-at bytes ends place start end is first last found =
    let span : Span = record { start = start; end = end } in
    let wide : length (parts_at_ends bytes ends) ≡ length (spans 0 ends) = length-map (spans 0 ends) (part bytes) in
    let here : place - 1 < length (spans 0 ends) = omega arith in
    let F : Span → Type 0 = λ s. holds_text bytes s ≡ true in
    let h : Holds bytes span = holds bytes span (subst F (found span) (holds_at bytes (spans 0 ends) (place - 1) span is.each here)) in
    record {
      ordered = h.ordered;
      within = h.within;
      value = ap (part bytes) (sym (found span)) ∙ sym (get_or-map_at (spans 0 ends) (place - 1) span here) ∙ sym (placed-at (parts_at_ends bytes ends) place first);
      utf8 = IsUtf8-from_is_utf8 (part bytes span) h.utf8;
    }
  where
    get_or-map_at : (xs : List Span) (k : ℕ) (d : Span) → k < length xs → get_or (map (part bytes) xs) k [] ≡ part bytes (get_or xs k d)
    get_or-map_at xs k d within = get_or-map (part bytes) xs k d [] within

    placed-at : (texts : List Text) (place : ℕ) → 1 ≤ place → text_at texts place ≡ get_or texts (place - 1) []
    placed-at texts place first = elim (eqb_tells place 0) [
      | inl is ↦ absurd (let none : place ≡ 0 = is.1 in omega arith)
      | inr is ↦ ap (λ b. cond b [] (get_or texts (place - 1) [])) is.0
    ]

-- ---- all texts, one directly after the other

joined-spans : (bytes : List ℕ) (start : ℕ) (ends : List ℕ) → start ≤ length bytes → list_all (holds_text bytes) (spans start ends) ≡ true
    → concat (map (part bytes) (spans start ends)) ++ drop (last_end start ends) bytes ≡ drop start bytes
joined-spans bytes start [] within all = refl
joined-spans bytes start (end ∷ ends) within all =
    let h : Holds bytes (record { start = start; end = end }) = holds bytes _ (left _ _ all) in
    let ordered : start ≤ end = h.ordered in
    let long : end ≡ start + (end - start) = omega arith in
    append_assoc (take (end - start) (drop start bytes)) (concat (map (part bytes) (spans end ends))) (drop (last_end end ends) bytes)
    ∙ ap (λ l. take (end - start) (drop start bytes) ++ l) (joined-spans bytes end ends h.within (right _ _ all))
    ∙ ap (λ n. take (end - start) (drop start bytes) ++ drop n bytes) long
    ∙ ap (λ l. take (end - start) (drop start bytes) ++ l) (sym (drop-drop (end - start) start bytes))
    ∙ take-append-drop (end - start) (drop start bytes)

pub joined-cut : (bytes ends : List ℕ) → IsCut bytes ends → bytes ≡ concat (parts_at_ends bytes ends)
joined-cut bytes ends is =
    let none : drop (last_end 0 ends) bytes ≡ [] = ap (λ n. drop n bytes) is.whole ∙ drop_all (length bytes) bytes (omega arith) in
    sym (joined-spans bytes 0 ends (omega arith) is.each)
    ∙ ap (λ l. concat (parts_at_ends bytes ends) ++ l) none ∙ append-nil (concat (parts_at_ends bytes ends))
