-- UTF-8 that is cut at a quote, and fields with their quotes doubled.
use Rattle.std.proofs.Common.{◌≡◌, ℕ, ◌+◌, ◌<◌, inl, inr, Bool, cond, List, [], ◌∷◌, ◌++◌, length, get_or, drop, refl, sym, ap, subst, ◌∙◌, arith, rules, append_assoc, length-append}
use Rattle.std.specs.Prelude.{flat_map}
use Rattle.std.specs.Str.{IsUtf8}
use Rattle.std.proofs.lemmas.Bool.Decides.{eqb_tells}
use Rattle.std.proofs.lemmas.List.{append-nil, get_or_at, drop_at, take_at}
use Rattle.std.proofs.lemmas.Str.{IsUtf8-append, IsUtf8-drop, IsUtf8-take, IsUtf8-nil, IsUtf8-from_ascii, IsCharBoundary-before_ascii, IsCharBoundary-after_ascii}
use Rattle.copy_csv.specs.Csv.{field_byte}

-- one ASCII byte
pub utf8_byte : (b : ℕ) → b < 128 → IsUtf8 (b ∷ [])
utf8_byte b low = IsUtf8-from_ascii (b ∷ []) (search (rules, low))

-- the bytes before and after an ASCII byte
pub utf8_before : (front back : List ℕ) (b : ℕ) → b < 128 → IsUtf8 (front ++ b ∷ back) → IsUtf8 front
utf8_before front back b low is =
    let all : List ℕ = front ++ b ∷ back in
    let at : get_or all (length front) 0 ≡ b = get_or_at front b back 0 (length front) refl in
    let within : length front < length all = rw (length-append front (b ∷ back)) (omega arith) in
    let F : List ℕ → Type 0 = IsUtf8 in
    subst F (take_at front (b ∷ back) (length front) refl)
    (IsUtf8-take all (length front) is (IsCharBoundary-before_ascii all (length front) within (rw at low)))

pub utf8_behind : (front back : List ℕ) (b : ℕ) → b < 128 → IsUtf8 (front ++ b ∷ back) → IsUtf8 back
utf8_behind front back b low is =
    let all : List ℕ = front ++ b ∷ back in
    let at : get_or all (length front) 0 ≡ b = get_or_at front b back 0 (length front) refl in
    let within : length front < length all = rw (length-append front (b ∷ back)) (omega arith) in
    let F : List ℕ → Type 0 = IsUtf8 in
    let joined : all ≡ (front ++ b ∷ []) ++ back = sym (append_assoc front (b ∷ []) back) in
    let long : length (front ++ b ∷ []) ≡ length front + 1 = length-append front (b ∷ []) in
    subst F (ap (drop (length front + 1)) joined ∙ drop_at (front ++ b ∷ []) back (length front + 1) long)
    (IsUtf8-drop all (length front + 1) is (IsCharBoundary-after_ascii all (length front) is within (rw at low)))

pub utf8_joined : (front back : List ℕ) (b : ℕ) → b < 128 → IsUtf8 front → IsUtf8 back → IsUtf8 (front ++ b ∷ back)
utf8_joined front back b low f k = IsUtf8-append front (b ∷ back) f (IsUtf8-append (b ∷ []) back (utf8_byte b low) k)

-- if a field is UTF-8, so is the field with its quotes doubled
pub utf8_doubled : (front text : List ℕ) → IsUtf8 (front ++ text) → IsUtf8 (front ++ flat_map field_byte text)
utf8_doubled front [] is = is
utf8_doubled front (b ∷ text) is = elim (eqb_tells b 34) [
  | inl quote ↦
      let F : Bool → Type 0 = λ t. IsUtf8 (front ++ (cond t (34 ∷ 34 ∷ []) (b ∷ []) ++ flat_map field_byte text)) in
      let G : ℕ → Type 0 = λ n. IsUtf8 (front ++ n ∷ text) in
      let there : IsUtf8 (front ++ 34 ∷ text) = subst G quote.1 is in
      let back : IsUtf8 (flat_map field_byte text) = utf8_doubled [] text (utf8_behind front text 34 (omega arith) there) in
      subst F (sym quote.0) (utf8_joined front (34 ∷ flat_map field_byte text) 34 (omega arith)
      (utf8_before front text 34 (omega arith) there) (utf8_joined [] (flat_map field_byte text) 34 (omega arith) IsUtf8-nil back))
  | inr other ↦
      let F : Bool → Type 0 = λ t. IsUtf8 (front ++ (cond t (34 ∷ 34 ∷ []) (b ∷ []) ++ flat_map field_byte text)) in
      let G : List ℕ → Type 0 = IsUtf8 in
      subst F (sym other.0) (subst G (append_assoc front (b ∷ []) (flat_map field_byte text))
      (utf8_doubled (front ++ b ∷ []) text (subst G (sym (append_assoc front (b ∷ []) text)) is)))
]

-- and conversely
pub utf8_undoubled : (front text back : List ℕ) → IsUtf8 (front ++ (flat_map field_byte text ++ 34 ∷ back)) → IsUtf8 (front ++ text)
utf8_undoubled front [] back is =
    let G : List ℕ → Type 0 = IsUtf8 in
    subst G (sym (append-nil front)) (utf8_before front back 34 (omega arith) is)
utf8_undoubled front (b ∷ text) back is = elim (eqb_tells b 34) [
  | inl quote ↦
      let F : Bool → Type 0 = λ t. IsUtf8 (front ++ ((cond t (34 ∷ 34 ∷ []) (b ∷ []) ++ flat_map field_byte text) ++ 34 ∷ back)) in
      let G : ℕ → Type 0 = λ n. IsUtf8 (front ++ n ∷ text) in
      let there : IsUtf8 (front ++ 34 ∷ (34 ∷ (flat_map field_byte text ++ 34 ∷ back))) = subst F quote.0 is in
      let rest : IsUtf8 (flat_map field_byte text ++ 34 ∷ back) = utf8_behind [] (flat_map field_byte text ++ 34 ∷ back) 34 (omega arith)
      (utf8_behind front (34 ∷ (flat_map field_byte text ++ 34 ∷ back)) 34 (omega arith) there) in
      subst G (sym quote.1) (utf8_joined front text 34 (omega arith)
      (utf8_before front (34 ∷ (flat_map field_byte text ++ 34 ∷ back)) 34 (omega arith) there) (utf8_undoubled [] text back rest))
  | inr other ↦
      let F : Bool → Type 0 = λ t. IsUtf8 (front ++ ((cond t (34 ∷ 34 ∷ []) (b ∷ []) ++ flat_map field_byte text) ++ 34 ∷ back)) in
      let G : List ℕ → Type 0 = IsUtf8 in
      subst G (append_assoc front (b ∷ []) text) (utf8_undoubled (front ++ b ∷ []) text back
      (subst G (sym (append_assoc front (b ∷ []) (flat_map field_byte text ++ 34 ∷ back))) (subst F other.0 is)))
]
