-- Reading lines of CSV, and printing them.
use Rattle.std.proofs.Common.{◌≡◌, ◌≢◌, ℕ, zero, suc, ◌+◌, ◌-◌, ◌<◌, inl, inr, ◌==◌, Bool, true, false, not, cond, Option, None, Some, List, [], ◌∷◌, ◌++◌, length, take, drop, refl, sym, ap, subst, ◌∙◌, arith, append_assoc, length-append}
use Rattle.std.specs.Prelude.{flat_map, is_some, unwrap_or, ⊤}
use Rattle.std.specs.Str.{IsUtf8, bytes_eq}
use Rattle.std.proofs.lemmas.Slice.Eq.{bytes_eq-Decides}
use Rattle.std.proofs.lemmas.Bool.{false≢true}
use Rattle.std.specs.Option.{option_map}
use Rattle.std.proofs.lemmas.Bool.Decides.{eqb_tells}
use Rattle.std.proofs.lemmas.List.{append-nil, take-append-drop, take_at}
use Rattle.std.proofs.lemmas.List.Elements.{All-head, All-tail}
use Rattle.lei_code.specs.Texts.{Text}
use Rattle.copy_csv.specs.Csv.{field_byte, in_quotes, separator, csv_line}
use Rattle.copy_csv.specs.CsvReading.{after_byte, with_front, csv_text_from, before_byte, text_in, csv_field_from, separator_of, with_first_text, with_first_texts, line_from}
use Rattle.copy_csv.specs.Taking.{HasNoQuote, TakesPart}
use Rattle.copy_csv.proofs.Utf8Lemmas.{utf8_behind, utf8_undoubled}

abbrev pub IsPlain : ℕ → Type 0
IsPlain byte = (byte == 34) ≡ false

-- ---- a text

-- a quote that another byte follows closes the text
behind_quote : (b : ℕ) (rest : List ℕ) → (b == 34) ≡ false → csv_text_from (34 ∷ b ∷ rest) false ≡ Some ([], b ∷ rest)
behind_quote b rest other = ap (λ t. cond t (with_front (34 ∷ []) (csv_text_from rest false)) (Some ([], b ∷ rest))) other

pub text_again : (text : List ℕ) (b : ℕ) (rest : List ℕ) → (b == 34) ≡ false
    → csv_text_from (flat_map field_byte text ++ 34 ∷ b ∷ rest) false ≡ Some (text, b ∷ rest)
text_again [] b rest other = behind_quote b rest other
text_again (x ∷ text) b rest other = elim (eqb_tells x 34) [
  | inl is ↦ ap (λ t. csv_text_from ((cond t (34 ∷ 34 ∷ []) (x ∷ []) ++ flat_map field_byte text) ++ 34 ∷ b ∷ rest) false) is.0
      ∙ ap (with_front (34 ∷ [])) (text_again text b rest other) ∙ ap (λ n. Some (n ∷ text, b ∷ rest)) (sym is.1)
  | inr is ↦ ap (λ t. csv_text_from ((cond t (34 ∷ 34 ∷ []) (x ∷ []) ++ flat_map field_byte text) ++ 34 ∷ b ∷ rest) false) is.0
      ∙ ap (λ t. cond t (csv_text_from (flat_map field_byte text ++ 34 ∷ b ∷ rest) true)
      (with_front (x ∷ []) (csv_text_from (flat_map field_byte text ++ 34 ∷ b ∷ rest) false))) is.0
      ∙ ap (with_front (x ∷ [])) (text_again text b rest other)
]

-- the bytes to read, preceded by a quote if the flag says so
abbrev opened : Bool → List ℕ → List ℕ
opened true bytes = 34 ∷ bytes
opened false bytes = bytes

-- what was read, printed again, gives the bytes
abbrev TextTaken : List ℕ → Bool → Option (List ℕ × List ℕ) → Type 0
TextTaken bytes closed None = ⊤
TextTaken bytes closed (Some read) = opened closed bytes ≡ flat_map field_byte read.0 ++ 34 ∷ read.1

taken-quote : (bytes : List ℕ) (r : Option (List ℕ × List ℕ)) → TextTaken bytes false r
    → TextTaken (34 ∷ bytes) true (with_front (34 ∷ []) r)
taken-quote bytes None h = tt
taken-quote bytes (Some read) h = ap (λ l. 34 ∷ 34 ∷ l) h

taken-byte : (b : ℕ) (bytes : List ℕ) (r : Option (List ℕ × List ℕ)) → (b == 34) ≡ false → TextTaken bytes false r
    → TextTaken (b ∷ bytes) false (with_front (b ∷ []) r)
taken-byte b bytes None other h = tt
taken-byte b bytes (Some read) other h =
    ap (λ l. b ∷ l) h ∙ ap (λ t. (cond t (34 ∷ 34 ∷ []) (b ∷ []) ++ flat_map field_byte read.0) ++ 34 ∷ read.1) (sym other)

taken-closed : (bytes : List ℕ) (r : Option (List ℕ × List ℕ)) → TextTaken bytes true r → TextTaken (34 ∷ bytes) false r
taken-closed bytes None h = tt
taken-closed bytes (Some read) h = h

pub text_taken : (bytes : List ℕ) (closed : Bool) → TextTaken bytes closed (csv_text_from bytes closed)
text_taken [] true = refl
text_taken [] false = tt
text_taken (b ∷ bytes) true = elim (eqb_tells b 34) [
  | inl is ↦
      let F : Bool → Type 0 = λ t. TextTaken (b ∷ bytes) true (cond t (with_front (34 ∷ []) (csv_text_from bytes false)) (Some ([], b ∷ bytes))) in
      let G : ℕ → Type 0 = λ n. TextTaken (n ∷ bytes) true (with_front (34 ∷ []) (csv_text_from bytes false)) in
      subst F (sym is.0) (subst G (sym is.1) (taken-quote bytes (csv_text_from bytes false) (text_taken bytes false)))
  | inr is ↦
      let F : Bool → Type 0 = λ t. TextTaken (b ∷ bytes) true (cond t (with_front (34 ∷ []) (csv_text_from bytes false)) (Some ([], b ∷ bytes))) in
      subst F (sym is.0) refl
]
text_taken (b ∷ bytes) false = elim (eqb_tells b 34) [
  | inl is ↦
      let F : Bool → Type 0 = λ t. TextTaken (b ∷ bytes) false (cond t (csv_text_from bytes true) (with_front (b ∷ []) (csv_text_from bytes false))) in
      let G : ℕ → Type 0 = λ n. TextTaken (n ∷ bytes) false (csv_text_from bytes true) in
      subst F (sym is.0) (subst G (sym is.1) (taken-closed bytes (csv_text_from bytes true) (text_taken bytes true)))
  | inr is ↦
      let F : Bool → Type 0 = λ t. TextTaken (b ∷ bytes) false (cond t (csv_text_from bytes true) (with_front (b ∷ []) (csv_text_from bytes false))) in
      subst F (sym is.0) (taken-byte b bytes (csv_text_from bytes false) is.0 (text_taken bytes false))
]

-- ---- a byte

pub behind_itself : (b : ℕ) (rest : List ℕ) → after_byte b (b ∷ rest) ≡ Some rest
behind_itself b rest = elim (eqb_tells b b) [
  | inl is ↦ ap (λ t. cond t (Some rest) None) is.0
  | inr is ↦ absurd (is.1 refl)
]

abbrev ByteTaken : ℕ → List ℕ → Option (List ℕ) → Type 0
ByteTaken b bytes None = ⊤
ByteTaken b bytes (Some rest) = bytes ≡ b ∷ rest

pub byte_taken : (b : ℕ) (bytes : List ℕ) → ByteTaken b bytes (after_byte b bytes)
byte_taken b [] = tt
byte_taken b (x ∷ bytes) = elim (eqb_tells x b) [
  | inl is ↦
      let F : Bool → Type 0 = λ t. ByteTaken b (x ∷ bytes) (cond t (Some bytes) None) in
      subst F (sym is.0) (ap (λ n. n ∷ bytes) is.1)
  | inr is ↦
      let F : Bool → Type 0 = λ t. ByteTaken b (x ∷ bytes) (cond t (Some bytes) None) in
      subst F (sym is.0) tt
]

-- ---- a field

pub field_again : (text : List ℕ) (b : ℕ) (rest : List ℕ) → (b == 34) ≡ false
    → csv_field_from b (in_quotes text ++ b ∷ rest) ≡ Some (text, rest)
field_again text b rest other =
    ap (λ l. text_in b (after_byte 34 (34 ∷ l))) (append_assoc (flat_map field_byte text) (34 ∷ []) (b ∷ rest))
    ∙ ap (text_in b) (behind_itself 34 (flat_map field_byte text ++ 34 ∷ b ∷ rest))
    ∙ ap (before_byte b) (text_again text b rest other)
    ∙ ap (option_map (λ more. (text, more))) (behind_itself b rest)

abbrev FieldTaken : ℕ → List ℕ → Option (List ℕ × List ℕ) → Type 0
FieldTaken b bytes None = ⊤
FieldTaken b bytes (Some read) = bytes ≡ in_quotes read.0 ++ b ∷ read.1

taken-behind : (b : ℕ) (bytes text more : List ℕ) → bytes ≡ flat_map field_byte text ++ 34 ∷ more → (r : Option (List ℕ))
    → ByteTaken b more r → FieldTaken b (34 ∷ bytes) (option_map (λ rest. (text, rest)) r)
taken-behind b bytes text more is None h = tt
taken-behind b bytes text more is (Some rest) h =
    ap (λ l. 34 ∷ l) (is ∙ ap (λ l. flat_map field_byte text ++ 34 ∷ l) h ∙ sym (append_assoc (flat_map field_byte text) (34 ∷ []) (b ∷ rest)))

taken-text : (b : ℕ) (bytes : List ℕ) (r : Option (List ℕ × List ℕ)) → TextTaken bytes false r
    → FieldTaken b (34 ∷ bytes) (before_byte b r)
taken-text b bytes None h = tt
taken-text b bytes (Some read) h = taken-behind b bytes read.0 read.1 h (after_byte b read.1) (byte_taken b read.1)

taken-opening : (b : ℕ) (bytes : List ℕ) (r : Option (List ℕ)) → ByteTaken 34 bytes r → FieldTaken b bytes (text_in b r)
taken-opening b bytes None h = tt
taken-opening b bytes (Some rest) h =
    let F : List ℕ → Type 0 = λ l. FieldTaken b l (text_in b (Some rest)) in
    subst F (sym h) (taken-text b rest (csv_text_from rest false) (text_taken rest false))

pub field_taken : (b : ℕ) (bytes : List ℕ) → FieldTaken b bytes (csv_field_from b bytes)
field_taken b bytes = taken-opening b bytes (after_byte 34 bytes) (byte_taken 34 bytes)

-- ---- a line

pub separator-of : (texts : List Text) → separator texts ≡ separator_of (length texts)
separator-of [] = refl
separator-of (text ∷ texts) = refl

no_quote : (more : ℕ) → (separator_of more == 34) ≡ false
no_quote zero = refl
no_quote (suc more) = refl

-- a line, given what its first field was read as
abbrev first_then : ℕ → Option (List ℕ × List ℕ) → Option (List Text × List ℕ)
first_then more None = None
first_then more (Some read) = with_first_text read.0 (line_from more read.1)

csv_line-step : (more : ℕ) (bytes : List ℕ) → line_from (suc more) bytes ≡ first_then more (csv_field_from (separator_of more) bytes)
csv_line-step more bytes = step (csv_field_from (separator_of more) bytes)
  where
    step : (r : Option (List ℕ × List ℕ)) → elim r [ None ↦ None | Some read ↦ with_first_text read.0 (line_from more read.1) ] ≡ first_then more r
    step None = refl
    step (Some read) = refl

pub line_again : (texts : List Text) (rest : List ℕ) → line_from (length texts) (csv_line texts ++ rest) ≡ Some (texts, rest)
line_again [] rest = refl
line_again (text ∷ texts) rest =
    let b : ℕ = separator_of (length texts) in
    let printed : (in_quotes text ++ (separator texts ∷ csv_line texts)) ++ rest ≡ in_quotes text ++ (b ∷ (csv_line texts ++ rest)) =
    append_assoc (in_quotes text) (separator texts ∷ csv_line texts) rest ∙ ap (λ n. in_quotes text ++ (n ∷ (csv_line texts ++ rest))) (separator-of texts) in
    csv_line-step (length texts) (csv_line (text ∷ texts) ++ rest)
    ∙ ap (λ l. first_then (length texts) (csv_field_from b l)) printed
    ∙ ap (first_then (length texts)) (field_again text b (csv_line texts ++ rest) (no_quote (length texts)))
    ∙ ap (with_first_text text) (line_again texts rest)

-- a field that one byte follows isn't read as a field that another byte follows
field-other : (text : List ℕ) (b c : ℕ) (rest : List ℕ) → (b == 34) ≡ false → (b == c) ≡ false
    → csv_field_from c (in_quotes text ++ b ∷ rest) ≡ None
field-other text b c rest other follows =
    ap (λ l. text_in c (after_byte 34 (34 ∷ l))) (append_assoc (flat_map field_byte text) (34 ∷ []) (b ∷ rest))
    ∙ ap (text_in c) (behind_itself 34 (flat_map field_byte text ++ 34 ∷ b ∷ rest))
    ∙ ap (before_byte c) (text_again text b rest other)
    ∙ ap (λ t. option_map (λ more. (text, more)) (cond t (Some rest) None)) follows

pub csv_line-longer : (count : ℕ) (texts : List Text) (rest : List ℕ) → 0 < count → count < length texts
    → line_from count (csv_line texts ++ rest) ≡ None
csv_line-longer zero texts rest some more = absurd (omega arith)
csv_line-longer (suc count) [] rest some more = absurd (omega arith)
csv_line-longer (suc count) (text ∷ []) rest some more = absurd (omega arith)
csv_line-longer (suc zero) (text ∷ next ∷ texts) rest some more =
    let others : List ℕ = csv_line (next ∷ texts) ++ rest in
    csv_line-step 0 (csv_line (text ∷ next ∷ texts) ++ rest)
    ∙ ap (λ l. first_then 0 (csv_field_from 10 l)) (append_assoc (in_quotes text) (44 ∷ csv_line (next ∷ texts)) rest)
    ∙ ap (first_then 0) (field-other text 44 10 others refl refl)
csv_line-longer (suc (suc count)) (text ∷ next ∷ texts) rest some more =
    let others : List ℕ = csv_line (next ∷ texts) ++ rest in
    csv_line-step (suc count) (csv_line (text ∷ next ∷ texts) ++ rest)
    ∙ ap (λ l. first_then (suc count) (csv_field_from 44 l)) (append_assoc (in_quotes text) (44 ∷ csv_line (next ∷ texts)) rest)
    ∙ ap (first_then (suc count)) (field_again text 44 others refl)
    ∙ ap (with_first_text text) (csv_line-longer (suc count) (next ∷ texts) rest (omega arith) (omega arith))

-- what was read is a line of this many texts, followed by the rest
abbrev pub LineTaken : ℕ → List ℕ → Option (List Text × List ℕ) → Type 0
LineTaken count bytes None = ⊤
LineTaken count bytes (Some read) = (bytes ≡ csv_line read.0 ++ read.1) × (length read.0 ≡ count)

taken-others : (more : ℕ) (text rest : List ℕ) (bytes : List ℕ) → bytes ≡ in_quotes text ++ separator_of more ∷ rest
    → (r : Option (List Text × List ℕ)) → LineTaken more rest r → LineTaken (suc more) bytes (with_first_text text r)
taken-others more text rest bytes is None h = tt
taken-others more text rest bytes is (Some read) h = (
  is ∙ ap (λ l. in_quotes text ++ separator_of more ∷ l) h.0
      ∙ ap (λ n. in_quotes text ++ separator_of n ∷ (csv_line read.0 ++ read.1)) (sym h.1)
      ∙ ap (λ n. in_quotes text ++ n ∷ (csv_line read.0 ++ read.1)) (sym (separator-of read.0))
      ∙ sym (append_assoc (in_quotes text) (separator read.0 ∷ csv_line read.0) read.1),
  ap suc h.1,
)

taken-line : (more : ℕ) (bytes : List ℕ) (r : Option (List ℕ × List ℕ)) → FieldTaken (separator_of more) bytes r
    → ((rest : List ℕ) → LineTaken more rest (line_from more rest)) → LineTaken (suc more) bytes (first_then more r)
taken-line more bytes None h others = tt
taken-line more bytes (Some read) h others = taken-others more read.0 read.1 bytes h (line_from more read.1) (others read.1)

pub line_taken : (count : ℕ) (bytes : List ℕ) → LineTaken count bytes (line_from count bytes)
line_taken zero bytes = (refl, refl)
line_taken (suc more) bytes =
    let F : Option (List Text × List ℕ) → Type 0 = LineTaken (suc more) bytes in
    subst F (sym (csv_line-step more bytes)) (taken-line more bytes (csv_field_from (separator_of more) bytes)
    (field_taken (separator_of more) bytes) (line_taken more))

-- ---- a text that is read in parts

pub with_front-front : (made part : List ℕ) (r : Option (List ℕ × List ℕ))
    → with_front made (with_front part r) ≡ with_front (made ++ part) r
with_front-front made part None = refl
with_front-front made part (Some read) = ap (λ l. Some (l, read.1)) (sym (append_assoc made part read.0))

part-front : (part rest : List ℕ) → HasNoQuote part → csv_text_from (part ++ 34 ∷ rest) false ≡ with_front part (csv_text_from rest true)
part-front [] rest none = nothing (csv_text_from rest true)
  where
    nothing : (r : Option (List ℕ × List ℕ)) → r ≡ with_front [] r
    nothing None = refl
    nothing (Some read) = refl
part-front (b ∷ part) rest none =
    ap (λ t. cond t (csv_text_from (part ++ 34 ∷ rest) true) (with_front (b ∷ []) (csv_text_from (part ++ 34 ∷ rest) false))) (All-head IsPlain b part none)
    ∙ ap (with_front (b ∷ [])) (part-front part rest (All-tail IsPlain b part none))
    ∙ with_front-front (b ∷ []) part (csv_text_from rest true)

part-none : (bytes : List ℕ) → HasNoQuote bytes → csv_text_from bytes false ≡ None
part-none [] none = refl
part-none (b ∷ bytes) none =
    ap (λ t. cond t (csv_text_from bytes true) (with_front (b ∷ []) (csv_text_from bytes false))) (All-head IsPlain b bytes none)
    ∙ ap (with_front (b ∷ [])) (part-none bytes (All-tail IsPlain b bytes none))

closed-end : (rest : List ℕ) → after_byte 34 rest ≡ None → csv_text_from rest true ≡ Some ([], rest)
closed-end [] none = refl
closed-end (b ∷ rest) none = elim (eqb_tells b 34) [
  | inl is ↦ absurd (Some≢None rest (sym (ap (λ t. cond t (Some rest) None) is.0) ∙ none))
  | inr is ↦ ap (λ t. cond t (with_front (34 ∷ []) (csv_text_from rest false)) (Some ([], b ∷ rest))) is.0
]
  where
    Some≢None : (rest : List ℕ) → Some rest ≢ None
    Some≢None rest e = cc

closed-more : (rest more : List ℕ) → rest ≡ 34 ∷ more → csv_text_from rest true ≡ with_front (34 ∷ []) (csv_text_from more false)
closed-more rest more is = ap (λ l. csv_text_from l true) is

-- a step of the loop over the parts of a text, and the ways in which the loop ends
pub part-step : (old made new made' : List ℕ) → TakesPart old made true new made' → (more : List ℕ) → new ≡ 34 ∷ more
    → with_front (made' ++ 34 ∷ []) (csv_text_from more false) ≡ with_front made (csv_text_from old false)
part-step old made new made' taken more is =
    ap (λ l. with_front (l ++ 34 ∷ []) (csv_text_from more false)) taken.3
    ∙ sym (with_front-front (made ++ taken.0) (34 ∷ []) (csv_text_from more false))
    ∙ ap (with_front (made ++ taken.0)) (sym (closed-more new more is))
    ∙ sym (with_front-front made taken.0 (csv_text_from new true))
    ∙ ap (with_front made) (sym (part-front taken.0 new taken.2))
    ∙ ap (λ l. with_front made (csv_text_from l false)) (sym taken.1)

pub part-end : (old made new made' : List ℕ) → TakesPart old made true new made' → after_byte 34 new ≡ None
    → Some (made', new) ≡ with_front made (csv_text_from old false)
part-end old made new made' taken none =
    ap (λ l. Some (l, new)) (taken.3 ∙ sym (append-nil (made ++ taken.0)))
    ∙ ap (with_front (made ++ taken.0)) (sym (closed-end new none))
    ∙ sym (with_front-front made taken.0 (csv_text_from new true))
    ∙ ap (with_front made) (sym (part-front taken.0 new taken.2))
    ∙ ap (λ l. with_front made (csv_text_from l false)) (sym taken.1)

pub part-missing : (old made : List ℕ) → HasNoQuote old → None ≡ with_front made (csv_text_from old false)
part-missing old made none = ap (with_front made) (sym (part-none old none))

pub part-shorter : (old made new made' : List ℕ) → TakesPart old made true new made' → (more : List ℕ) → new ≡ 34 ∷ more
    → length more < length old
part-shorter old made new made' taken more is =
    let long : length old ≡ length taken.0 + suc (length new) = ap length taken.1 ∙ length-append taken.0 (34 ∷ new) in
    let next : length new ≡ suc (length more) = ap length is in
    omega arith

-- ---- a byte that was skipped

pub not_skipped : (b : ℕ) (bytes : List ℕ) → is_some (after_byte b bytes) ≡ false → after_byte b bytes ≡ None
not_skipped b bytes e = nothing (after_byte b bytes) e
  where
    nothing : (r : Option (List ℕ)) → is_some r ≡ false → r ≡ None
    nothing None e = refl
    nothing (Some rest) e = absurd (false≢true (sym e))

pub skipped : (b : ℕ) (bytes rest : List ℕ) → is_some (after_byte b bytes) ≡ true → rest ≡ unwrap_or (after_byte b bytes) bytes → bytes ≡ b ∷ rest
skipped b bytes rest e is = something (after_byte b bytes) (byte_taken b bytes) e is
  where
    something : (r : Option (List ℕ)) → ByteTaken b bytes r → is_some r ≡ true → rest ≡ unwrap_or r bytes → bytes ≡ b ∷ rest
    something None h e is = absurd (false≢true e)
    something (Some more) h e is = h ∙ ap (λ l. b ∷ l) (sym is)

-- ---- a line that is read field by field

-- a field was read: what was appended to other bytes, and what is left
pub record TextRead (byte : ℕ) (made old made' rest : List ℕ) : Type 0 where
  pub text : List ℕ
  pub made_is : made' ≡ made ++ text
  pub read : csv_field_from byte old ≡ Some (text, rest)

pub text_read : (byte : ℕ) (made old made' rest : List ℕ)
    → Some (made', rest) ≡ with_front made (csv_field_from byte old) → TextRead byte made old made' rest
text_read byte made old made' rest e = inverted (csv_field_from byte old) e refl
  where
    inverted : (r : Option (List ℕ × List ℕ)) → Some (made', rest) ≡ with_front made r → csv_field_from byte old ≡ r
        → TextRead byte made old made' rest
    inverted None e is = cc
    inverted (Some read) e is =
        let otherwise : List ℕ × List ℕ = (made', rest) in
        let pair : otherwise ≡ (made ++ read.0, read.1) = ap (λ r. unwrap_or r otherwise) e in
        record {
          text = read.0;
          made_is = ap (λ p. p.0) pair;
          read = is ∙ ap (λ l. Some (read.0, l)) (sym (ap (λ p. p.1) pair));
        }

pub none_read : (byte : ℕ) (made old : List ℕ) → None ≡ with_front made (csv_field_from byte old) → csv_field_from byte old ≡ None
none_read byte made old e = nothing (csv_field_from byte old) e
  where
    nothing : (r : Option (List ℕ × List ℕ)) → None ≡ with_front made r → r ≡ None
    nothing None e = refl
    nothing (Some read) e = cc

with_first_texts-text : (made : List Text) (text : Text) (r : Option (List Text × List ℕ))
    → with_first_texts made (with_first_text text r) ≡ with_first_texts (made ++ text ∷ []) r
with_first_texts-text made text None = refl
with_first_texts-text made text (Some read) = ap (λ l. Some (l, read.1)) (sym (append_assoc made (text ∷ []) read.0))

-- one more field was read
pub field-step : (count index more : ℕ) → count - index ≡ suc more → (made : List Text) (old text rest : List ℕ)
    → csv_field_from (separator_of more) old ≡ Some (text, rest)
    → with_first_texts (made ++ text ∷ []) (line_from more rest) ≡ with_first_texts made (line_from (count - index) old)
field-step count index more is made old text rest read =
    sym (with_first_texts-text made text (line_from more rest))
    ∙ ap (λ r. with_first_texts made (first_then more r)) (sym read)
    ∙ ap (with_first_texts made) (sym (csv_line-step more old))
    ∙ ap (λ n. with_first_texts made (line_from n old)) (sym is)

-- no field was read
pub field-missing : (count index more : ℕ) → count - index ≡ suc more → (made : List Text) (old : List ℕ)
    → csv_field_from (separator_of more) old ≡ None → None ≡ with_first_texts made (line_from (count - index) old)
field-missing count index more is made old none =
    ap (λ r. with_first_texts made (first_then more r)) (sym none)
    ∙ ap (with_first_texts made) (sym (csv_line-step more old))
    ∙ ap (λ n. with_first_texts made (line_from n old)) (sym is)

-- all fields were read
pub fields-end : (count index : ℕ) → count - index ≡ 0 → (made : List Text) (rest : List ℕ)
    → Some (made, rest) ≡ with_first_texts made (line_from (count - index) rest)
fields-end count index is made rest = ap (λ l. Some (l, rest)) (sym (append-nil made))
    ∙ ap (λ n. with_first_texts made (line_from n rest)) (sym is)

low : (more : ℕ) → separator_of more < 128
low zero = omega arith
low (suc more) = omega arith

-- if a field is read from UTF-8, its text is UTF-8, and so is the rest
pub field-utf8 : (more : ℕ) (old text rest : List ℕ) → IsUtf8 old → csv_field_from (separator_of more) old ≡ Some (text, rest)
    → IsUtf8 text × IsUtf8 rest
field-utf8 more old text rest utf8 read =
    let F : Option (List ℕ × List ℕ) → Type 0 = FieldTaken (separator_of more) old in
    let printed : old ≡ in_quotes text ++ separator_of more ∷ rest = subst F read (field_taken (separator_of more) old) in
    let G : List ℕ → Type 0 = IsUtf8 in
    let all : IsUtf8 (in_quotes text ++ separator_of more ∷ rest) = subst G printed utf8 in
    let inner : IsUtf8 ((flat_map field_byte text ++ 34 ∷ []) ++ separator_of more ∷ rest) =
    utf8_behind [] ((flat_map field_byte text ++ 34 ∷ []) ++ separator_of more ∷ rest) 34 (omega arith) all in (
      utf8_undoubled [] text (separator_of more ∷ rest)
          (subst G (append_assoc (flat_map field_byte text) (34 ∷ []) (separator_of more ∷ rest)) inner),
      utf8_behind (in_quotes text) rest (separator_of more) (low more) all,
    )

-- ---- the rest after one byte

pub head_byte : (b : ℕ) (x y : List ℕ) → b ∷ x ≡ b ∷ y → x ≡ y
head_byte b x y e = ap (drop 1) e

-- ---- several bytes that are skipped

pub skips_some : (old bytes front : List ℕ) → front ≡ take (length bytes) old → not (bytes_eq front bytes) ≡ false
    → old ≡ bytes ++ drop (length bytes) old
skips_some old bytes front is same = sym (take-append-drop (length bytes) old)
    ∙ ap (λ l. l ++ drop (length bytes) old) (sym is ∙ (bytes_eq-Decides front bytes).0 (unless (bytes_eq front bytes) same))
  where
    unless : (b : Bool) → not b ≡ false → b ≡ true
    unless true e = refl
    unless false e = sym e

pub skips_none : (old bytes front : List ℕ) → front ≡ take (length bytes) old → not (bytes_eq front bytes) ≡ true
    → (rest : List ℕ) → old ≢ bytes ++ rest
skips_none old bytes front is other rest e =
    let same : front ≡ bytes = is ∙ ap (take (length bytes)) e ∙ take_at bytes rest (length bytes) refl in
    false≢true (ap not (sym ((bytes_eq-Decides front bytes).1 same)) ∙ other)
