-- A text is cut character by character.
use Rattle.std.proofs.Common.{◌≡◌, ℕ, ◌+◌, ◌<◌, ◌≤◌, Bool, true, false, cond, List, [], ◌∷◌, ◌++◌, length, drop, get_or, filter, refl, sym, ap, ◌∙◌, append_assoc}
use Rattle.std.specs.Prelude.{encode_utf8}
use Rattle.std.proofs.lemmas.List.{append-nil, drop_all, drop_more}
use Rattle.lei_code.specs.Texts.{Text}
use Rattle.name_search.specs.Words.{is_separator, is_word, with_first_bytes, word_pieces}

-- a front in two parts
front_in_two : (word more : Text) (texts : List Text) → with_first_bytes (word ++ more) texts ≡ with_first_bytes word (with_first_bytes more texts)
front_in_two word more [] = refl
front_in_two word more (first ∷ others) = ap (λ text. text ∷ others) (append_assoc word more first)

front_then : (e : Text) (texts : List Text) → with_first_bytes [] (with_first_bytes e texts) ≡ with_first_bytes e texts
front_then e [] = refl
front_then e (first ∷ others) = refl

-- there is a first piece, so an empty front changes nothing
pub nothing_before : (cs : List ℕ) → with_first_bytes [] (word_pieces cs) ≡ word_pieces cs
nothing_before [] = refl
nothing_before (c ∷ cs) = by (is_separator c)
  where
    by : (b : Bool) → with_first_bytes [] (cond b ([] ∷ word_pieces cs) (with_first_bytes (encode_utf8 c) (word_pieces cs)))
        ≡ cond b ([] ∷ word_pieces cs) (with_first_bytes (encode_utf8 c) (word_pieces cs))
    by true = refl
    by false = front_then (encode_utf8 c) (word_pieces cs)

-- the words of a piece and of those after it
first_word : (word : Text) (texts : List Text) → filter is_word (word ∷ texts) ≡ filter is_word (word ∷ []) ++ filter is_word texts
first_word word texts = by (is_word word)
  where
    by : (b : Bool) → cond b (word ∷ filter is_word texts) (filter is_word texts)
        ≡ cond b (word ∷ []) [] ++ filter is_word texts
    by true = refl
    by false = refl

-- the characters from an index on
rest_at : (cs : List ℕ) (n c : ℕ) → n < length cs → c ≡ get_or cs n c → drop n cs ≡ c ∷ drop (n + 1) cs
rest_at cs n c within here = drop_more cs n c within ∙ ap (λ d. d ∷ drop (n + 1) cs) (sym here)

-- the words so far, with those of the current word and of the rest, are all words
abbrev pub IsCutSo : List Text → Text → List ℕ → List Text → Type 0
IsCutSo made word rest all = made ++ filter is_word (with_first_bytes word (word_pieces rest)) ≡ all

-- a separator ends a word
pub cut_at : (made made' : List Text) (word word' : Text) (cs : List ℕ) (n m c : ℕ) (all : List Text)
    → IsCutSo made word (drop n cs) all → n < length cs → c ≡ get_or cs n c → m ≡ n + 1 → is_separator c ≡ true
    → made' ≡ made ++ filter is_word (word ∷ []) → word' ≡ []
    → IsCutSo made' word' (drop m cs) all
cut_at made made' word word' cs n m c all so within here next cuts puts empties =
    ap (λ l. l ++ filter is_word (with_first_bytes word' (word_pieces (drop m cs)))) puts
    ∙ append_assoc made (filter is_word (word ∷ [])) (filter is_word (with_first_bytes word' (word_pieces (drop m cs))))
    ∙ ap (λ l. made ++ (filter is_word (word ∷ []) ++ filter is_word l))
    (ap (λ w. with_first_bytes w (word_pieces (drop m cs))) empties ∙ nothing_before (drop m cs) ∙ ap (λ k. word_pieces (drop k cs)) next)
    ∙ ap (λ l. made ++ l) (sym (first_word word (word_pieces (drop (n + 1) cs))))
    ∙ ap (λ w. made ++ filter is_word (w ∷ word_pieces (drop (n + 1) cs))) (sym (append-nil word))
    ∙ ap (λ b. made ++ filter is_word (with_first_bytes word (cond b ([] ∷ word_pieces (drop (n + 1) cs)) (with_first_bytes (encode_utf8 c) (word_pieces (drop (n + 1) cs)))))) (sym cuts)
    ∙ ap (λ l. made ++ filter is_word (with_first_bytes word (word_pieces l))) (sym (rest_at cs n c within here))
    ∙ so

-- any other character continues the word
pub read_on : (made : List Text) (word word' : Text) (cs : List ℕ) (n m c : ℕ) (all : List Text)
    → IsCutSo made word (drop n cs) all → n < length cs → c ≡ get_or cs n c → m ≡ n + 1 → is_separator c ≡ false
    → word' ≡ word ++ encode_utf8 c → IsCutSo made word' (drop m cs) all
read_on made word word' cs n m c all so within here next stays grows =
    ap (λ k. made ++ filter is_word (with_first_bytes word' (word_pieces (drop k cs)))) next
    ∙ ap (λ w. made ++ filter is_word (with_first_bytes w (word_pieces (drop (n + 1) cs)))) grows
    ∙ ap (λ l. made ++ filter is_word l) (front_in_two word (encode_utf8 c) (word_pieces (drop (n + 1) cs)))
    ∙ ap (λ b. made ++ filter is_word (with_first_bytes word (cond b ([] ∷ word_pieces (drop (n + 1) cs)) (with_first_bytes (encode_utf8 c) (word_pieces (drop (n + 1) cs)))))) (sym stays)
    ∙ ap (λ l. made ++ filter is_word (with_first_bytes word (word_pieces l))) (sym (rest_at cs n c within here))
    ∙ so

-- the text ends, and with it the last word
pub cut_end : (made made' : List Text) (word : Text) (cs : List ℕ) (n : ℕ) (all : List Text) → IsCutSo made word (drop n cs) all
    → length cs ≤ n → made' ≡ made ++ filter is_word (word ∷ []) → made' ≡ all
cut_end made made' word cs n all so past puts =
    puts ∙ ap (λ w. made ++ filter is_word (w ∷ [])) (sym (append-nil word))
    ∙ ap (λ l. made ++ filter is_word (with_first_bytes word (word_pieces l))) (sym (drop_all n cs past)) ∙ so
