-- The texts of a JSON value that is read from UTF-8 are UTF-8.
use Rattle.std.proofs.Common.{◌≡◌, ℕ, zero, suc, ◌+◌, ◌*◌, ◌<◌, ◌&&◌, ◌||◌, ◌==◌, nat_lt, List, [], ◌∷◌, ◌++◌, length, drop, get_or, Bool, true, false, cond, Option, Some, None, option_map, option_and_then, refl, sym, ap, subst, ◌∙◌, arith, append-nil, append_assoc, length-append}
use Rattle.std.proofs.Math.Seq.{get_or-append_seam}
use Rattle.std.specs.Char.{IsScalar, digit_value, encode_utf8, is_digit}
use Rattle.std.specs.List.{AllByRecursion}
use Rattle.std.specs.Ordering.{match_ordering, nat_cmp}
use Rattle.std.specs.Cmp.Lexicographic.{slice_cmp}
use Rattle.std.specs.declared.cmp.Ordering.{Ordering}
use Rattle.std.specs.Str.{IsUtf8}
use Rattle.std.proofs.lemmas.Bool.{eqb-true, ltb-true}
use Rattle.std.proofs.lemmas.Bool.Decides.{nat_tests}
use Rattle.std.proofs.lemmas.List.{drop_at, take_at}
use Rattle.std.proofs.lemmas.Str.{IsCharBoundary-after_ascii, IsCharBoundary-before_ascii, IsUtf8-append, IsUtf8-drop, IsUtf8-encode, IsUtf8-take, encode_ascii}
use Rattle.json.specs.Token.{Token, begin_object, end_object, begin_array, end_array, key, string, number, boolean, null, bad}
use Rattle.json.specs.Text.{Within, after_backslash, after_high, after_u, code_unit, content, is_high_surrogate, is_low_surrogate, plain, prepend, short_escape, surrogate_pair}
use Rattle.json.specs.Lex as lexer
use Rattle.json.specs.Lex.{Class, Lexeme, Mode, Place, begins_colon, class, if_allowed, lex, lex_byte, may_begin, may_close, operator_lexeme, place_token, punctuate, string_token, tokens}
use Rattle.json.specs.Word.{after_number, ends_word, head, is_operator, is_space, number_before, word}
use Rattle.json.specs.Json as json
use Rattle.json.specs.Json.{Parse, after_end_array, if_last, items, items_step, members, members_step, parse_map, read_key, value, value_with}
use Rattle.serde_json.specs.Data as values
use Rattle.serde_json.specs.Data.{Data, Items, Members, Num, put}
use Rattle.serde_json.specs.Read.{max_depth, number_of, of_items, of_json, of_members, read}

-- ---- values whose texts are UTF-8

abbrev mutual
  pub AreTexts : Data → Type 0
  AreTexts values.null = Unit {0}
  AreTexts (values.boolean b) = Unit {0}
  AreTexts (values.number n) = Unit {0}
  AreTexts (values.string s) = IsUtf8 s
  AreTexts (values.array ds) = ItemsAreTexts ds
  AreTexts (values.object ms) = MembersAreTexts ms

  pub ItemsAreTexts : Items → Type 0
  ItemsAreTexts values.no_items = Unit {0}
  ItemsAreTexts (values.item d ds) = AreTexts d × ItemsAreTexts ds

  pub MembersAreTexts : Members → Type 0
  MembersAreTexts values.no_members = Unit {0}
  MembersAreTexts (values.member k d ms) = AreTexts d × MembersAreTexts ms

-- what is found, if anything, has the property
abbrev pub If : {A : Type 0} → (A → Type 0) → Option A → Type 0
If P None = Unit {0}
If P (Some a) = P a

-- ---- where a text may be cut

-- before and after an ASCII byte
cut : (front rest : List ℕ) (x : ℕ) → x < 128 → IsUtf8 (front ++ x ∷ rest) → IsUtf8 front × IsUtf8 rest
cut front rest x low is =
    let bs = front ++ x ∷ rest in
    let n = length front in
    let within : n < length bs = omega (arith, length-append front (x ∷ rest)) in
    let at : get_or bs n 0 ≡ x = get_or-append_seam front x rest 0 in
    let ascii : get_or bs n 0 < 128 = omega (arith, at, low) in
    let split : bs ≡ (front ++ x ∷ []) ++ rest = sym (append_assoc front (x ∷ []) rest) in
    let behind : length (front ++ x ∷ []) ≡ n + 1 = omega (arith, length-append front (x ∷ [])) in (
      subst IsUtf8 (take_at front (x ∷ rest) n refl) (IsUtf8-take bs n is (IsCharBoundary-before_ascii bs n within ascii)),
      subst IsUtf8 (ap (drop (n + 1)) split ∙ drop_at (front ++ x ∷ []) rest (n + 1) behind)
          (IsUtf8-drop bs (n + 1) is (IsCharBoundary-after_ascii bs n is within ascii)),
    )

past : (rest : List ℕ) (x : ℕ) → x < 128 → IsUtf8 (x ∷ rest) → IsUtf8 rest
past rest x low is = (cut [] rest x low is).1

ascii-scalar : (x : ℕ) → x < 128 → IsScalar x
ascii-scalar x low = grind (arith, nat_tests)

one : (x : ℕ) → x < 128 → IsUtf8 (x ∷ [])
one x low = subst IsUtf8 (encode_ascii x low) (IsUtf8-encode x (ascii-scalar x low))

-- ---- what a string holds

-- what is found, if anything, is UTF-8 when it follows `front`
abbrev IsTextAfter : List ℕ → Option (List ℕ) → Type 0
IsTextAfter front None = Unit {0}
IsTextAfter front (Some s) = IsUtf8 (front ++ s)

before : (front : List ℕ) (found : Option (List ℕ)) → IsUtf8 front → IsTextAfter [] found → IsTextAfter front found
before front None is text = tt
before front (Some s) is text = IsUtf8-append front s is text

prepended : (bytes : List ℕ) (found : Option (List ℕ)) → IsUtf8 bytes → IsTextAfter [] found → IsTextAfter [] (prepend bytes found)
prepended bytes None is text = tt
prepended bytes (Some s) is text = IsUtf8-append bytes s is text

moved : (front : List ℕ) (x : ℕ) (found : Option (List ℕ)) → IsTextAfter (front ++ x ∷ []) found → IsTextAfter front (prepend (x ∷ []) found)
moved front x None text = tt
moved front x (Some s) text = subst IsUtf8 (append_assoc front (x ∷ []) s) text

abbrev Says : Within → List ℕ → Type 0
Says plain xs = (front : List ℕ) → IsUtf8 (front ++ xs) → IsTextAfter front (content plain xs)
Says after_backslash xs = IsUtf8 xs → IsTextAfter [] (content after_backslash xs)
Says after_u xs = IsUtf8 xs → IsTextAfter [] (content after_u xs)
Says (after_high h) xs = is_high_surrogate h ≡ true → IsUtf8 xs → IsTextAfter [] (content (after_high h) xs)

says-plain : (x : ℕ) (xs : List ℕ) → Says plain xs → Says after_backslash xs → Says plain (x ∷ xs)
unfolding content
says-plain x xs later escaped = λ front is. quoted front is (x == 34) refl
  where
    low : (front : List ℕ) → IsUtf8 (front ++ x ∷ xs) → (b : Bool) → nat_lt x 32 ≡ b → IsTextAfter front (cond b None (prepend (x ∷ []) (content plain xs)))
    low front is true test = tt
    low front is false test = moved front x (content plain xs) (later (front ++ x ∷ []) (subst IsUtf8 (sym (append_assoc front (x ∷ []) xs)) is))

    backslash : (front : List ℕ) → IsUtf8 (front ++ x ∷ xs) → (b : Bool) → (x == 92) ≡ b
        → IsTextAfter front (cond b (content after_backslash xs) (cond (nat_lt x 32) None (prepend (x ∷ []) (content plain xs))))
    backslash front is true test =
        let same = eqb-true x 92 test in
        let parts = cut front xs x (omega (arith, same)) is in
        before front (content after_backslash xs) parts.0 (escaped parts.1)
    backslash front is false test = low front is (nat_lt x 32) refl

    quoted : (front : List ℕ) → IsUtf8 (front ++ x ∷ xs) → (b : Bool) → (x == 34) ≡ b
        → IsTextAfter front (cond b (Some []) (cond (x == 92) (content after_backslash xs) (cond (nat_lt x 32) None (prepend (x ∷ []) (content plain xs)))))
    quoted front is true test =
        let same = eqb-true x 34 test in
        subst IsUtf8 (sym (append-nil front)) (cut front xs x (omega (arith, same)) is).0
    quoted front is false test = backslash front is (x == 92) refl

-- the byte of an escape is ASCII if it stands for itself
own-ascii : (x : ℕ) (a b d : Bool) → (x == 34) ≡ a → (x == 92) ≡ b → (x == 47) ≡ d → ((a || b) || d) ≡ true → x < 128
own-ascii x true b d is_a is_b is_d any = let same = eqb-true x 34 is_a in omega (arith, same)
own-ascii x false true d is_a is_b is_d any = let same = eqb-true x 92 is_b in omega (arith, same)
own-ascii x false false true is_a is_b is_d any = let same = eqb-true x 47 is_d in omega (arith, same)
own-ascii x false false false is_a is_b is_d any = cc

letter : (x c n m : ℕ) (rest : Option ℕ) → n < 128 → m < 128 → (b : Bool) → (x == n) ≡ b → cond b (Some m) rest ≡ Some c
    → (rest ≡ Some c → (x < 128) × (c < 128)) → (x < 128) × (c < 128)
letter x c n m rest few less true test found more =
    let same = eqb-true x n test in
    let value : m ≡ c = cc in
    (omega (arith, same, few), omega (arith, value, less))
letter x c n m rest few less false test found more = more found

short-ascii : (x c : ℕ) → short_escape x ≡ Some c → (x < 128) × (c < 128)
unfolding short_escape
short-ascii x c is = by (((x == 34) || (x == 92)) || (x == 47)) refl is
  where
    by : (b : Bool) → (((x == 34) || (x == 92)) || (x == 47)) ≡ b
        → cond b (Some x) (cond (x == 98) (Some 8) (cond (x == 102) (Some 12) (cond (x == 110) (Some 10) (cond (x == 114) (Some 13) (cond (x == 116) (Some 9) None))))) ≡ Some c
        → (x < 128) × (c < 128)
    by true test found =
        let low = own-ascii x (x == 34) (x == 92) (x == 47) refl refl refl test in
        let value : x ≡ c = cc in
        (low, omega (arith, value, low))
    by false test found =
        letter x c 98 8 _ (omega arith) (omega arith) (x == 98) refl found (λ f98.
        letter x c 102 12 _ (omega arith) (omega arith) (x == 102) refl f98 (λ f102.
        letter x c 110 10 _ (omega arith) (omega arith) (x == 110) refl f102 (λ f110.
        letter x c 114 13 _ (omega arith) (omega arith) (x == 114) refl f110 (λ f114.
        letter x c 116 9 _ (omega arith) (omega arith) (x == 116) refl f114 (λ none. cc)))))

says-escaped : (x : ℕ) (xs : List ℕ) → Says plain xs → Says after_u xs → Says after_backslash (x ∷ xs)
unfolding content
says-escaped x xs later unit = λ is. by is (x == 117) refl
  where
    short : IsUtf8 (x ∷ xs) → (found : Option ℕ) → short_escape x ≡ found → IsTextAfter [] (option_and_then (λ c. prepend (c ∷ []) (content plain xs)) found)
    short is None test = tt
    short is (Some c) test =
        let low = short-ascii x c test in
        prepended (c ∷ []) (content plain xs) (one c low.1) (later [] (past xs x low.0 is))

    by : IsUtf8 (x ∷ xs) → (b : Bool) → (x == 117) ≡ b
        → IsTextAfter [] (cond b (content after_u xs) (option_and_then (λ c. prepend (c ∷ []) (content plain xs)) (short_escape x)))
    by is true test = let same = eqb-true x 117 test in unit (past xs x (omega (arith, same)) is)
    by is false test = short is (short_escape x) refl

-- ---- code units

hex-ascii : (a : ℕ) → is_digit a 16 ≡ true → a < 128
hex-ascii a is = grind (arith, nat_tests)

record IsUnit (a b c d u : ℕ) : Type 0 where
  a_low : a < 128
  b_low : b < 128
  c_low : c < 128
  d_low : d < 128
  u_low : u < 65536

unit-is : (a b c d u : ℕ) → code_unit a b c d ≡ Some u → IsUnit a b c d u
unfolding code_unit
unit-is a b c d u is = by (is_digit a 16) refl (is_digit b 16) refl (is_digit c 16) refl (is_digit d 16) refl is
  where
    of : ℕ
    of = digit_value a * 4096 + digit_value b * 256 + digit_value c * 16 + digit_value d

    by : (p : Bool) → is_digit a 16 ≡ p → (q : Bool) → is_digit b 16 ≡ q → (r : Bool) → is_digit c 16 ≡ r → (s : Bool) → is_digit d 16 ≡ s
        → cond (((p && q) && r) && s) (Some of) None ≡ Some u → IsUnit a b c d u
    by true p true q true r true s found =
        let a_most = ltb-true (digit_value a) 16 p in
        let b_most = ltb-true (digit_value b) 16 q in
        let c_most = ltb-true (digit_value c) 16 r in
        let d_most = ltb-true (digit_value d) 16 s in
        let is_u : of ≡ u = cc in
        record { a_low = hex-ascii a p; b_low = hex-ascii b q; c_low = hex-ascii c r; d_low = hex-ascii d s; u_low = omega (arith, is_u, a_most, b_most, c_most, d_most) }
    by true p true q true r false s found = cc
    by true p true q false r t s found = cc
    by true p false q t r v s found = cc
    by false p t q v r w s found = cc

-- a code unit that isn't a surrogate is a character
unit-scalar : (u : ℕ) → u < 65536 → is_high_surrogate u ≡ false → is_low_surrogate u ≡ false → IsScalar u
unit-scalar u few high low = grind (arith, nat_tests)

pair-scalar : (h l : ℕ) → is_high_surrogate h ≡ true → is_low_surrogate l ≡ true → IsScalar (surrogate_pair h l)
pair-scalar h l high low = grind (arith, nat_tests)

says-unit : (a b c d : ℕ) (xs : List ℕ) → Says plain xs → ((h : ℕ) → Says (after_high h) xs) → Says after_u (a ∷ b ∷ c ∷ d ∷ xs)
unfolding content
says-unit a b c d xs later second = λ is. by is (code_unit a b c d) refl
  where
    behind : (u : ℕ) → IsUnit a b c d u → IsUtf8 (a ∷ b ∷ c ∷ d ∷ xs) → IsUtf8 xs
    behind u unit is = past xs d unit.d_low (past (d ∷ xs) c unit.c_low (past (c ∷ d ∷ xs) b unit.b_low (past (b ∷ c ∷ d ∷ xs) a unit.a_low is)))

    low : (u : ℕ) → IsUnit a b c d u → IsUtf8 (a ∷ b ∷ c ∷ d ∷ xs) → is_high_surrogate u ≡ false → (t : Bool) → is_low_surrogate u ≡ t
        → IsTextAfter [] (cond t None (prepend (encode_utf8 u) (content plain xs)))
    low u unit is high true test = tt
    low u unit is high false test =
        prepended (encode_utf8 u) (content plain xs) (IsUtf8-encode u (unit-scalar u unit.u_low high test)) (later [] (behind u unit is))

    high : (u : ℕ) → IsUnit a b c d u → IsUtf8 (a ∷ b ∷ c ∷ d ∷ xs) → (t : Bool) → is_high_surrogate u ≡ t
        → IsTextAfter [] (cond t (content (after_high u) xs) (cond (is_low_surrogate u) None (prepend (encode_utf8 u) (content plain xs))))
    high u unit is true test = second u test (behind u unit is)
    high u unit is false test = low u unit is test (is_low_surrogate u) refl

    by : IsUtf8 (a ∷ b ∷ c ∷ d ∷ xs) → (found : Option ℕ) → code_unit a b c d ≡ found
        → IsTextAfter [] (option_and_then (λ u. cond (is_high_surrogate u) (content (after_high u) xs) (cond (is_low_surrogate u) None (prepend (encode_utf8 u) (content plain xs)))) found)
    by is None test = tt
    by is (Some u) test = high u (unit-is a b c d u test) is (is_high_surrogate u) refl

says-pair : (h s v a b c d : ℕ) (xs : List ℕ) → Says plain xs → Says (after_high h) (s ∷ v ∷ a ∷ b ∷ c ∷ d ∷ xs)
unfolding content
says-pair h s v a b c d xs later = λ high is. by high is (s == 92) refl (v == 117) refl
  where
    low : (l : ℕ) → is_high_surrogate h ≡ true → IsUnit a b c d l → IsUtf8 (a ∷ b ∷ c ∷ d ∷ xs) → (t : Bool) → is_low_surrogate l ≡ t
        → IsTextAfter [] (cond t (prepend (encode_utf8 (surrogate_pair h l)) (content plain xs)) None)
    low l high unit rest true test =
        let text = past xs d unit.d_low (past (d ∷ xs) c unit.c_low (past (c ∷ d ∷ xs) b unit.b_low (past (b ∷ c ∷ d ∷ xs) a unit.a_low rest))) in
        prepended (encode_utf8 (surrogate_pair h l)) (content plain xs) (IsUtf8-encode (surrogate_pair h l) (pair-scalar h l high test)) (later [] text)
    low l high unit rest false test = tt

    unit : is_high_surrogate h ≡ true → IsUtf8 (a ∷ b ∷ c ∷ d ∷ xs) → (found : Option ℕ) → code_unit a b c d ≡ found
        → IsTextAfter [] (option_and_then (λ l. cond (is_low_surrogate l) (prepend (encode_utf8 (surrogate_pair h l)) (content plain xs)) None) found)
    unit high rest None test = tt
    unit high rest (Some l) test = low l high (unit-is a b c d l test) rest (is_low_surrogate l) refl

    by : is_high_surrogate h ≡ true → IsUtf8 (s ∷ v ∷ a ∷ b ∷ c ∷ d ∷ xs) → (p : Bool) → (s == 92) ≡ p → (q : Bool) → (v == 117) ≡ q
        → IsTextAfter [] (cond (p && q) (option_and_then (λ l. cond (is_low_surrogate l) (prepend (encode_utf8 (surrogate_pair h l)) (content plain xs)) None) (code_unit a b c d)) None)
    by high is true is_s true is_v =
        let same_s = eqb-true s 92 is_s in
        let same_v = eqb-true v 117 is_v in
        let rest = past (a ∷ b ∷ c ∷ d ∷ xs) v (omega (arith, same_v)) (past (v ∷ a ∷ b ∷ c ∷ d ∷ xs) s (omega (arith, same_s)) is) in
        unit high rest (code_unit a b c d) refl
    by high is true is_s false is_v = tt
    by high is false is_s q is_v = tt

says : (w : Within) (xs : List ℕ) → Says w xs
unfolding content
says plain [] = λ front is. tt
says plain (x ∷ xs) = says-plain x xs (says plain xs) (says after_backslash xs)
says after_backslash [] = λ is. tt
says after_backslash (x ∷ xs) = says-escaped x xs (says plain xs) (says after_u xs)
says after_u [] = λ is. tt
says after_u (a ∷ []) = λ is. tt
says after_u (a ∷ b ∷ []) = λ is. tt
says after_u (a ∷ b ∷ c ∷ []) = λ is. tt
says after_u (a ∷ b ∷ c ∷ d ∷ xs) = says-unit a b c d xs (says plain xs) (λ h. says (after_high h) xs)
says (after_high h) [] = λ high is. tt
says (after_high h) (s ∷ []) = λ high is. tt
says (after_high h) (s ∷ v ∷ []) = λ high is. tt
says (after_high h) (s ∷ v ∷ a ∷ []) = λ high is. tt
says (after_high h) (s ∷ v ∷ a ∷ b ∷ []) = λ high is. tt
says (after_high h) (s ∷ v ∷ a ∷ b ∷ c ∷ []) = λ high is. tt
says (after_high h) (s ∷ v ∷ a ∷ b ∷ c ∷ d ∷ xs) = says-pair h s v a b c d xs (says plain xs)

-- ---- tokens

abbrev IsText : Token → Type 0
IsText begin_object = Unit {0}
IsText end_object = Unit {0}
IsText begin_array = Unit {0}
IsText end_array = Unit {0}
IsText (key s) = IsUtf8 s
IsText (string s) = IsUtf8 s
IsText (number s) = Unit {0}
IsText (boolean b) = Unit {0}
IsText null = Unit {0}
IsText bad = Unit {0}

abbrev IsLexed : Lexeme → Type 0
IsLexed (lexer.token t) = IsText t
IsLexed lexer.comma = Unit {0}
IsLexed lexer.colon = Unit {0}

-- a text follows each quote
abbrev HasTexts : List ℕ → Type 0
HasTexts xs = (front rest : List ℕ) → xs ≡ front ++ 34 ∷ rest → IsUtf8 rest

texts-behind : (x : ℕ) (xs : List ℕ) → HasTexts (x ∷ xs) → HasTexts xs
texts-behind x xs texts front rest is = texts (x ∷ front) rest (ap (λ l. x ∷ l) is)

string-lexed : (found : Option (List ℕ)) → IsTextAfter [] found → IsText (string_token found)
string-lexed None text = tt
string-lexed (Some s) text = text

either-lexed : (b : Bool) (t u : Token) → IsText t → IsText u → IsText (cond b t u)
either-lexed true t u is_t is_u = is_t
either-lexed false t u is_t is_u = is_u

number-lexed : (text : List ℕ) (rest : Option (List ℕ)) → IsText (number_before text rest)
number-lexed text None = tt
number-lexed text (Some rest) = either-lexed (ends_word rest) _ bad tt tt

word-lexed : (text : List ℕ) → IsText (word text)
unfolding word
word-lexed text =
    either-lexed (head text == 116) _ _ (either-lexed _ (boolean true) bad tt tt)
    (either-lexed (head text == 102) _ _ (either-lexed _ (boolean false) bad tt tt)
    (either-lexed (head text == 110) _ _ (either-lexed _ null bad tt tt) (number-lexed text (after_number text))))

either-lexeme : (b : Bool) (t u : Lexeme) → IsLexed t → IsLexed u → IsLexed (cond b t u)
either-lexeme true t u is_t is_u = is_t
either-lexeme false t u is_t is_u = is_u

operator-lexed : (x : ℕ) → IsLexed (operator_lexeme x)
operator-lexed x =
    either-lexeme (x == 123) _ _ tt (either-lexeme (x == 125) _ _ tt (either-lexeme (x == 91) _ _ tt (either-lexeme (x == 93) _ _ tt (either-lexeme (x == 44) _ _ tt tt))))

quote-is : (x : ℕ) → class x ≡ lexer.quote → x ≡ 34
quote-is x is = by (x == 34) refl (x == 92) (is_operator x) (is_space x) is
  where
    by : (a : Bool) → (x == 34) ≡ a → (b c d : Bool) → cond a lexer.quote (cond b lexer.backslash (cond c lexer.operator (cond d lexer.space lexer.other))) ≡ lexer.quote → x ≡ 34
    by true test b c d found = eqb-true x 34 test
    by false test true c d found = cc
    by false test false true d found = cc
    by false test false false true found = cc
    by false test false false false found = cc

abbrev AreLexed : List Lexeme → Type 0
AreLexed = AllByRecursion IsLexed

lexed-byte : (m : Mode) (c : Class) (x : ℕ) (xs : List ℕ) → class x ≡ c → HasTexts (x ∷ xs) → ((next : Mode) → AreLexed (lex next xs))
    → AreLexed (lex_byte m c x xs (λ next. lex next xs))
lexed-byte lexer.between lexer.quote x xs is texts later =
    let text : IsUtf8 xs = texts [] xs (ap (λ b. b ∷ xs) (quote-is x is)) in
    (string-lexed (content plain xs) (says plain xs [] text), later lexer.in_string)
lexed-byte lexer.between lexer.backslash x xs is texts later = (tt, later lexer.in_word)
lexed-byte lexer.between lexer.operator x xs is texts later = (operator-lexed x, later lexer.between)
lexed-byte lexer.between lexer.space x xs is texts later = later lexer.between
lexed-byte lexer.between lexer.other x xs is texts later = (word-lexed (x ∷ xs), later lexer.in_word)
lexed-byte lexer.in_word lexer.quote x xs is texts later = later lexer.in_word
lexed-byte lexer.in_word lexer.backslash x xs is texts later = later lexer.in_word
lexed-byte lexer.in_word lexer.operator x xs is texts later = (operator-lexed x, later lexer.between)
lexed-byte lexer.in_word lexer.space x xs is texts later = later lexer.between
lexed-byte lexer.in_word lexer.other x xs is texts later = later lexer.in_word
lexed-byte lexer.in_string lexer.quote x xs is texts later = later lexer.between
lexed-byte lexer.in_string lexer.backslash x xs is texts later = later lexer.in_escape
lexed-byte lexer.in_string lexer.operator x xs is texts later = later lexer.in_string
lexed-byte lexer.in_string lexer.space x xs is texts later = later lexer.in_string
lexed-byte lexer.in_string lexer.other x xs is texts later = later lexer.in_string
lexed-byte lexer.in_escape c x xs is texts later = later lexer.in_string

lexed : (m : Mode) (xs : List ℕ) → HasTexts xs → AreLexed (lex m xs)
unfolding lex
lexed m [] texts = tt
lexed m (x ∷ xs) texts = lexed-byte m (class x) x xs refl texts (λ next. lexed next xs (texts-behind x xs texts))

-- ---- commas and colons

abbrev AreTokens : List Token → Type 0
AreTokens = AllByRecursion IsText

allowed : (b : Bool) (t : Token) (k : Place → List Token) (next : Place) → IsText t → ((p : Place) → AreTokens (k p)) → AreTokens (if_allowed b t k next)
allowed true t k next is later = (is, later next)
allowed false t k next is later = (tt, tt)

placed : (p : Place) (t : Token) (before_colon : Bool) (k : Place → List Token) → IsText t → ((p : Place) → AreTokens (k p)) → AreTokens (place_token p t before_colon k)
placed p begin_object before_colon k is later = allowed (may_begin p) begin_object k lexer.fresh tt later
placed p end_object before_colon k is later = allowed (may_close p) end_object k lexer.after_value tt later
placed p begin_array before_colon k is later = allowed (may_begin p) begin_array k lexer.fresh tt later
placed p end_array before_colon k is later = allowed (may_close p) end_array k lexer.after_value tt later
placed p (key s) before_colon k is later = (tt, tt)
placed p (string s) true k is later = allowed (may_begin p) (key s) k lexer.after_key is later
placed p (string s) false k is later = allowed (may_begin p) (string s) k lexer.after_value is later
placed p (number s) before_colon k is later = allowed (may_begin p) (number s) k lexer.after_value tt later
placed p (boolean b) before_colon k is later = allowed (may_begin p) (boolean b) k lexer.after_value tt later
placed p null before_colon k is later = allowed (may_begin p) null k lexer.after_value tt later
placed p bad before_colon k is later = (tt, tt)

punctuated : (p : Place) (ls : List Lexeme) → AreLexed ls → AreTokens (punctuate p ls)
unfolding punctuate
punctuated lexer.fresh [] are = tt
punctuated lexer.after_value [] are = tt
punctuated lexer.after_comma [] are = (tt, tt)
punctuated lexer.after_key [] are = (tt, tt)
punctuated lexer.fresh (lexer.token t ∷ ls) are = placed lexer.fresh t (begins_colon ls) (λ next. punctuate next ls) are.0 (λ p. punctuated p ls are.1)
punctuated lexer.after_value (lexer.token t ∷ ls) are = placed lexer.after_value t (begins_colon ls) (λ next. punctuate next ls) are.0 (λ p. punctuated p ls are.1)
punctuated lexer.after_comma (lexer.token t ∷ ls) are = placed lexer.after_comma t (begins_colon ls) (λ next. punctuate next ls) are.0 (λ p. punctuated p ls are.1)
punctuated lexer.after_key (lexer.token t ∷ ls) are = placed lexer.after_key t (begins_colon ls) (λ next. punctuate next ls) are.0 (λ p. punctuated p ls are.1)
punctuated lexer.fresh (lexer.comma ∷ ls) are = (tt, tt)
punctuated lexer.after_value (lexer.comma ∷ ls) are = punctuated lexer.after_comma ls are.1
punctuated lexer.after_comma (lexer.comma ∷ ls) are = (tt, tt)
punctuated lexer.after_key (lexer.comma ∷ ls) are = (tt, tt)
punctuated lexer.fresh (lexer.colon ∷ ls) are = (tt, tt)
punctuated lexer.after_value (lexer.colon ∷ ls) are = (tt, tt)
punctuated lexer.after_comma (lexer.colon ∷ ls) are = (tt, tt)
punctuated lexer.after_key (lexer.colon ∷ ls) are = punctuated lexer.fresh ls are.1

-- ---- the grammar

abbrev mutual
  IsJson : json.Json → Type 0
  IsJson json.null = Unit {0}
  IsJson (json.boolean b) = Unit {0}
  IsJson (json.number s) = Unit {0}
  IsJson (json.string s) = IsUtf8 s
  IsJson (json.array js) = AreItems js
  IsJson (json.object ms) = AreMembers ms

  AreItems : json.Items → Type 0
  AreItems json.no_items = Unit {0}
  AreItems (json.item j js) = IsJson j × AreItems js

  AreMembers : json.Members → Type 0
  AreMembers json.no_members = Unit {0}
  AreMembers (json.member k j ms) = IsJson j × AreMembers ms

-- what was read has the property, and the tokens that are left have UTF-8 texts
abbrev Gives : {A : Type 0} → (A → Type 0) → Option (A × List Token) → Type 0
Gives P None = Unit {0}
Gives P (Some p) = P p.0 × AreTokens p.1

abbrev Reads : {A : Type 0} → (A → Type 0) → Parse A → Type 0
Reads P parse = (ts : List Token) → AreTokens ts → Gives P (parse ts)

mapped : {A B : Type 0} (P : A → Type 0) (Q : B → Type 0) (f : A → B) (r : Option (A × List Token)) → ((a : A) → P a → Q (f a)) → Gives P r → Gives Q (parse_map f r)
mapped P Q f None says given = tt
mapped P Q f (Some p) says given = (says p.0 given.0, given.1)

ended : (ts : List Token) → AreTokens ts → (rest : List Token) → after_end_array ts ≡ Some rest → AreTokens rest
ended [] are rest is = cc
ended (begin_object ∷ ts) are rest is = cc
ended (end_object ∷ ts) are rest is = cc
ended (begin_array ∷ ts) are rest is = cc
ended (end_array ∷ ts) are rest is = let same : ts ≡ rest = cc in subst AreTokens same are.1
ended (key s ∷ ts) are rest is = cc
ended (string s ∷ ts) are rest is = cc
ended (number s ∷ ts) are rest is = cc
ended (boolean b ∷ ts) are rest is = cc
ended (null ∷ ts) are rest is = cc
ended (bad ∷ ts) are rest is = cc

item-read : (more : Parse json.Items) (r : Option (json.Json × List Token)) → Reads AreItems more → Gives IsJson r
    → Gives AreItems (option_and_then (λ p. parse_map (json.item p.0) (more p.1)) r)
item-read more None reads given = tt
item-read more (Some p) reads given = mapped AreItems AreItems (json.item p.0) (more p.1) (λ js are. (given.0, are)) (reads p.1 given.1)

items-read : (parse : Parse json.Json) (n : ℕ) → Reads IsJson parse → Reads AreItems (items parse n)
unfolding items
items-read parse zero reads = λ ts are. tt
items-read parse (suc n) reads = λ ts are. by ts are (items-read parse n reads) (after_end_array ts) refl
  where
    by : (ts : List Token) → AreTokens ts → Reads AreItems (items parse n) → (e : Option (List Token)) → after_end_array ts ≡ e
        → Gives AreItems (items_step parse (items parse n) ts e)
    by ts are more (Some rest) is = (tt, ended ts are rest is)
    by ts are more None is = item-read (items parse n) (parse ts) more (reads ts are)

-- a key was read, and the tokens that are left have UTF-8 texts
IsKeyRead : Option (Option (List ℕ) × List Token) → Type 0
IsKeyRead None = Unit {0}
IsKeyRead (Some p) = AreTokens p.1

key-read : (ts : List Token) → AreTokens ts → IsKeyRead (read_key ts)
unfolding IsKeyRead
key-read [] are = tt
key-read (begin_object ∷ ts) are = tt
key-read (end_object ∷ ts) are = are.1
key-read (begin_array ∷ ts) are = tt
key-read (end_array ∷ ts) are = tt
key-read (key s ∷ ts) are = are.1
key-read (string s ∷ ts) are = tt
key-read (number s ∷ ts) are = tt
key-read (boolean b ∷ ts) are = tt
key-read (null ∷ ts) are = tt
key-read (bad ∷ ts) are = tt

member-read : (k : List ℕ) (more : Parse json.Members) (r : Option (json.Json × List Token)) → Reads AreMembers more → Gives IsJson r
    → Gives AreMembers (option_and_then (λ p. parse_map (json.member k p.0) (more p.1)) r)
member-read k more None reads given = tt
member-read k more (Some p) reads given = mapped AreMembers AreMembers (json.member k p.0) (more p.1) (λ ms are. (given.0, are)) (reads p.1 given.1)

members-read : (parse : Parse json.Json) (n : ℕ) → Reads IsJson parse → Reads AreMembers (members parse n)
unfolding members IsKeyRead
members-read parse zero reads = λ ts are. tt
members-read parse (suc n) reads = λ ts are. by (members-read parse n reads) (read_key ts) (key-read ts are)
  where
    by : Reads AreMembers (members parse n) → (k : Option (Option (List ℕ) × List Token)) → IsKeyRead k
        → Gives AreMembers (option_and_then (λ p. members_step parse (members parse n) p.0 p.1) k)
    by more None are = tt
    by more (Some (None, ts)) are = (tt, are)
    by more (Some (Some k, ts)) are = member-read k (members parse n) (parse ts) more (reads ts are)

with-read : (a : Parse json.Items) (o : Parse json.Members) → Reads AreItems a → Reads AreMembers o → Reads IsJson (value_with a o)
with-read a o reads_a reads_o [] are = tt
with-read a o reads_a reads_o (begin_object ∷ ts) are = mapped AreMembers IsJson json.object (o ts) (λ ms is. is) (reads_o ts are.1)
with-read a o reads_a reads_o (end_object ∷ ts) are = tt
with-read a o reads_a reads_o (begin_array ∷ ts) are = mapped AreItems IsJson json.array (a ts) (λ js is. is) (reads_a ts are.1)
with-read a o reads_a reads_o (end_array ∷ ts) are = tt
with-read a o reads_a reads_o (key s ∷ ts) are = tt
with-read a o reads_a reads_o (string s ∷ ts) are = (are.0, are.1)
with-read a o reads_a reads_o (number s ∷ ts) are = (tt, are.1)
with-read a o reads_a reads_o (boolean b ∷ ts) are = (tt, are.1)
with-read a o reads_a reads_o (null ∷ ts) are = (tt, are.1)
with-read a o reads_a reads_o (bad ∷ ts) are = tt

value-read : (depth : ℕ) → Reads IsJson (value depth)
unfolding value
value-read zero = with-read (λ ts. None) (λ ts. None) (λ ts are. tt) (λ ts are. tt)
value-read (suc depth) =
    with-read (λ ts. items (value depth) (length ts) ts) (λ ts. members (value depth) (length ts) ts)
    (λ ts are. items-read (value depth) (length ts) (value-read depth) ts are)
    (λ ts are. members-read (value depth) (length ts) (value-read depth) ts are)

-- ---- the value

number-data : (n : Option Num) → If AreTexts (option_map values.number n)
number-data None = tt
number-data (Some n) = tt

array-data : (found : Option Items) → If ItemsAreTexts found → If AreTexts (option_map values.array found)
array-data None are = tt
array-data (Some ds) are = are

object-data : (found : Option Members) → If MembersAreTexts found → If AreTexts (option_map values.object found)
object-data None are = tt
object-data (Some ms) are = are

item-data : (first : Option Data) (rest : Option Items) → If AreTexts first → If ItemsAreTexts rest
    → If ItemsAreTexts (option_and_then (λ d. option_map (values.item d) rest) first)
item-data None rest is are = tt
item-data (Some d) None is are = tt
item-data (Some d) (Some ds) is are = (is, are)

put-data : (k : List ℕ) (d : Data) (ms : Members) → AreTexts d → MembersAreTexts ms → MembersAreTexts (put k d ms)
put-data k d values.no_members is are = (is, tt)
put-data k d (values.member l e ms) is are = by (slice_cmp nat_cmp k l) (put-data k d ms is are.1)
  where
    by : (o : Ordering) → MembersAreTexts (put k d ms)
        → MembersAreTexts (match_ordering o (values.member k d (values.member l e ms)) (values.member l d ms) (values.member l e (put k d ms)))
    by Ordering.Less later = (is, are)
    by Ordering.Equal later = (is, are.1)
    by Ordering.Greater later = (are.0, later)

member-data : (first : Option Data) (rest : Data → Option Members) → If AreTexts first → ((d : Data) → AreTexts d → If MembersAreTexts (rest d))
    → If MembersAreTexts (option_and_then rest first)
member-data None rest is later = tt
member-data (Some d) rest is later = later d is

mutual
  json-data : (j : json.Json) → IsJson j → If AreTexts (of_json j)
  json-data json.null is = tt
  json-data (json.boolean b) is = tt
  json-data (json.number s) is = number-data (number_of s)
  json-data (json.string s) is = is
  json-data (json.array js) is = array-data (of_items js) (items-data js is)
  json-data (json.object ms) is = object-data (of_members ms values.no_members) (members-data ms values.no_members is tt)

  items-data : (js : json.Items) → AreItems js → If ItemsAreTexts (of_items js)
  items-data json.no_items are = tt
  items-data (json.item j js) are = item-data (of_json j) (of_items js) (json-data j are.0) (items-data js are.1)

  members-data : (ms : json.Members) (found : Members) → AreMembers ms → MembersAreTexts found → If MembersAreTexts (of_members ms found)
  members-data json.no_members found are of_found = of_found
  members-data (json.member k j ms) found are of_found =
      member-data (of_json j) (λ d. of_members ms (put k d found)) (json-data j are.0)
      (λ d is. members-data ms (put k d found) are.1 (put-data k d found is of_found))

last-data : (j : json.Json) (ts : List Token) → IsJson j → If AreTexts (option_and_then of_json (if_last j ts))
last-data j [] is = json-data j is
last-data j (t ∷ ts) is = tt

-- each text of the value that is read is UTF-8
pub read-texts : (text : List ℕ) (found : Data) → IsUtf8 text → read text ≡ Some found → AreTexts found
read-texts text found is reads =
    subst (If AreTexts) reads (by (value max_depth (tokens text)) (value-read max_depth (tokens text) (punctuated lexer.fresh (lex lexer.between text) (lexed lexer.between text quotes))))
  where
    quotes : HasTexts text
    quotes front rest same = (cut front rest 34 (omega arith) (subst IsUtf8 same is)).1

    by : (r : Option (json.Json × List Token)) → Gives IsJson r → If AreTexts (option_and_then of_json (option_and_then (λ p. if_last p.0 p.1) r))
    by None given = tt
    by (Some p) given = last-data p.0 p.1 given.0
