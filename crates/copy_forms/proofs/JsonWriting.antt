-- What is written for a file, token by token and record by record, is its text.
use Rattle.std.proofs.Common.{◌≡◌, ℕ, ◌+◌, ◌<◌, ◌≤◌, Bool, true, List, [], ◌∷◌, ◌++◌, sym, ap, ◌∙◌, arith, append_assoc, length, drop, get_or, map, codes}
use Rattle.std.specs.Prelude.{decimal, nat_lt}
use Rattle.std.proofs.lemmas.Bool.{lt-ltb}
use Rattle.std.proofs.lemmas.List.{drop_all, drop_more}
use Rattle.json.specs.Print.{print, print_from}
use Rattle.json.specs.Token.{Token, begin_array, begin_object, key, number, string}
use Rattle.serde_json.specs.Written.{comma_if}
use Rattle.lei_code.specs.Texts.{Text}
use Rattle.lei_shapes.specs.Clock.{moment_text}
use Rattle.copy_csv.specs.declared.heads.Head.{Head}
use Rattle.copy_forms.specs.JsonTexts.{before_copy, before_delta, records_text}

-- the tokens of the last members of a file, up to the start of the array
records_tokens : ℕ → List Token
records_tokens count = key (codes "recordCount") ∷ number (decimal count) ∷ key (codes "records") ∷ begin_array ∷ []

copy-begin : (head : Head) (count : ℕ) (rest : List ℕ)
    → print (begin_object ∷ key (codes "contentDate") ∷ string (moment_text head.moment) ∷ key (codes "publication") ∷ number (decimal head.publication) ∷ records_tokens count) ++ rest
    ≡ before_copy head count rest
unfolding print_from records_tokens
copy-begin head count rest = simp append_assoc

delta-begin : (head : Head) (count : ℕ) (rest : List ℕ)
    → print (begin_object ∷ key (codes "contentDate") ∷ string (moment_text head.moment) ∷ key (codes "fromPublication") ∷ number (decimal head.from)
    ∷ key (codes "publication") ∷ number (decimal head.publication) ∷ records_tokens count) ++ rest
    ≡ before_delta head count rest
unfolding print_from records_tokens
delta-begin head count rest = simp append_assoc

pub copy-made : (head : Head) (count : ℕ) (items before rest : List ℕ) (t0 t1 t2 t3 t4 : List Token) → before ≡ [] → t0 ≡ [] → t1 ≡ t0 ++ begin_object ∷ []
    → t2 ≡ t1 ++ (key (codes "contentDate") ∷ string (moment_text head.moment) ∷ []) → t3 ≡ t2 ++ (key (codes "publication") ∷ number (decimal head.publication) ∷ [])
    → t4 ≡ t3 ++ (key (codes "recordCount") ∷ number (decimal count) ∷ key (codes "records") ∷ begin_array ∷ []) → items ≡ before ++ print t4 → items ++ rest ≡ before_copy head count rest
unfolding records_tokens
copy-made head count items before rest t0 t1 t2 t3 t4 alone e0 e1 e2 e3 e4 is =
    let records = key (codes "recordCount") ∷ number (decimal count) ∷ key (codes "records") ∷ begin_array ∷ [] in
    let date = key (codes "contentDate") ∷ string (moment_text head.moment) ∷ [] in
    let publication = key (codes "publication") ∷ number (decimal head.publication) ∷ [] in
    let first = e1 ∙ ap (λ t. t ++ begin_object ∷ []) e0 in
    let second = e2 ∙ ap (λ t. t ++ date) first in
    let third = e3 ∙ ap (λ t. t ++ publication) second in
    let fourth = e4 ∙ ap (λ t. t ++ records) third in
    ap (λ l. l ++ rest) (is ∙ ap (λ b. b ++ print t4) alone ∙ ap print fourth) ∙ copy-begin head count rest

pub delta-made : (head : Head) (count : ℕ) (items before rest : List ℕ) (t0 t1 t2 t3 t4 t5 : List Token) → before ≡ [] → t0 ≡ [] → t1 ≡ t0 ++ begin_object ∷ []
    → t2 ≡ t1 ++ (key (codes "contentDate") ∷ string (moment_text head.moment) ∷ []) → t3 ≡ t2 ++ (key (codes "fromPublication") ∷ number (decimal head.from) ∷ [])
    → t4 ≡ t3 ++ (key (codes "publication") ∷ number (decimal head.publication) ∷ [])
    → t5 ≡ t4 ++ (key (codes "recordCount") ∷ number (decimal count) ∷ key (codes "records") ∷ begin_array ∷ []) → items ≡ before ++ print t5 → items ++ rest ≡ before_delta head count rest
unfolding records_tokens
delta-made head count items before rest t0 t1 t2 t3 t4 t5 alone e0 e1 e2 e3 e4 e5 is =
    let records = key (codes "recordCount") ∷ number (decimal count) ∷ key (codes "records") ∷ begin_array ∷ [] in
    let date = key (codes "contentDate") ∷ string (moment_text head.moment) ∷ [] in
    let base = key (codes "fromPublication") ∷ number (decimal head.from) ∷ [] in
    let publication = key (codes "publication") ∷ number (decimal head.publication) ∷ [] in
    let first = e1 ∙ ap (λ t. t ++ begin_object ∷ []) e0 in
    let second = e2 ∙ ap (λ t. t ++ date) first in
    let third = e3 ∙ ap (λ t. t ++ base) second in
    let fourth = e4 ∙ ap (λ t. t ++ publication) third in
    let fifth = e5 ∙ ap (λ t. t ++ records) fourth in
    ap (λ l. l ++ rest) (is ∙ ap (λ b. b ++ print t5) alone ∙ ap print fifth) ∙ delta-begin head count rest

-- ---- records

pub records-more : {X : Type 0} (text : X → Text) (xs : List X) (out new all item : List ℕ) (k : ℕ) (x : X)
    → out ++ (records_text (nat_lt 0 k) (map text (drop k xs)) ++ 125 ∷ []) ≡ all → k < length xs → x ≡ get_or xs k x → item ≡ text x
    → new ≡ out ++ (comma_if (nat_lt 0 k) ++ item) → new ++ (records_text (nat_lt 0 (k + 1)) (map text (drop (k + 1) xs)) ++ 125 ∷ []) ≡ all
records-more text xs out new all item k x so_far within here is put =
    let others = records_text true (map text (drop (k + 1) xs)) ++ 125 ∷ [] in
    let later : nat_lt 0 (k + 1) ≡ true = lt-ltb 0 (k + 1) (omega arith) in
    let step : drop k xs ≡ x ∷ drop (k + 1) xs = drop_more xs k x within ∙ ap (λ y. y ∷ drop (k + 1) xs) (sym here) in
    ap (λ l. l ++ (records_text (nat_lt 0 (k + 1)) (map text (drop (k + 1) xs)) ++ 125 ∷ [])) put
    ∙ ap (λ b. (out ++ (comma_if (nat_lt 0 k) ++ item)) ++ (records_text b (map text (drop (k + 1) xs)) ++ 125 ∷ [])) later
    ∙ append_assoc out (comma_if (nat_lt 0 k) ++ item) others
    ∙ ap (λ i. out ++ ((comma_if (nat_lt 0 k) ++ i) ++ others)) is
    ∙ ap (λ l. out ++ l) (append_assoc (comma_if (nat_lt 0 k)) (text x) others
    ∙ ap (λ l. comma_if (nat_lt 0 k) ++ l) (sym (append_assoc (text x) (records_text true (map text (drop (k + 1) xs))) (125 ∷ [])))
    ∙ sym (append_assoc (comma_if (nat_lt 0 k)) (text x ++ records_text true (map text (drop (k + 1) xs))) (125 ∷ [])))
    ∙ ap (λ l. out ++ (records_text (nat_lt 0 k) (map text l) ++ 125 ∷ [])) (sym step) ∙ so_far

pub records-end : {X : Type 0} (text : X → Text) (xs : List X) (out all : List ℕ) (later : Bool) (k : ℕ) → out ++ (records_text later (map text (drop k xs)) ++ 125 ∷ []) ≡ all → length xs ≤ k
    → out ++ 93 ∷ 125 ∷ [] ≡ all
records-end text xs out all later k so_far past = ap (λ l. out ++ (records_text later (map text l) ++ 125 ∷ [])) (sym (drop_all k xs past)) ∙ so_far
