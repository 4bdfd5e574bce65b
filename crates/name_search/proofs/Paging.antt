-- What is gathered with one more match.
use Rattle.std.proofs.Common.{◌≡◌, ℕ, ◌+◌, ◌<◌, ◌≤◌, Bool, true, false, cond, List, [], ◌∷◌, ◌++◌, length, drop, take, get_or, filter, refl, sym, ap, subst, ◌∙◌, arith}
use Rattle.std.proofs.lemmas.List.{append-nil, drop-append-le, drop_all, length-take, length_push, take-append-le, take_all}
use Rattle.std.proofs.lemmas.List.Elements.{filter_more}
use Rattle.name_search.specs.Gathering.{GathersPage}
use Rattle.name_search.specs.NameTables.{Name}

counted : (before : List Name) (row : Name) (count : ℕ) → count ≡ length before → count + 1 ≡ length (before ++ row ∷ [])
counted before row count is = ap (λ n. n + 1) is ∙ sym (length_push before row)

pub before_page : (start : ℕ) (before : List Name) (row : Name) (count : ℕ) (names : List Name) → GathersPage start before count names → count < start
    → GathersPage start (before ++ row ∷ []) (count + 1) names
before_page start before row count names gathers early =
    let more : length (before ++ row ∷ []) ≤ start = omega (arith, length_push before row, gathers.count_is) in
    let few : length before ≤ start = omega (arith, gathers.count_is) in
    record {
      count_is = counted before row count gathers.count_is;
      names_are = gathers.names_are ∙ ap (take 50) (drop_all start before few ∙ sym (drop_all start (before ++ row ∷ []) more));
    }

pub after_page : (start : ℕ) (before : List Name) (row : Name) (count : ℕ) (names : List Name) → GathersPage start before count names → start ≤ count
    → 50 ≤ length names → GathersPage start (before ++ row ∷ []) (count + 1) names
after_page start before row count names gathers late full =
    let within : start ≤ length before = omega (arith, gathers.count_is) in
    let enough : 50 ≤ length (drop start before) = omega (arith, ap length gathers.names_are, length-take 50 (drop start before)) in
    record {
      count_is = counted before row count gathers.count_is;
      names_are = gathers.names_are ∙ sym (take-append-le 50 (drop start before) (row ∷ []) enough)
          ∙ ap (take 50) (sym (drop-append-le start before (row ∷ []) within));
    }

pub on_page : (start : ℕ) (before : List Name) (row : Name) (count : ℕ) (names names' : List Name) → GathersPage start before count names
    → start ≤ count → length names < 50 → names' ≡ names ++ row ∷ [] → GathersPage start (before ++ row ∷ []) (count + 1) names'
on_page start before row count names names' gathers late room put =
    let within : start ≤ length before = omega (arith, gathers.count_is) in
    let few : length (drop start before) < 50 = omega (arith, ap length gathers.names_are, length-take 50 (drop start before)) in
    let more : length (drop start before ++ row ∷ []) ≤ 50 = omega (arith, length_push (drop start before) row) in
    record {
      count_is = counted before row count gathers.count_is;
      names_are = put ∙ ap (λ l. l ++ row ∷ []) (gathers.names_are ∙ take_all 50 (drop start before) (omega (arith, few)))
          ∙ sym (take_all 50 (drop start before ++ row ∷ []) more) ∙ ap (take 50) (sym (drop-append-le start before (row ∷ []) within));
    }

-- nothing is gathered from no matches
pub nothing_yet : (start : ℕ) → GathersPage start [] 0 []
nothing_yet start = record { count_is = refl; names_are = ap (take 50) (sym (drop_all start [] (omega arith))) }

-- ---- all rows

module _ (start : ℕ) (p : Name → Bool) (rows : List Name) (i : ℕ) (row : Name) (within : i < length rows) (here : row ≡ get_or rows i row) where
  next_is : filter p (take (i + 1) rows) ≡ filter p (take i rows) ++ cond (p row) (row ∷ []) []
  next_is = filter_more p rows i row within
      ∙ ap (λ r. filter p (take i rows) ++ cond (p r) (r ∷ []) []) (sym here)

  -- a match is gathered
  pub gathers_one : (count : ℕ) (names : List Name) → p row ≡ true → GathersPage start (filter p (take i rows) ++ row ∷ []) count names
      → GathersPage start (filter p (take (i + 1) rows)) count names
  gathers_one count names is gathers =
      subst (λ l. GathersPage start l count names)
      (sym (next_is ∙ ap (λ b. filter p (take i rows) ++ cond b (row ∷ []) []) is)) gathers

  -- a row that doesn't match isn't
  pub gathers_none : (count : ℕ) (names : List Name) → p row ≡ false → GathersPage start (filter p (take i rows)) count names
      → GathersPage start (filter p (take (i + 1) rows)) count names
  gathers_none count names isnt gathers =
      subst (λ l. GathersPage start l count names)
      (sym (next_is ∙ ap (λ b. filter p (take i rows) ++ cond b (row ∷ []) []) isnt ∙ append-nil (filter p (take i rows)))) gathers

pub gathers_all : (start : ℕ) (p : Name → Bool) (rows : List Name) (i count : ℕ) (names : List Name)
    → GathersPage start (filter p (take i rows)) count names → length rows ≤ i → GathersPage start (filter p rows) count names
gathers_all start p rows i count names gathers past =
    subst (λ l. GathersPage start (filter p l) count names) (take_all i rows past) gathers

pub nothing_found : (start : ℕ) (matches : List Name) (count : ℕ) (names : List Name) → matches ≡ [] → count ≡ 0 → names ≡ []
    → GathersPage start matches count names
nothing_found start matches count names none zero empty = record {
  count_is = zero ∙ sym (ap length none);
  names_are = empty ∙ ap (take 50) (sym (drop_all start [] (omega arith)) ∙ ap (drop start) (sym none));
}
