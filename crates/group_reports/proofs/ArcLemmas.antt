-- Arcs and the links that they represent.
use Rattle.std.specs.Prelude.{◌≡◌, ℕ, zero, suc, ◌+◌, ◌<◌, ◌≤◌, Bool, true, false, cond, ◌==◌, ◌&&◌, ◌||◌, List, [], ◌∷◌, ◌++◌, Option, None, Some, drop, find, flat_map, get_or, length, map, option_map, take}
use Rattle.std.specs.List.{All}
use Rattle.std.specs.Str.{bytes_eq}
use Rattle.std.proofs.Common.{refl, sym, ap, subst, ◌∙◌, ◌⊎◌, inl, inr, arith}
use Rattle.std.proofs.lemmas.Bool.{and_parts, false≢true, or_cases, or_left, or_right}
use Rattle.std.proofs.lemmas.List.{drop_all, length-map, map-append, take_more}
use Rattle.std.proofs.lemmas.List.Elements.{All-head, All-tail}
use Rattle.lei_code.specs.Texts.{Lei}
use Rattle.copy_csv.specs.Sheets.{SheetRow}
use Rattle.group_reports.specs.declared.arcs.Arc.{Arc}
use Rattle.group_reports.specs.declared.kinds.LinkKind.{LinkKind}
use Rattle.group_reports.specs.Arcs.{AreFirstEnds, HasPlacesBelow, first_end, is_wanted_kind, link_at}
use Rattle.group_reports.specs.Links.{Link, link_of}
use Rattle.group_reports.specs.Places.{AreSortedLeis, FindsEach, IsBelow, at, at_some, ends_of, leis_of, step_up}
use Rattle.group_reports.proofs.ChainLemmas.{lei_or}
use Rattle.group_reports.proofs.ListLemmas.{get_or-map, has, leis_in_order-has, own_lei}
use Rattle.group_reports.proofs.PlaceLemmas.{eq_places}

-- ---- the LEIs of links

-- the end of the first link of a kind that starts at an LEI
abbrev pub end_of : (LinkKind → Bool) → List Link → Lei → Option Lei
end_of test links lei = option_map (λ link. link.end) (find (λ link. test link.kind && bytes_eq lei link.start) links)

pub start_among : (links : List Link) (i : ℕ) (d : Link) → i < length links → has (flat_map ends_of links) (get_or links i d).start ≡ true
start_among [] i d within = absurd (omega (arith, within))
start_among (link ∷ links) zero d within =
    or_left (bytes_eq link.start link.start) (bytes_eq link.start link.end || has (flat_map ends_of links) link.start) (own_lei link.start)
start_among (link ∷ links) (suc i) d within =
    or_right (bytes_eq (get_or links i d).start link.start) (bytes_eq (get_or links i d).start link.end || has (flat_map ends_of links) (get_or links i d).start)
    (or_right (bytes_eq (get_or links i d).start link.end) (has (flat_map ends_of links) (get_or links i d).start)
    (start_among links i d (omega (arith, within))))

pub end_among : (links : List Link) (i : ℕ) (d : Link) → i < length links → has (flat_map ends_of links) (get_or links i d).end ≡ true
end_among [] i d within = absurd (omega (arith, within))
end_among (link ∷ links) zero d within =
    or_right (bytes_eq link.end link.start) (bytes_eq link.end link.end || has (flat_map ends_of links) link.end)
    (or_left (bytes_eq link.end link.end) (has (flat_map ends_of links) link.end) (own_lei link.end))
end_among (link ∷ links) (suc i) d within =
    or_right (bytes_eq (get_or links i d).end link.start) (bytes_eq (get_or links i d).end link.end || has (flat_map ends_of links) (get_or links i d).end)
    (or_right (bytes_eq (get_or links i d).end link.end) (has (flat_map ends_of links) (get_or links i d).end)
    (end_among links i d (omega (arith, within))))

pub starts_known : (links : List Link) (lei : Lei) → has (map (λ link. link.start) links) lei ≡ true → has (flat_map ends_of links) lei ≡ true
starts_known [] lei is = absurd (false≢true is)
starts_known (link ∷ links) lei is =
    by (λ later. starts_known links lei later) (or_cases (bytes_eq lei link.start) (has (map (λ l. l.start) links) lei) is)
  where
    by : (has (map (λ l. l.start) links) lei ≡ true → has (flat_map ends_of links) lei ≡ true)
        → (bytes_eq lei link.start ≡ true) ⊎ (has (map (λ l. l.start) links) lei ≡ true) → has (flat_map ends_of (link ∷ links)) lei ≡ true
    by rest (inl here) = or_left (bytes_eq lei link.start) (bytes_eq lei link.end || has (flat_map ends_of links) lei) here
    by rest (inr later) =
        or_right (bytes_eq lei link.start) (bytes_eq lei link.end || has (flat_map ends_of links) lei)
        (or_right (bytes_eq lei link.end) (has (flat_map ends_of links) lei) (rest later))

-- the end of a link that is found is one of the links' LEIs, and so is its start
pub ends_known : (test : LinkKind → Bool) (links : List Link) (lei next : Lei) → end_of test links lei ≡ Some next
    → (has (flat_map ends_of links) lei ≡ true) × (has (flat_map ends_of links) next ≡ true)
ends_known test [] lei next e = absurd cc
ends_known test (link ∷ links) lei next e =
    by (λ is. ends_known test links lei next is) (test link.kind && bytes_eq lei link.start) refl e
  where
    by : (end_of test links lei ≡ Some next → (has (flat_map ends_of links) lei ≡ true) × (has (flat_map ends_of links) next ≡ true))
        → (b : Bool) → (test link.kind && bytes_eq lei link.start) ≡ b
        → option_map (λ (l : Link). l.end) (cond b (Some link) (find (λ l. test l.kind && bytes_eq lei l.start) links)) ≡ Some next
        → (has (flat_map ends_of (link ∷ links)) lei ≡ true) × (has (flat_map ends_of (link ∷ links)) next ≡ true)
    by rest true is e =
        let same : link.end ≡ next = ap (lei_or []) e in (
          or_left (bytes_eq lei link.start) (bytes_eq lei link.end || has (flat_map ends_of links) lei)
              (and_parts (test link.kind) (bytes_eq lei link.start) is).1,
          subst (λ y. has (flat_map ends_of (link ∷ links)) y ≡ true) same
              (or_right (bytes_eq link.end link.start) (bytes_eq link.end link.end || has (flat_map ends_of links) link.end)
              (or_left (bytes_eq link.end link.end) (has (flat_map ends_of links) link.end) (own_lei link.end))),
        )
    by rest false is e = (
      or_right (bytes_eq lei link.start) (bytes_eq lei link.end || has (flat_map ends_of links) lei)
          (or_right (bytes_eq lei link.end) (has (flat_map ends_of links) lei) (rest e).0),
      or_right (bytes_eq next link.start) (bytes_eq next link.end || has (flat_map ends_of links) next)
          (or_right (bytes_eq next link.end) (has (flat_map ends_of links) next) (rest e).1),
    )

-- the LEIs of a row are among those of all rows
row_at : (rows : List SheetRow) (i : ℕ) (row : SheetRow) → i < length rows → row ≡ get_or rows i row
    → get_or (map link_of rows) i (link_of row) ≡ link_of row
row_at rows i row within here = get_or-map link_of rows i (link_of row) row within ∙ ap link_of (sym here)

pub row_start : (rows : List SheetRow) (leis : List Lei) (i : ℕ) (row : SheetRow) → i < length rows → row ≡ get_or rows i row
    → leis ≡ leis_of (map link_of rows) → has leis (link_of row).start ≡ true
row_start rows leis i row within here are =
    ap (λ l. has l (link_of row).start) are
    ∙ (leis_in_order-has (flat_map ends_of (map link_of rows)) (link_of row).start
    ∙ (ap (λ l. has (flat_map ends_of (map link_of rows)) l.start) (sym (row_at rows i row within here))
    ∙ start_among (map link_of rows) i (link_of row) (subst (λ n. i < n) (sym (length-map rows link_of)) within)))

pub row_end : (rows : List SheetRow) (leis : List Lei) (i : ℕ) (row : SheetRow) → i < length rows → row ≡ get_or rows i row
    → leis ≡ leis_of (map link_of rows) → has leis (link_of row).end ≡ true
row_end rows leis i row within here are =
    ap (λ l. has l (link_of row).end) are
    ∙ (leis_in_order-has (flat_map ends_of (map link_of rows)) (link_of row).end
    ∙ (ap (λ l. has (flat_map ends_of (map link_of rows)) l.end) (sym (row_at rows i row within here))
    ∙ end_among (map link_of rows) i (link_of row) (subst (λ n. i < n) (sym (length-map rows link_of)) within)))

-- one more row was made into an arc
pub links_push : (leis : List Lei) (rows : List SheetRow) (i : ℕ) (row : SheetRow) (made after : List Arc) (arc : Arc) → i < length rows
    → row ≡ get_or rows i row → map (link_at leis) made ≡ map link_of (take i rows) → after ≡ made ++ arc ∷ [] → link_at leis arc ≡ link_of row
    → map (link_at leis) after ≡ map link_of (take (i + 1) rows)
links_push leis rows i row made after arc within here so_far is one =
    ap (map (link_at leis)) is
    ∙ (map-append (link_at leis) made (arc ∷ [])
    ∙ (ap (λ l. l ++ link_at leis arc ∷ []) so_far
    ∙ (ap (λ x. map link_of (take i rows) ++ x ∷ []) (one ∙ ap link_of here)
    ∙ (sym (map-append link_of (take i rows) (get_or rows i row ∷ [])) ∙ ap (map link_of) (sym (take_more rows i row within))))))

-- for an LEI that is in no link none is found
pub none_known : (test : LinkKind → Bool) (links : List Link) (lei : Lei) → has (leis_of links) lei ≡ false → end_of test links lei ≡ None
none_known test links lei unknown = by (end_of test links lei) refl
  where
    by : (o : Option Lei) → end_of test links lei ≡ o → o ≡ None
    by None is = refl
    by (Some next) is =
        absurd (false≢true (sym unknown ∙ (leis_in_order-has (flat_map ends_of links) lei ∙ (ends_known test links lei next is).0)))

-- ---- first ends

module _ (leis : List Lei) (order : AreSortedLeis leis) (kind : LinkKind) where
  first_is : (arcs : List Arc) (place : ℕ) → All (HasPlacesBelow (length leis)) arcs → place < length leis
      → at_some leis (first_end arcs kind place) ≡ end_of (is_wanted_kind kind) (map (link_at leis) arcs) (at leis place)
  first_is [] place within inside = refl
  first_is (arc ∷ arcs) place within inside =
      by (first_is arcs place (All-tail (HasPlacesBelow (length leis)) arc arcs within) inside) (is_wanted_kind kind arc.kind && place == arc.start)
      ∙ ap (λ b. option_map (λ (l : Link). l.end) (cond b (Some (link_at leis arc)) (find (λ l. is_wanted_kind kind l.kind && bytes_eq (at leis place) l.start) (map (link_at leis) arcs))))
      (ap (λ b. is_wanted_kind kind arc.kind && b) (sym (eq_places leis order place arc.start inside (All-head (HasPlacesBelow (length leis)) arc arcs within).0)))
    where
      by : at_some leis (first_end arcs kind place) ≡ end_of (is_wanted_kind kind) (map (link_at leis) arcs) (at leis place) → (b : Bool)
          → at_some leis (option_map (λ (a : Arc). a.end) (cond b (Some arc) (find (λ a. is_wanted_kind kind a.kind && place == a.start) arcs)))
          ≡ option_map (λ (l : Link). l.end) (cond b (Some (link_at leis arc)) (find (λ l. is_wanted_kind kind l.kind && bytes_eq (at leis place) l.start) (map (link_at leis) arcs)))
      by rest true = refl
      by rest false = rest

first_below : (count : ℕ) (kind : LinkKind) (arcs : List Arc) (place : ℕ) → All (HasPlacesBelow count) arcs → IsBelow count (first_end arcs kind place)
first_below count kind [] place within = tt
first_below count kind (arc ∷ arcs) place within =
    by (first_below count kind arcs place (All-tail (HasPlacesBelow count) arc arcs within)) (is_wanted_kind kind arc.kind && place == arc.start)
  where
    by : IsBelow count (first_end arcs kind place) → (b : Bool)
        → IsBelow count (option_map (λ (a : Arc). a.end) (cond b (Some arc) (find (λ a. is_wanted_kind kind a.kind && place == a.start) arcs)))
    by rest true = (All-head (HasPlacesBelow count) arc arcs within).1
    by rest false = rest

pub ends_within : (count : ℕ) (kind : LinkKind) (arcs : List Arc) (ends : List (Option ℕ)) → All (HasPlacesBelow count) arcs
    → AreFirstEnds count arcs kind ends → (place : ℕ) → IsBelow (length ends) (step_up ends place)
ends_within count kind arcs ends within are place =
    subst (λ n. IsBelow n (step_up ends place)) (sym are.counted)
    (subst (IsBelow count) (sym (are.each place)) (first_below count kind arcs place within))

pub finds_ends : (leis : List Lei) → AreSortedLeis leis → (kind : LinkKind) (arcs : List Arc) (links : List Link) (ends : List (Option ℕ))
    → All (HasPlacesBelow (length leis)) arcs → map (link_at leis) arcs ≡ links → AreFirstEnds (length leis) arcs kind ends
    → FindsEach leis ends (end_of (is_wanted_kind kind) links)
finds_ends leis order kind arcs links ends within are ends_are = record {
  counted = ends_are.counted;
  within = ends_within (length leis) kind arcs ends within ends_are;
  each = λ place inside.
      ap (at_some leis) (ends_are.each place)
      ∙ (first_is leis order kind arcs place within inside ∙ ap (λ l. end_of (is_wanted_kind kind) l (at leis place)) are);
}

-- ---- a loop over arcs

abbrev pub or_place : Option ℕ → Option ℕ → Option ℕ
or_place None other = other
or_place (Some place) other = Some place

-- no arc is left
pub no_more_ends : (kind : LinkKind) (arcs : List Arc) (i place : ℕ) (had all : Option ℕ) → length arcs ≤ i
    → or_place had (first_end (drop i arcs) kind place) ≡ all → had ≡ all
no_more_ends kind arcs i place had all over so_far =
    alone had ∙ (ap (λ l. or_place had (first_end l kind place)) (sym (drop_all i arcs over)) ∙ so_far)
  where
    alone : (o : Option ℕ) → o ≡ or_place o None
    alone None = refl
    alone (Some p) = refl
