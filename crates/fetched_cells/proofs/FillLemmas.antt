-- What is added when cells are copied one after another, and what is left to add.
use Rattle.std.specs.Prelude.{◌≡◌, ◌+◌, ◌-◌, ◌<◌, ◌≤◌, ℕ, zero, suc, List, [], ◌∷◌, ◌++◌, length, map, take, drop}
use Rattle.std.proofs.Common.{sym, ap, subst, ◌∙◌, arith, get_or, drop-cons, add-one}
use Rattle.std.proofs.lemmas.List.{append-nil, append_assoc, drop_all, length-append, take_all}
use Rattle.std.proofs.Math.Seq.{take-nil}
use Rattle.lei_records.specs.declared.view.CellKey.{CellKey}
use Rattle.lei_records.specs.Cells.{Cells}
use Rattle.fetched_cells.specs.declared.filling.Filling.{Filling}
use Rattle.fetched_cells.specs.Fetching.{HasJust, fetched_keys, keys_along}
use Rattle.fetched_cells.specs.Filling.{AddsCells, IsCopied}
use Rattle.fetched_cells.specs.Maps.{fetched_view}
use Rattle.fetched_cells.proofs.CopyLemmas.{has_just-more}

-- ---- prefixes of lists

take-both : {X : Type 0} (n : ℕ) (xs ys : List X) → take n (xs ++ ys) ≡ take n xs ++ take (n - length xs) ys
take-both {X} n [] ys =
    let all : n ≡ n - 0 = omega arith in
    ap (λ m. take m ys) all ∙ ap (λ (front : List X). front ++ take (n - 0) ys) (sym (take-nil n))
take-both zero (x ∷ xs) ys =
    let none : 0 ≡ 0 - length (x ∷ xs) = omega arith in
    ap (λ m. take m ys) none
take-both (suc n) (x ∷ xs) ys =
    let less : n - length xs ≡ suc n - length (x ∷ xs) = omega arith in
    ap (λ zs. x ∷ zs) (take-both n xs ys) ∙ ap (λ m. x ∷ (take n xs ++ take m ys)) less

-- ---- what was added

module _ (whole : Cells) where
  pub adds_none : (old : Filling) → AddsCells whole old old []
  adds_none old = record {
    more = λ before just. subst (HasJust (fetched_view old.fetched) whole) (sym (ap (λ (keys : List CellKey). before ++ keys) (take-nil old.left) ∙ append-nil before)) just;
    rest = omega arith;
  }

  -- without room nothing is added
  pub adds_full : (old : Filling) (keys : List CellKey) → old.left ≡ 0 → AddsCells whole old old keys
  adds_full old keys full = record {
    more = λ before just. subst (HasJust (fetched_view old.fetched) whole) (sym (ap (λ n. before ++ take n keys) full ∙ append-nil before)) just;
    rest = let least : old.left ≡ 0 = full in omega arith;
  }

  pub adds_one : (old new : Filling) (key : CellKey) → 0 < old.left → new.left ≡ old.left - 1
      → IsCopied whole (fetched_view old.fetched) (fetched_view new.fetched) key → AddsCells whole old new (key ∷ [])
  adds_one old new key room left copied = record {
    more = λ before just. subst (λ keys. HasJust (fetched_view new.fetched) whole (before ++ keys)) (sym (take_all old.left (key ∷ []) (omega arith)))
        (has_just-more whole (fetched_view old.fetched) (fetched_view new.fetched) before key just copied);
    rest = left;
  }

  pub adds_then : (old mid new : Filling) (first others : List CellKey) → AddsCells whole old mid first → AddsCells whole mid new others
      → AddsCells whole old new (first ++ others)
  adds_then old mid new first others one two = record {
    more = λ before just. subst (HasJust (fetched_view new.fetched) whole)
        (append_assoc before (take old.left first) (take mid.left others)
        ∙ ap (λ keys. before ++ keys) (ap (λ n. take old.left first ++ take n others) one.rest ∙ sym (take-both old.left first others)))
        (two.more (before ++ take old.left first) (one.more before just));
    rest = let lengths = length-append first others in let a = one.rest in let b = two.rest in omega arith;
  }

-- ---- what is left to add

-- adding the rest from here completes adding all from the start
pub record Goes (whole : Cells) (start now : Filling) (rest all : List CellKey) : Type 0 where
  pub goes : (last : Filling) → AddsCells whole now last rest → AddsCells whole start last all

module _ (whole : Cells) (start now : Filling) (rest all : List CellKey) where
  pub goes_on : (mid : Filling) (first others : List CellKey) → Goes whole start now rest all → rest ≡ first ++ others → AddsCells whole now mid first
      → Goes whole start mid others all
  goes_on mid first others before parts added = record {
    goes = λ last more. before.goes last (subst (AddsCells whole now last) (sym parts) (adds_then whole now mid last first others added more));
  }

  pub goes_full : Goes whole start now rest all → now.left ≡ 0 → AddsCells whole start now all
  goes_full before full = before.goes now (adds_full whole now rest full)

  pub goes_none : Goes whole start now rest all → rest ≡ [] → AddsCells whole start now all
  goes_none before none = before.goes now (subst (AddsCells whole now now) (sym none) (adds_none whole now))

pub goes_start : (whole : Cells) (start : Filling) (all : List CellKey) → Goes whole start start all all
goes_start whole start all = record { goes = λ last more. more }

-- ---- key by key

pub keys_next : (cells : Cells) (keys : List CellKey) (i : ℕ) (key : CellKey) → i < length keys → get_or keys i key ≡ key
    → fetched_keys cells (drop i keys) ≡ (key ∷ keys_along cells key) ++ fetched_keys cells (drop (i + 1) keys)
keys_next cells keys i key less is =
    let rest : drop i keys ≡ key ∷ drop (i + 1) keys = rw add-one (drop-cons keys i key less ∙ ap (λ k. k ∷ drop (suc i) keys) is) in
    ap (fetched_keys cells) rest

pub none_left : (cells : Cells) (keys : List CellKey) (i : ℕ) → length keys ≤ i → fetched_keys cells (drop i keys) ≡ []
none_left cells keys i all = ap (fetched_keys cells) (drop_all i keys all)

-- ---- record by record

pub records_next : (leis : List (List ℕ)) (i : ℕ) (lei : List ℕ) → i < length leis → get_or leis i lei ≡ lei
    → map CellKey.Rec (drop i leis) ≡ (CellKey.Rec lei ∷ []) ++ map CellKey.Rec (drop (i + 1) leis)
records_next leis i lei less is =
    let rest : drop i leis ≡ lei ∷ drop (i + 1) leis = rw add-one (drop-cons leis i lei less ∙ ap (λ x. x ∷ drop (suc i) leis) is) in
    ap (map CellKey.Rec) rest

pub no_records_left : (leis : List (List ℕ)) (i : ℕ) → length leis ≤ i → map CellKey.Rec (drop i leis) ≡ []
no_records_left leis i all = ap (map CellKey.Rec) (drop_all i leis all)
