-- The steps by which the texts of a row are added one after another.
use Rattle.std.proofs.Common.{◌≡◌, ℕ, ◌+◌, ◌<◌, ◌≤◌, nat_lt, List, [], ◌∷◌, ◌++◌, Bool, true, false, Bor, drop, length, take, get_or, sym, ap, ◌∙◌, arith}
use Rattle.std.specs.Prelude.{if◌then◌else◌}
use Rattle.std.proofs.lemmas.Bool.Decides.{nat_tests}
use Rattle.std.proofs.lemmas.List.{get_or-take, length-append, length-take}
use Rattle.item_fields.specs.declared.fields.Content.{Content}
use Rattle.item_fields.specs.declared.fields.Kind.{Kind}
use Rattle.item_fields.specs.declared.fields.Need.{Need}
use Rattle.item_fields.specs.Fields.{row_len}
use Rattle.item_fields.specs.Items.{row_text}
use Rattle.lei_records.specs.Places.{record_places}
use Rattle.lei_records.specs.Rows.{Row}
use Rattle.item_fields.proofs.SheetLemmas.{Lent, printed_in, printed_in-more, printed_in-past}

row_len-small : (kind : Kind) → row_len kind ≤ record_places
row_len-small Kind.Record = omega arith
row_len-small Kind.Relation = omega arith
row_len-small Kind.Exception = omega arith

-- there is room for a text that is in a row
pub row_room : (kind : Kind) (n i size : ℕ) → n ≡ row_len kind → size ≤ i → nat_lt i n ≡ true → size < record_places
row_room kind n i size is short test =
    let below : i < n = grind (arith, nat_tests) in
    omega (arith, below, short, is, row_len-small kind)

pub row_step : (stands : Bool) (made made' : Row) (text : List ℕ) (n : ℕ) (table : Lent) (texts : List (Bor (List ℕ))) (i : ℕ) (d : Bor (List ℕ) × Content × Need) (e : Bor (List ℕ))
    → nat_lt i n ≡ stands → i < length table → i < length texts → text ≡ row_text (get_or table i d).1 (get_or texts i e).now
    → made' ≡ (if stands then made ++ text ∷ [] else made)
    → made' ++ printed_in (drop (i + 1) (take n table)) (drop (i + 1) texts) ≡ made ++ printed_in (drop i (take n table)) (drop i texts)
row_step true made made' text n table texts i d e test first second is next =
    let below : i < n = grind (arith, nat_tests) in
    let within : i < length (take n table) = omega (arith, below, first, length-take n table) in
    ap (λ r. r ++ printed_in (drop (i + 1) (take n table)) (drop (i + 1) texts)) next
    ∙ printed_in-more made text (take n table) texts i d e within second (is ∙ ap (λ entry. row_text entry.1 (get_or texts i e).now) (sym (get_or-take n table i d below)))
row_step false made made' text n table texts i d e test first second is next =
    let past : n ≤ i = grind (arith, nat_tests) in
    let end : length (take n table) ≤ i = omega (arith, past, length-take n table) in
    ap (λ r. r ++ printed_in (drop (i + 1) (take n table)) (drop (i + 1) texts)) next
    ∙ (sym (printed_in-past made (take n table) texts (i + 1) (omega (arith, end))) ∙ printed_in-past made (take n table) texts i end)

pub row_size : (stands : Bool) (made made' : Row) (text : List ℕ) (i : ℕ) → length made ≤ i → made' ≡ (if stands then made ++ text ∷ [] else made) → length made' ≤ i + 1
row_size true made made' text i short next = omega (arith, short, ap length next, length-append made (text ∷ []))
row_size false made made' text i short next = omega (arith, short, ap length next)

pub count_within : {X : Type 0} (n : ℕ) (xs : List X) (i : ℕ) → length xs ≤ i → length (take n xs) ≤ i
count_within n xs i past = omega (arith, past, length-take n xs)
