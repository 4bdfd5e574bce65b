-- The texts of a row by the ends of as many of them as it has: their number, one more, and whether they are those of
-- another row.
use Rattle.std.proofs.Common.{◌≡◌, ◌==◌, ◌&&◌, ℕ, ◌+◌, ◌<◌, ◌≤◌, List, [], ◌∷◌, ◌++◌, length, take, set, refl, sym, ap, ◌∙◌, arith}
use Rattle.std.specs.Cmp.Lexicographic.{pointwise}
use Rattle.std.specs.Str.{IsUtf8}
use Rattle.std.proofs.lemmas.Grind.{take-set_at}
use Rattle.std.proofs.lemmas.List.{length-set, length-take-le}
use Rattle.lei_values.specs.Pieces.{AreEnds, pieces}
use Rattle.lei_values.proofs.PieceLemmas.{ends_grow, length_pieces, pieces_grow, texts_compare}
use Rattle.lei_records.specs.Places.{record_places}
use Rattle.lei_records.specs.Rows.{Row}

-- there are as many texts as ends that are used
pub length_seen : (count : ℕ) (ends bytes : List ℕ) (seen : Row) → count ≤ length ends → pieces 0 (take count ends) bytes ≡ seen
    → length seen ≡ count
length_seen count ends bytes seen few is =
    ap length (sym is) ∙ (length_pieces 0 (take count ends) bytes ∙ length-take-le count ends few)

pub has_room : (count : ℕ) (ends bytes : List ℕ) (seen : Row) → count ≤ length ends → pieces 0 (take count ends) bytes ≡ seen
    → length seen < record_places → count < record_places
has_room count ends bytes seen few is room = omega (arith, room, length_seen count ends bytes seen few is)

-- the text at an index has its end among these
pub has_end : (count : ℕ) (ends ends' bytes : List ℕ) (seen : Row) (index : ℕ) → pieces 0 (take count ends) bytes ≡ seen → ends' ≡ take count ends
    → index < length seen → index < length ends'
has_end count ends ends' bytes seen index is same within =
    let counted : length (take count ends) ≡ length seen = sym (length_pieces 0 (take count ends) bytes) ∙ ap length is in
    omega (arith, within, counted, ap length same)

-- the ends with one more after them
ends_with : (count : ℕ) (ends : List ℕ) (end end' : ℕ) → count < length ends → end ≡ end' → take (count + 1) (set ends count end) ≡ take count ends ++ end' ∷ []
ends_with count ends end end' room same = take-set_at ends count (count + 1) end refl room ∙ ap (λ e. take count ends ++ e ∷ []) same

pub ends_more : (count : ℕ) (ends bytes text bytes' : List ℕ) (end : ℕ) → IsUtf8 text → AreEnds 0 (take count ends) bytes → count < length ends
    → bytes' ≡ bytes ++ text → end ≡ length bytes' → (count + 1 ≤ length (set ends count end)) × AreEnds 0 (take (count + 1) (set ends count end)) bytes'
ends_more count ends bytes text bytes' end utf8 are room grown is =
    (omega (arith, room, length-set ends count end), ends_grow (take count ends) bytes text _ bytes' utf8 are grown (ends_with count ends end (length bytes') room is))

pub seen_more : (count : ℕ) (ends bytes text bytes' : List ℕ) (end : ℕ) (seen : Row) → AreEnds 0 (take count ends) bytes → count < length ends
    → bytes' ≡ bytes ++ text → end ≡ length bytes' → pieces 0 (take count ends) bytes ≡ seen
    → pieces 0 (take (count + 1) (set ends count end)) bytes' ≡ seen ++ text ∷ []
seen_more count ends bytes text bytes' end seen are room grown is same =
    pieces_grow (take count ends) bytes text _ bytes' are grown (ends_with count ends end (length bytes') room is)
    ∙ ap (λ texts. texts ++ text ∷ []) same

-- texts are the same if and only if the ends that are used and the piece of memory are
pub seen_compare : (count count' : ℕ) (ends ends' bytes bytes' front front' : List ℕ) (xs ys : Row)
    → AreEnds 0 (take count ends) bytes → AreEnds 0 (take count' ends') bytes'
    → pieces 0 (take count ends) bytes ≡ xs → pieces 0 (take count' ends') bytes' ≡ ys → front ≡ take count ends → front' ≡ take count' ends'
    → pointwise (pointwise ◌==◌) xs ys ≡ (pointwise ◌==◌ front front' && pointwise ◌==◌ bytes bytes')
seen_compare count count' ends ends' bytes bytes' front front' xs ys are are' is is' same same' =
    rw (same, same') (texts_compare (take count ends) (take count' ends') bytes bytes' xs ys are are' is is')
