-- The texts of items, in pieces.
use Rattle.std.proofs.Common.{◌≡◌, ℕ, suc, ◌+◌, ◌-◌, ◌/◌, ◌<◌, ◌≤◌, List, [], ◌∷◌, ◌++◌, map, ap, sym, refl, ◌∙◌, arith, append_assoc}
use Rattle.std.specs.Prelude.{codes, decimal}
use Rattle.std.specs.List.{range_with_len}
use Rattle.register_demo.specs.Bodies.{authority_id, demo_item_text, elements, fields_of_record, fields_of_relationship, from_to, object_text}
use Rattle.register_demo.specs.Codes.{demo_code}
use Rattle.register_demo.specs.declared.plan.Group.TheVariants as groups

-- ---- the pieces, as they are appended

abbrev pub to_name : List ℕ
to_name = codes "{\"Entity.EntityCategory\":\"GENERAL\",\"Entity.EntityStatus\":\"ACTIVE\",\"Entity.HeadquartersAddress.City\":\"Paris\",\"Entity.HeadquartersAddress.Country\":\"FR\",\"Entity.HeadquartersAddress.FirstAddressLine\":\"1 Main Street\",\"Entity.LegalAddress.City\":\"Paris\",\"Entity.LegalAddress.Country\":\"FR\",\"Entity.LegalAddress.FirstAddressLine\":\"1 Main Street\",\"Entity.LegalForm.EntityLegalFormCode\":\"AB12\",\"Entity.LegalJurisdiction\":\"FR\",\"Entity.LegalName\":\"Entity "

abbrev pub to_authority_id : List ℕ
to_authority_id = codes "\",\"Entity.RegistrationAuthority.RegistrationAuthorityEntityID\":\""

abbrev pub to_lei : List ℕ
to_lei = codes "\",\"Entity.RegistrationAuthority.RegistrationAuthorityID\":\"RA000001\",\"LEI\":\""

abbrev pub to_record_manager : List ℕ
to_record_manager = codes "\",\"Registration.InitialRegistrationDate\":\"2025-01-01T00:00:00Z\",\"Registration.LastUpdateDate\":\"2025-01-01T00:00:00Z\",\"Registration.ManagingLOU\":\""

abbrev pub to_record_end : List ℕ
to_record_end = codes "\",\"Registration.NextRenewalDate\":\"2026-01-01T00:00:00Z\",\"Registration.RegistrationStatus\":\"ISSUED\",\"Registration.ValidationSources\":\"FULLY_CORROBORATED\"}"

abbrev pub to_manager : List ℕ
to_manager = codes "{\"Registration.InitialRegistrationDate\":\"2025-01-01T00:00:00Z\",\"Registration.LastUpdateDate\":\"2025-01-01T00:00:00Z\",\"Registration.ManagingLOU\":\""

abbrev pub to_parent : List ℕ
to_parent = codes "\",\"Registration.RegistrationStatus\":\"PUBLISHED\",\"Registration.ValidationSources\":\"FULLY_CORROBORATED\",\"Relationship.EndNode\":\""

abbrev pub to_start : List ℕ
to_start = codes "\",\"Relationship.RelationshipStatus\":\"ACTIVE\",\"Relationship.RelationshipType\":\"IS_DIRECTLY_CONSOLIDATED_BY\",\"Relationship.StartDate\":\"2025-01-01T00:00:00Z\",\"Relationship.StartNode\":\""

abbrev pub to_end : List ℕ
to_end = codes "\"}"

-- a record's text is these pieces
record-pieces : (number at_authority lei manager : List ℕ) → object_text (fields_of_record number at_authority lei manager)
    ≡ to_name ++ (number ++ (to_authority_id ++ (at_authority ++ (to_lei ++ (lei ++ (to_record_manager ++ (manager ++ to_record_end)))))))
record-pieces number at_authority lei manager = refl

-- a relationship's text is these pieces
relationship-pieces : (start parent manager : List ℕ) → object_text (fields_of_relationship start parent manager)
    ≡ to_manager ++ (manager ++ (to_parent ++ (parent ++ (to_start ++ (start ++ to_end)))))
relationship-pieces start parent manager = refl

-- the first element is appended with a comma after it, and the others are left
pub elements-step : (f : ℕ → List ℕ) (i last : ℕ) → i < last → elements (map f (from_to i last)) ≡ f i ++ (codes "," ++ elements (map f (from_to (i + 1) last)))
elements-step f i last more =
    let two : last + 1 - i ≡ suc (suc (last - (i + 1))) = omega arith in
    let one : last + 1 - (i + 1) ≡ suc (last - (i + 1)) = omega arith in
    ap (λ n. elements (map f (range_with_len i n))) two ∙ ap (λ n. f i ++ (codes "," ++ elements (map f (range_with_len (i + 1) n)))) (sym one)

-- the last element
pub elements-last : (f : ℕ → List ℕ) (last : ℕ) → elements (map f (from_to last last)) ≡ f last
elements-last f last = let one : last + 1 - last ≡ 1 = omega arith in ap (λ n. elements (map f (range_with_len last n))) one

-- pieces that were appended one after the other
pub put-two : (old first second a b : List ℕ) → first ≡ old ++ a → second ≡ first ++ b → second ≡ old ++ (a ++ b)
put-two old first second a b e f = f ∙ ap (λ xs. xs ++ b) e ∙ append_assoc old a b

nest-three : (a b c x : List ℕ) → (a ++ (b ++ c)) ++ x ≡ a ++ (b ++ (c ++ x))
nest-three a b c x = append_assoc a (b ++ c) x ∙ ap (λ xs. a ++ xs) (append_assoc b c x)

nest-five : (a b c d e x : List ℕ) → (a ++ (b ++ (c ++ (d ++ e)))) ++ x ≡ a ++ (b ++ (c ++ (d ++ (e ++ x))))
nest-five a b c d e x = nest-three a b (c ++ (d ++ e)) x ∙ ap (λ xs. a ++ (b ++ xs)) (nest-three c d e x)

-- a record that was appended in three parts: up to its LEI, its LEI, and the rest
pub record-put : (i : ℕ) (manager old named coded out : List ℕ)
    → named ≡ old ++ (to_name ++ (decimal i ++ (to_authority_id ++ (decimal (authority_id i) ++ to_lei))))
    → coded ≡ named ++ demo_code i → out ≡ coded ++ (to_record_manager ++ (manager ++ to_record_end))
    → out ≡ old ++ demo_item_text groups.Records manager i
record-put i manager old named coded out first second third =
    let names = to_name ++ (decimal i ++ (to_authority_id ++ (decimal (authority_id i) ++ to_lei))) in
    let rest = to_record_manager ++ (manager ++ to_record_end) in
    put-two old named out names (demo_code i ++ rest) first (put-two named coded out (demo_code i) rest second third)
    ∙ ap (λ xs. old ++ xs) (nest-five to_name (decimal i) to_authority_id (decimal (authority_id i)) to_lei (demo_code i ++ rest)
    ∙ sym (record-pieces (decimal i) (decimal (authority_id i)) (demo_code i) manager))

-- a relationship that was appended in five parts: up to the parent, the parent, up to the start, the start, and the end
pub relationship-put : (i : ℕ) (manager old one two three four out : List ℕ)
    → one ≡ old ++ (to_manager ++ (manager ++ to_parent)) → two ≡ one ++ demo_code (i / 2)
    → three ≡ two ++ to_start → four ≡ three ++ demo_code i → out ≡ four ++ to_end
    → out ≡ old ++ demo_item_text groups.Relationships manager i
relationship-put i manager old one two three four out a b c d e =
    let starts = demo_code i ++ to_end in
    let parents = demo_code (i / 2) ++ (to_start ++ starts) in
    put-two old one out (to_manager ++ (manager ++ to_parent)) parents a (put-two one two out (demo_code (i / 2)) (to_start ++ starts) b
    (put-two two three out to_start starts c (put-two three four out (demo_code i) to_end d e)))
    ∙ ap (λ xs. old ++ xs) (nest-three to_manager manager to_parent parents ∙ sym (relationship-pieces (demo_code i) (demo_code (i / 2)) manager))

-- a body that was written in three parts: its start, its elements and its end
pub body-put : (first second out begin elements : List ℕ) → first ≡ begin → second ≡ first ++ elements → out ≡ second ++ codes "]}"
    → out ≡ begin ++ (elements ++ codes "]}")
body-put first second out begin elements a b c = put-two first second out elements (codes "]}") b c ∙ ap (λ xs. xs ++ (elements ++ codes "]}")) a

-- the loop over items: one more item was appended, and a comma
pub items-step : (f : ℕ → List ℕ) (i last : ℕ) (old before put out all : List ℕ) → i < last → before ++ elements (map f (from_to i last)) ≡ old ++ all
    → put ≡ before ++ f i → out ≡ put ++ 44 ∷ [] → out ++ elements (map f (from_to (i + 1) last)) ≡ old ++ all
items-step f i last old before put out all more is one comma =
    let rest = elements (map f (from_to (i + 1) last)) in
    ap (λ xs. xs ++ rest) (comma ∙ ap (λ xs. xs ++ 44 ∷ []) one) ∙ append_assoc (before ++ f i) (44 ∷ []) rest ∙ append_assoc before (f i) (44 ∷ rest)
    ∙ ap (λ xs. before ++ xs) (sym (elements-step f i last more)) ∙ is

-- the last item was appended
pub items-end : (f : ℕ → List ℕ) (i last : ℕ) (old before out all : List ℕ) → i ≤ last → last ≤ i → before ++ elements (map f (from_to i last)) ≡ old ++ all
    → out ≡ before ++ f last → out ≡ old ++ all
items-end f i last old before out all low high is put =
    let same : i ≡ last = omega arith in
    put ∙ ap (λ xs. before ++ xs) (sym (elements-last f last)) ∙ ap (λ k. before ++ elements (map f (from_to k last))) (sym same) ∙ is
