-- The bodies of the uploads: JSON (RFC 8259) without spaces, with the names of each object in byte order.
use Rattle.std.specs.Prelude.{ℕ, ◌+◌, ◌-◌, ◌/◌, ◌%◌, ◌==◌, List, [], ◌∷◌, ◌++◌, codes, decimal, map, if◌then◌else◌}
use Rattle.std.specs.List.{range_with_len}
use Rattle.lei_code.specs.Texts.{Body, Lei, Text}
use Rattle.register_demo.specs.Codes.{demo_code, manager}
use Rattle.register_demo.specs.Plan.{first_item, last_item}
use Rattle.register_demo.specs.declared.plan.Group.{Group}
use Rattle.register_demo.specs.declared.plan.Group.TheVariants.{Records, Relationships}

-- the members of an object, each a name and a text, and the object's end
abbrev pub member_texts : List (Text × Text) → Text
member_texts [] = codes "}"
member_texts ((name, text) ∷ []) = codes "\"" ++ (name ++ (codes "\":\"" ++ (text ++ codes "\"}")))
member_texts ((name, text) ∷ next ∷ fields) =
    codes "\"" ++ (name ++ (codes "\":\"" ++ (text ++ (codes "\"," ++ member_texts (next ∷ fields)))))

-- an object of texts under names
abbrev pub object_text : List (Text × Text) → Text
object_text fields = codes "{" ++ member_texts fields

-- the elements of an array, separated by commas
abbrev pub elements : List Text → Text
elements [] = []
elements (element ∷ []) = element
elements (element ∷ next ∷ rest) = element ++ (codes "," ++ elements (next ∷ rest))

-- the number of a record at its registration authority: each tenth record has that of the record before it
abbrev pub authority_id : ℕ → ℕ
authority_id i = if i % 10 == 0 then i - 1 else i

-- the fields of a record, with this number in its name, this number at the authority, this LEI and this manager
abbrev pub fields_of_record : Text → Text → Lei → Lei → List (Text × Text)
fields_of_record number at_authority lei manager =
    (codes "Entity.EntityCategory", codes "GENERAL")
    ∷ (codes "Entity.EntityStatus", codes "ACTIVE")
    ∷ (codes "Entity.HeadquartersAddress.City", codes "Paris")
    ∷ (codes "Entity.HeadquartersAddress.Country", codes "FR")
    ∷ (codes "Entity.HeadquartersAddress.FirstAddressLine", codes "1 Main Street")
    ∷ (codes "Entity.LegalAddress.City", codes "Paris")
    ∷ (codes "Entity.LegalAddress.Country", codes "FR")
    ∷ (codes "Entity.LegalAddress.FirstAddressLine", codes "1 Main Street")
    ∷ (codes "Entity.LegalForm.EntityLegalFormCode", codes "AB12")
    ∷ (codes "Entity.LegalJurisdiction", codes "FR")
    ∷ (codes "Entity.LegalName", codes "Entity " ++ number)
    ∷ (codes "Entity.RegistrationAuthority.RegistrationAuthorityEntityID", at_authority)
    ∷ (codes "Entity.RegistrationAuthority.RegistrationAuthorityID", codes "RA000001")
    ∷ (codes "LEI", lei)
    ∷ (codes "Registration.InitialRegistrationDate", codes "2025-01-01T00:00:00Z")
    ∷ (codes "Registration.LastUpdateDate", codes "2025-01-01T00:00:00Z")
    ∷ (codes "Registration.ManagingLOU", manager)
    ∷ (codes "Registration.NextRenewalDate", codes "2026-01-01T00:00:00Z")
    ∷ (codes "Registration.RegistrationStatus", codes "ISSUED")
    ∷ (codes "Registration.ValidationSources", codes "FULLY_CORROBORATED")
    ∷ []

-- the fields of a relationship from one LEI to its direct parent, with this manager
abbrev pub fields_of_relationship : Lei → Lei → Lei → List (Text × Text)
fields_of_relationship start parent manager =
    (codes "Registration.InitialRegistrationDate", codes "2025-01-01T00:00:00Z")
    ∷ (codes "Registration.LastUpdateDate", codes "2025-01-01T00:00:00Z")
    ∷ (codes "Registration.ManagingLOU", manager)
    ∷ (codes "Registration.RegistrationStatus", codes "PUBLISHED")
    ∷ (codes "Registration.ValidationSources", codes "FULLY_CORROBORATED")
    ∷ (codes "Relationship.EndNode", parent)
    ∷ (codes "Relationship.RelationshipStatus", codes "ACTIVE")
    ∷ (codes "Relationship.RelationshipType", codes "IS_DIRECTLY_CONSOLIDATED_BY")
    ∷ (codes "Relationship.StartDate", codes "2025-01-01T00:00:00Z")
    ∷ (codes "Relationship.StartNode", start)
    ∷ []

-- The item of a number: the record of this number, or the relationship from it to the record of half the number.
abbrev pub demo_item_text : Group → Lei → ℕ → Text
demo_item_text Records manager i =
    object_text (fields_of_record (decimal i) (decimal (authority_id i)) (demo_code i) manager)
demo_item_text Relationships manager i = object_text
    (fields_of_relationship (demo_code i) (demo_code (i / 2)) manager)

-- the start of a body
abbrev pub body_start : Group → Text
body_start Records = codes "{\"records\":["
body_start Relationships = codes "{\"relationships\":["

-- the numbers from one to another, inclusive
abbrev pub from_to : ℕ → ℕ → List ℕ
from_to first last = range_with_len first (last + 1 - first)

-- the body that brings the items of a block
unfoldable pub block_body : Group → ℕ → ℕ → Body
block_body group n block =
    body_start group ++ (elements
    (map (demo_item_text group (manager block)) (from_to (first_item group block) (last_item n block)))
    ++ codes "]}")
