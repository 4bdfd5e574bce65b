-- The lists of values. Each has one table with the text of every value. A text is compared byte for byte, as in the
-- Common Data File formats of the Global LEI System. What a text reads as follows from the table.
use Rattle.std.specs.Prelude.{◌≡◌, ◌≢◌, List, [], ◌∷◌, Option, Some, MatchOption, find, bytes_eq, codes}
use Rattle.lei_code.specs.Texts.{Text}
use Rattle.lei_shapes.specs.declared.lists.RecordStatus.{RecordStatus}
use Rattle.lei_shapes.specs.declared.lists.EntityStatus.{EntityStatus}
use Rattle.lei_shapes.specs.declared.lists.Category.{Category}
use Rattle.lei_shapes.specs.declared.lists.Validation.{Validation}
use Rattle.lei_shapes.specs.declared.lists.RelationType.{RelationType}
use Rattle.lei_shapes.specs.declared.lists.RelationStatus.{RelationStatus}
use Rattle.lei_shapes.specs.declared.lists.RelationRegistration.{RelationRegistration}
use Rattle.lei_shapes.specs.declared.lists.ExceptionCategory.{ExceptionCategory}
use Rattle.lei_shapes.specs.declared.lists.Reason.{Reason}
use Rattle.lei_shapes.specs.declared.lists.EventType.{EventType}
use Rattle.lei_shapes.specs.declared.lists.EventStatus.{EventStatus}

-- The first of the values that has this text, if any.
abbrev pub value_named : {V : Type 0} → (V → Text) → List V → Text → Option V
value_named text_of values text = find (λ v. bytes_eq (text_of v) text) values

-- By a table, a text reads as the value whose text it is, and as `None` exactly if no value has this text.
abbrev pub IsReadBy : {V : Type 0} → (V → Text) → Text → Option V → Type 0
IsReadBy {V} text_of text read =
    MatchOption read ((v : V) → text_of v ≢ text) (λ v. text_of v ≡ text)

-- The text of each value reads as that value.
abbrev pub ReadsBack : {V : Type 0} → (V → Text) → (Text → Option V) → Type 0
ReadsBack {V} text_of read = (value : V) → read (text_of value) ≡ Some value

-- Two values have different texts.
abbrev pub HasTextEach : {V : Type 0} → (V → Text) → Type 0
HasTextEach {V} text_of = (a b : V) → text_of a ≡ text_of b → a ≡ b

-- How the registration status of a record is written.
abbrev pub record_status_text : RecordStatus → Text
record_status_text RecordStatus.Issued = codes "ISSUED"
record_status_text RecordStatus.Lapsed = codes "LAPSED"
record_status_text RecordStatus.PendingTransfer = codes "PENDING_TRANSFER"
record_status_text RecordStatus.PendingArchival = codes "PENDING_ARCHIVAL"
record_status_text RecordStatus.Retired = codes "RETIRED"
record_status_text RecordStatus.Duplicate = codes "DUPLICATE"
record_status_text RecordStatus.Annulled = codes "ANNULLED"

-- All statuses of a record.
abbrev pub record_statuses : List RecordStatus
record_statuses =
    RecordStatus.Issued ∷ RecordStatus.Lapsed ∷ RecordStatus.PendingTransfer
    ∷ RecordStatus.PendingArchival ∷ RecordStatus.Retired ∷ RecordStatus.Duplicate
    ∷ RecordStatus.Annulled ∷ []

-- The status of a record that a text writes, if it does.
abbrev pub record_status_of : Text → Option RecordStatus
record_status_of = value_named record_status_text record_statuses

-- How the text says whether the entity itself is active.
abbrev pub entity_status_text : EntityStatus → Text
entity_status_text EntityStatus.Active = codes "ACTIVE"
entity_status_text EntityStatus.Inactive = codes "INACTIVE"
entity_status_text EntityStatus.Null = codes "NULL"

-- All entity statuses.
abbrev pub entity_statuses : List EntityStatus
entity_statuses =
    EntityStatus.Active ∷ EntityStatus.Inactive ∷ EntityStatus.Null ∷ []

-- The entity status that a text writes, if it does.
abbrev pub entity_status_of : Text → Option EntityStatus
entity_status_of = value_named entity_status_text entity_statuses

-- How the category of an entity is written.
abbrev pub category_text : Category → Text
category_text Category.General = codes "GENERAL"
category_text Category.Branch = codes "BRANCH"
category_text Category.Fund = codes "FUND"
category_text Category.SoleProprietor = codes "SOLE_PROPRIETOR"
category_text Category.ResidentGovernmentEntity = codes "RESIDENT_GOVERNMENT_ENTITY"
category_text Category.InternationalOrganization = codes "INTERNATIONAL_ORGANIZATION"

-- All categories.
abbrev pub categories : List Category
categories =
    Category.General ∷ Category.Branch ∷ Category.Fund ∷ Category.SoleProprietor
    ∷ Category.ResidentGovernmentEntity ∷ Category.InternationalOrganization ∷ []

-- The category that a text writes, if it does.
abbrev pub category_of : Text → Option Category
category_of = value_named category_text categories

-- How the text says how far the data were corroborated.
abbrev pub validation_text : Validation → Text
validation_text Validation.Pending = codes "PENDING"
validation_text Validation.EntitySuppliedOnly = codes "ENTITY_SUPPLIED_ONLY"
validation_text Validation.PartiallyCorroborated = codes "PARTIALLY_CORROBORATED"
validation_text Validation.FullyCorroborated = codes "FULLY_CORROBORATED"

-- All validations.
abbrev pub validations : List Validation
validations =
    Validation.Pending ∷ Validation.EntitySuppliedOnly ∷ Validation.PartiallyCorroborated
    ∷ Validation.FullyCorroborated ∷ []

-- The validation that a text writes, if it does.
abbrev pub validation_of : Text → Option Validation
validation_of = value_named validation_text validations

-- How the type of a relationship is written: how its start is related to its end.
abbrev pub relation_type_text : RelationType → Text
relation_type_text RelationType.IsDirectlyConsolidatedBy = codes "IS_DIRECTLY_CONSOLIDATED_BY"
relation_type_text RelationType.IsUltimatelyConsolidatedBy = codes "IS_ULTIMATELY_CONSOLIDATED_BY"
relation_type_text RelationType.IsInternationalBranchOf = codes "IS_INTERNATIONAL_BRANCH_OF"
relation_type_text RelationType.IsFundManagedBy = codes "IS_FUND-MANAGED_BY"
relation_type_text RelationType.IsSubfundOf = codes "IS_SUBFUND_OF"
relation_type_text RelationType.IsFeederTo = codes "IS_FEEDER_TO"

-- All types of a relationship.
abbrev pub relation_types : List RelationType
relation_types =
    RelationType.IsDirectlyConsolidatedBy ∷ RelationType.IsUltimatelyConsolidatedBy
    ∷ RelationType.IsInternationalBranchOf ∷ RelationType.IsFundManagedBy
    ∷ RelationType.IsSubfundOf ∷ RelationType.IsFeederTo ∷ []

-- The type of a relationship that a text writes, if it does.
abbrev pub relation_type_of : Text → Option RelationType
relation_type_of = value_named relation_type_text relation_types

-- How the text says whether a relationship holds.
abbrev pub relation_status_text : RelationStatus → Text
relation_status_text RelationStatus.Active = codes "ACTIVE"
relation_status_text RelationStatus.Inactive = codes "INACTIVE"

-- All statuses of a relationship.
abbrev pub relation_statuses : List RelationStatus
relation_statuses =
    RelationStatus.Active ∷ RelationStatus.Inactive ∷ []

-- The status of a relationship that a text writes, if it does.
abbrev pub relation_status_of : Text → Option RelationStatus
relation_status_of = value_named relation_status_text relation_statuses

-- How the registration status of a relationship is written.
abbrev pub relation_registration_text : RelationRegistration → Text
relation_registration_text RelationRegistration.Issued = codes "ISSUED"
relation_registration_text RelationRegistration.Published = codes "PUBLISHED"
relation_registration_text RelationRegistration.Lapsed = codes "LAPSED"
relation_registration_text RelationRegistration.Retired = codes "RETIRED"
relation_registration_text RelationRegistration.Annulled = codes "ANNULLED"

-- All registration statuses of a relationship.
abbrev pub relation_registrations : List RelationRegistration
relation_registrations =
    RelationRegistration.Issued ∷ RelationRegistration.Published ∷ RelationRegistration.Lapsed
    ∷ RelationRegistration.Retired ∷ RelationRegistration.Annulled ∷ []

-- The registration status of a relationship that a text writes, if it does.
abbrev pub relation_registration_of : Text → Option RelationRegistration
relation_registration_of = value_named relation_registration_text relation_registrations

-- How the category of a reporting exception is written: which parent it is about.
abbrev pub exception_category_text : ExceptionCategory → Text
exception_category_text ExceptionCategory.DirectAccountingConsolidationParent =
    codes "DIRECT_ACCOUNTING_CONSOLIDATION_PARENT"
exception_category_text ExceptionCategory.UltimateAccountingConsolidationParent =
    codes "ULTIMATE_ACCOUNTING_CONSOLIDATION_PARENT"

-- All categories of an exception.
abbrev pub exception_categories : List ExceptionCategory
exception_categories =
    ExceptionCategory.DirectAccountingConsolidationParent
    ∷ ExceptionCategory.UltimateAccountingConsolidationParent ∷ []

-- The category of an exception that a text writes, if it does.
abbrev pub exception_category_of : Text → Option ExceptionCategory
exception_category_of = value_named exception_category_text exception_categories

-- How the text says why no parent is reported.
abbrev pub reason_text : Reason → Text
reason_text Reason.NaturalPersons = codes "NATURAL_PERSONS"
reason_text Reason.NonConsolidating = codes "NON_CONSOLIDATING"
reason_text Reason.NoKnownPerson = codes "NO_KNOWN_PERSON"
reason_text Reason.NoLei = codes "NO_LEI"
reason_text Reason.NonPublic = codes "NON_PUBLIC"
reason_text Reason.ConsentNotObtained = codes "CONSENT_NOT_OBTAINED"
reason_text Reason.BindingLegalCommitments = codes "BINDING_LEGAL_COMMITMENTS"
reason_text Reason.LegalObstacles = codes "LEGAL_OBSTACLES"
reason_text Reason.DisclosureDetrimental = codes "DISCLOSURE_DETRIMENTAL"
reason_text Reason.DetrimentNotExcluded = codes "DETRIMENT_NOT_EXCLUDED"

-- All reasons.
abbrev pub reasons : List Reason
reasons =
    Reason.NaturalPersons ∷ Reason.NonConsolidating ∷ Reason.NoKnownPerson ∷ Reason.NoLei
    ∷ Reason.NonPublic ∷ Reason.ConsentNotObtained ∷ Reason.BindingLegalCommitments
    ∷ Reason.LegalObstacles ∷ Reason.DisclosureDetrimental ∷ Reason.DetrimentNotExcluded ∷ []

-- The reason that a text writes, if it does.
abbrev pub reason_of : Text → Option Reason
reason_of = value_named reason_text reasons

-- How the type of a legal entity's event is written.
abbrev pub event_type_text : EventType → Text
event_type_text EventType.ChangeLegalName = codes "CHANGE_LEGAL_NAME"
event_type_text EventType.ChangeLegalAddress = codes "CHANGE_LEGAL_ADDRESS"
event_type_text EventType.ChangeHqAddress = codes "CHANGE_HQ_ADDRESS"
event_type_text EventType.ChangeLegalForm = codes "CHANGE_LEGAL_FORM"
event_type_text EventType.Merger = codes "MERGER"
event_type_text EventType.Liquidation = codes "LIQUIDATION"
event_type_text EventType.Dissolution = codes "DISSOLUTION"
event_type_text EventType.Bankruptcy = codes "BANKRUPTCY"

-- All types of an event.
abbrev pub event_types : List EventType
event_types =
    EventType.ChangeLegalName ∷ EventType.ChangeLegalAddress ∷ EventType.ChangeHqAddress
    ∷ EventType.ChangeLegalForm ∷ EventType.Merger ∷ EventType.Liquidation
    ∷ EventType.Dissolution ∷ EventType.Bankruptcy ∷ []

-- The type of an event that a text writes, if it does.
abbrev pub event_type_of : Text → Option EventType
event_type_of = value_named event_type_text event_types

-- How the text says how far an event has come.
abbrev pub event_status_text : EventStatus → Text
event_status_text EventStatus.InProgress = codes "IN_PROGRESS"
event_status_text EventStatus.Completed = codes "COMPLETED"
event_status_text EventStatus.WithdrawnCancelled = codes "WITHDRAWN_CANCELLED"

-- All statuses of an event.
abbrev pub event_statuses : List EventStatus
event_statuses =
    EventStatus.InProgress ∷ EventStatus.Completed ∷ EventStatus.WithdrawnCancelled ∷ []

-- The status of an event that a text writes, if it does.
abbrev pub event_status_of : Text → Option EventStatus
event_status_of = value_named event_status_text event_statuses
