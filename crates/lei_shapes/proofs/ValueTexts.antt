-- Each value's text reads as that value, list by list.
use Rattle.std.proofs.Common.{◌≡◌, Some, refl}
use Rattle.lei_shapes.specs.declared.lists.RecordStatus.{RecordStatus}
use Rattle.lei_shapes.specs.declared.lists.EntityStatus.{EntityStatus}
use Rattle.lei_shapes.specs.declared.lists.Category.{Category}
use Rattle.lei_shapes.specs.declared.lists.Validation.{Validation}
use Rattle.lei_shapes.specs.declared.lists.RelationType.{RelationType}
use Rattle.lei_shapes.specs.declared.lists.RelationStatus.{RelationStatus}
use Rattle.lei_shapes.specs.declared.lists.RelationRegistration.{RelationRegistration}
use Rattle.lei_shapes.specs.declared.lists.ExceptionCategory.{ExceptionCategory}
use Rattle.lei_shapes.specs.declared.lists.Reason.{Reason}
use Rattle.lei_shapes.specs.declared.lists.EventType.{EventType}
use Rattle.lei_shapes.specs.declared.lists.EventStatus.{EventStatus}
use Rattle.lei_shapes.specs.Lists.{record_status_text, record_status_of, entity_status_text, entity_status_of, category_text, category_of, validation_text, validation_of, relation_type_text, relation_type_of, relation_status_text, relation_status_of, relation_registration_text, relation_registration_of, exception_category_text, exception_category_of, reason_text, reason_of, event_type_text, event_type_of, event_status_text, event_status_of}

pub record_status_of-text : (value : RecordStatus) → record_status_of (record_status_text value) ≡ Some value
record_status_of-text RecordStatus.Issued = refl
record_status_of-text RecordStatus.Lapsed = refl
record_status_of-text RecordStatus.PendingTransfer = refl
record_status_of-text RecordStatus.PendingArchival = refl
record_status_of-text RecordStatus.Retired = refl
record_status_of-text RecordStatus.Duplicate = refl
record_status_of-text RecordStatus.Annulled = refl

pub entity_status_of-text : (value : EntityStatus) → entity_status_of (entity_status_text value) ≡ Some value
entity_status_of-text EntityStatus.Active = refl
entity_status_of-text EntityStatus.Inactive = refl
entity_status_of-text EntityStatus.Null = refl

pub category_of-text : (value : Category) → category_of (category_text value) ≡ Some value
category_of-text Category.General = refl
category_of-text Category.Branch = refl
category_of-text Category.Fund = refl
category_of-text Category.SoleProprietor = refl
category_of-text Category.ResidentGovernmentEntity = refl
category_of-text Category.InternationalOrganization = refl

pub validation_of-text : (value : Validation) → validation_of (validation_text value) ≡ Some value
validation_of-text Validation.Pending = refl
validation_of-text Validation.EntitySuppliedOnly = refl
validation_of-text Validation.PartiallyCorroborated = refl
validation_of-text Validation.FullyCorroborated = refl

pub relation_type_of-text : (value : RelationType) → relation_type_of (relation_type_text value) ≡ Some value
relation_type_of-text RelationType.IsDirectlyConsolidatedBy = refl
relation_type_of-text RelationType.IsUltimatelyConsolidatedBy = refl
relation_type_of-text RelationType.IsInternationalBranchOf = refl
relation_type_of-text RelationType.IsFundManagedBy = refl
relation_type_of-text RelationType.IsSubfundOf = refl
relation_type_of-text RelationType.IsFeederTo = refl

pub relation_status_of-text : (value : RelationStatus) → relation_status_of (relation_status_text value) ≡ Some value
relation_status_of-text RelationStatus.Active = refl
relation_status_of-text RelationStatus.Inactive = refl

pub relation_registration_of-text : (value : RelationRegistration) → relation_registration_of (relation_registration_text value) ≡ Some value
relation_registration_of-text RelationRegistration.Issued = refl
relation_registration_of-text RelationRegistration.Published = refl
relation_registration_of-text RelationRegistration.Lapsed = refl
relation_registration_of-text RelationRegistration.Retired = refl
relation_registration_of-text RelationRegistration.Annulled = refl

pub exception_category_of-text : (value : ExceptionCategory) → exception_category_of (exception_category_text value) ≡ Some value
exception_category_of-text ExceptionCategory.DirectAccountingConsolidationParent = refl
exception_category_of-text ExceptionCategory.UltimateAccountingConsolidationParent = refl

pub reason_of-text : (value : Reason) → reason_of (reason_text value) ≡ Some value
reason_of-text Reason.NaturalPersons = refl
reason_of-text Reason.NonConsolidating = refl
reason_of-text Reason.NoKnownPerson = refl
reason_of-text Reason.NoLei = refl
reason_of-text Reason.NonPublic = refl
reason_of-text Reason.ConsentNotObtained = refl
reason_of-text Reason.BindingLegalCommitments = refl
reason_of-text Reason.LegalObstacles = refl
reason_of-text Reason.DisclosureDetrimental = refl
reason_of-text Reason.DetrimentNotExcluded = refl

pub event_type_of-text : (value : EventType) → event_type_of (event_type_text value) ≡ Some value
event_type_of-text EventType.ChangeLegalName = refl
event_type_of-text EventType.ChangeLegalAddress = refl
event_type_of-text EventType.ChangeHqAddress = refl
event_type_of-text EventType.ChangeLegalForm = refl
event_type_of-text EventType.Merger = refl
event_type_of-text EventType.Liquidation = refl
event_type_of-text EventType.Dissolution = refl
event_type_of-text EventType.Bankruptcy = refl

pub event_status_of-text : (value : EventStatus) → event_status_of (event_status_text value) ≡ Some value
event_status_of-text EventStatus.InProgress = refl
event_status_of-text EventStatus.Completed = refl
event_status_of-text EventStatus.WithdrawnCancelled = refl
