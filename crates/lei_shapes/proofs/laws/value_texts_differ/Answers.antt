use Rattle.lei_shapes.specs.Lists.{record_status_text, record_status_of, entity_status_text, entity_status_of, category_text, category_of, validation_text, validation_of, relation_type_text, relation_type_of, relation_status_text, relation_status_of, relation_registration_text, relation_registration_of, exception_category_text, exception_category_of, reason_text, reason_of, event_type_text, event_type_of, event_status_text, event_status_of}
use Rattle.lei_shapes.proofs.ListLemmas.{texts_apart}
use Rattle.lei_shapes.proofs.ValueTexts.{record_status_of-text, entity_status_of-text, category_of-text, validation_of-text, relation_type_of-text, relation_status_of-text, relation_registration_of-text, exception_category_of-text, reason_of-text, event_type_of-text, event_status_of-text}
use Rattle.lei_shapes.proofs.laws.value_texts_differ.Goals as goal

pub returns-clause-record_status : goal.returns-clause-record_status
returns-clause-record_status c = texts_apart record_status_text record_status_of record_status_of-text

pub returns-clause-entity_status : goal.returns-clause-entity_status
returns-clause-entity_status c = texts_apart entity_status_text entity_status_of entity_status_of-text

pub returns-clause-category : goal.returns-clause-category
returns-clause-category c = texts_apart category_text category_of category_of-text

pub returns-clause-validation : goal.returns-clause-validation
returns-clause-validation c = texts_apart validation_text validation_of validation_of-text

pub returns-clause-relation_type : goal.returns-clause-relation_type
returns-clause-relation_type c = texts_apart relation_type_text relation_type_of relation_type_of-text

pub returns-clause-relation_status : goal.returns-clause-relation_status
returns-clause-relation_status c = texts_apart relation_status_text relation_status_of relation_status_of-text

pub returns-clause-relation_registration : goal.returns-clause-relation_registration
returns-clause-relation_registration c = texts_apart relation_registration_text relation_registration_of relation_registration_of-text

pub returns-clause-exception_category : goal.returns-clause-exception_category
returns-clause-exception_category c = texts_apart exception_category_text exception_category_of exception_category_of-text

pub returns-clause-reason : goal.returns-clause-reason
returns-clause-reason c = texts_apart reason_text reason_of reason_of-text

pub returns-clause-event_type : goal.returns-clause-event_type
returns-clause-event_type c = texts_apart event_type_text event_type_of event_type_of-text

pub returns-clause-event_status : goal.returns-clause-event_status
returns-clause-event_status c = texts_apart event_status_text event_status_of event_status_of-text
