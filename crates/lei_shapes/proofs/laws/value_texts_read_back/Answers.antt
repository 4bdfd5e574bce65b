use Rattle.lei_shapes.proofs.ValueTexts.{record_status_of-text, entity_status_of-text, category_of-text, validation_of-text, relation_type_of-text, relation_status_of-text, relation_registration_of-text, exception_category_of-text, reason_of-text, event_type_of-text, event_status_of-text}
use Rattle.lei_shapes.proofs.laws.value_texts_read_back.Goals as goal

pub returns-clause-record_status : goal.returns-clause-record_status
returns-clause-record_status c = record_status_of-text

pub returns-clause-entity_status : goal.returns-clause-entity_status
returns-clause-entity_status c = entity_status_of-text

pub returns-clause-category : goal.returns-clause-category
returns-clause-category c = category_of-text

pub returns-clause-validation : goal.returns-clause-validation
returns-clause-validation c = validation_of-text

pub returns-clause-relation_type : goal.returns-clause-relation_type
returns-clause-relation_type c = relation_type_of-text

pub returns-clause-relation_status : goal.returns-clause-relation_status
returns-clause-relation_status c = relation_status_of-text

pub returns-clause-relation_registration : goal.returns-clause-relation_registration
returns-clause-relation_registration c = relation_registration_of-text

pub returns-clause-exception_category : goal.returns-clause-exception_category
returns-clause-exception_category c = exception_category_of-text

pub returns-clause-reason : goal.returns-clause-reason
returns-clause-reason c = reason_of-text

pub returns-clause-event_type : goal.returns-clause-event_type
returns-clause-event_type c = event_type_of-text

pub returns-clause-event_status : goal.returns-clause-event_status
returns-clause-event_status c = event_status_of-text
