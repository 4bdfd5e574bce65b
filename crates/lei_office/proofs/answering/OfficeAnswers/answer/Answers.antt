use Rattle.lei_office.proofs.answering.OfficeAnswers.answer.Goals as goal

pub answer-requires-sync-R : goal.answer-requires-sync-R
answer-requires-sync-R g c κs within = record { shared = c.requires.1.shared }
