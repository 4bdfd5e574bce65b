use Rattle.lei_hall.proofs.calling.CallerAnswers.answer.Goals as goal

pub put-requires-sync-R : goal.put-requires-sync-R
put-requires-sync-R g c κs within = record { shared = c.requires.1.shared }
