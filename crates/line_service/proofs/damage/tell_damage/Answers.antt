use Rattle.std.proofs.Common.{Err, Ok, inl, refl}
use Rattle.line_service.proofs.damage.tell_damage.Goals as goal

pub returns-in-Ok-clause-stop : goal.returns-in-Ok-clause-stop
returns-in-Ok-clause-stop g c = inl (refl, Ok (tt {0}), c.in-Ok.ensures.written)

pub returns-in-Err-Failed-clause-stop : goal.returns-in-Err-Failed-clause-stop
returns-in-Err-Failed-clause-stop g c = inl (refl, Err (tt {0}), c.in-Err-Failed.ensures.written)
