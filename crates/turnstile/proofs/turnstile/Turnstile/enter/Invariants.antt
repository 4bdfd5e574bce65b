use Rattle.turnstile.proofs.turnstile.Turnstile.enter.Given as goal

-- the piece that this answer represents
abbrev pub ghosts-pass_on : goal.ghosts-pass_on
ghosts-pass_on g a = record { piece = g.A.Said.said a.answer.now }
