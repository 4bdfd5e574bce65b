use Rattle.register_state.proofs.books.Books.publish_next.Given as goal

abbrev pub ghosts-shelve : goal.ghosts-shelve
ghosts-shelve g a = record { name = a.blank.name; parts = a.blank.parts }
