use Rattle.upload_format.proofs.threads.map_items.Given as goal

abbrev pub ghosts-map_in_threads : goal.ghosts-map_in_threads
ghosts-map_in_threads g a = record { name = a.blank.name; parts = a.blank.parts }
