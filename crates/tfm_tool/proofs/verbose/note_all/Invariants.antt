use Rattle.tfm_tool.proofs.verbose.note_all.Given as goal

abbrev pub ghosts-perform_watched : goal.ghosts-perform_watched
ghosts-perform_watched g a = record { name = a.sink.out.ghost_name }
