use Rattle.eh_tables.proofs.tables.Tables.find.Given as goal

abbrev pub ghosts-index_with : goal.ghosts-index_with
ghosts-index_with a = record { name = a.blank.name; parts = a.blank.parts }
