use Rattle.eh_tables.proofs.tables.Tables.lookup.Given as goal

abbrev pub ghosts-lookup_with : goal.ghosts-lookup_with
ghosts-lookup_with a = record { name = a.blank.name; parts = a.blank.parts }
