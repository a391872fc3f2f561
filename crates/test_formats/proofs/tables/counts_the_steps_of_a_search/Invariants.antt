use Rattle.test_formats.proofs.tables.counts_the_steps_of_a_search.Given as goal

abbrev pub ghosts-begin_of : goal.ghosts-begin_of
ghosts-begin_of a b = record { name = b.blank.name; parts = b.blank.parts }
