use Rattle.test_machine.proofs.numbers.steps.Given as goal

abbrev pub ghosts-opens_and_drops : goal.ghosts-opens_and_drops
ghosts-opens_and_drops a = record { name = a.blank.name; parts = a.blank.parts }
