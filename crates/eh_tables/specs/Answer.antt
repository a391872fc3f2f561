-- Answers with a refusal of a table.
use Rattle.std.specs.Prelude.{Result}
use Rattle.eh_tables.specs.declared.refusal.TableErr.{TableErr}

abbrev pub Table : Type 0 → Type 0
Table A = Result A TableErr
