-- Where some steps of the machine lead.
--
-- The main definition: `Leads`.
use Rattle.std.specs.Prelude.{◌≡◌, ℕ}
use Rattle.c_checked.specs.Program.{Program}
use Rattle.source_machine.specs.Machine.{Machine}
use Rattle.source_machine.specs.Runs.{after}

-- a machine becomes another in some steps of its own. A value that is found so is where the
-- machine's steps lead from the expression. So the interpreter makes these steps at once, as far as
-- nothing has to wait, and then one more (`Led`, crate `source_steps`), which alone may show
-- events.
pub record Leads (program : Program) (m m' : Machine) : Type 0 where
  pub steps : ℕ
  pub is : after program steps m ≡ m'
