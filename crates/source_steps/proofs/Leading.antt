-- Steps that show nothing, and one more.
use Rattle.std.proofs.Common.{◌≡◌, ap, ◌∙◌, sym}
use Rattle.c_checked.specs.Program.{Program}
use Rattle.source_machine.specs.Machine.{Machine, step}
use Rattle.source_values.specs.Leading.{Leads}
use Rattle.source_values.proofs.Steps.{after_more}
use Rattle.source_steps.specs.Directly.{Led}

pub led_to : (program : Program) (a b c : Machine) → Led program a b → b ≡ c → Led program a c
led_to program a b c l e = record { before = l.before; silent = l.silent; is = l.is ∙ e }

pub led_by : (program : Program) (a b c : Machine) → Leads program a b
    → b.state.events ≡ a.state.events → step program b ≡ c → Led program a c
led_by program a b c l same e = record {
  before = l.steps;
  silent = ap (λ (m : Machine). m.state.events) l.is ∙ same;
  is = sym (after_more program l.steps a) ∙ ap (step program) l.is ∙ e;
}
