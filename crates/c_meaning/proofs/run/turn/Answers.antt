use Rattle.std.proofs.Common.{[], ◌∷◌, ap, sym, ◌∙◌}
use Rattle.std.proofs.lemmas.List.{append-nil}
use Rattle.std.specs.Prelude.{reverse}
use Rattle.source_meaning.specs.State.{walk_events}
use Rattle.source_steps.specs.Functions.{numbers_of}
use Rattle.source_steps.specs.Machines.{machine_of, shown_after}
use Rattle.source_plans.specs.Views as views
use Rattle.source_steps.proofs.Leading.{led_to}
use Rattle.c_meaning.proofs.Reached.{on_err}
use Rattle.c_meaning.proofs.run.turn.Goals as goal

pub returns-in_err-next-clause-nothing : goal.returns-in_err-next-clause-nothing
returns-in_err-next-clause-nothing g c =
    on_err c.from_residual.result (g.met.V.Events.none c.args.to.now)

pub returns-in-Nothing : goal.returns-in-Nothing
returns-in-Nothing g c =
    record {
      turned = record {
        shown = [];
        took_shown = g.met.V.Events.none c.args.to.now;
        stepped =
            λ es. led_to _ _ _ _ (c.in_ok-next.ensures es)
            (ap (machine_of c.step.new.self (views.next_of c.in_ok-next.field-0.next))
            (ap (shown_after c.step.new.self es) c.in-Nothing.is ∙ sym (append-nil es)));
      };
      nothing = tt;
      same = tt;
    }

pub returns-in-One : goal.returns-in-One
returns-in-One g c =
    record {
      turned = record {
        shown = c.in-One.event ∷ [];
        took_shown = c.take.ensures;
        stepped =
            λ es. led_to _ _ _ _ (c.in_ok-next.ensures es)
            (ap (machine_of c.step.new.self (views.next_of c.in_ok-next.field-0.next))
            (ap (shown_after c.step.new.self es) c.in-One.is));
      };
      nothing = tt;
      same = tt;
    }

pub returns-in-Walk : goal.returns-in-Walk
returns-in-Walk g c =
    record {
      turned = record {
        shown = walk_events (reverse (numbers_of c.step.new.self.functions));
        took_shown = c.show_walk.ensures;
        stepped =
            λ es. led_to _ _ _ _ (c.in_ok-next.ensures es)
            (ap (machine_of c.step.new.self (views.next_of c.in_ok-next.field-0.next))
            (ap (shown_after c.step.new.self es) c.in-Walk.is));
      };
      nothing = tt;
      same = tt;
    }
