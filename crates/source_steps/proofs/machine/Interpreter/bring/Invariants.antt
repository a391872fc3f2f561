use Rattle.std.proofs.Common.{◌≡◌, List, drop}
use Rattle.seh_num.specs.declared.event.Event.{Event}
use Rattle.c_checked.specs.Program.{Program}
use Rattle.source_meaning.specs.Source.{data_end as model_data_end}
use Rattle.source_machine.specs.Frames.{Next, Plan}
use Rattle.source_machine.specs.Machine.{brought}
use Rattle.source_steps.specs.Machines.{machine_of}
use Rattle.source_steps.proofs.machine.Interpreter.bring.Given as goal

abbrev pub invariant-loop-parameter : goal.invariant-loop-parameter
invariant-loop-parameter l =
    (p : Program) → l.data_end ≡ model_data_end p.globals
    → (plan : Plan) (x : Next) (es : List Event)
    → brought p l.frame.base (drop l.parameter-index l.frame.parameters.items) l.activation plan
    (machine_of l.self x es)
    ≡ brought p l.frame.base l.frame.parameters.items l.activation plan (machine_of l.fn.self x es)
