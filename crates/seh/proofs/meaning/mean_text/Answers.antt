use Rattle.std.proofs.Common.{rules, w64, FitsSigned}
use Rattle.std.proofs.lemmas.Int.{to_z-of_z}
use Rattle.c_checked.specs.Whole.{program}
use Rattle.seh.proofs.Meanings.{ended_same, grew_same, write_same, memory_same, none_of, fault_of}
use Rattle.seh.proofs.meaning.mean_text.Goals as goal

pub returns-in-Ok-interpret : goal.returns-in-Ok-interpret
returns-in-Ok-interpret g c =
    let fits : FitsSigned w64 c.args.options.argument = search rules in
    let same = to_z-of_z w64 c.args.options.argument fits in
    let p = program c.in-Ok.accepted.checked in (
      p,
      record { declarations = _; checked = c.in-Ok.ensures.found },
      ended_same c.args.options p _ same _ c.in-Ok-interpret.ensures.end,
      record {
        grew = grew_same c.args.options p _ same _ _ c.in-Ok-interpret.ensures.text;
        faultless = c.in-Ok-interpret.ensures.faultless;
      },
    )

pub returns-in-Err-Write : goal.returns-in-Err-Write
returns-in-Err-Write g c =
    let fits : FitsSigned w64 c.args.options.argument = search rules in
    let same = to_z-of_z w64 c.args.options.argument fits in
    let p = program c.in-Ok.accepted.checked in
    let e = c.in-Err-Write in (
      p,
      record { declarations = _; checked = c.in-Ok.ensures.found },
      (
        fault_of e.field-0 e.field-0-0 e.field-0-is _ _ e.ensures.cause,
        (
          e.field-0-0,
          write_same c.args.options p _ same e.field-0 e.field-0-0 e.field-0-is _ _
              e.ensures.part,
        ),
      ),
    )

pub returns : goal.returns
returns g c =
    let fits : FitsSigned w64 c.args.options.argument = search rules in
    let same = to_z-of_z w64 c.args.options.argument fits in
    let p = program c.in-Ok.accepted.checked in
    let e = c.in-Err-Memory in
    memory_same c.args.options p _ same e.field-0 e.field-0-is c.args.text.now _ _
    (record { declarations = _; checked = c.in-Ok.ensures.found }) e.ensures.part
    (none_of e.field-0 e.field-0-is _ _ e.ensures.cause)
