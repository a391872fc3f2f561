use Rattle.seh.specs.Answers.{image_limit}
use Rattle.seh.specs.EntryChecks.{IsEntriesAnswer}
use Rattle.seh.specs.Streams.{stream}
use Rattle.seh.proofs.Inputs.{same_input, from_entries, refused_input}
use Rattle.seh.proofs.check_entries.check_entries.Goals as goal

pub returns-in-Ok : goal.returns-in-Ok
returns-in-Ok g c =
    from_entries _ _ _ _ _ c.check_image_entries.result
    (same_input image_limit _ _ _ _ c.deref.ensures.value c.in-Ok.ensures.read)
    c.check_image_entries.ensures

pub returns-in-Err : goal.returns-in-Err
returns-in-Err g c =
    refused_input image_limit IsEntriesAnswer
    (stream g.S.Source.left g.S.Source.faults c.args.src.now)
    (stream g.S.Source.left g.S.Source.faults c.read_input.new.src)
    (stream g.O.Sink.taken g.O.Sink.faults c.args.out.now) c.in-Err.refusal
    c.in-Err.ensures.refused
