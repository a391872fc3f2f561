use Rattle.seh.specs.Words.{text_limit, IsTextRunAnswer, stream}
use Rattle.seh.proofs.Inputs.{same_input, from_run, refused_input}
use Rattle.seh.proofs.run.run.Goals as goal

pub returns-in-Ok : goal.returns-in-Ok
returns-in-Ok g c =
    from_run _ _ _ _ _ _ c.run_text.result
    (same_input text_limit _ _ _ _ c.deref.ensures.value c.in-Ok.ensures.read) c.run_text.ensures

pub returns-in-Err : goal.returns-in-Err
returns-in-Err g c =
    refused_input text_limit (IsTextRunAnswer c.args.options)
    (stream g.S.Source.left g.S.Source.faults c.args.src.now)
    (stream g.S.Source.left g.S.Source.faults c.read_input.new.src)
    (stream g.O.Sink.taken g.O.Sink.faults c.args.out.now) c.in-Err.refusal
    c.in-Err.ensures.refused
