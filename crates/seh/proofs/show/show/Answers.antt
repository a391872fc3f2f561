use Rattle.seh.specs.Words.{image_limit, IsShowAnswer, stream}
use Rattle.seh.proofs.Inputs.{same_input, from_shown, refused_input}
use Rattle.seh.proofs.show.show.Goals as goal

pub returns-in-Ok : goal.returns-in-Ok
returns-in-Ok g c =
    from_shown _ _ _ _ _ c.show_image.result
    (same_input image_limit _ _ _ _ c.deref.ensures.value c.in-Ok.ensures.read) c.show_image.ensures

pub returns-in-Err : goal.returns-in-Err
returns-in-Err g c =
    refused_input image_limit IsShowAnswer (stream g.S.Source.left g.S.Source.faults c.args.src.now)
    (stream g.S.Source.left g.S.Source.faults c.read_input.new.src)
    (stream g.O.Sink.taken g.O.Sink.faults c.args.out.now) c.in-Err.refusal
    c.in-Err.ensures.refused
