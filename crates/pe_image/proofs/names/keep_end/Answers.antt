use Rattle.pe_image.proofs.Named.{ends_kept}
use Rattle.pe_image.proofs.names.keep_end.Goals as goal

pub returns-in_ok-insert-in_default : goal.returns-in_ok-insert-in_default
returns-in_ok-insert-in_default c ss before this =
    ends_kept ss c.args.ends.now c.insert.new.self c.args.from c.args.end
    c.in_ok-insert-in_default.ensures.updates.0 before this
