use Rattle.c_lex.specs.Vocabulary.{is_identifier_byte}
use Rattle.c_lex.proofs.Fronts.{span_shorter}
use Rattle.c_lex.proofs.word.named.Goals as goal

pub slice_bounds-name-count : goal.slice_bounds-name-count
slice_bounds-name-count c =
    rw c.after_identifier-rest.ensures (span_shorter is_identifier_byte c.args.text.now)
