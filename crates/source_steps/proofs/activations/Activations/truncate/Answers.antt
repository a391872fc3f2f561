use Rattle.std.proofs.Common.{ap, sym, ◌∙◌, map}
use Rattle.std.proofs.lemmas.List.{take-map}
use Rattle.source_steps.proofs.activations.Activations.truncate.Goals as goal

pub returns : goal.returns
returns c =
    ap (map (λ locals. locals.items)) c.truncate.ensures.items
    ∙ sym (take-map (λ locals. locals.items) c.args.count c.args.self.now.frames.items)
