use Rattle.std.proofs.Common.{ap, sym, ◌∙◌, map}
use Rattle.std.proofs.lemmas.List.{take-map}
use Rattle.source_steps.proofs.functions.LiveFunctions.truncate.Goals as goal

pub returns : goal.returns
returns c =
    ap (map (λ f. f.value)) c.truncate.ensures.items
    ∙ sym (take-map (λ f. f.value) c.args.count c.args.self.now.numbers.items)
