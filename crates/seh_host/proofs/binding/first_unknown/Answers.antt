use Rattle.std.proofs.Common.{rules}
use Rattle.std.proofs.lemmas.Iterator.Consumers.{YieldsList-from_first}
use Rattle.std.proofs.lemmas.Iterator.Search.{position_from_yields_List}
use Rattle.seh_host.specs.Words.{Import, imports_of, service_named}
use Rattle.host_model.specs.Loading.{is_none}
use Rattle.seh_host.proofs.binding.first_unknown.Goals as goal

pub returns : goal.returns
returns c =
    position_from_yields_List (λ (i : Import). is_none (service_named i.name)) _ _ c.position.result
    c.position.ensures.ran
    (YieldsList-from_first (λ i. i) (λ i. i) (imports_of c.args.image.now) c.imports.ensures.value)
    (λ i b q called. search rules)
