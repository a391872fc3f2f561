use Rattle.seh.proofs.Compiled.{accepted_fits, of_checked}
use Rattle.seh.proofs.image.compiled_image.Goals as goal

pub linked_image-requires : goal.linked_image-requires
linked_image-requires c = accepted_fits c.args.text.now _ _ c.requires c.in-Ok.ensures.found

pub returns-in-Ok-linked_image-clause-found : goal.returns-in-Ok-linked_image-clause-found
returns-in-Ok-linked_image-clause-found c = of_checked c.args.text.now _ _ _ c.requires
    c.in-Ok.ensures.found c.in-Ok-linked_image.ensures
