use Rattle.std.proofs.Common.{refl, sym, ap, ◌∙◌}
use Rattle.x64_emit.specs.Words.{Slot, sizes, fetch, keep}
use Rattle.x64_emit.proofs.TemplateSizes.{temporary_fetched, temporary_kept, local_fetched, local_kept, register_fetched, register_kept, arriving_fetched, arriving_kept}
use Rattle.x64_emit.proofs.sizes.slot_size.Goals as goal

pub returns-in-Temporary-clause-fetched : goal.returns-in-Temporary-clause-fetched
returns-in-Temporary-clause-fetched c = λ to.
    ap (λ (x : Slot). sizes (fetch c.args.layout.now to x)) (c.in-Temporary.is)
    ∙ temporary_fetched c.args.layout.now c.in-Temporary.i c.word_size.result
    c.word_size.ensures.value to

pub returns-in-Temporary-clause-kept : goal.returns-in-Temporary-clause-kept
returns-in-Temporary-clause-kept c =
    ap (λ (x : Slot). sizes (keep c.args.layout.now x)) (c.in-Temporary.is)
    ∙ temporary_kept c.args.layout.now c.in-Temporary.i c.word_size.result
    c.word_size.ensures.value

pub returns-in-None-clause-fetched : goal.returns-in-None-clause-fetched
returns-in-None-clause-fetched c = λ to.
    ap (λ (x : Slot). sizes (fetch c.args.layout.now to x)) (c.in-Local.is)
    ∙ local_fetched c.args.layout.now c.in-Local.i c.word_size-in-None.result _
    (sym c.place.ensures ∙ c.in-InFrame.is) refl c.in-None.is c.word_size-in-None.ensures.value to

pub returns-in-None-clause-kept : goal.returns-in-None-clause-kept
returns-in-None-clause-kept c =
    ap (λ (x : Slot). sizes (keep c.args.layout.now x)) (c.in-Local.is)
    ∙ local_kept c.args.layout.now c.in-Local.i c.word_size-in-None.result _
    (sym c.place.ensures ∙ c.in-InFrame.is) refl c.in-None.is
    c.word_size-in-None.ensures.value

pub returns-in-InRegister-clause-fetched : goal.returns-in-InRegister-clause-fetched
returns-in-InRegister-clause-fetched c = λ to.
    ap (λ (x : Slot). sizes (fetch c.args.layout.now to x)) (c.in-Local.is)
    ∙ register_fetched c.args.layout.now c.in-Local.i _
    (sym c.place.ensures ∙ c.in-InRegister.is) to

pub returns-in-InRegister-clause-kept : goal.returns-in-InRegister-clause-kept
returns-in-InRegister-clause-kept c =
    ap (λ (x : Slot). sizes (keep c.args.layout.now x)) (c.in-Local.is)
    ∙ register_kept c.args.layout.now c.in-Local.i _ (sym c.place.ensures ∙ c.in-InRegister.is)

pub returns-in-Arriving-clause-fetched : goal.returns-in-Arriving-clause-fetched
returns-in-Arriving-clause-fetched c = λ to.
    ap (λ (x : Slot). sizes (fetch c.args.layout.now to x)) (c.in-Local.is)
    ∙ arriving_fetched c.args.layout.now c.in-Local.i (sym c.place.ensures ∙ c.in-Arriving.is) to

pub returns-in-Arriving-clause-kept : goal.returns-in-Arriving-clause-kept
returns-in-Arriving-clause-kept c =
    ap (λ (x : Slot). sizes (keep c.args.layout.now x)) (c.in-Local.is)
    ∙ arriving_kept c.args.layout.now c.in-Local.i (sym c.place.ensures ∙ c.in-Arriving.is)
