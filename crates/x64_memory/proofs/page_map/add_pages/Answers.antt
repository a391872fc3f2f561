use Rattle.std.proofs.Common.{List, ◌++◌, ◌∷◌, [], replicate, append_assoc, ap, ◌∙◌}
use Rattle.std.proofs.lemmas.List.{replicate_more}
use Rattle.x64_memory.specs.Words.{Page, zero_page}
use Rattle.x64_memory.proofs.page_map.add_pages.Goals as goal

pub loop-i-preserved : goal.loop-i-preserved
loop-i-preserved c =
    let old = c.args.pages.now.items in
    let z : Page = zero_page c.args.protection in
    c.in_ok-push.ensures.items ∙ ap (λ (xs : List Page). xs ++ z ∷ []) c.loop-i.invariant
    ∙ append_assoc old (replicate c.loop-i._i z) (z ∷ [])
    ∙ ap (λ (xs : List Page). old ++ xs) (replicate_more c.loop-i._i z)
