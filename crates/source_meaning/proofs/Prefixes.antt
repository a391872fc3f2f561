-- Events that are the front of others.
use Rattle.std.proofs.Common.{◌≡◌, List, [], ◌∷◌, ◌++◌, refl, sym, ap, ◌∙◌, append_assoc}
use Rattle.std.proofs.lemmas.List.{append-nil}
use Rattle.source_meaning.specs.Words.{Event, IsPrefixOf}

-- a list is its own front
pub prefix_self : (es : List Event) → IsPrefixOf es es
prefix_self es = ([], append-nil es)

pub prefix_same : (es fs : List Event) → es ≡ fs → IsPrefixOf es fs
prefix_same es fs e = ([], append-nil es ∙ e)

-- the front of a front
pub prefix_then : (es fs gs : List Event) → IsPrefixOf es fs → IsPrefixOf fs gs → IsPrefixOf es gs
prefix_then es fs gs p q =
    (p.0 ++ q.0, sym (append_assoc es p.0 q.0) ∙ ap (λ xs. xs ++ q.0) p.1 ∙ q.1)

-- with one event less
pub prefix_less : (es fs : List Event) (e : Event) → IsPrefixOf (es ++ e ∷ []) fs → IsPrefixOf es fs
prefix_less es fs e p = prefix_then es (es ++ e ∷ []) fs (e ∷ [], refl) p

-- both after the same events
pub prefix_after : (out es fs : List Event) → IsPrefixOf es fs → IsPrefixOf (out ++ es) (out ++ fs)
prefix_after out es fs p = (p.0, append_assoc out es p.0 ∙ ap (λ xs. out ++ xs) p.1)
