-- Elements between commas are before any other rest too, and in any text that spells their names
-- alike, where each element is.
use Rattle.std.specs.Prelude.{ℕ, List, [], ◌∷◌}
use Rattle.c_syntax.specs.Words.{Punctuator, Token, AreMore, AreSeparated, Phrase}
use Rattle.c_lex.specs.declared.punctuator.Punctuator.TheVariants as punctuators
use Rattle.c_syntax.proofs.Moves.{Moves, map, both, has_punctuator}

abbrev pub EachMoves : {A : Type 0} → (A → List ℕ → Phrase) → Type 0
EachMoves {A = A} Element =
    (x : A) (text : List ℕ) (ts rest : List Token) → Element x text ts rest
    → Moves (Element x) text ts rest

pub more : {A : Type 0} (Element : A → List ℕ → Phrase) (s : Punctuator) (xs : List A)
    (text : List ℕ) (ts rest : List Token) → EachMoves Element
    → AreMore (λ x. Element x text) s xs ts rest
    → Moves (λ t. AreMore (λ x. Element x t) s xs) text ts rest
more Element s [] text ts rest each h = has_punctuator s text ts rest h
more Element s (x ∷ xs) text ts rest each h =
    map
    (both (has_punctuator punctuators.Comma text ts h.after_comma h.comma)
    (both (each x text h.after_comma h.after_element h.element)
    (more Element s xs text h.after_element rest each h.others)))
    (λ t us vs (after_comma, comma, (after_element, element, others)). record {
      after_comma = after_comma;
      after_element = after_element;
      comma = comma;
      element = element;
      others = others;
    })

pub separated : {A : Type 0} (Element : A → List ℕ → Phrase) (s : Punctuator) (xs : List A)
    (text : List ℕ) (ts rest : List Token) → EachMoves Element
    → AreSeparated (λ x. Element x text) s xs ts rest
    → Moves (λ t. AreSeparated (λ x. Element x t) s xs) text ts rest
separated Element s [] text ts rest each h = absurd h
separated Element s (x ∷ xs) text ts rest each h =
    map (both (each x text ts h.0 h.1) (more Element s xs text h.0 rest each h.2))
    (λ t us vs g. (g.0, g.1, g.2))
