-- The lines of events: of some and then others, and by which names they are written.
use Rattle.std.proofs.Common.{◌≡◌, ℕ, Bool, true, false, List, [], ◌∷◌, ◌++◌, Option, refl, sym, ap, ◌∙◌}
use Rattle.std.proofs.lemmas.List.{append_assoc}
use Rattle.std.specs.List.{AllByRecursion}
use Rattle.seh_num.specs.declared.event.Event.{Event}
use Rattle.seh_num.specs.declared.event.Event.TheVariants as events
use Rattle.linear_machine.specs.BuiltInCalls.{IsNotAt}
use Rattle.seh_io.specs.Text.{line, lines}

pub lines_append : (trace : Bool) (a b : List Event) (names : ℕ → Option (List ℕ))
    → lines trace (a ++ b) names ≡ lines trace a names ++ lines trace b names
lines_append trace [] b names = refl
lines_append trace (e ∷ a) b names =
    ap (λ xs. line trace e names ++ xs) (lines_append trace a b names)
    ∙ sym (append_assoc (line trace e names) (lines trace a names) (lines trace b names))

-- names matter to a printed walk alone
same_line : (trace : Bool) (e : Event) (names others : ℕ → Option (List ℕ)) → IsNotAt e
    → line trace e names ≡ line trace e others
same_line trace (events.Put v) names others h = refl
same_line trace (events.At k) names others h = absurd h
same_line true (events.Raise code flag access) names others h = refl
same_line true (events.Filter k) names others h = refl
same_line true (events.Answer v) names others h = refl
same_line true (events.Finally k flag) names others h = refl
same_line true (events.Except code) names others h = refl
same_line false (events.Raise code flag access) names others h = refl
same_line false (events.Filter k) names others h = refl
same_line false (events.Answer v) names others h = refl
same_line false (events.Finally k flag) names others h = refl
same_line false (events.Except code) names others h = refl

pub unnamed_lines : (trace : Bool) (es : List Event) (names others : ℕ → Option (List ℕ))
    → AllByRecursion IsNotAt es → lines trace es names ≡ lines trace es others
unnamed_lines trace [] names others h = refl
unnamed_lines trace (e ∷ es) names others h =
    ap (λ xs. xs ++ lines trace es names) (same_line trace e names others h.0)
    ∙ ap (λ xs. line trace e others ++ xs) (unnamed_lines trace es names others h.1)
