-- Filters and `__finally` blocks keep their numbers where variables are placed.
use Rattle.std.proofs.Common.{◌≡◌, refl, ap, ◌∙◌}
use Rattle.std.specs.Prelude.{◌∷◌, ◌++◌}
use Rattle.c_checked.specs.Statement as checked
use Rattle.c_resolved.specs.Words.{Layout, place_filter, place_statement, place_statements, filter_funclet, funclets_in, funclets}

same_filter : (l : Layout) (f : checked.Filter) → filter_funclet (place_filter l f) ≡ filter_funclet
    f
same_filter l checked.Always = refl
same_filter l (checked.Funclet k e) = refl

mutual
  same_funclets_in : (l : Layout) (s : checked.Statement)
      → funclets_in (place_statement l s) ≡ funclets_in s
  same_funclets_in l (checked.Declare d) = refl
  same_funclets_in l (checked.Block ss) = same_funclets l ss
  same_funclets_in l (checked.Evaluate e) = refl
  same_funclets_in l (checked.If c s) = same_funclets_in l s
  same_funclets_in l (checked.IfElse c s t) =
      ap (λ w. w ++ funclets_in (place_statement l t)) (same_funclets_in l s)
      ∙ ap (λ w. funclets_in s ++ w) (same_funclets_in l t)
  same_funclets_in l (checked.For ds first c next s) = same_funclets_in l s
  same_funclets_in l (checked.DoWhile s c) = same_funclets_in l s
  same_funclets_in l (checked.Return e) = refl
  same_funclets_in l checked.Break = refl
  same_funclets_in l checked.Continue = refl
  same_funclets_in l checked.Leave = refl
  same_funclets_in l (checked.TryExcept body filter block) =
      ap (λ w. w ++ filter_funclet (place_filter l filter) ++ funclets (place_statements l block))
      (same_funclets l body)
      ∙ ap (λ w. funclets body ++ w ++ funclets (place_statements l block)) (same_filter l filter)
      ∙ ap (λ w. funclets body ++ filter_funclet filter ++ w) (same_funclets l block)
  same_funclets_in l (checked.TryFinally body k last) =
      ap (λ w. w ++ k ∷ funclets (place_statements l last)) (same_funclets l body)
      ∙ ap (λ w. funclets body ++ k ∷ w) (same_funclets l last)

  pub same_funclets : (l : Layout) (ss : checked.Statements)
      → funclets (place_statements l ss) ≡ funclets ss
  same_funclets l checked.Empty = refl
  same_funclets l (checked.Then s ss) =
      ap (λ w. w ++ funclets (place_statements l ss)) (same_funclets_in l s)
      ∙ ap (λ w. funclets_in s ++ w) (same_funclets l ss)
