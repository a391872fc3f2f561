-- What holds of a configuration holds of one that is alike.
use Rattle.std.proofs.Common.{ℕ, List, [], ◌∷◌, ◌∙◌, subst}
use Rattle.lowering_locals.specs.Words.{LinearProgram, AreActivations, HasActivations, owners_of, Waits, Marks, AreActivationsAlike, AlikeHasActivations}
use Rattle.lowering_locals.proofs.Lists.{locals_long}
use Rattle.lowering_locals.proofs.Alike.{is_over}

module _ (program : LinearProgram) where
  stored : (ks : List ℕ) (marks : Marks) (xs ys : List (List ℕ)) → AreActivationsAlike marks xs ys
      → AreActivations program ks xs → AreActivations program ks ys
  stored ks [] [] [] h o = o
  stored ks [] [] (y ∷ ys) h o = absurd h
  stored ks [] (x ∷ xs) ys h o = absurd h
  stored ks (m ∷ marks) [] ys h o = absurd h
  stored ks (m ∷ marks) (x ∷ xs) [] h o = absurd h
  stored [] (m ∷ marks) (x ∷ xs) (y ∷ ys) h o = absurd o
  stored (k ∷ ks) (m ∷ marks) (x ∷ xs) (y ∷ ys) h o = (
    record {
      function = o.0.function;
      there = o.0.there;
      count = locals_long m x y h.0
          ∙ o.0.count;
    },
    stored ks marks xs ys h.1 o.1,
  )

pub has_activations : AlikeHasActivations
has_activations program marks c d a o =
    subst (HasActivations program) (is_over marks c d a)
    (record {
      working = o.working;
      stored = stored program (owners_of (Waits c.frame ∷ c.below))
          marks c.store.activations d.store.activations a.activations o.stored;
    })
