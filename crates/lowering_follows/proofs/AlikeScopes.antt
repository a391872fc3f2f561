-- What is sound in one scope is lowered in another: in loops, in bodies and blocks of `__try`.
use Rattle.std.proofs.Common.{◌≡◌, ℕ}
use Rattle.std.specs.Prelude.{true, false}
use Rattle.lowering_follows.specs.Words.{Program, Inside, LinearProgram, Names, Nowhere, Jumps, LoweringContext, finally_scope, in_try, in_except, in_guarded, unwound, IsWay, IsPlace, in_loop}
use Rattle.lowering_expressions.specs.declared.scope.Way.TheVariants.{Unwinds}
use Rattle.lowering_expressions.specs.declared.scope.Way.{Way}
use Rattle.lowering_follows.proofs.SoundExpressions.{Knows}

unwound_way : (w : Way) → IsWay w → IsWay (unwound w)
unwound_way Nowhere h = absurd h
unwound_way (Jumps label) h = tt
unwound_way (Unwinds label) h = tt

abbrev pub in_finally : Inside → Inside
in_finally i = record {
  scope = record i.scope { abnormal = true };
  returns = i.returns;
  loop =
      false;
  body = false;
  function = false;
}

module _ (program : Program) (linear : LinearProgram) (rate most own : ℕ) where
  -- what is sound in one scope is lowered in the other
  pub record Alike (i : Inside) (scope : LoweringContext) : Type 0 where
    pub knows : Knows program own false i.scope
    pub exits : i.function ≡ true → IsWay scope.exit
    pub ends : i.loop ≡ true → IsWay scope.loop_end
    pub again : i.loop ≡ true → IsWay scope.loop_next
    pub leaves : i.body ≡ true → IsPlace scope.leave

  pub loop_alike : (i : Inside) (scope : LoweringContext) (end again : ℕ) → Alike i scope
      → Alike (record i { loop = true }) (in_loop end again scope)
  loop_alike i scope end again a =
      record {
        knows = a.knows;
        exits = a.exits;
        ends = λ h. tt;
        again = λ h. tt;
        leaves = a.leaves;
      }

  pub try_alike : (i : Inside) (scope : LoweringContext) (end : ℕ) → Alike i scope
      → Alike (record i { body = true }) (in_try end scope)
  try_alike i scope end a = record {
    knows = a.knows;
    exits = a.exits;
    ends = a.ends;
    again =
        a.again;
    leaves = λ h. tt;
  }

  pub except_alike : (i : Inside) (scope : LoweringContext) → Alike i scope
      → Alike (record i { scope = record i.scope { code = true } }) (in_except scope)
  except_alike i scope a = record {
    knows = record {
      functions = a.knows.functions;
      sizes = a.knows.sizes;
      information = a.knows.information;
    };
    exits = a.exits;
    ends = a.ends;
    again = a.again;
    leaves = a.leaves;
  }

  pub guarded_alike : (i : Inside) (scope : LoweringContext) (end : ℕ) → Alike i scope
      → Alike (record i { body = true }) (in_guarded end scope)
  guarded_alike i scope end a = record {
    knows = a.knows;
    exits = λ h. unwound_way scope.exit (a.exits h);
    ends = λ h. unwound_way scope.loop_end (a.ends h);
    again = λ h. unwound_way scope.loop_next (a.again h);
    leaves = λ h. tt;
  }

  pub finally_alike : (i : Inside) (scope : LoweringContext) (names : Names) → Alike i scope
      → Alike (in_finally i) (finally_scope names)
  finally_alike i scope names a = record {
    knows = record {
      functions = a.knows.functions;
      sizes = a.knows.sizes;
      information =
          a.knows.information;
    };
    exits = λ h. absurd (cc);
    ends = λ h. absurd (cc);
    again = λ h. absurd (cc);
    leaves = λ h. absurd (cc);
  }
