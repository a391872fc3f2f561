-- Outside a filter the code of an expression reads nothing of an exception.
use Rattle.std.proofs.Common.{◌≡◌, ℕ, List, true, false}
use Rattle.std.specs.List.{AllByRecursion}
use Rattle.lowering_invariants.specs.Words.{Expression, Program, Instruction, ExceptionSource, NoException, OfFilter, KeptIn, Names, code_code, expression_code, ExpressionFits, IsBlind}
use Rattle.lowering_invariants.proofs.EveryExpression.{HoldsOfOperations, expression_every}

abbrev pub AllBlind : List Instruction → Type 0
AllBlind code = AllByRecursion IsBlind code

operations_blind : HoldsOfOperations IsBlind
operations_blind = record {
  of_constant = λ d n. tt;
  of_copy = λ to from. tt;
  of_change = λ d o. tt;
  of_combine = λ d o. tt;
  of_load = λ w address to. tt;
  of_place = λ d base. tt;
  of_store = λ access address from to. tt;
  of_jump = λ label. tt;
  of_test = λ d label. tt;
}

-- what GetExceptionCode reads is no filter's exception
abbrev pub IsOutside : ExceptionSource → Type 0
IsOutside NoException = Unit {0}
IsOutside OfFilter = ⊥
IsOutside (KeptIn x) = Unit {0}

code_blind : (s : ExceptionSource) (d : ℕ) → IsOutside s → IsBlind (code_code s d)
code_blind NoException d h = tt
code_blind OfFilter d h = absurd h
code_blind (KeptIn x) d h = tt

not_allowed : false ≡ true → ⊥
not_allowed e = cc

pub expression_blind : (program : Program) (own : ℕ) (names : Names) → IsOutside names.exception
    → (e : Expression) (d at : ℕ) → ExpressionFits program own false e
    → AllBlind (expression_code names e d at)
expression_blind program own names outside e d at f =
    expression_every IsBlind operations_blind program own false names
    (record {
      of_call = λ g first count h. tt;
      of_built_in = λ k first h. tt;
      of_code = λ first. code_blind names.exception first outside;
      of_information = λ field to h. absurd (not_allowed h);
    }) e d at f
