-- Beside the code of each part of a program, the locals that have been set where a run comes to
-- each of its instructions: those that are declared there, and the codes and flags of the blocks
-- around.
use Rattle.std.specs.Prelude.{ℕ, suc, ◌+◌, false, List, [], ◌∷◌, ◌++◌, length, map, replicate, get_or, Option, Some, None}
use Rattle.c_checked.specs.Expression.{Expression}
use Rattle.c_checked.specs.Statement.{Declared, Filter, Always, Funclet, Statement, Declare, Block, Evaluate, If, IfElse, For, DoWhile, Return, Break, Continue, Leave, TryExcept, TryFinally, Statements, Empty, Then}
use Rattle.c_checked.specs.Program.{DataFrame, Program, Function}
use Rattle.c_checked.specs.declared.statement.StackedVariable.{StackedVariable}
use Rattle.linear_machine.specs.Frames.{BodyName, FunctionBody, FuncletBody}
use Rattle.lowering_sizes.specs.Sizes.{expression_size, initialiser_size, discarded_size, condition_size, returned_size}
use Rattle.seh_ir.specs.Lowered.{own_locals, first_count}
use Rattle.c_checked.specs.LocalScopes.{SeenNames, with_local, first_seen, after_declared, after_all_declared, after_statement}

-- ---- statements, with the first free local

-- of a number on the data stack, and of an array there, whose rest stands in the first free local
abbrev pub stacked_sets : ℕ → SeenNames → Option ℕ → Option Expression → List SeenNames
stacked_sets free seen None value = replicate (suc (suc (suc (initialiser_size value)))) seen
stacked_sets free seen (Some n) value = seen ∷ replicate 4 (with_local free seen)

abbrev pub declared_at_sets : ℕ → SeenNames → Option StackedVariable → ℕ → Option Expression
    → List SeenNames
declared_at_sets free seen None x value =
    seen ∷ replicate (initialiser_size value) (with_local x seen)
declared_at_sets free seen (Some v) x value = stacked_sets free seen v.elements value

abbrev pub declared_sets : ℕ → SeenNames → Declared → List SeenNames
declared_sets free seen d = declared_at_sets free seen d.stacked d.local d.value

abbrev pub all_declared_sets : ℕ → SeenNames → List Declared → List SeenNames
all_declared_sets free seen [] = []
all_declared_sets free seen (d ∷ ds) =
    declared_sets free seen d ++ all_declared_sets free (after_declared seen d) ds

abbrev mutual
  pub statement_sets : ℕ → SeenNames → Statement → List SeenNames
  statement_sets free seen (Declare d) = declared_sets free seen d
  statement_sets free seen (Block ss) = statements_sets free seen ss
  statement_sets free seen (Evaluate e) = replicate (discarded_size e) seen
  statement_sets free seen (If c s) =
      replicate (suc (expression_size c)) seen ++ statement_sets free seen s
  statement_sets free seen (IfElse c s t) =
      replicate (suc (expression_size c)) seen
      ++ (statement_sets free seen s ++ (seen ∷ (statement_sets free seen t ++ seen ∷ [])))
  statement_sets free seen (For ds first c next s) =
      let inner = after_all_declared seen ds in
      all_declared_sets free seen ds
      ++ (replicate (discarded_size first + condition_size c) inner
      ++ (statement_sets free inner s ++ replicate (suc (discarded_size next + 2)) inner))
  statement_sets free seen (DoWhile s c) =
      statement_sets free seen s ++ replicate (suc (expression_size c + 3)) seen
  statement_sets free seen (Return e) = replicate (returned_size e + 2) seen
  statement_sets free seen Break = replicate 2 seen
  statement_sets free seen Continue = replicate 2 seen
  statement_sets free seen Leave = replicate 1 seen
  -- an `__except` block sees its code
  statement_sets free seen (TryExcept body filter block) =
      let more = with_local free seen in
      statements_sets free seen body
      ++ (seen ∷ (seen ∷ (more ∷ statements_sets (free + 1) more block)))
  statement_sets free seen (TryFinally body k last) =
      statements_sets free seen body ++ replicate 3 seen

  pub statements_sets : ℕ → SeenNames → Statements → List SeenNames
  statements_sets free seen Empty = []
  statements_sets free seen (Then s ss) =
      statement_sets free seen s ++ statements_sets free (after_statement seen s) ss

-- ---- funclets, in the order of their numbers

abbrev pub filter_sets : SeenNames → Filter → List (List SeenNames)
filter_sets seen Always = []
filter_sets seen (Funclet k e) = replicate (suc (expression_size e)) seen ∷ []

-- a `__finally` block sees its flag
abbrev pub finally_sets : ℕ → SeenNames → Statements → List SeenNames
finally_sets free seen last =
    let more = with_local free seen in
    replicate 3 more ++ (statements_sets (free + 1) more last ++ replicate 1 more)

abbrev mutual
  pub statement_funclet_sets : ℕ → SeenNames → Statement → List (List SeenNames)
  statement_funclet_sets free seen (Declare d) = []
  statement_funclet_sets free seen (Block ss) = statements_funclet_sets free seen ss
  statement_funclet_sets free seen (Evaluate e) = []
  statement_funclet_sets free seen (If c s) = statement_funclet_sets free seen s
  statement_funclet_sets free seen (IfElse c s t) =
      statement_funclet_sets free seen s ++ statement_funclet_sets free seen t
  statement_funclet_sets free seen (For ds first c next s) =
      statement_funclet_sets free (after_all_declared seen ds) s
  statement_funclet_sets free seen (DoWhile s c) = statement_funclet_sets free seen s
  statement_funclet_sets free seen (Return e) = []
  statement_funclet_sets free seen Break = []
  statement_funclet_sets free seen Continue = []
  statement_funclet_sets free seen Leave = []
  statement_funclet_sets free seen (TryExcept body filter block) =
      statements_funclet_sets free seen body
      ++ (filter_sets seen filter ++ statements_funclet_sets (free + 1)
      (with_local free seen) block)
  statement_funclet_sets free seen (TryFinally body k last) =
      statements_funclet_sets free seen body
      ++ (finally_sets free seen last ∷ statements_funclet_sets (free + 1)
      (with_local free seen) last)

  pub statements_funclet_sets : ℕ → SeenNames → Statements → List (List SeenNames)
  statements_funclet_sets free seen Empty = []
  statements_funclet_sets free seen (Then s ss) =
      statement_funclet_sets free seen s ++ statements_funclet_sets free (after_statement seen s) ss

-- ---- programs

-- at the separators that a function begins with its parameters are seen
abbrev pub parameters_seen : Function → SeenNames
parameters_seen f = first_seen (length f.parameters) None

-- and in its body its base
abbrev pub function_seen : Function → SeenNames
function_seen f = first_seen (length f.parameters) f.data_frame

-- where its part of the data stack is taken, and its parameters are brought there
abbrev pub open_sets : ℕ → Option DataFrame → List SeenNames
open_sets parameters None = []
open_sets parameters (Some d) =
    first_seen parameters None
    ∷ replicate (length d.parameters) (first_seen parameters (Some d))

-- how many instructions a function ends with
abbrev pub end_size : Option DataFrame → ℕ
end_size None = 2
end_size (Some d) = 3

abbrev pub function_sets : Function → List SeenNames
function_sets f =
    replicate (first_count f) (parameters_seen f)
    ++ (open_sets (length f.parameters) f.data_frame
    ++ (statements_sets (own_locals f) (function_seen f) f.body
    ++ replicate (end_size f.data_frame) (function_seen f)))

abbrev pub all_funclet_sets : List Function → List (List SeenNames)
all_funclet_sets [] = []
all_funclet_sets (f ∷ fs) =
    statements_funclet_sets (own_locals f) (function_seen f) f.body ++ all_funclet_sets fs

abbrev pub list_of : Program → BodyName → List SeenNames
list_of p (FunctionBody f) = get_or (map function_sets p.functions) f []
list_of p (FuncletBody k) = get_or (all_funclet_sets p.functions) k []

abbrev pub none_seen : SeenNames
none_seen x = false

-- past its end nothing is known
abbrev pub set_in : List SeenNames → ℕ → SeenNames
set_in list label = get_or list label none_seen

abbrev pub sets_of : Program → BodyName → ℕ → SeenNames
sets_of p name label = set_in (list_of p name) label
