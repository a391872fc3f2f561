-- Code that is placed with the sizes of its parts, which were counted before.
use Rattle.std.specs.Prelude.{◌≡◌, ℕ, List, [], ◌∷◌, ◌++◌}
use Rattle.std.specs.Global.{Vec}
use Rattle.c_checked.specs.Statement.{Statement, Statements}
use Rattle.linear_code.specs.declared.instruction.Instruction.{Instruction}
use Rattle.lowering_expressions.specs.Appended.{Places}
use Rattle.lowering_sizes.specs.Parts.{with_parts, with_all_parts}
use Rattle.lowering_sizes.specs.Sizes.{statement_size, statements_size}

-- where the sizes that are needed lie after others, the code is placed and the others are left
abbrev pub PlacesBySizes : Vec ℕ → Vec ℕ → (List ℕ → List ℕ) → Vec Instruction → Vec Instruction
    → (ℕ → List Instruction) → Type 0
PlacesBySizes sizes left needed old new code = (rest : List ℕ) → sizes.items ≡ needed rest
    → Places old new code × (left.items ≡ rest)

-- the sizes that a part needs: its own, and then those of its parts
abbrev pub part : Statement → List ℕ → List ℕ
part s rest = with_parts s rest ++ statement_size s ∷ []

abbrev pub block : Statements → List ℕ → List ℕ
block ss rest = with_all_parts ss rest ++ statements_size ss ∷ []
