-- Which images have the names of functions, by what the program of the text names.
use Rattle.std.specs.Prelude.{◌≡◌, ℕ, true, false, ℤ, List}
use Rattle.std.specs.List.{AllByRecursion}
use Rattle.c_resolved.specs.Program.{resolve}
use Rattle.source_meaning.specs.Meaning.{meaning}
use Rattle.linear_machine.specs.BuiltInCalls.{IsNotAt}
use Rattle.c_meaning.specs.FunctionNames.{names_of}
use Rattle.named_walks.specs.Walks.{names_walk}
use Rattle.seh.specs.Answers.{names_by}
use Rattle.seh.specs.Images.{IsCompiled}

-- where a function of the text names `walk`, the image has for each number the name of the function
-- of that number, and for other numbers none
abbrev pub NamesAreThere : Type 0
NamesAreThere =
    (source image : List ℕ) (compiled : IsCompiled source image)
    → let program = (resolve source compiled.whole).program in
    names_walk program ≡ true → (number : ℕ) → names_by image number ≡ names_of program number

-- where none does, the meaning has no line of a printed walk
abbrev pub OthersShowNoWalk : Type 0
OthersShowNoWalk =
    (source image : List ℕ) (compiled : IsCompiled source image)
    → let program = (resolve source compiled.whole).program in
    names_walk program ≡ false → (arg : ℤ) (n : ℕ)
    → AllByRecursion IsNotAt (meaning program arg n).events
