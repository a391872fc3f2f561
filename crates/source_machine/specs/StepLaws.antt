-- What holds of every step of the machine.
use Rattle.std.specs.Prelude.{◌≡◌, ℕ, ◌+◌, ◌*◌, ◌<◌, Bool, true, false, List, [], ◌∷◌}
use Rattle.c_checked.specs.Program.{Program}
use Rattle.source_meaning.specs.State.{state_of}
use Rattle.source_meaning.specs.Meaning.{does}
use Rattle.source_meaning.specs.Laws.{IsPrefixOf}
use Rattle.source_machine.specs.Frames as frames
use Rattle.source_machine.specs.Frames.{OperandFrame, AssignmentFrame, StatementFrame, SequelFrame}
use Rattle.source_machine.specs.Frames.{ContinuationFrame, Operand, Assignment, InStatement, Sequel, Body}
use Rattle.source_machine.specs.Frames.{EndsCall, Lands, Finishes, Next, Over, Give, Start, Begin}
use Rattle.source_machine.specs.Machine.{Machine, step}
use Rattle.source_machine.specs.FrameMeanings.{comes_to}

-- what the machine comes to stays the same
abbrev pub KeepsMeaning : Type 0
KeepsMeaning =
    (program : Program) (m : Machine)
    → comes_to program (does program) (step program m) ≡ comes_to program (does program) m

abbrev pub is_over : Next → Bool
is_over (Over how) = true
is_over next = false

-- ---- how far a machine is from its end: what is done next, and each frame, is worth so much
-- before the next task begins

abbrev pub operand_worth : OperandFrame → ℕ
operand_worth (frames.PassesArgument callee vs es p) = 5
operand_worth (frames.Operates o x p) = 2
operand_worth (frames.EvaluatesIfTrue f p) = 2
operand_worth (frames.EvaluatesIfFalse f p) = 2
operand_worth f = 1

abbrev pub assignment_worth : AssignmentFrame → ℕ
assignment_worth (frames.ReadsPlace l p) = 4
assignment_worth (frames.Extends access) = 1
assignment_worth (frames.EvaluatesAssigned l e p) = 1
assignment_worth (frames.Assigns l a p) = 3
assignment_worth (frames.ReadsCompound k p) = 5
assignment_worth (frames.EvaluatesCompound k a p) = 1
assignment_worth (frames.OperatesCompound k a x p) = 5
assignment_worth (frames.AssignsCompound k a p) = 3
assignment_worth (frames.ReadsStepped k p) = 12
assignment_worth (frames.OperatesStepped k a p) = 8
assignment_worth (frames.AssignsStepped k a x p) = 5
assignment_worth (frames.GivesStepped m x) = 1

abbrev pub statement_worth : StatementFrame → ℕ
statement_worth (frames.IsAnswered level exc p) = 5
statement_worth (frames.EndsVectored place exc p) = 5
statement_worth f = 2

abbrev pub sequel_worth : SequelFrame → ℕ
sequel_worth f = 2

abbrev pub worth : ContinuationFrame → ℕ
worth (Operand f) = operand_worth f
worth (Assignment f) = assignment_worth f
worth (InStatement f) = statement_worth f
worth (Sequel f) = sequel_worth f
worth (Body f) = 3
worth (EndsCall n s part) = 1
worth (Lands held block p) = 2
worth (Finishes k last p) = 1

abbrev pub all_worth : List ContinuationFrame → ℕ
all_worth [] = 0
all_worth (f ∷ fs) = worth f + all_worth fs

abbrev pub next_worth : Next → ℕ
next_worth (Over how) = 0
next_worth (Give how) = 20
next_worth (Start task p) = 1
next_worth (Begin task p) = 40
next_worth (frames.Evaluate n p) = 30
next_worth (frames.Find l p) = 22
next_worth (frames.FindStacked base offset p) = 21
next_worth (frames.Fetch l a p) = 23
next_worth (frames.Put l a v p) = 22
next_worth (frames.Operate o a b p) = 21
next_worth (frames.Pass callee vs es p) = 24
next_worth (frames.Call callee vs p) = 23
next_worth (frames.Proceed ss p) = 21
next_worth (frames.DeclareEach ds p) = 21
next_worth (frames.DeclareName d p) = 22
next_worth (frames.SetLocal x v p) = 21
next_worth (frames.PutStacked v x p) = 21
next_worth (frames.ClearElements v n p) = 21
next_worth (frames.Guard body filter block p) = 21
next_worth (frames.Answer v) = 21
next_worth frames.LetGo = 21
next_worth (frames.AskFrom place exc p) = 22
next_worth (frames.VectoredAnswer v place exc p) = 23
next_worth (frames.Search level exc p) = 21

abbrev pub distance : Machine → ℕ
distance m = 64 * m.state.steps_left + all_worth m.stack + next_worth m.next

abbrev pub Decreases : Type 0
Decreases =
    (program : Program) (m : Machine) → is_over m.next ≡ false
    → distance (step program m) < distance m

-- what was shown stays
abbrev pub Extends : Type 0
Extends =
    (program : Program) (m : Machine) → IsPrefixOf m.state.events (step program m).state.events

-- what was shown is the front of all that is shown
abbrev pub ShowsBefore : Type 0
ShowsBefore =
    (program : Program) (m : Machine)
    → IsPrefixOf m.state.events (state_of (comes_to program (does program) m)).events
