-- A program's run, as the machine's.
use Rattle.std.specs.Prelude.{ℕ, zero, suc, false, [], slice_get, ℤ, None}
use Rattle.c_checked.specs.Program.{Program}
use Rattle.source_meaning.specs.Expressions.{no_exception}
use Rattle.source_meaning.specs.Meaning.{start, main_arguments}
use Rattle.source_machine.specs.Frames.{Defined, Next, Call}
use Rattle.source_machine.specs.Machine.{Machine, step}

-- a machine that has done nothing yet, with n steps of the meaning
abbrev pub beginning : Program → ℕ → Next → Machine
beginning program n next =
    record { state = start program n; handlers = []; stack = []; next = next }

-- one that is to call `main`
abbrev pub first : Program → ℤ → ℕ → Machine
first program arg n =
    beginning program n
    (Call (Defined program.main) (main_arguments (slice_get program.functions program.main) arg)
    (record { activation = 0; data_part = None; exception = no_exception; abnormal = false }))

-- the machine after so many steps of its own
abbrev pub after : Program → ℕ → Machine → Machine
after program zero m = m
after program (suc k) m = after program k (step program m)
