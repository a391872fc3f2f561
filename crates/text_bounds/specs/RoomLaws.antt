-- What is claimed of the linear code of every sound program.
use Rattle.std.specs.Prelude.{◌+◌, ◌*◌, ◌≤◌, length}
use Rattle.c_checked.specs.Program.{Program}
use Rattle.c_checked.specs.Sound.{all_funclets, IsSound}
use Rattle.seh_ir.specs.Lowered.{lowered}
use Rattle.image_link.specs.Fits.{text_room, program_tables_room}
use Rattle.text_bounds.specs.Rooms.{functions_room}

-- its code and its tables take no more than the room of its functions, 576 bytes for each function
-- and each filter or `__finally` block, and 1,182 for each function, for its part of the data stack
-- and the separator that one has more that can be a vectored handler
abbrev pub LoweredIsBounded : Type 0
LoweredIsBounded =
    (program : Program) → IsSound program
    → text_room (lowered program) + program_tables_room (lowered program)
    ≤ functions_room program.functions
    + 576 * (length program.functions + length (all_funclets program.functions))
    + 1182 * length program.functions
