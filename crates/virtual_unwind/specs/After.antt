-- A context that a trailing part leaves, where there is one.
use Rattle.std.specs.Prelude.{ℕ, Bool, true, false, List, [], ◌∷◌, Option, Some, None}
use Rattle.flat_memory.specs.Memory.{Memory}
use Rattle.x64_instr.specs.declared.instruction.Instr.{Instr}
use Rattle.x64_machine.specs.declared.context.Context.{Context}
use Rattle.seh_num.specs.Answers.{◌>>=◌}
use Rattle.virtual_unwind.specs.Undone.{Answer}
use Rattle.virtual_unwind.specs.declared.tail.Role.{Role}
use Rattle.virtual_unwind.specs.declared.tail.Role.TheVariants.{Opens, Restores, Ends, Other}
use Rattle.virtual_unwind.specs.Tail.{FetchedInstr, fetched_at, role_of, prepend_instr, left}

abbrev pub after : Memory → Answer Context → Option (List Instr) → Option (Answer Context)
after m a None = None
after m a (Some is) = Some (a >>= left m is)

-- the part that begins at an address: its instruction, its length, and whether it is the last one
abbrev pub Part : Type 0
Part = Instr × ℕ × Bool

abbrev pub opens_if : FetchedInstr → Bool → Option Part
opens_if x true = Some (x.instr, x.size, false)
opens_if x false = None

abbrev pub part_of : Bool → FetchedInstr → Role → Option Part
part_of first x Opens = opens_if x first
part_of first x Restores = Some (x.instr, x.size, false)
part_of first x Ends = Some (x.instr, x.size, true)
part_of first x Other = None

abbrev pub part_from : ℕ → Bool → Option FetchedInstr → Option Part
part_from f first None = None
part_from f first (Some x) = part_of first x (role_of f x.plain x.instr)

abbrev pub part : ℕ → Bool → Memory → ℕ → Option Part
part f first m at = part_from f first (fetched_at m at)

abbrev pub last_or : (ℕ → Option (List Instr)) → Part → Bool → Option (List Instr)
last_or others x true = Some (x.0 ∷ [])
last_or others x false = prepend_instr x.0 (others x.1)

abbrev pub part_or_none : (ℕ → Option (List Instr)) → Option Part → Option (List Instr)
part_or_none others None = None
part_or_none others (Some x) = last_or others x x.2
