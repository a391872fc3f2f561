-- What a verdict on an image says of the frames of the image as it is loaded.
use Rattle.std.specs.Prelude.{◌≡◌, ℕ, ◌+◌, ◌^◌, ◌<◌, ◌≤◌, List, Ok, Some}
use Rattle.std.specs.List.{AllByRecursion}
use Rattle.seh_num.specs.declared.size.TheConstants.{LONGEST_INSTRUCTION}
use Rattle.flat_memory.specs.Memory.{Memory, executable}
use Rattle.x64_machine.specs.Contexts.{context_of}
use Rattle.x64_machine.specs.Effect.{State}
use Rattle.pe_image.specs.Image.{Image}
use Rattle.pe_image.specs.Reading.{IsImage}
use Rattle.eh_tables.specs.Tables.{Entry, Tables, TablesAreWhole, directory, entries_of, holding}
use Rattle.virtual_unwind.specs.CallerOf.{distance, caller_of}
use Rattle.frame_rules.specs.Frame.{left_to}
use Rattle.frame_rules.specs.States.{registers, return_address}
use Rattle.frame_rules.specs.Rules.{IsFound}
use Rattle.unwind_check.specs.declared.rule.Verdict.TheVariants.{Yes}
use Rattle.unwind_check.specs.Verdicts.{IsVerdict}
use Rattle.unwind_check.specs.Laws.{IsInEntry}
use Rattle.host_model.specs.Loading.{mapped}
use Rattle.image_code.specs.Code.{code_of}
use Rattle.image_code.specs.Verdicts.{checked_code}

-- the function table of the image that bytes are read as, whole; its base is so low that no address
-- of the image is above 2^63, since each is less than 2^32 bytes from the base
pub record IsTableOf (bytes : List ℕ) (t : Tables) : Type 0 where
  pub octets : AllByRecursion (λ b. b < 256) bytes
  pub read : IsImage bytes t.image
  pub low : t.image.base + 2 ^ 32 ≤ 2 ^ 63
  pub ranges : directory t.image ≡ Ok t.ranges
  pub whole : TablesAreWhole t

-- the executable bytes of a memory are those of a loaded image
abbrev pub HasCodeOf : Memory → Image → Type 0
HasCodeOf m image = (a : ℕ)
    → executable m LONGEST_INSTRUCTION a ≡ executable (mapped image) LONGEST_INSTRUCTION a

-- where the verdict on an image is yes, the caller is found in every state of each entry of the
-- image as it is loaded, as it was at the first byte of the entry's function
abbrev pub YesFindsCallers : Type 0
YesFindsCallers =
    (bytes probe : List ℕ) (t : Tables) (n : ℕ) (entry : Entry) (e s : State) (d : ℕ)
    → IsTableOf bytes t → IsVerdict (checked_code t.image probe) (entries_of t) (Yes n)
    → HasCodeOf s.memory t.image
    → holding (distance t.image.base s.cpu.rip) (entries_of t) ≡ Some entry
    → distance t.image.base s.cpu.rip ≡ entry.range.begin + d
    → s.cpu.rip ≡ t.image.base + entry.range.begin + d
    → IsInEntry (code_of t.image) (entries_of t) entry e s d
    → IsFound (caller_of t s.memory (context_of s.cpu)) (left_to (registers e) (return_address e))
