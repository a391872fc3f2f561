-- The lines of refusals, and how they are reported.
use Rattle.std.specs.Prelude.{◌≡◌, ◌⊎◌, ℕ, List, ◌++◌, codes, Result, Ok, Err}
use Rattle.std.specs.Fmt.{decimal}
use Rattle.seh_io.specs.Streams.{Faulted}
use Rattle.seh_io.specs.Text.{ended}
use Rattle.seh_io.specs.Writer.{TookPart}
use Rattle.c_lex.specs.declared.lexing.LexErr.{LexErr}
use Rattle.c_lex.specs.declared.lexing.LexErr.TheVariants as lexes
use Rattle.c_syntax.specs.declared.limit.Count.{Count}
use Rattle.c_syntax.specs.declared.limit.Count.TheVariants as counts
use Rattle.c_parse_expr.specs.declared.refusal.ParseErr.{ParseErr}
use Rattle.c_parse_expr.specs.declared.refusal.ParseErr.TheVariants as parses
use Rattle.pe_image.specs.declared.refusal.ImageErr.{ImageErr}
use Rattle.pe_image.specs.declared.refusal.ImageErr.TheVariants as images
use Rattle.eh_tables.specs.declared.refusal.TableErr.{TableErr}
use Rattle.eh_tables.specs.declared.refusal.TableErr.TheVariants as tables
use Rattle.eh_tables.specs.Refusals.{refusal_name}
use Rattle.host_model.specs.declared.refusal.LoadErr.{LoadErr}
use Rattle.host_model.specs.declared.refusal.LoadErr.TheVariants as loads
use Rattle.c_resolved.specs.declared.fault.Fault.{Fault}
use Rattle.c_resolved.specs.declared.fault.Fault.TheVariants as faults
use Rattle.c_text.specs.declared.accepting.TextErr.{TextErr}
use Rattle.c_text.specs.declared.accepting.TextErr.TheVariants as texts
use Rattle.seh.specs.declared.outcome.CommandOutcome.{CommandOutcome}
use Rattle.seh.specs.declared.status.Status.{Status}
use Rattle.seh.specs.declared.status.Status.TheVariants as statuses
use Rattle.seh.specs.declared.refusal.Refusal.{Refusal}
use Rattle.seh.specs.declared.refusal.Refusal.TheVariants as refusals
use Rattle.seh.specs.Statuses.{outcome_status}
use Rattle.seh.specs.Streams.{Stream, TookWhole}

-- a name and a number after it
abbrev pub named : List ℕ → ℕ → List ℕ
named name n = name ++ decimal n

abbrev pub lex_text : LexErr → List ℕ
lex_text (lexes.BadByte at) = named (codes "refused BadByte ") at
lex_text (lexes.OpenComment at) = named (codes "refused OpenComment ") at
lex_text (lexes.BadChar at) = named (codes "refused BadChar ") at
lex_text (lexes.BigLiteral at) = named (codes "refused BigLiteral ") at
lex_text lexes.Memory = codes "no memory"

abbrev pub count_text : Count → List ℕ
count_text counts.Locals = codes " locals"
count_text counts.ArrayBytes = codes " arraybytes"
count_text counts.Parameters = codes " parameters"
count_text counts.Functions = codes " functions"
count_text counts.Globals = codes " globals"
count_text counts.Funclets = codes " funclets"

abbrev pub parse_text : ParseErr → List ℕ
parse_text (parses.Unexpected at) = named (codes "refused Unexpected ") at
parse_text (parses.TooDeep at) = named (codes "refused TooDeep ") at
parse_text (parses.TooMany at what) = codes "refused TooMany " ++ decimal at ++ count_text what
parse_text parses.Memory = codes "no memory"

abbrev pub rule_name : Fault → List ℕ
rule_name faults.NoMain = codes "NoMain"
rule_name faults.UnknownName = codes "UnknownName"
rule_name faults.Duplicate = codes "Duplicate"
rule_name faults.NotLvalue = codes "NotLvalue"
rule_name faults.TypeClash = codes "TypeClash"
rule_name faults.ArgCount = codes "ArgCount"
rule_name faults.LeaveOutsideTry = codes "LeaveOutsideTry"
rule_name faults.JumpOutOfFinally = codes "JumpOutOfFinally"
rule_name faults.JumpOutsideLoop = codes "JumpOutsideLoop"
rule_name faults.CodeOutsideFilter = codes "CodeOutsideFilter"
rule_name faults.InfoOutsideFilter = codes "InfoOutsideFilter"
rule_name faults.AbnormalOutsideFinally = codes "AbnormalOutsideFinally"
rule_name faults.BadInitialiser = codes "BadInitialiser"

abbrev pub check_text : ℕ → Fault → List ℕ
check_text at fault = codes "refused " ++ rule_name fault ++ codes " " ++ decimal at

-- the line of a text's refusal
abbrev pub text_line : TextErr → List ℕ
text_line (texts.Lex e) = lex_text e
text_line (texts.Parse e) = parse_text e
text_line (texts.Check at fault) = check_text at fault
text_line texts.Memory = codes "no memory"

abbrev pub image_text : ImageErr → List ℕ
image_text (images.Truncated at) = named (codes "image Truncated ") at
image_text (images.NotPe at) = named (codes "image NotPe ") at
image_text (images.Machine found) = named (codes "image Machine ") found
image_text (images.Magic found) = named (codes "image Magic ") found
image_text (images.Layout section) = named (codes "image Layout ") section
image_text (images.ImportBad index) = named (codes "image ImportBad ") index
image_text images.Memory = codes "no memory"

-- two numbers
abbrev pub number_pair : ℕ → ℕ → List ℕ
number_pair n m = decimal n ++ codes " " ++ decimal m

-- the numbers after the name of a table's refusal
abbrev pub table_numbers : TableErr → List ℕ
table_numbers (tables.Truncated rva) = decimal rva
table_numbers (tables.Misaligned rva) = decimal rva
table_numbers (tables.EmptyRange index) = decimal index
table_numbers (tables.Unsorted index) = decimal index
table_numbers (tables.Version index found) = number_pair index found
table_numbers (tables.Flags index) = decimal index
table_numbers (tables.Op index slot) = number_pair index slot
table_numbers (tables.CodeOrder index slot) = number_pair index slot
table_numbers (tables.ChainLong index) = decimal index
table_numbers (tables.ScopeRange index row) = number_pair index row

abbrev pub table_name : TableErr → List ℕ
table_name e = codes "table " ++ refusal_name e ++ codes " "

abbrev pub table_text : TableErr → List ℕ
table_text e = table_name e ++ table_numbers e

abbrev pub load_text : LoadErr → List ℕ
load_text (loads.Table e) = table_text e
load_text (loads.Place base) = named (codes "load Place ") base
load_text (loads.Import index) = named (codes "load Import ") index
load_text (loads.Entry rva) = named (codes "load Entry ") rva
load_text (loads.Names row) = named (codes "load Names ") row
load_text loads.Memory = codes "no memory"

abbrev pub refusal_text : Refusal → List ℕ
refusal_text refusals.Usage = codes "usage"
refusal_text refusals.ReadFault = codes "read fault"
refusal_text (refusals.TooLong limit) = named (codes "too long ") limit
refusal_text (refusals.Text e) = text_line e
refusal_text (refusals.Image e) = image_text e
refusal_text (refusals.Load e) = load_text e
refusal_text refusals.WriteFault = codes "write fault"
refusal_text refusals.NoMemory = codes "no memory"

abbrev pub text_status : TextErr → Status
text_status (texts.Lex lexes.Memory) = statuses.NoMemory
text_status (texts.Lex e) = statuses.Refused
text_status (texts.Parse parses.Memory) = statuses.NoMemory
text_status (texts.Parse e) = statuses.Refused
text_status (texts.Check at fault) = statuses.Refused
text_status texts.Memory = statuses.NoMemory

abbrev pub refusal_status : Refusal → Status
refusal_status refusals.Usage = statuses.Usage
refusal_status refusals.ReadFault = statuses.ReadFault
refusal_status (refusals.TooLong limit) = statuses.TooLong
refusal_status (refusals.Text e) = text_status e
refusal_status (refusals.Image images.Memory) = statuses.NoMemory
refusal_status (refusals.Image e) = statuses.Image
refusal_status (refusals.Load loads.Memory) = statuses.NoMemory
refusal_status (refusals.Load e) = statuses.Image
refusal_status refusals.WriteFault = statuses.WriteFault
refusal_status refusals.NoMemory = statuses.NoMemory

-- what was carried out is shown by the status alone; a refusal by its line on `err` too, and where
-- that line can't be written the status is that of a write fault, and a part of the line from the
-- front was taken; the write that failed was the last one
abbrev pub Reported : Result CommandOutcome Refusal → Stream → Stream → Status → Type 0
Reported (Ok done) err err' status = (status ≡ outcome_status done) × (err' ≡ err)
Reported (Err r) err err' status =
    ((status ≡ refusal_status r) × TookWhole (ended (refusal_text r)) err err')
    ⊎ ((status ≡ statuses.WriteFault) × Faulted err.faults err'.faults
    × ((count : ℕ) × TookPart err.bytes (ended (refusal_text r)) err'.bytes count))
