-- The text of a run: a line for each event that is shown, and one for the end, each with its line
-- feed.
--
-- The main definition: `text`.
use Rattle.std.specs.Prelude.{ℕ, zero, suc, ◌/◌, ◌%◌, ◌==◌, Bool, true, false, if◌then◌else◌, List, [], ◌∷◌, ◌++◌, codes}
use Rattle.std.specs.Prelude.{Option, Some, None}
use Rattle.std.specs.Fmt.{decimal, signed_decimal, digit_glyph}
use Rattle.seh_num.specs.declared.event.Code.{Code}
use Rattle.seh_num.specs.declared.event.Event.{Event}
use Rattle.seh_num.specs.declared.event.Event.TheVariants.{Put, Raise, Filter, Answer, Finally, Except, At}
use Rattle.seh_num.specs.declared.end.Reason.{Reason}
use Rattle.seh_num.specs.declared.end.Reason.TheVariants.{Illegal, BadRecord, Unreadable, Backward, LostFrame}
use Rattle.seh_num.specs.declared.end.RunEnd.{RunEnd}
use Rattle.seh_num.specs.declared.end.RunEnd.TheVariants.{Exit, Unhandled, StackLimit, OutOfTurns, Stopped}
use Rattle.seh_num.specs.declared.code.TheConstants.{ACCESS_VIOLATION}
use Rattle.seh_io.specs.declared.line.TheConstants.{CODE_DIGITS, ADDRESS_DIGITS}

-- the last digits of a number in base 16, so many, in upper case
unfoldable pub hexadecimal : ℕ → ℕ → List ℕ
hexadecimal zero n = []
hexadecimal (suc k) n = hexadecimal k (n / 16) ++ digit_glyph true (n % 16) ∷ []

abbrev pub code_text : Code → List ℕ
code_text code = hexadecimal CODE_DIGITS code.0

abbrev pub address_text : ℕ → List ℕ
address_text address = hexadecimal ADDRESS_DIGITS address

abbrev pub flag_text : Bool → List ℕ
flag_text true = codes "1"
flag_text false = codes "0"

abbrev pub access_text : Option (Bool × ℕ) → List ℕ
access_text None = []
access_text (Some (write, address)) =
    (if write then codes " write " else codes " read ") ++ address_text address

-- the access is written in the line where the exception is an access violation
abbrev pub raise_text : Code → Bool → Option (Bool × ℕ) → List ℕ
raise_text code flag access =
    codes "raise " ++ code_text code ++ codes " " ++ flag_text flag
    ++ (if code.0 == ACCESS_VIOLATION.0 then access_text access else [])

-- what is shown of an event, but for the name of a function
abbrev pub event_text : Event → List ℕ
event_text (Put v) = signed_decimal v
event_text (Raise code flag access) = raise_text code flag access
event_text (Filter k) = codes "filter " ++ decimal k
event_text (Answer v) = codes "answer " ++ signed_decimal v
event_text (Finally k abnormal) = codes "finally " ++ decimal k ++ codes " " ++ flag_text abnormal
event_text (Except code) = codes "except " ++ code_text code
event_text (At number) = codes "at "

-- a line feed ends a line
abbrev pub ended : List ℕ → List ℕ
ended text = text ++ 10 ∷ []

-- an activation is shown by the name of its function, and isn't where that has none
abbrev pub at_line : Option (List ℕ) → List ℕ
at_line (Some name) = ended (codes "at " ++ name)
at_line None = []

-- without a trace only what is put and what a printed walk comes to is shown
abbrev pub line : Bool → Event → (ℕ → Option (List ℕ)) → List ℕ
line trace (Put v) names = ended (event_text (Put v))
line trace (At number) names = at_line (names number)
line true event names = ended (event_text event)
line false event names = []

abbrev pub reason_text : Reason → List ℕ
reason_text Illegal = codes "Illegal"
reason_text BadRecord = codes "BadRecord"
reason_text Unreadable = codes "Unreadable"
reason_text Backward = codes "Backward"
reason_text LostFrame = codes "LostFrame"

abbrev pub end_text : RunEnd → List ℕ
end_text (Exit v) = codes "exit " ++ signed_decimal v
end_text (Unhandled code) = codes "unhandled " ++ code_text code
end_text (StackLimit address) = codes "stack limit " ++ address_text address
end_text (OutOfTurns turns) = codes "out of turns " ++ decimal turns
end_text (Stopped why address) =
    codes "stopped " ++ reason_text why ++ codes " " ++ address_text address

abbrev pub end_line : RunEnd → List ℕ
end_line end = ended (end_text end)

abbrev pub lines : Bool → List Event → (ℕ → Option (List ℕ)) → List ℕ
lines trace [] names = []
lines trace (event ∷ events) names = line trace event names ++ lines trace events names

-- a line for each event that is shown and one for the end, each with its line feed; the names are
-- those of the functions of what ran
abbrev pub text : List Event → RunEnd → Bool → (ℕ → Option (List ℕ)) → List ℕ
text events end trace names = lines trace events names ++ end_line end
