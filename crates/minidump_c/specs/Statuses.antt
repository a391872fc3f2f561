-- The statuses of answers, by their codes, and what a call writes by its answer.
--
-- The main definitions: `refusal_status`, `Answers`, `Finds`.
use Rattle.std.specs.Prelude.{◌≡◌, ℕ, Option, Some, None, Result, Ok, Err}
use Rattle.minidump.specs.declared.refusal.DumpErr.{DumpErr}
use Rattle.minidump.specs.declared.refusal.DumpErr.TheVariants as refusals
use Rattle.minidump.specs.declared.stream_kind.StreamKind.{StreamKind}
use Rattle.minidump.specs.Streams.{stream_type}
use Rattle.minidump_c.specs.declared.codes.TheConstants.{OK, HEADER_TRUNCATED, SIGNATURE, VERSION, DIRECTORY_TRUNCATED, STREAM_TRUNCATED, STREAM_SHORT, STRING_TRUNCATED, STRING_ODD, CONTEXT_SHORT, CONTEXT_TRUNCATED, CONTEXT_KIND, RANGE_TRUNCATED, MISSING}
use Rattle.minidump_c.specs.declared.status.SehStatus.{SehStatus}

abbrev pub status : ℕ → ℕ → SehStatus
status code at = record { code = code; at = at; more = 0 }

abbrev pub ok : SehStatus
ok = status OK 0

-- there is no such stream, or no such record
abbrev pub missing : SehStatus
missing = status MISSING 0

abbrev pub of_kind : ℕ → StreamKind → SehStatus
of_kind code kind = status code (stream_type kind)

abbrev pub refusal_status : DumpErr → SehStatus
refusal_status refusals.HeaderTruncated = status HEADER_TRUNCATED 0
refusal_status (refusals.Signature found) = status SIGNATURE found
refusal_status (refusals.Version found) = status VERSION found
refusal_status (refusals.DirectoryTruncated at) = status DIRECTORY_TRUNCATED at
refusal_status (refusals.StreamTruncated kind) = of_kind STREAM_TRUNCATED kind
refusal_status (refusals.StreamShort kind) = of_kind STREAM_SHORT kind
refusal_status (refusals.StringTruncated at) = status STRING_TRUNCATED at
refusal_status (refusals.StringOdd at) = status STRING_ODD at
refusal_status (refusals.ContextShort size) = status CONTEXT_SHORT size
refusal_status (refusals.ContextTruncated at) = status CONTEXT_TRUNCATED at
refusal_status (refusals.ContextKind flags) = status CONTEXT_KIND flags
refusal_status (refusals.RangeTruncated index) = status RANGE_TRUNCATED index

-- ---- the status of an answer, and what is written

abbrev pub status_of : {A : Type 0} → Result (Option A) DumpErr → SehStatus
status_of (Ok (Some x)) = ok
status_of (Ok None) = missing
status_of (Err e) = refusal_status e

-- what is found, else what was there
abbrev pub after : {A : Type 0} → A → Result (Option A) DumpErr → A
after old (Ok (Some x)) = x
after old (Ok None) = old
after old (Err e) = old

-- a call that writes what is found, and nothing where none is
pub record Answers {A : Type 0} (answer : Result (Option A) DumpErr) (old new : A)
    (given : SehStatus) : Type 0 where
  pub status : given ≡ status_of answer
  pub written : new ≡ after old answer

-- where nothing can be refused
abbrev pub Finds : {A : Type 0} → Option A → A → A → SehStatus → Type 0
Finds found old new given = Answers (Ok found) old new given

-- where there always is one, if it isn't refused
abbrev pub some : {A : Type 0} → Result A DumpErr → Result (Option A) DumpErr
some (Ok x) = Ok (Some x)
some (Err e) = Err e
