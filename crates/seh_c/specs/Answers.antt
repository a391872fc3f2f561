-- What a call writes and returns, by its answer. Any call may answer that memory is wanting, and
-- then writes nothing.
--
-- `Answers`, `WalkAnswers`, `FunctionAnswers`, `ScopeAnswers`: what a call returns and writes by
-- such an answer; or memory is wanting, and nothing is written.
use Rattle.std.specs.Prelude.{◌≡◌, ◌⊎◌, ℕ, List, Option, Some, None, Ok, Err}
use Rattle.seh_views.specs.declared.c_types.SehFrame.{SehFrame}
use Rattle.seh_views.specs.declared.c_types.SehFunction.{SehFunction}
use Rattle.seh_views.specs.declared.c_types.SehScope.{SehScope}
use Rattle.seh_views.specs.declared.c_types.SehStatus.{SehStatus}
use Rattle.seh_views.specs.declared.refusal.Refusal.TheVariants as refusals
use Rattle.seh_views.specs.declared.step.Step.{Step}
use Rattle.seh_views.specs.Openings.{Answer}
use Rattle.seh_views.specs.Scopes.{Filled}
use Rattle.seh_views.specs.Shapes.{c_frame}
use Rattle.seh_views.specs.Statuses.{ok, no_function, refusal_status}
use Rattle.seh_views.specs.Walks.{Walked}

-- ---- a frame

abbrev pub status_of : {A : Type 0} → Answer A → SehStatus
status_of (Ok x) = ok
status_of (Err e) = refusal_status e

abbrev pub frame_after : SehFrame → Answer Step → SehFrame
frame_after old (Ok f) = c_frame 0 f
frame_after old (Err e) = old

-- a call that answers so
pub record Says (answer : Answer Step) (old new : SehFrame) (given : SehStatus) : Type 0 where
  pub status : given ≡ status_of answer
  pub frame : new ≡ frame_after old answer

-- or memory is wanting, and nothing is written
abbrev pub Answers : Answer Step → SehFrame → SehFrame → SehStatus → Type 0
Answers answer old new given =
    Says answer old new given ⊎ Says (Err refusals.NoMemory) old new given

-- ---- a walk

abbrev pub walk_status : Answer Walked → SehStatus
walk_status (Ok w) = w.status
walk_status (Err e) = refusal_status e

abbrev pub frames_after : List SehFrame → Answer Walked → List SehFrame
frames_after old (Ok w) = w.frames
frames_after old (Err e) = old

abbrev pub count_after : Answer Walked → ℕ
count_after (Ok w) = w.count
count_after (Err e) = 0

pub record SaysWalk (answer : Answer Walked) (old new : List SehFrame) (written : ℕ)
    (given : SehStatus) : Type 0 where
  pub status : given ≡ walk_status answer
  pub frames : new ≡ frames_after old answer
  pub count : written ≡ count_after answer

abbrev pub WalkAnswers : Answer Walked → List SehFrame → List SehFrame → ℕ → SehStatus → Type 0
WalkAnswers answer old new count given =
    SaysWalk answer old new count given ⊎ SaysWalk (Err refusals.NoMemory) old new count given

-- ---- the entry of an address

abbrev pub function_status : Answer (Option SehFunction) → SehStatus
function_status (Ok (Some f)) = ok
function_status (Ok None) = no_function
function_status (Err e) = refusal_status e

abbrev pub function_after : SehFunction → Answer (Option SehFunction) → SehFunction
function_after old (Ok (Some f)) = f
function_after old (Ok None) = old
function_after old (Err e) = old

pub record SaysFunction (answer : Answer (Option SehFunction)) (old new : SehFunction)
    (given : SehStatus) : Type 0 where
  pub status : given ≡ function_status answer
  pub function : new ≡ function_after old answer

abbrev pub FunctionAnswers : Answer (Option SehFunction) → SehFunction → SehFunction → SehStatus
    → Type 0
FunctionAnswers answer old new given =
    SaysFunction answer old new given ⊎ SaysFunction (Err refusals.NoMemory) old new given

-- ---- the scope records that hold an address

abbrev pub scopes_status : Answer Filled → SehStatus
scopes_status (Ok f) = f.status
scopes_status (Err e) = refusal_status e

abbrev pub scopes_after : List SehScope → Answer Filled → List SehScope
scopes_after old (Ok f) = f.scopes
scopes_after old (Err e) = old

abbrev pub scopes_count : Answer Filled → ℕ
scopes_count (Ok f) = f.count
scopes_count (Err e) = 0

pub record SaysScopes (answer : Answer Filled) (old new : List SehScope) (written : ℕ)
    (given : SehStatus) : Type 0 where
  pub status : given ≡ scopes_status answer
  pub scopes : new ≡ scopes_after old answer
  pub count : written ≡ scopes_count answer

abbrev pub ScopeAnswers : Answer Filled → List SehScope → List SehScope → ℕ → SehStatus → Type 0
ScopeAnswers answer old new count given =
    SaysScopes answer old new count given ⊎ SaysScopes (Err refusals.NoMemory) old new count given
