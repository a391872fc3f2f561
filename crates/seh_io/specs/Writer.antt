-- A writer of text over a sink, which writes nothing more once a write has failed.
use Rattle.std.specs.Prelude.{◌≡◌, ℕ, ◌+◌, Bool, true, false, List, [], ◌++◌, length, Option}
use Rattle.seh_num.specs.declared.event.Event.{Event}
use Rattle.seh_io.specs.declared.receiver.Lines.{Lines}
use Rattle.seh_io.specs.Streams.{Faults, Faultless, Faulted, Grew, HasCount}
use Rattle.seh_io.specs.Text.{lines}

-- whether a write has failed, how many bytes were taken in all, and what is known of its sink: the
-- bytes that it took, and its faults
pub record Writer : Type 0 where
  pub failed : Bool
  pub count : ℕ
  pub taken : Option (List ℕ)
  pub faults : Faults

abbrev pub writer : Bool → ℕ → Option (List ℕ) → Faults → Writer
writer failed count taken faults =
    record { failed = failed; count = count; taken = taken; faults = faults }

-- what `Lines` is, over a sink with these ghost functions
abbrev pub writer_of : {X N : Type 0} → (X → Option (List ℕ)) → (X → Faults) → Lines X N → Writer
writer_of taken faults lines =
    writer lines.failed lines.taken (taken lines.sink.now) (faults lines.sink.now)

-- What became of a text that a writer was given: the sink took a part of it from the front. That is
-- the whole where no write has failed, and nothing where one had failed before. A write that failed
-- was the last one.
pub record Wrote (old : Writer) (text : List ℕ) (new : Writer) : Type 0 where
  pub part : List ℕ
  pub begins : (rest : List ℕ) × (text ≡ part ++ rest)
  pub grew : Grew old.taken part new.taken
  pub whole : new.failed ≡ false → part ≡ text
  pub nothing : old.failed ≡ true → (part ≡ []) × (new.failed ≡ true)
      × (new.faults ≡ old.faults)
  pub cause : old.failed ≡ false → new.failed ≡ true → Faulted old.faults new.faults
  pub faultless : new.failed ≡ false → Faultless old.faults new.faults
  pub counted : HasCount (old.count + length part) new.count

-- what became of a text that a `Lines` was given, over a sink with these ghost functions
abbrev pub PutText : {X N : Type 0} → (X → Option (List ℕ)) → (X → Faults) → Lines X N → List ℕ
    → Lines X N → Type 0
PutText taken faults old text new =
    Wrote (writer_of taken faults old) text (writer_of taken faults new)

-- what a receiver that writes lines did with events: it wrote their lines, and is the same
-- otherwise
pub record TookEvents {X N : Type 0} (taken : X → Option (List ℕ)) (faults : X → Faults)
    (named : N → ℕ → Option (List ℕ)) (old : Lines X N) (events : List Event) (new : Lines X N)
    : Type 0 where
  pub wrote : Wrote (writer_of taken faults old) (lines old.trace events (named old.names.now))
      (writer_of taken faults new)
  pub trace : new.trace ≡ old.trace
  pub names : new.names.now ≡ old.names.now
  pub same_reference : new.sink.ghost_name ≡ old.sink.ghost_name

-- the sink took a part of the text from the front, of so many bytes
pub record TookPart (taken : Option (List ℕ)) (text : List ℕ) (taken' : Option (List ℕ))
    (count : ℕ) : Type 0 where
  pub part : List ℕ
  pub begins : (rest : List ℕ) × (text ≡ part ++ rest)
  pub grew : Grew taken part taken'
  pub counted : HasCount (length part) count

-- a list that lacks no event has gained just these
abbrev pub Kept : Bool → List Event → List Event → Bool → List Event → Type 0
Kept lacks kept events lacks' kept' = lacks' ≡ false → (lacks ≡ false) × (kept' ≡ kept ++ events)
