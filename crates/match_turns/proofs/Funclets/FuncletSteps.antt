-- The steps that call a `__finally` block and return from it, by what is known of configurations.
use Rattle.std.proofs.Common.{◌≡◌, ℕ, zero, suc, ◌<◌, Option, Some, None, List, [], ◌∷◌, length, refl, subst, arith}
use Rattle.std.specs.Prelude.{slice_get, slice_index}
use Rattle.match_turns.specs.Words.{Slot, Local, Temporary, Instruction, LinearProgram, LinearBody, FuncletBody, body_of, Frame, Waits, Configuration, read, local_of, instruction_in, IsHeld, AreWaiting, IsAt, IsBlockOf, Setting, setting_of}
use Rattle.linear_code.specs.declared.instruction.Instruction.TheVariants as instructions
use Rattle.lowering_invariants.specs.Waiting.{IsAbove}
use Rattle.match_turns.proofs.Lemmas.{counted_here, code_at, ready_here}
use Rattle.match_turns.specs.FuncletLaws.{CalledFiltersBegin, CalledBlocksBegin, ReturnsOfBlocksAreMatched}
use Rattle.match_turns.proofs.Filters.FilterEntry.{filters_begin}
use Rattle.match_turns.proofs.FinallyBlocks.FinallyUnwindEntry.{blocks_begin}
use Rattle.match_turns.proofs.Calls.CallResult.{caller_framed}
use Rattle.match_turns.proofs.FinallyBlocks.FinallyCallReturn.{return_of_block}

-- a slot that is held is read
got_within : (vs : List ℕ) (i : ℕ) → i < length vs → slice_get vs i ≡ Some (slice_index vs i)
got_within [] i lt = absurd (omega arith)
got_within (x ∷ vs) zero lt = refl
got_within (x ∷ vs) (suc i) lt = got_within vs i (omega arith)

pub reads_some : (c : Configuration) (from : Slot) → IsHeld (length c.frame.temporaries) from
    → (x : ℕ) × (read c from ≡ Some x)
reads_some c (Local i) h = (local_of c.store c.frame.activation i, refl)
reads_some c (Temporary i) h = (
  slice_index c.frame.temporaries i,
  got_within c.frame.temporaries i h,
)

-- a body that is at an instruction has it
pub record HasInstruction (program : LinearProgram) (w : Frame) (i : Instruction) : Type 0 where
  pub body : LinearBody
  pub there : body_of program w.body ≡ Some body
  pub at : slice_get body.code w.next ≡ Some i

has_instruction : (program : LinearProgram) (w : Frame) (i : Instruction) → IsAt program w i
    → HasInstruction program w i
has_instruction program w i h = by (body_of program w.body) refl h
  where
    by : (o : Option LinearBody) → body_of program w.body ≡ o → instruction_in o w.next ≡ Some i
        → HasInstruction program w i
    by None e h = cc
    by (Some b) e h = record { body = b; there = e; at = h }

pub called_filters_begin : CalledFiltersBegin
called_filters_begin t fs program p q image = filters_begin t fs program p q image

pub called_blocks_begin : CalledBlocksBegin
called_blocks_begin t fs program p q image fits = blocks_begin t fs program p q image fits

pub returns_of_blocks_are_matched : ReturnsOfBlocksAreMatched
returns_of_blocks_are_matched t fs program p q image made s c from b known at called =
    let setting : Setting = setting_of t fs program p q image in
    let counted = counted_here setting made c known in
    let here = code_at setting made s c b known
    (instructions.Return from) at in
    let held = ready_here setting made s c b known
    (instructions.Return from) at in
    let x = reads_some c from held in
    let above : IsBlockOf program called.number c.frame.activation called.body
    × IsAt program called.body (instructions.CallFinally called.number) =
    subst (λ ws. IsAbove program c.frame.exception c.frame.activation (FuncletBody called.number)
    ws) called.below
    (subst (λ name. IsAbove program c.frame.exception c.frame.activation name c.below) called.name
    known.stacked.above) in
    let waits : AreWaiting program (Waits called.body ∷ called.items) = subst (AreWaiting program)
    called.below known.stacked.below in
    let calls = has_instruction program called.body (instructions.CallFinally called.number)
    above.1 in
    return_of_block setting made.room made.apart s c b counted
    called.number
    called.name from here x.0 x.1 called.funclet called.there called.flag called.kind
    called.body called.items called.below calls.body calls.there called.number calls.at
    waits.0.landed
    (caller_framed (setting_of t fs program p q image) made called.body.body calls.body
    called.body.next (instructions.CallFinally called.number) calls.there calls.at refl)
