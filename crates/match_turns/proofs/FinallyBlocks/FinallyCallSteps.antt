-- The call of a `__finally` block, by what is known of the configuration.
use Rattle.std.proofs.Common.{◌≡◌, ℕ, ◌+◌, Bool, true, false, Some, [], ◌∷◌, ◌++◌, length, refl, ap, ◌∙◌, arith, inl, inr}
use Rattle.std.specs.Prelude.{nat_lt, slice_get}
use Rattle.seh_num.specs.declared.event.Event.TheVariants as events
use Rattle.match_turns.specs.Words.{State, Deep, Instruction, FuncletKind, LinearBody, Waits, Configuration, Finished, Next, pick, with_some, deeper, act, instruction_at, flag_of, begin_finally, IsMatched, LeadsTo, IsFinallyKind, IsInstructionOf, IsFuncletOf, turns_left, IsWellMade, IsKnown, KnownNext, turns_per_step, entry_turns, FlagsFit, SeparatorsFollow, Setting, setting_of, RepresentsAt}
use Rattle.linear_code.specs.declared.instruction.Instruction.TheVariants as instructions
use Rattle.linear_code.specs.declared.program.FuncletKind.TheVariants as funclets
use Rattle.match_turns.proofs.Lemmas.{silently_after, fails_at_once, locals_count, counted_here, code_at, each}
use Rattle.match_turns.proofs.FinallyBlocks.FinallyEntry.{block_leads}
use Rattle.match_turns.proofs.Dispatches.DispatchSpace.{shallow_is}
use Rattle.match_turns.specs.BlockLaws.{BlockCallsAreMatched}
use Rattle.match_turns.proofs.Calls.CallResult.{caller_framed}
use Rattle.match_turns.proofs.FinallyBlocks.FinallyCall as calling

-- a `__finally` block has a flag
pub flag_there : (kind : FuncletKind) → IsFinallyKind kind
    → (flag : ℕ) × (kind ≡ funclets.Finally flag)
flag_there funclets.Filter h = absurd h
flag_there (funclets.Finally flag) h = (flag, refl)

module _ (setting : Setting) (made : IsWellMade setting.program setting.plan)
    (fits : FlagsFit setting.program) (separators : SeparatorsFollow setting.program) where
  open setting use {functions as t, funclets as fs, program, plan as p}

  module _ (s : State) (c : Configuration) (k : ℕ) (b : RepresentsAt setting s c)
      (known : IsKnown program c) (at : instruction_at program c
      ≡ Some (instructions.CallFinally k)) (after : KnownNext program c
      (instructions.CallFinally k)) where
    abbrev i : Instruction
    i = instructions.CallFinally k

    abbrev body : LinearBody
    body = b.body.slots.code

    abbrev here : slice_get body.code c.frame.next ≡ Some i
    here = code_at setting made s c b known i at

    abbrev separator : slice_get body.code (c.frame.next + 1) ≡ Some instructions.Separator
    separator = separators c.frame.body body c.frame.next k b.body.slots.body here

    abbrev block : IsFuncletOf program c.frame.body IsFinallyKind k
    block = each (IsInstructionOf program c.frame.body) body.code c.frame.next i
        (made.whole.bodies c.frame.body body b.body.slots.body).code here

    abbrev flagged : (flag : ℕ) × (block.funclet.kind ≡ funclets.Finally flag)
    flagged = flag_there block.funclet.kind block.fits

    flag_is : flag_of (slice_get program.funclets k) ≡ Some flagged.0
    flag_is = ap flag_of block.there ∙ ap (λ z. flag_of (Some (record block.funclet { kind = z })))
        flagged.1

    framed : p.leaf c.frame.body ≡ false
    framed = caller_framed setting made c.frame.body body c.frame.next i b.body.slots.body here refl

    abbrev next_one : Configuration
    next_one = begin_finally k flagged.0 false c.frame.held (Waits c.frame ∷ c.below) c

    acts_as : (next : Next) → act program i next c
        ≡ deeper 2 c.frame.held c.store c.events (next next_one)
    unfolding with_some
    acts_as next = ap (λ o. with_some c.events o
        (λ flag. deeper 2 c.frame.held c.store c.events
        (next (begin_finally k flag false c.frame.held (Waits c.frame ∷ c.below) c)))) flag_is

    abbrev Goal : Type 0
    Goal = IsMatched t fs program turns_per_step turns_left (RepresentsAt setting) s c i

    abbrev deep : Bool
    deep = nat_lt 1000 (length c.store.activations + c.frame.held + 2)

    too_deep : deep ≡ true → Goal
    unfolding pick
    too_deep e = inr (inr (inr (fails_at_once t fs program turns_left turns_per_step s c i
        (Deep 1001) refl
        (λ next. acts_as next ∙ ap (λ x. pick x (Finished (Deep 1001) c.events) (next next_one))
        e))))

    moves : deep ≡ false → Goal
    unfolding pick
    moves e =
        let counted = counted_here setting made c known in
        let goes = λ (next : Next). acts_as next
        ∙ ap (λ x. pick x (Finished (Deep 1001) c.events) (next next_one)) e in
        let depth : length c.store.activations ≡ length b.body.acts = ap length b.body.store
        ∙ locals_count b.body.acts in
        let few = shallow_is (length c.store.activations + c.frame.held + 2) e in
        let space = b.body.slots.space.space in
        let place = calling.arrives_at setting made.room made.apart s c b counted k
        flagged.0 here separator framed block flagged.1 in
        let u = calling.called setting made.room made.apart s c b counted k flagged.0
        here separator framed block flagged.1 in
        let leads : LeadsTo t fs entry_turns (RepresentsAt setting) u next_one =
        block_leads setting u k flagged.0 c.frame.activation c.frame.held false
        (Waits c.frame ∷ c.below) c.store (c.events ++ events.Finally (k + 1) false ∷ [])
        b.body.acts
        (calling.arrives setting made.room made.apart s c b counted k flagged.0 here separator
        framed block flagged.1) c.frame.body block flag_is fits
        (calling.memory setting made.room made.apart s c b counted k flagged.0 here separator framed
        block flagged.1) b.body.store
        (calling.listed_there setting made.room made.apart s c b counted k flagged.0 here separator
        framed block flagged.1) (omega arith) (omega arith) (λ m sp size. tt)
        (λ g kind. (flagged.0, kind)) (after next_one goes) in
        let most = leads.few in
        inl (record {
          turns = 3 + leads.turns;
          some = omega arith;
          configuration = next_one;
          few = omega arith;
          state = leads.state;
          events = events.Finally (k + 1) false ∷ [];
          comes = silently_after t fs 3 leads.turns s u leads.state
              (events.Finally (k + 1) false ∷ [])
              (calling.comes setting made.room made.apart s c b counted k flagged.0 here separator
              framed block flagged.1) leads.comes;
          acts = goes;
          shown = refl;
          is_there = leads.is_there;
        })

    pub matched : Goal
    matched = by deep refl
      where
        by : (x : Bool) → deep ≡ x → Goal
        by true e = too_deep e
        by false e = moves e

pub block_calls_are_matched : BlockCallsAreMatched
block_calls_are_matched t fs program p q image made fits separators s c k b known at after = matched
    (setting_of t fs program p q image) made fits separators s c k b known at after
