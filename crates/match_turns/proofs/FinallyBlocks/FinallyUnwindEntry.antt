-- A `__finally` block begins that an unwinding runs.
use Rattle.std.proofs.Common.{◌+◌, ◌≤◌, true, List, [], ◌∷◌, ◌++◌, length, ap, arith, refl}
use Rattle.seh_num.specs.declared.event.Event.TheVariants as events
use Rattle.match_turns.specs.Words.{Functions, Funclet, LinearProgram, Waits, Unwinds, context_below, ImagePlan, Sites, IsProgramImage, FlagsFit, BlocksBegin, setting_of, host_list}
use Rattle.match_turns.proofs.Lemmas.{locals_count}
use Rattle.match_turns.proofs.Dispatches.DispatchSpace.{shallow_is, unwind_space}
use Rattle.match_turns.proofs.Funclets.FuncletFrame.{arrives_below}
use Rattle.match_turns.proofs.FinallyBlocks.FinallyEntry.{block_leads}

pub blocks_begin : (t : Functions) (fs : List Funclet) (program : LinearProgram) (p : ImagePlan)
    (q : Sites) → IsProgramImage t fs program p q → FlagsFit program → BlocksBegin t fs program p q
blocks_begin t fs program p q image fits s k flag rest target c acts a flagged memory stored shallow
    typed =
    let items = Unwinds rest target ∷ Waits c.frame ∷ c.below in
    let n : length acts + target.held + 2 ≤ 1000 =
    (let z = shallow_is (length c.store.activations + target.held + 2) shallow in
    omega (arith, ap length stored, locals_count acts)) in
    block_leads (setting_of t fs program p q image) s k flag c.frame.activation target.held true
    items c.store
    (c.events ++ events.Finally (k + 1) true ∷ []) acts
    (arrives_below t fs program p s k c.frame.activation 1 items acts (host_list p c.store) a tt)
    c.frame.body typed.stacked.above.funclet flagged fits memory stored refl
    (unwind_space t fs program p s.memory (context_below a.back a.at []) a.is rest target
    (Waits c.frame ∷ c.below) acts (a.on []).is_there.linked).space n
    (λ m sp size. tt) (λ g kind. (flag, kind)) typed
