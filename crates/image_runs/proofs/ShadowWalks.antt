-- At every turn of a compiled image's run the walk gives the shadow.
use Rattle.std.proofs.Common.{◌≡◌, ℕ, zero, ◌+◌, ◌*◌, ◌<◌, ◌≤◌, true, Some, None, Ok, List, [], ◌∷◌, length, get_or, refl, sym, ap, subst, ◌∙◌, arith}
use Rattle.std.specs.Prelude.{ℤ, pos, slice_get}
use Rattle.std.proofs.lemmas.Nat.{mul-le}
use Rattle.std.proofs.lemmas.Option.{slice_get_within}
use Rattle.image_runs.specs.Words.{Shown, RunEnd, Rsp, Rbx, Rbp, Rsi, Rdi, R12, R13, R14, R15, Cpu, Context, context_of, State, register, image_of, Entry, word, Functions, Funclet, funclets, Program, LinearProgram, LinearFunction, FunctionBody, body_of, function_body, lowered, steps_per_turn_of, CanContinue, ReadsNoUnset, context_below, state, ImagePlan, Sites, turns_left, IsProgramImage, linked, steps_per_turn_in, program_of, functions_of, funclets_of, plan_of, sites_of, IsLinkable, first_stack, IsFirst, IsImageOf, Calm, caller_at}
use Rattle.host_model.specs.Machine.{machine}
use Rattle.eh_tables.specs.Tables.{or_none}
use Rattle.host_model.specs.Loading.{start}
use Rattle.linear_machine.specs.Run as code
use Rattle.image_runs.proofs.Lemmas.{continues, word_is, label_in, tables_are_read, steps_per_turn_are_bounded}
use Rattle.match_runs.specs.Shadow.{WalkGives}
use Rattle.match_runs.specs.Shadowed.{first_shadow, WalkGivesShadow}
use Rattle.match_runs.proofs.Shadows.{at_end}
use Rattle.image_runs.proofs.RunMatches as runs
use Rattle.match_bodies.proofs.Walks.BodyCallers.{gives_caller}
use Rattle.match_bodies.proofs.Walks.OwedCallers.{finds_return}
use Rattle.image_runs.specs.MatchLaws.{most_before_main}
use Rattle.image_runs.specs.ShadowWalks.{WalksTheShadow, ImagesWalkTheShadow, CompiledWalkTheShadow, AcceptedWalkTheShadow}
use Rattle.image_runs.proofs.FirstState.{first_states_start}
use Rattle.image_runs.proofs.ImageCode.{lowered_is_compiled}
use Rattle.image_runs.proofs.SoundImages.{lowered_has_image}
use Rattle.image_runs.proofs.WholeRuns.{begins}
use Rattle.image_runs.proofs.ImageRuns.{machine_is, main_of, main_is, main_begins}
use Rattle.image_runs.proofs.ImageMeaning.{octets}
use Rattle.image_runs.proofs.TextImages.{linkable, reads_no_unset}

pub images_walk_the_shadow : ImagesWalkTheShadow
images_walk_the_shadow t fs program p q sound reads image arg main s is_main b walk m n enough_steps
    calm
    none =
    runs.shadow t fs program sound turns_left arg most_before_main m n s (first_shadow s)
    (begins t fs program p q sound reads image arg main s is_main b m) enough_steps calm walk none

-- ---- at the first byte of `main`

module _ (t : Functions) (fs : List Funclet) (program : LinearProgram) (p : ImagePlan) (q : Sites)
    (image : IsProgramImage t fs program p q) (arg : ℤ) (main : LinearFunction) (s : State)
    (is_main : slice_get program.functions program.main ≡ Some main)
    (goes : CanContinue program (code.start program arg main)) (h : IsFirst t fs program p q arg s)
  where
    there : body_of program (FunctionBody program.main) ≡ Some main.body
    there = ap function_body is_main

    some : 0 < length main.body.code
    some = slice_get_within main.body.code 0 goes.instruction
        (label_in (body_of program (FunctionBody program.main)) main.body 0 goes.instruction there
        goes.at)

    -- the walk gives its caller, at RIP 0
    pub first_gives : WalkGives t s (first_shadow s)
    first_gives =
        let sp = register s.cpu Rsp in
        let others = register s.cpu Rbx ∷ register s.cpu Rbp ∷ register s.cpu Rsi ∷ register s.cpu
        Rdi
        ∷ register s.cpu R12 ∷ register s.cpu R13 ∷ register s.cpu R14 ∷ register s.cpu R15 ∷ [] in
        let at : sp ≡ first_stack = ap (λ (c : Cpu). get_or c.registers 4 0) h.cpu in
        let flat : sp + 0 ≡ first_stack = omega arith in
        let returns : word s.memory (sp + 0) ≡ Ok 0 = ap (word s.memory) flat ∙ h.returns in
        let rip : s.cpu.rip ≡ q.function program.main = ap (λ (c : Cpu). c.rip) h.cpu in
        let found = finds_return t s.memory (q.function program.main)
        ((image.callers (FunctionBody program.main) main.body there).entries s.memory
        (λ leaf. some)) (context_of s.cpu) 0 rip refl (omega arith) returns in
        let caller : Context = context_below 0 (sp + 0 + 8) others in
        let up : sp + 0 + 8 ≡ sp + 8 = omega arith in
        let number = word_is s.memory sp 0 (ap (word s.memory) at ∙ h.returns) in
        let same : caller ≡ caller_at s = ap (λ n. context_below 0 n others) up
        ∙ ap (λ v. context_below v (sp + 8) others) (sym number) in
        subst (λ (c : Context). WalkGives t s (c ∷ [])) same
        (gives_caller t s.memory (context_of s.cpu) caller [] found
        (at_end t s.memory (state caller 0) refl))

-- ---- the run of a linked image

module _ (program : Program) (l : IsLinkable program) (reads : ReadsNoUnset (lowered program))
    (bytes : List ℕ) (w : IsImageOf bytes program) (arg : ℤ) (m n : ℕ)
    (enough_steps : (m + 1) * steps_per_turn_of program ≤ n) (calm : Calm program arg n ≡ true)
    (none : (machine bytes arg m).end ≡ None) where
  abbrev linear : LinearProgram
  linear = lowered program

  abbrev first : State
  first = start (image_of (linked linear)) arg

  begins_first : WalkGives (functions_of linear) first (first_shadow first)
  begins_first =
      let main = main_of program l (octets program bytes w) arg in
      let is_main = main_is program l (octets program bytes w) arg in
      let goes = continues program l.sound (code.start linear arg main)
      (record { argument = arg; main = main; is_main = is_main; turns = zero; comes = refl }) in
      first_gives (functions_of linear) (funclets_of linear) linear (plan_of linear)
      (sites_of linear) (lowered_has_image program l).image arg main first is_main goes
      (first_states_start linear (lowered_is_compiled program l) (octets program bytes w) arg)

  gives : WalkGivesShadow (functions_of linear) (funclets_of linear) m first (first_shadow first)
  gives =
      images_walk_the_shadow (functions_of linear) (funclets_of linear) program (plan_of linear)
      (sites_of linear) l.sound reads (lowered_has_image program l) arg
      (main_of program l (octets program bytes w) arg) first
      (main_is program l (octets program bytes w) arg)
      (main_begins program l (octets program bytes w) arg)
      begins_first m n enough_steps calm (ap (λ (x : Shown RunEnd). x.end)
      (sym (machine_is program l bytes w.read arg m)) ∙ none)

  pub linked_walks_the_shadow : WalksTheShadow bytes arg m
  linked_walks_the_shadow =
      let c = lowered_is_compiled program l in
      record {
        image = image_of (linked linear);
        is = w.read;
        gives = subst (λ (es : List Entry). WalkGivesShadow (functions_of linear) (funclets es) m
            first (first_shadow first)) (sym (ap or_none (tables_are_read linear c.fits c.ranges)))
            gives;
      }

pub compiled_walk_the_shadow : CompiledWalkTheShadow
compiled_walk_the_shadow program l reads bytes w arg m n lt enough_steps calm none =
    linked_walks_the_shadow program l reads bytes w (pos arg) m n enough_steps calm none

pub accepted_walk_the_shadow : AcceptedWalkTheShadow
accepted_walk_the_shadow text xs bytes within accepted fits w most few arg m n lt enough_steps calm
    none =
    let slow = steps_per_turn_are_bounded text xs within most few in
    let slower = mul-le (m + 1) (steps_per_turn_of (program_of text xs)) (m + 1)
    (steps_per_turn_in most) (omega arith)
    slow in
    linked_walks_the_shadow (program_of text xs) (linkable text xs within accepted fits)
    (reads_no_unset text xs within accepted) bytes w (pos arg) m n (omega arith) calm none
