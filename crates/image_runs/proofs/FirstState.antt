-- The first state of a compiled program's image.
use Rattle.std.proofs.Common.{◌≡◌, ℕ, zero, suc, ◌+◌, ◌^◌, ◌<◌, ◌≤◌, Ok, List, length, refl, ap, ◌∙◌, arith}
use Rattle.std.proofs.lemmas.List.{get_or-take}
use Rattle.image_tables.specs.RoutinePlaces.{routines_begin}
use Rattle.image_runs.specs.Words.{Memory, number_at, next, word, first_cpu, mapped, image_of, ImageContents, sizes_of, text_at, LinearProgram, text_begin, linked, functions_of, funclets_of, plan_of, sites_of, HasWholeImage, first_stack, RoutineView, routines, bounds}
use Rattle.host_model.specs.Loading.{start}
use Rattle.image_link.specs.Fits.{FitsFunction}
use Rattle.image_link.proofs.Bounds.{bounds_least}
use Rattle.image_runs.proofs.Lemmas.{all_at, is, images_are_programs, images_start, may_read_written, word_of}
use Rattle.image_tables.proofs.Shape.{as_long}
use Rattle.image_states.proofs.Data.{stack_writes, stack_zero}
use Rattle.image_runs.proofs.MainStart.{main_is_begun}
use Rattle.image_runs.specs.FirstLaws.{FirstStatesStart, MainsBegin}

-- bytes that are 0 are the number 0
zeros : (byte : ℕ → ℕ) (n a : ℕ) → a + n < 2 ^ 64 → ((x : ℕ) → a ≤ x → x < a + n → byte x ≡ 0)
    → number_at byte n a ≡ 0
unfolding number_at
zeros byte zero a lt h = refl
zeros byte (suc n) a lt h =
    let e : next a ≡ a + 1 = omega arith in
    let rest = zeros byte n (a + 1) (omega arith) (λ x l u. h x (omega arith) (omega arith)) in
    let more : number_at byte n (next a) ≡ 0 = ap (number_at byte n) e ∙ rest in
    let here : byte a ≡ 0 = h a (omega arith) (omega arith) in
    omega arith

module _ (program : LinearProgram) (c : HasWholeImage program) where
  abbrev p : ImageContents
  p = linked program

  abbrev rs : List RoutineView
  rs = routines program

  -- the image's entry point is the first byte of `main`
  entry_is : (image_of p).base + (image_of p).entry ≡ (sites_of program).function program.main
  entry_is =
      let d = is program c.fits in
      let whole = d.whole in
      let main = c.fits.main in
      let long = as_long program c.fits in
      let least = bounds_least (routines_begin program) rs program.main 0 (omega arith) in
      let taken = get_or-take (length program.functions) (bounds (routines_begin program) rs)
      program.main 0 main in
      let text : text_at (sizes_of p) ≡ text_begin program.globals = omega arith in
      omega arith

  abbrev m : Memory
  m = mapped (image_of p)

  returns_to_zero : word m first_stack ≡ Ok 0
  returns_to_zero =
      word_of m first_stack 0 (omega arith) (λ a l u. may_read_written m a
      (stack_writes program c a (omega arith) (omega arith)))
      (zeros m.byte 8 first_stack (omega arith)
      (λ x l u. stack_zero program c x (omega arith) (omega arith)))

pub first_states_start : FirstStatesStart
unfolding start
first_states_start program c bytes arg = record {
  cpu = ap (λ (entry : ℕ). first_cpu entry arg) (entry_is program c);
  memory = images_start program c bytes;
  returns = returns_to_zero program c;
  no_handlers = refl;
}

pub mains_begin : MainsBegin
mains_begin program c bytes made arg main is_main shallow goes =
    main_is_begun (functions_of program) (funclets_of program) program (plan_of program)
    (sites_of program) (images_are_programs program c) made arg main
    (start (image_of (linked program)) arg) is_main
    (all_at FitsFunction program.functions program.main main c.fits.functions is_main).weight
    shallow goes
    (first_states_start program c bytes arg)
