-- The run of a compiled image passes the states that represent linear code's configurations.
use Rattle.std.proofs.Common.{◌≡◌, inl, zero, refl, subst, ap, [], arith}
use Rattle.std.specs.Prelude.{ℕ, ℤ, slice_get, get_or, Option, Some}
use Rattle.std.proofs.lemmas.Option.{slice_get-get_or}
use Rattle.image_runs.specs.Words.{image_of, State, Program, LinearFunction, LinearProgram, Configuration, with_some, seen, exec, start, lowered, ReadsNoUnset, started_with, turns_left, turns_per_step, no_function, linked, functions_of, funclets_of, plan_of, sites_of, HasBytes, MainBegins, IsLinkable, IsSoundImage, RepresentsWhereSet, IsRunning, ShowsFramesOf, PassesTheFrames, RunsPassTheFrames}
use Rattle.host_model.specs.Loading as images
use Rattle.image_runs.proofs.Lemmas.{continues, agreement_at_start}
use Rattle.image_runs.proofs.FirstState.{mains_begin}
use Rattle.image_runs.proofs.FunctionDepths.{function_is_shallow}
use Rattle.image_runs.proofs.ImageCode.{lowered_is_compiled}
use Rattle.image_runs.proofs.SoundImages.{lowered_has_image}
use Rattle.image_runs.proofs.AgreementFacts.{known}
use Rattle.image_runs.proofs.FirstSeparators.{first_separators_weigh}
use Rattle.image_runs.proofs.AgreementSimulation.{agreement_simulates}
use Rattle.image_runs.proofs.RunStates.{passes}
use Rattle.image_runs.proofs.ReturnFrames.{linked_returns_wait}
use Rattle.image_runs.proofs.StateWalks.{walks_give_the_frames}

module _ (program : Program) (l : IsLinkable program) (reads : ReadsNoUnset (lowered program)) where
  abbrev linear : LinearProgram
  linear = lowered program

  image : IsSoundImage (functions_of linear) (funclets_of linear) linear (plan_of linear)
      (sites_of linear)
  image = lowered_has_image program l

  -- where the machine represents the actual configuration
  shows : (s : State) (c : Configuration) → RepresentsWhereSet (functions_of linear)
      (funclets_of linear)
      linear (plan_of linear) (sites_of linear) s c → ShowsFramesOf program s c
  shows s c r = record {
    actual = r.actual;
    agreement = r.agreement;
    walk = walks_give_the_frames (functions_of linear) (funclets_of linear) linear (plan_of linear)
        (sites_of linear) image.image
        (linked_returns_wait linear (lowered_is_compiled program l)) s r.actual r.is_there
        (known program l.sound reads c r.actual r.agreement);
  }

  module _ (octets : HasBytes linear) (arg : ℤ) (n : ℕ) (running : IsRunning (seen linear arg n))
    where
      abbrev main : LinearFunction
      main = get_or linear.functions linear.main no_function

      is_main : slice_get linear.functions linear.main ≡ Some main
      is_main = slice_get-get_or linear.functions linear.main no_function l.fits.main

      begins : MainBegins (functions_of linear) (funclets_of linear) linear (plan_of linear)
          (sites_of linear) arg main (images.start (image_of (linked linear)) arg)
      begins =
          mains_begin linear (lowered_is_compiled program l) octets image.made arg main is_main
          (function_is_shallow program l.sound linear.main main is_main)
          (continues program l.sound (start linear arg main)
          (record { argument = arg; main = main; is_main = is_main; turns = zero; comes = refl }))

      goes : IsRunning (exec linear n (start linear arg main))
      unfolding with_some
      goes = subst IsRunning (ap (λ (o : Option LinearFunction). with_some [] o
          (λ main. exec linear n (start linear arg main))) is_main) running

      pub passes_the_frames : PassesTheFrames program arg n
      passes_the_frames =
          let b = begins in
          record {
            main = main;
            is_main = is_main;
            turns = b.turns;
            few = (let few = b.few in
                let weighs = first_separators_weigh program linear.main main is_main in
                omega arith);
            state = b.state;
            comes = b.comes;
            passes = passes (functions_of linear) (funclets_of linear) linear turns_per_step
                turns_left
                (λ k. RepresentsWhereSet (functions_of linear) (funclets_of linear) linear
                (plan_of linear)
                (sites_of linear)) (ShowsFramesOf program)
                (agreement_simulates (functions_of linear) (funclets_of linear) program
                (plan_of linear)
                (sites_of linear) l.sound reads image)
                (λ k s c r. shows s c r) n b.state (start linear arg main)
                (record {
                  actual = started_with linear arg main b.values;
                  agreement = agreement_at_start linear arg main b.values is_main b.as_many b.small;
                  is_there = inl b.begins;
                })
                goes;
          }

pub runs_pass_the_frames : RunsPassTheFrames
runs_pass_the_frames program l reads octets arg n running = passes_the_frames program l reads octets
    arg n running
