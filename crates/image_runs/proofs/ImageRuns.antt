-- The run of a linked image is that of the machine on its tables.
use Rattle.std.proofs.Common.{◌≡◌, ℕ, ◌+◌, ◌*◌, zero, List, [], refl, sym, ap, subst, ◌∙◌}
use Rattle.std.specs.Prelude.{ℤ, Result, slice_get, get_or, Some}
use Rattle.image_runs.specs.Words.{image_of, Entry, funclets, host, run, machine_of, Program, meaning, LinearFunction, LinearProgram, no_function, HasBytes, MainBegins, lowered, ShowsAll, ShowsNoMore, linked, functions_of, funclets_of, plan_of, sites_of, IsLinkable}
use Rattle.host_model.specs.Machine.{machine}
use Rattle.eh_tables.specs.Tables.{or_none}
use Rattle.host_model.specs.Loading.{start}
use Rattle.pe_image.specs.declared.refusal.ImageErr.{ImageErr}
use Rattle.pe_image.specs.Image.{Image}
use Rattle.pe_image.specs.Reading.{IsImage}
use Rattle.linear_machine.specs.Run as code
use Rattle.image_runs.proofs.Lemmas.{continues, tables_are_read}
use Rattle.image_runs.proofs.FirstState.{mains_begin}
use Rattle.image_runs.proofs.FunctionDepths.{function_is_shallow}
use Rattle.std.proofs.lemmas.Option.{slice_get-get_or}
use Rattle.image_runs.proofs.ImageCode.{lowered_is_compiled}
use Rattle.image_runs.proofs.SoundImages.{lowered_has_image}
use Rattle.image_runs.specs.ImageRuns.{LinkedImagesShowAll, LinkedImagesShowNoMore}
use Rattle.image_runs.proofs.WholeRuns.{images_show_all, images_show_no_more}

module _ (program : Program) (l : IsLinkable program) (bytes : List ℕ)
    (read : IsImage bytes (image_of (linked (lowered program)))) (arg : ℤ) where
  abbrev linear : LinearProgram
  linear = lowered program

  pub machine_is : (m : ℕ) → machine bytes arg m
      ≡ run (functions_of linear) (funclets_of linear) m
      (host (start (image_of (linked linear)) arg)) []
  unfolding machine
  machine_is m =
      let c = lowered_is_compiled program l in
      ap (λ (r : Result Image ImageErr). machine_of r arg m) read
      ∙ ap (λ (es : List Entry). run (functions_of linear) (funclets es) m
      (host (start (image_of (linked linear)) arg)) [])
      (ap or_none (tables_are_read linear c.fits c.ranges))

-- `main`, and that the machine comes to its beginning
module _ (program : Program) (l : IsLinkable program) (octets : HasBytes (lowered program))
    (arg : ℤ) where
  abbrev pub main_of : LinearFunction
  main_of = get_or (lowered program).functions (lowered program).main no_function

  pub main_is : slice_get (lowered program).functions (lowered program).main ≡ Some main_of
  main_is = slice_get-get_or (lowered program).functions (lowered program).main no_function
      l.fits.main

  pub main_begins : MainBegins (functions_of (lowered program)) (funclets_of (lowered program))
      (lowered program) (plan_of (lowered program)) (sites_of (lowered program)) arg main_of
      (start (image_of (linked (lowered program))) arg)
  main_begins =
      let first = code.start (lowered program) arg main_of in
      mains_begin (lowered program) (lowered_is_compiled program l) octets
      (lowered_has_image program l).made arg main_of main_is
      (function_is_shallow program l.sound (lowered program).main main_of main_is)
      (continues program l.sound first (record
      { argument = arg; main = main_of; is_main = main_is; turns = zero; comes = refl }))

pub linked_images_show_all : LinkedImagesShowAll
linked_images_show_all program l reads bytes read octets arg n =
    let linear = lowered program in
    subst (ShowsAll (meaning program arg n)) (sym
    (machine_is program l bytes read arg (256 * n + 256)))
    (images_show_all (functions_of linear) (funclets_of linear) program (plan_of linear)
    (sites_of linear) l.sound reads (lowered_has_image program l) arg
    (main_of program l octets arg) (start (image_of (linked linear)) arg)
    (main_is program l octets arg) (main_begins program l octets arg) n)

pub linked_images_show_no_more : LinkedImagesShowNoMore
linked_images_show_no_more program l reads bytes read octets arg m n enough_steps calm =
    let linear = lowered program in
    subst (ShowsNoMore (meaning program arg n)) (sym (machine_is program l bytes read arg m))
    (images_show_no_more (functions_of linear) (funclets_of linear) program (plan_of linear)
    (sites_of linear) l.sound reads (lowered_has_image program l) arg
    (main_of program l octets arg) (start (image_of (linked linear)) arg)
    (main_is program l octets arg) (main_begins program l octets arg) m n enough_steps calm)
