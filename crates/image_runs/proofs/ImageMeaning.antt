-- The image of a sound program does what the program means.
use Rattle.std.proofs.Common.{ℕ, ◌<◌, ◌≤◌, List, length, ap, subst, arith}
use Rattle.std.specs.List.{AllByRecursion}
use Rattle.std.specs.Prelude.{pos}
use Rattle.image_runs.specs.Words.{image_of, parts_of, CanBeImage, Program, lowered, linked, HasBytes, IsLinkable, IsImageOf, CompiledRealise, CompiledShowNothingMore}
use Rattle.pe_write.proofs.Back.{written_length}
use Rattle.pe_write.proofs.Programs.{size_is, can_be_written}
use Rattle.image_runs.proofs.Lemmas.{images_are_small, is, images_load}
use Rattle.image_runs.proofs.ImageCode.{lowered_is_compiled}
use Rattle.image_runs.proofs.FunctionNames.{names_functions}
use Rattle.image_runs.proofs.ImageRuns.{linked_images_show_all, linked_images_show_no_more}
use Rattle.host_layout.specs.declared.limit.TheConstants.{MOST_IMAGE}

-- the file is no longer than the image
short : (program : Program) → IsLinkable program → (bytes : List ℕ) → IsImageOf bytes program
    → length bytes ≤ MOST_IMAGE
short program l bytes w =
    let p = linked (lowered program) in
    let q : CanBeImage p = is (lowered program) l.fits in
    let long = written_length (parts_of p) (can_be_written p q) in
    let size = size_is p q in
    let same = ap (λ (xs : List ℕ). length xs) w.written in
    let small = images_are_small (lowered program) l.fits in
    omega arith

pub octets : (program : Program) (bytes : List ℕ) → IsImageOf bytes program
    → HasBytes (lowered program)
octets program bytes w = subst (λ (xs : List ℕ). AllByRecursion (λ b. b < 256) xs) w.written
    w.octets

pub compiled_realise : CompiledRealise
compiled_realise program l reads bytes w = record {
  image = image_of (linked (lowered program));
  is = w.read;
  fits = short program l bytes w;
  loads = images_load (lowered program) (lowered_is_compiled program l);
  shows = λ arg n lt. linked_images_show_all program l reads bytes w.read (octets program bytes w)
      (pos arg) n;
  names = names_functions program l;
}

pub compiled_show_nothing_more : CompiledShowNothingMore
compiled_show_nothing_more program l reads bytes w = λ arg m n lt enough_steps
    calm. linked_images_show_no_more program l reads bytes w.read (octets program bytes w) (pos arg)
    m n enough_steps calm
