-- The bytes that an accepted text's program is linked to are an image of it.
use Rattle.std.proofs.Common.{ℕ, List, refl, subst}
use Rattle.seh.specs.Words.{Program, IsCheckedAs, resolve, lowered, linked}
use Rattle.pe_image.specs.Reading.{IsImage}
use Rattle.pe_write.specs.Program.{ImageContents, CanBeImage, parts_of}
use Rattle.pe_write.specs.Written.{written}
use Rattle.pe_write.proofs.Back.{read_again}
use Rattle.pe_write.proofs.Programs.{can_be_written, image_is}
use Rattle.image_link.specs.Fits.{FitsProgram}
use Rattle.image_tables.specs.OctetLaws.{AreOctets}
use Rattle.image_tables.proofs.GlobalOctets.{resolved_octets}
use Rattle.image_tables.proofs.LinkedOctets.{linked_are_octets}
use Rattle.image_runs.specs.ImageMeaning.{IsImageOf}
use Rattle.image_tables.proofs.Table.{is}
use Rattle.seh.specs.Existence.{ImagesExist}
use Rattle.seh.proofs.Compiled.{accepted_fits, of_checked}

-- the image of a program whose linear code fits
abbrev linked_bytes : Program → List ℕ
linked_bytes p = written (parts_of (linked (lowered p)))

program_has_image : (p : Program) → FitsProgram (lowered p) → AreOctets p.globals
    → IsImageOf (linked_bytes p) p
program_has_image p fits globals =
    let contents : ImageContents = linked (lowered p) in
    let can : CanBeImage contents = is (lowered p) fits in
    record {
      octets = linked_are_octets (lowered p) fits globals;
      written = refl;
      read = subst (IsImage (linked_bytes p)) (image_is contents can)
          (read_again (parts_of contents) (can_be_written contents can));
    }

pub images_exist : ImagesExist
images_exist source whole short accepted =
    let p = (resolve source whole).program in
    let checked : IsCheckedAs source whole p = record { accepted = accepted; resolved = refl } in
    let image = program_has_image p (accepted_fits source whole p short checked)
    (resolved_octets source whole) in
    (linked_bytes p, of_checked source (linked_bytes p) whole p short checked image)
