-- The frames of every program that can be linked, for checked programs.
use Rattle.image_runs.specs.Words.{lowered}
use Rattle.image_runs.proofs.Lemmas.{lowered_has_regions}
use Rattle.image_tables.specs.FrameLaws.{IsFramed}
use Rattle.image_tables.proofs.Callers.{frames_are_found, parts_are_found, leaves_are_found', thunks_are_found, name_thunks_are_found, adding_stubs_are_found, removing_stubs_are_found, probes_are_found}
use Rattle.image_runs.specs.FrameCallers.{LoweredFindsCallers}

pub lowered_finds_callers : LoweredFindsCallers
lowered_finds_callers program fits =
    let p = lowered program in
    let regions = lowered_has_regions program in
    record {
      functions = λ index x f e s distance there framed entry text here is_there.
          let is_framed : IsFramed p index x f =
          record { fits = fits; there = there; framed = framed } in
          frames_are_found p index x f e s distance is_framed regions entry text here is_there;
      cold_parts = λ index n x f q e s distance there framed part entry text here is_there.
          let is_framed : IsFramed p index x f =
          record { fits = fits; there = there; framed = framed } in
          parts_are_found p index n x f q e s distance is_framed regions part entry text here
          is_there;
      leaves = λ index x e s there frameless inside.
          leaves_are_found' p index x e s fits regions there frameless inside;
      thunks = λ service e s inside. thunks_are_found p service e s fits regions inside;
      names = λ f e s there inside. name_thunks_are_found p f e s fits regions there inside;
      adding = λ f e s there has inside.
          adding_stubs_are_found p f e s fits regions there has inside;
      removing = λ f e s there has inside.
          removing_stubs_are_found p f e s fits regions there has inside;
      probes = λ e s inside. probes_are_found p e s fits regions inside;
    }
