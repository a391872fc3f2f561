-- A run with more turns than a program's steps need shows what the program means.
use Rattle.std.proofs.Common.{◌≡◌, ◌+◌, ◌*◌, ◌-◌, ℕ, zero, suc, ℤ, Bool, true, false, List, ◌++◌, pos, Some, None, refl, ap, sym, subst, ◌∙◌, arith}
use Rattle.seh.specs.Words.{RunEnd, Shown, text, lines, end_line, Program, lowered, machine, end_within, Ended, meaning, resolve, run_end, run_end_of, shown_by, end_by, names_read, names_by, IsCompiled, status_of, meaning_status, Headline, NothingMore, Walks}
use Rattle.seh_num.specs.declared.end.RunEnd.TheVariants as ends
use Rattle.host_model.specs.Laws.{Covers}
use Rattle.host_model.proofs.Longer.{covers_then, images_cover}
use Rattle.source_meaning.specs.declared.ended.Ended.TheVariants as meant
use Rattle.match_runs.specs.Laws.{ShowsNoMore}
use Rattle.std.proofs.lemmas.List.{append_assoc}
use Rattle.c_resolved.proofs.SoundPrograms.{accepted_is_sound}
use Rattle.c_meaning.specs.FunctionNames.{names_of}
use Rattle.image_link.specs.Services.{calls_walk}
use Rattle.image_runs.specs.ImageMeaning.{name_in}
use Rattle.image_runs.proofs.WalkEvents.{meanings_walk_by_calls}
use Rattle.seh.proofs.EventLines.{lines_append, unnamed_lines}

-- an end of both has one status
same_status :
    (ended : Ended) (e : RunEnd)
    → run_end ended ≡ Some e → status_of e ≡ meaning_status ended
same_status (meant.Exit v) e h = let same : ends.Exit v ≡ e = cc in sym (ap status_of same)
same_status (meant.Unhandled c) e h =
    let same : ends.Unhandled c ≡ e = cc in sym (ap status_of same)
same_status (meant.Undefined a) e h = let q : None ≡ Some e = h in absurd cc
same_status (meant.Deep d) e h = let q : None ≡ Some e = h in absurd cc
same_status (meant.OutOfSteps n) e h = let q : None ≡ Some e = h in absurd cc

-- ---- names

same_name : (program : Program) (number : ℕ) → name_in program number ≡ names_of program number
same_name program zero = refl
same_name program (suc k) = refl

module _ (source image : List ℕ) (compiled : IsCompiled source image) where
  abbrev program : Program
  program = (resolve source compiled.whole).program

  -- the image of a program that calls `walk` has the names of its functions
  pub named : calls_walk (lowered program) ≡ true → names_by image ≡ names_of program
  named walks =
      let real = compiled.realises in
      ap names_read real.is
      ∙ (λ i number. (real.names walks number ∙ same_name program number) i)

  -- and no other program shows what is written by names
  pub same_lines : (trace : Bool) (arg n : ℕ)
      → lines trace (meaning program (pos arg) n).events (names_by image)
      ≡ lines trace (meaning program (pos arg) n).events (names_of program)
  same_lines trace arg n = by (calls_walk (lowered program)) refl
    where
      by : (walks : Bool) → calls_walk (lowered program) ≡ walks
          → lines trace (meaning program (pos arg) n).events (names_by image)
          ≡ lines trace (meaning program (pos arg) n).events (names_of program)
      by true e = ap (lines trace (meaning program (pos arg) n).events) (named e)
      by false e =
          let a = compiled.accepted in
          let sound = accepted_is_sound source compiled.whole a.read.within a.rules in
          unnamed_lines trace (meaning program (pos arg) n).events (names_by image)
          (names_of program) (meanings_walk_by_calls program sound e (pos arg) n)

-- ---- the headline

pub headline : Headline
headline source image compiled options arg n low enough =
    let program = (resolve source compiled.whole).program in
    let real = compiled.realises in
    let k = 256 * n + 256 in
    let j = options.turns - k in
    let meant = meaning program (pos arg) n in
    let end = run_end_of meant.end in
    let le = enough.turns in
    let same : k + j ≡ options.turns = omega arith in
    let covers : Covers meant.events end (shown_by options image) =
    subst (λ (m : ℕ). Covers meant.events end (machine image options.argument m)) same
    (subst (λ (a : ℤ). Covers meant.events end (machine image a (k + j))) (sym enough.argument)
    (covers_then meant.events end (machine image (pos arg) k) (machine image (pos arg) (k + j))
    (real.shows arg n low) (images_cover image (pos arg) k j))) in
    let ended : (e : RunEnd) → end ≡ Some e → end_by options image ≡ e =
    λ e is. ap (λ (x : Shown RunEnd). end_within options.turns x.end) (covers.ends e is) in
    let trace = options.trace in
    let named = same_lines source image compiled trace arg n in
    let more = covers.shows.0 in
    let last = end_line (end_by options image) in
    let further = lines trace more (names_by image) in
    record {
      covers = covers;
      begins = (
        further ++ last,
        ap (λ es. lines trace es (names_by image) ++ last) covers.shows.1
            ∙ ap (λ xs. xs ++ last) (lines_append trace meant.events more (names_by image)
            ∙ ap (λ xs. xs ++ further) named)
            ∙ append_assoc (lines trace meant.events (names_of program)) further last,
      );
      ended = ended;
      whole = λ e is. ap (λ (x : Shown RunEnd). text x.events (end_within options.turns x.end)
          trace (names_by image)) (covers.ends e is)
          ∙ ap (λ xs. xs ++ end_line e) named;
      status = λ last e is end_is.
          ap status_of (ended e (ap run_end_of is ∙ end_is)) ∙ same_status last e end_is;
    }

pub nothing_more : NothingMore
nothing_more source image compiled options arg n low same enough_steps calm =
    let program = (resolve source compiled.whole).program in
    subst (λ (a : ℤ). ShowsNoMore (meaning program (pos arg) n) (machine image a options.turns))
    (sym same)
    (compiled.no_more arg options.turns n low enough_steps calm)

pub walks : Walks
walks source image compiled arg turns n low enough_steps calm none =
    compiled.walks arg turns n low enough_steps
    calm none
