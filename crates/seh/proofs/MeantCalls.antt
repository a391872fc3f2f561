-- What is compiled and run is what the text means, call by call.
use Rattle.std.proofs.Common.{◌≡◌, ◌⊎◌, inl, inr, ◌≤◌, ℕ, pos, length, List, [], ◌∷◌, ◌++◌, Bool, Option, Some, None, refl, sym, ap, subst, ◌∙◌}
use Rattle.seh.specs.Words.{text_limit, Shown, RunEnd, Grew, text, lines, end_line, Program, resolve, meaning, Ended, run_end, run_end_of, RunOptions, end_by, text_by, Call, Asks, Gave, WantedMemory, EndsWithin, GaveMeaning, LastLinesAgree, CompiledIsMeant, RunIsMeant, AreEnough, ShowsMeaning, IsCompiled, IsProgramOf, status_of}
use Rattle.seh_num.specs.declared.end.RunEnd.TheVariants as run_ends
use Rattle.c_meaning.specs.FunctionNames.{names_of}
use Rattle.c_meaning.specs.Texts as meanings
use Rattle.source_meaning.specs.declared.ended.Ended.TheVariants as meant
use Rattle.command_line.specs.declared.command.Command.TheVariants.{Compile}
use Rattle.seh.specs.Calls.{Took}
use Rattle.seh.specs.declared.status.Status.TheVariants as statuses
use Rattle.seh.proofs.Calls.{program_once, image_loads, compile_is_complete, run_is_complete, exec_is_complete}
use Rattle.seh.proofs.Headline.{headline}

pub last_lines_agree : LastLinesAgree
last_lines_agree (meant.Exit v) e h = let same : run_ends.Exit v ≡ e = cc in ap end_line same
last_lines_agree (meant.Unhandled c) e h = let same : run_ends.Unhandled c ≡ e = cc in ap end_line
    same
last_lines_agree (meant.Undefined a) e h = let q : None ≡ Some e = h in absurd cc
last_lines_agree (meant.Deep d) e h = let q : None ≡ Some e = h in absurd cc
last_lines_agree (meant.OutOfSteps n) e h = let q : None ≡ Some e = h in absurd cc

-- so the texts are the same
pub same_text : (trace : Bool) (n : ℕ) (shown : Shown Ended) (names : ℕ → Option (List ℕ))
    (ended : Ended) (e : RunEnd) → shown.end ≡ Some ended → run_end ended ≡ Some e
    → text shown.events e trace names ≡ meanings.text trace n shown names
same_text trace n shown names ended e is runs =
    let front = lines trace shown.events names in
    sym (ap (λ (x : Option Ended). front ++ meanings.ended_line (meanings.ended_within n x)) is
    ∙ ap (λ line. front ++ line) (last_lines_agree ended e runs))

-- the image of a text, run with enough turns, gives what the text means
meant_by : (source image : List ℕ) (p : Program) (options : RunOptions) (arg n : ℕ) (call : Call)
    → IsProgramOf source p → IsCompiled source image → AreEnough options arg n
    → (ends : EndsWithin p arg n)
    → Gave (status_of (end_by options image)) (text_by options image) call
    → GaveMeaning p arg n ends options call
meant_by source image p options arg n call is compiled enough ends gave =
    let same : (resolve source compiled.whole).program ≡ p = program_once source
    (resolve source compiled.whole).program p
    (record {
      declarations = compiled.whole;
      checked = record { accepted = compiled.accepted; resolved = refl };
    }) is in
    let shows : ShowsMeaning (meaning p (pos arg) n) (names_of p) image options =
    subst (λ q. ShowsMeaning (meaning q (pos arg) n) (names_of q) image options) same
    (headline source image compiled options arg n ends.small enough) in
    let end = ap run_end_of ends.is ∙ ends.runs in
    let bytes = shows.whole ends.end end
    ∙ same_text options.trace n (meaning p (pos arg) n) (names_of p) ends.ended ends.end ends.is
    ends.runs in
    record {
      ended = gave.ended ∙ shows.status ends.ended ends.end ends.is ends.runs;
      wrote = subst (λ b. Grew call.out.bytes b call.out_after.bytes) bytes gave.wrote;
      silent = gave.silent;
    }

pub run_is_meant : RunIsMeant
run_is_meant source p options arg n call short is asks enough ends =
    by (run_is_complete source is.declarations options call short is.checked.accepted asks)
  where
    by : WantedMemory call ⊎ ((image : List ℕ) × IsCompiled source image
        × Gave (status_of (end_by options image)) (text_by options image) call)
        → WantedMemory call ⊎ GaveMeaning p arg n ends options call
    by (inl w) = inl w
    by (inr (image, compiled, gave)) =
        inr (meant_by source image p options arg n call is compiled enough ends gave)

-- bytes after the same ones are the same
same_rest : (front a b : List ℕ) → front ++ a ≡ front ++ b → a ≡ b
same_rest [] a b e = e
same_rest (x ∷ front) a b e =
    let rest : front ++ a ≡ front ++ b = cc in same_rest front a b rest

-- what `compile` wrote of an accepted text is an image of it
pub took_its_image : (source image : List ℕ) (p : Program) (call : Call)
    → length source ≤ text_limit → IsProgramOf source p → Asks Compile source call
    → call.status ≡ statuses.Done → Took image call → IsCompiled source image
took_its_image source image p call short is asks done took =
    by (compile_is_complete source is.declarations call short is.checked.accepted asks)
  where
    the_same : (x y : List ℕ) → Some x ≡ Some y → x ≡ y
    the_same x y e = cc

    by : WantedMemory call
        ⊎ ((image : List ℕ) × IsCompiled source image × Gave statuses.Done image call)
        → IsCompiled source image
    by (inl w) = let q : statuses.NoMemory ≡ statuses.Done = sym w ∙ done in absurd cc
    by (inr (other, compiled, gave)) =
        let grew : call.out_after.bytes ≡ Some (took.before ++ other) =
        gave.wrote took.before took.first in
        let same = same_rest took.before other image
        (the_same _ _ (sym grew ∙ took.last)) in
        subst (IsCompiled source) same compiled

pub compiled_is_meant : CompiledIsMeant
compiled_is_meant source image p options arg n first second short is asks done took runs enough
    ends =
    told (exec_is_complete image options second compiled.realises.fits
    (image_loads source image compiled) runs)
  where
    compiled : IsCompiled source image
    compiled = took_its_image source image p first short is asks done took

    told : WantedMemory second
        ⊎ Gave (status_of (end_by options image)) (text_by options image) second
        → WantedMemory second ⊎ GaveMeaning p arg n ends options second
    told (inl w) = inl w
    told (inr gave) =
        inr (meant_by source image p options arg n second is compiled enough ends gave)
