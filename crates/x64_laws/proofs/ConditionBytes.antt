-- What SETcc leaves after CMP.
use Rattle.std.proofs.Common.{◌≡◌, ◌<◌, Bool, true, false, cond, refl, ap, ◌∙◌, arith}
use Rattle.seh_num.specs.Widths.{if_set}
use Rattle.x64_machine.specs.Conditions.{holds}
use Rattle.x64_machine.specs.Effect.{register, with_flags}
use Rattle.x64_laws.specs.Words.{W8, subtracted, compares}
use Rattle.x64_laws.specs.Comparing.{SetTellsComparison}
use Rattle.x64_laws.specs.Destinations.{unsigned_in}
use Rattle.x64_laws.proofs.Lemmas.{low_below}
use Rattle.x64_laws.proofs.AfterCompare.{difference_decides}
use Rattle.x64_laws.proofs.Effects.{puts}

byte_below : (b : Bool) → cond b 1 0 < 256
byte_below true = omega arith
byte_below false = omega arith

byte_is : (b : Bool) → cond b 1 0 ≡ if_set b 1
byte_is true = refl
byte_is false = refl

pub set_tells_comparison : SetTellsComparison
set_tells_comparison s w first second to c h =
    let a = unsigned_in w s first in
    let b = unsigned_in w s second in
    let t = with_flags s (subtracted w a b).1 in
    let set = holds t.cpu.flags c in
    let decides = difference_decides w a b c (low_below w (register s.cpu first))
    (low_below w (register s.cpu second)) in
    puts t W8 to (cond set 1 0) (λ n. n ≡ if_set (compares c w a b) 1) t.cpu.flags t.cpu.flags h
    (byte_below set)
    (byte_is set ∙ ap (λ (x : Bool). if_set x 1) decides) refl
