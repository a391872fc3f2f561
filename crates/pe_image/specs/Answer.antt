-- How a call's answer is a definition's.
use Rattle.std.specs.Prelude.{◌≡◌, Result, Ok, Err}
use Rattle.pe_image.specs.declared.refusal.ImageErr.{ImageErr}
use Rattle.pe_image.specs.declared.refusal.ImageErr.TheVariants as refusals

-- A call answers what a definition gives, unless memory ran out.
abbrev pub Refuses : {Y : Type 0} → ImageErr → Result Y ImageErr → Type 0
Refuses refusals.Memory given = Unit {0}
Refuses e given = given ≡ Err e

abbrev pub Gives : {X Y : Type 0} → (X → Y) → Result X ImageErr → Result Y ImageErr → Type 0
Gives view (Ok x) given = given ≡ Ok (view x)
Gives view (Err e) given = Refuses e given
