-- The linear code of a sound program is as its image needs it.
use Rattle.std.proofs.Common.{◌≡◌, ℕ, ◌+◌, ◌<◌, ◌==◌, Bool, true, false, length, Some, refl, ap, ◌∙◌, arith}
use Rattle.std.specs.Prelude.{◌&&◌, nat_le, slice_get}
use Rattle.std.proofs.lemmas.Bool.{ne_eqb}
use Rattle.image_runs.specs.Words.{Program, LinearFunction, LinearFunclet, lowered, IsLinkable, IsSmallFunclet, all_spare, IsFuncletSized, LoweredIsCompiled, is_leaf}
use Rattle.lowering_invariants.proofs.ColdCode.ColdParts.{lowered_has_cold_parts}
use Rattle.lowering_invariants.proofs.SmallNumbers.Small.{lowered_is_small}
use Rattle.lowering_invariants.proofs.SparedRegisters.{lowered_spares}
use Rattle.image_runs.proofs.Lemmas.{lowered_is_whole, all_at, images_are_small, lowered_has_regions, lowered_names_funclets}
use Rattle.image_runs.proofs.FuncletOwners.{is_owned}
use Rattle.image_runs.proofs.FuncletRegions.{all_named}

and_false : (a : Bool) → (a && false) ≡ false
and_false true = refl
and_false false = refl

-- what has a region is no leaf
framed : (f : LinearFunction) → 0 < length f.body.regions → is_leaf f ≡ false
framed f some =
    let b = f.body in
    let few = nat_le (b.locals + b.temporaries) 4 in
    let none : (length b.regions == 0) ≡ false = ne_eqb (length b.regions) 0
    (λ e. (let q : length b.regions ≡ 0 = e in omega arith)) in
    ap (λ (x : Bool). nat_le f.parameters b.locals && (few && (x && all_spare f.parameters b.code)))
    none ∙ ap (λ (x : Bool). nat_le f.parameters b.locals && x) (and_false few)
    ∙ and_false (nat_le f.parameters b.locals)

sized : (program : Program) → IsLinkable program → (k : ℕ) (f : LinearFunclet)
    → slice_get (lowered program).funclets k ≡ Some f → IsFuncletSized (lowered program) f
sized program l k f e =
    let owned = is_owned program k f e in
    let small = all_at (IsSmallFunclet (lowered program)) (lowered program).funclets k f
    (lowered_is_small program l.sound l.shallow).funclets e in
    let passed = small.body.passed in
    let temporaries = small.body.temporaries in
    record {
      function = owned.function;
      there = owned.there;
      framed = framed owned.function owned.some;
      locals = owned.locals;
      words = omega arith;
    }

pub lowered_is_compiled : LoweredIsCompiled
lowered_is_compiled program l = record {
  fits = l.fits;
  small = images_are_small (lowered program) l.fits;
  ranges = lowered_has_regions program;
  cold = lowered_has_cold_parts program;
  names = lowered_names_funclets program l.sound;
  all_named = all_named program l.sound;
  whole = lowered_is_whole program l.sound;
  funclets = sized program l;
  spares = lowered_spares program;
}
