use Rattle.std.proofs.Common.{◌≡◌, ℕ, ◌≤◌, Bool, List, length, map, refl, sym, ap, subst, ◌∙◌, arith}
use Rattle.std.specs.Prelude.{IfOk}
use Rattle.std.specs.List.{AllByRecursion}
use Rattle.std.proofs.lemmas.List.{length-map}
use Rattle.pe_image.specs.Reading.{IsImage}
use Rattle.pe_write.specs.Program as images
use Rattle.pe_write.specs.Written.{written}
use Rattle.image_link.specs.Words.{ImageContents, LinearProgram, LinearFunction, IrFunction, linear_program, linear_function, RoutineView, routines, IsRoutineNear, AreFew, HasNames, HasPlaces, calls_walk, named_if, named_functions}
use Rattle.image_link.proofs.Front.{services_few}
use Rattle.image_link.proofs.Nearness.{routines_near}
use Rattle.image_link.proofs.Images.{has_places, has_names, linked_is}
use Rattle.image_link.proofs.link.compile_program.Goals as goal

pub image_of_routines-requires-clause-imports : goal.image_of_routines-requires-clause-imports
image_of_routines-requires-clause-imports c =
    subst AreFew (sym (c.deref.ensures.value ∙ c.in_ok-imports.ensures))
    (services_few (linear_program c.args.program.now))

pub image_of_routines-requires-clause-near : goal.image_of_routines-requires-clause-near
image_of_routines-requires-clause-near c =
    subst (λ (rs : List RoutineView). AllByRecursion IsRoutineNear rs)
    (sym (c.deref-3.ensures.value ∙ c.in_ok-routines.ensures))
    (routines_near (linear_program c.args.program.now) c.requires)

pub image_of_routines-requires-clause-places : goal.image_of_routines-requires-clause-places
image_of_routines-requires-clause-places c =
    let p = linear_program c.args.program.now in
    let n = c.len-functions.ensures in
    subst (λ (rs : List RoutineView). HasPlaces rs c.len-functions.result p.main)
    (sym (c.deref-3.ensures.value ∙ c.in_ok-routines.ensures))
    (subst (λ (k : ℕ). HasPlaces (routines p) k p.main)
    (let o = c.args.program.now.functions.ok in
    omega (arith, length-map c.args.program.now.functions.items linear_function))
    (has_places p c.requires))

named_is : (p : LinearProgram) (walks : Bool) (fs all : List IrFunction)
    (named : List LinearFunction) → walks ≡ calls_walk p → fs ≡ all
    → map linear_function all ≡ p.functions → named ≡ named_if walks (map linear_function fs)
    → named ≡ named_functions p
named_is p walks fs all named w e is same =
    same ∙ (λ i. named_if (w i) ((ap (map linear_function) e ∙ is) i))

pub image_of_routines-requires-clause-names : goal.image_of_routines-requires-clause-names
image_of_routines-requires-clause-names c =
    let p = linear_program c.args.program.now in
    subst (λ (rs : List RoutineView). HasNames rs (map linear_function c.named_if.result.now))
    (sym (c.deref-3.ensures.value ∙ c.in_ok-routines.ensures))
    (subst (HasNames (routines p))
    (sym (named_is p c.calls-walks.result c.deref-4.result.now
    c.args.program.now.functions.items _ c.calls-walks.ensures c.deref-4.ensures.value refl
    c.named_if.ensures))
    (has_names p c.requires))

pub returns-clause-bytes : goal.returns-clause-bytes
returns-clause-bytes c =
    let p = linear_program c.args.program.now in
    let n = c.len-functions.ensures in
    let o = c.args.program.now.functions.ok in
    let same = linked_is p c.in_ok-image.image c.deref.result.now c.deref-2.result.now
    c.deref-3.result.now c.len-functions.result p.main _ c.in_ok-image.ensures
    (c.deref.ensures.value ∙ c.in_ok-imports.ensures) c.deref-2.ensures.value
    (c.deref-3.ensures.value ∙ c.in_ok-routines.ensures)
    (omega (arith, length-map c.args.program.now.functions.items linear_function)) refl
    (named_is p c.calls-walks.result c.deref-4.result.now c.args.program.now.functions.items
    _ c.calls-walks.ensures c.deref-4.ensures.value refl c.named_if.ensures) in
    subst (λ (x : ImageContents). IfOk c.write.result
    (λ bytes. bytes.items ≡ written (images.parts_of x))) same c.write.ensures.written

pub returns-clause-image : goal.returns-clause-image
returns-clause-image c =
    let p = linear_program c.args.program.now in
    let n = c.len-functions.ensures in
    let o = c.args.program.now.functions.ok in
    let same = linked_is p c.in_ok-image.image c.deref.result.now c.deref-2.result.now
    c.deref-3.result.now c.len-functions.result p.main _ c.in_ok-image.ensures
    (c.deref.ensures.value ∙ c.in_ok-imports.ensures) c.deref-2.ensures.value
    (c.deref-3.ensures.value ∙ c.in_ok-routines.ensures)
    (omega (arith, length-map c.args.program.now.functions.items linear_function)) refl
    (named_is p c.calls-walks.result c.deref-4.result.now c.args.program.now.functions.items
    _ c.calls-walks.ensures c.deref-4.ensures.value refl c.named_if.ensures) in
    subst (λ (x : ImageContents). IfOk c.write.result
    (λ bytes. IsImage bytes.items (images.image_of x))) same c.write.ensures.read_again

pub returns-clause-small : goal.returns-clause-small
returns-clause-small c =
    let p = linear_program c.args.program.now in
    let n = c.len-functions.ensures in
    let o = c.args.program.now.functions.ok in
    let same = linked_is p c.in_ok-image.image c.deref.result.now c.deref-2.result.now
    c.deref-3.result.now c.len-functions.result p.main _ c.in_ok-image.ensures
    (c.deref.ensures.value ∙ c.in_ok-imports.ensures) c.deref-2.ensures.value
    (c.deref-3.ensures.value ∙ c.in_ok-routines.ensures)
    (omega (arith, length-map c.args.program.now.functions.items linear_function)) refl
    (named_is p c.calls-walks.result c.deref-4.result.now c.args.program.now.functions.items
    _ c.calls-walks.ensures c.deref-4.ensures.value refl c.named_if.ensures) in
    subst (λ (x : ImageContents). IfOk c.write.result
    (λ bytes. length bytes.items ≤ images.end_at (images.sizes_of x))) same c.write.ensures.small
