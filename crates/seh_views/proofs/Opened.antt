-- What is refused before a call's own work.
use Rattle.std.proofs.Common.{◌≡◌, ℕ, List, Ok, Err, sym, ap, subst, ◌∙◌}
use Rattle.seh_num.specs.Answers.{◌>>=◌}
use Rattle.pe_image.specs.Answer.{Refuses}
use Rattle.pe_image.specs.Image.{Image}
use Rattle.pe_image.specs.Reading.{outline_alone, reading_in}
use Rattle.pe_image.specs.declared.image_layout.ImageLayout.{ImageLayout}
use Rattle.pe_image.specs.declared.refusal.ImageErr.{ImageErr}
use Rattle.pe_image.specs.declared.refusal.ImageErr.TheVariants as images
use Rattle.eh_tables.specs.declared.range.RuntimeFunction.{RuntimeFunction}
use Rattle.eh_tables.specs.declared.refusal.TableErr.{TableErr}
use Rattle.eh_tables.specs.Answer.{Table}
use Rattle.eh_tables.specs.Tables.{Tables, directory}
use Rattle.eh_tables.specs.Covering.{ranges_checked, RangesAscend}
use Rattle.seh_views.specs.declared.refusal.Refusal.{Refusal}
use Rattle.seh_views.specs.declared.refusal.Refusal.TheVariants as refusals
use Rattle.seh_views.specs.declared.c_types.SehFrame.{SehFrame}
use Rattle.seh_views.specs.declared.c_types.SehScope.{SehScope}
use Rattle.seh_views.specs.Scopes.{Filled, GivesScopes}
use Rattle.seh_views.specs.Walks.{Walked, GivesWalk}
use Rattle.seh_views.specs.Openings.{Answer, image_refusal, of_image, of_table, Gives, opened, opened_whole, table_of}

pub opening_refused : (layout : ImageLayout) (bytes : List ℕ) (e : ImageErr)
    → Refuses e (outline_alone layout bytes)
    → Gives {A = Image} (Err (image_refusal e)) (opened layout bytes)
opening_refused layout bytes images.Memory h = tt
opening_refused layout bytes (images.Truncated x) h = ap of_image h
opening_refused layout bytes (images.NotPe x) h = ap of_image h
opening_refused layout bytes (images.Machine x) h = ap of_image h
opening_refused layout bytes (images.Magic x) h = ap of_image h
opening_refused layout bytes (images.Layout x) h = ap of_image h
opening_refused layout bytes (images.ImportBad x) h = ap of_image h

pub reading_refused : (layout : ImageLayout) (bytes : List ℕ) (e : ImageErr)
    → Refuses e (reading_in layout bytes)
    → Gives {A = Image} (Err (image_refusal e)) (opened_whole layout bytes)
reading_refused layout bytes images.Memory h = tt
reading_refused layout bytes (images.Truncated x) h = ap of_image h
reading_refused layout bytes (images.NotPe x) h = ap of_image h
reading_refused layout bytes (images.Machine x) h = ap of_image h
reading_refused layout bytes (images.Magic x) h = ap of_image h
reading_refused layout bytes (images.Layout x) h = ap of_image h
reading_refused layout bytes (images.ImportBad x) h = ap of_image h

-- what comes first is refused
pub gives_then : {A B : Type 0} (e : Refusal) (r : Answer A) (f : A → Answer B)
    → Gives (Err e) r → Gives (Err e) (r >>= f)
gives_then refusals.NoMemory r f h = tt
gives_then (refusals.Range x) r f h = ap (λ a. a >>= f) h
gives_then (refusals.Image x) r f h = ap (λ a. a >>= f) h
gives_then (refusals.Table x) r f h = ap (λ a. a >>= f) h
gives_then (refusals.Unwinding x) r f h = ap (λ a. a >>= f) h

-- what is answered is what is defined
pub gives_is : {A : Type 0} (r given : Answer A) → r ≡ given → Gives r given
gives_is (Ok x) given h = sym h
gives_is (Err refusals.NoMemory) given h = tt
gives_is (Err (refusals.Range x)) given h = sym h
gives_is (Err (refusals.Image x)) given h = sym h
gives_is (Err (refusals.Table x)) given h = sym h
gives_is (Err (refusals.Unwinding x)) given h = sym h

-- after what was answered before it
pub gives_after : {A B : Type 0} (x : A) (r : Answer A) (f : A → Answer B) (given : Answer B)
    → r ≡ Ok x → given ≡ f x → Gives given (r >>= f)
gives_after x r f given was is = gives_is given (r >>= f) (is ∙ sym (ap (λ a. a >>= f) was))

-- what comes first passes
pub gives_passed : {A B : Type 0} (c : Answer B) (x : B) (r given : Answer A) → Ok x ≡ c
    → Gives r given → Gives r (c >>= λ _. given)
gives_passed {B = B} c x r given h g = subst (λ (a : Answer B). Gives r (a >>= λ _. given)) h g

-- and nothing is written then
pub gives_no_walk : {A : Type 0} (e : Refusal) (r : Answer A) (f : A → Answer Walked)
    (old new : List SehFrame) → new ≡ old → Gives (Err e) r → GivesWalk old new (Err e) (r >>= f)
gives_no_walk refusals.NoMemory r f old new same h = same
gives_no_walk (refusals.Range x) r f old new same h = (ap (λ a. a >>= f) h, same)
gives_no_walk (refusals.Image x) r f old new same h = (ap (λ a. a >>= f) h, same)
gives_no_walk (refusals.Table x) r f old new same h = (ap (λ a. a >>= f) h, same)
gives_no_walk (refusals.Unwinding x) r f old new same h = (ap (λ a. a >>= f) h, same)

pub gives_no_scopes : {A : Type 0} (e : Refusal) (r : Answer A) (f : A → Answer Filled)
    (old new : List SehScope) → new ≡ old → Gives (Err e) r → GivesScopes old new (Err e) (r >>= f)
gives_no_scopes refusals.NoMemory r f old new same h = same
gives_no_scopes (refusals.Range x) r f old new same h = (ap (λ a. a >>= f) h, same)
gives_no_scopes (refusals.Image x) r f old new same h = (ap (λ a. a >>= f) h, same)
gives_no_scopes (refusals.Table x) r f old new same h = (ap (λ a. a >>= f) h, same)
gives_no_scopes (refusals.Unwinding x) r f old new same h = (ap (λ a. a >>= f) h, same)

-- ---- the function table

abbrev with_directory : Image → Table (List RuntimeFunction) → Answer Tables
with_directory image d = of_table d >>= λ rs. of_table (ranges_checked 0 0 rs)
    >>= λ _. Ok (record { image = image; ranges = rs })

abbrev with_ranges : Image → List RuntimeFunction → Table Unit → Answer Tables
with_ranges image rs r = of_table r >>= λ _. Ok (record { image = image; ranges = rs })

pub no_directory : (image : Image) (e : TableErr) → directory image ≡ Err e
    → Err (refusals.Table e) ≡ table_of image
no_directory image e d = sym (ap (with_directory image) d)

pub ranges_refused : (t : Tables) (image : Image) (e : TableErr) → directory image ≡ Ok t.ranges
    → Err e ≡ ranges_checked 0 0 t.ranges → Err (refusals.Table e) ≡ table_of image
ranges_refused t image e d r = ap (with_ranges image t.ranges) r
    ∙ sym (ap (with_directory image) d)

pub table_made : (t : Tables) (image : Image) (u : Unit {0}) → directory image ≡ Ok t.ranges
    → t.image ≡ image → Ok u ≡ ranges_checked 0 0 t.ranges → Ok t ≡ table_of image
table_made t image u d i r =
    ap (λ (x : Image). (let a : Answer Tables = Ok (record { image = x; ranges = t.ranges })
    in a)) i
    ∙ ap (with_ranges image t.ranges) r
    ∙ sym (ap (with_directory image) d)

pub they_ascend : (rs : List RuntimeFunction) (u : Unit {0}) → Ok u ≡ ranges_checked 0 0 rs
    → RangesAscend rs
they_ascend rs u r = record { checked = sym r }
