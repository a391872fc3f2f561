-- The program stays in a memory in which no byte of the image has changed.
use Rattle.std.proofs.Common.{◌≡◌, ℕ, ◌+◌, ◌<◌, ◌≤◌, true, Some, List, [], ◌∷◌, length, sym, ap, subst, ◌∙◌, arith}
use Rattle.match_bodies.specs.Words.{Service, address_of, Protection, is_readable, is_writable, Memory, Functions, Funclet, Instr, is_hidden, LinearProgram, LinearBody, BodyName, body_of, spelled, sizes, thunk, check_stack, code_from, body_size, HasCode, HasThunk, ImagePlan, Sites, links_of, begin_of, entry_code, code_of, cold_code_of, host_service_of, HasService, HasBuiltIn, HasName, stub_code, name_thunk, BuiltIn, HasProgram, IsProgramImage, IMAGE_BASE, IMAGE_RANGE_END, IsInImage}
use Rattle.host_layout.specs.declared.service.Service.TheVariants as services
use Rattle.match_bodies.proofs.Lemmas.{sizes_spelled, sizes_append, body_sizes, same_number}
use Rattle.template_code.specs.ColdParts.{hot_code, cold_code}
use Rattle.x64_templates.specs.Placed.{IsCodeAt}
use Rattle.match_bodies.proofs.Walks.NameThunks.{name_size}
use Rattle.x64_templates.proofs.Services.{thunk_size}

-- bytes of a range, and what may be done there
pub record SameThere (m m' : Memory) (from to : ℕ) : Type 0 where
  pub byte : (a : ℕ) → from ≤ a → a < to → m'.byte a ≡ m.byte a
  pub protection : (a : ℕ) → from ≤ a → a < to → m'.protection a ≡ m.protection a

pub code_there : (m m' : Memory) (at : ℕ) (bytes : List ℕ) → SameThere m m' at (at + length bytes)
    → IsCodeAt m at bytes → IsCodeAt m' at bytes
code_there m m' at [] same h = tt
code_there m m' at (b ∷ bytes) same h =
    let e = same.protection at (omega arith) (omega arith) in (
      record {
        byte = same.byte at (omega arith) (omega arith) ∙ h.0.byte;
        executes = ap (λ (x : Protection). x.execute) e ∙ h.0.executes;
        fixed = ap (λ (x : Protection). is_writable x.rights) e ∙ h.0.fixed;
      },
      code_there m m' (at + 1) bytes (record {
        byte = λ a l u. same.byte a (omega arith)
            (omega arith);
        protection = λ a l u. same.protection a (omega arith) (omega arith);
      }) h.1,
    )

pub has_code_there : (m m' : Memory) (at : ℕ) (code : List Instr)
    → SameThere m m' at (at + sizes code) → HasCode m at code → HasCode m' at code
has_code_there m m' at code same h = record {
  is_there = code_there m m' at (spelled code)
      (let e = sizes_spelled code in record {
        byte = λ a l u. same.byte a l (omega arith);
        protection = λ a l u. same.protection a l (omega arith);
      }) h.is_there;
  placed = h.placed;
}

-- what may be read of the image, where the source may not look, is as it was
pub record KeepsImage (globals : List ℕ) (m m' : Memory) : Type 0 where
  pub byte : (a : ℕ) → IMAGE_BASE ≤ a → a < IMAGE_RANGE_END → is_hidden globals a ≡ true
      → m'.byte a ≡ m.byte a
  pub protection : (a : ℕ) → IMAGE_BASE ≤ a → a < IMAGE_RANGE_END → is_hidden globals a ≡ true
      → m'.protection a ≡ m.protection a

module _ (t : Functions) (fs : List Funclet) (program : LinearProgram) (p : ImagePlan) (q : Sites)
  where
    there : (m m' : Memory) (from to : ℕ) → KeepsImage program.globals m m'
        → IsInImage t fs program p q from to → SameThere m m' from to
    there m m' from to keeps inside =
        let low = inside.low in
        let high = inside.high in
        record {
          byte = λ a l u. keeps.byte a (omega arith) (omega arith) (inside.own a l u);
          protection = λ a l u. keeps.protection a (omega arith) (omega arith) (inside.own a l u);
        }

    thunk_there : (m m' : Memory) (at service : ℕ) (h : HasThunk m at service)
        → SameThere m m' at (at + 6) → SameThere m m' (at + 6 + h.away) (at + 6 + h.away + 8)
        → HasThunk m' at service
    thunk_there m m' at service h code slot =
        let near = h.near in
        let high = h.code.placed.high in
        record {
          away = h.away;
          near = h.near;
          code = has_code_there m m' at (thunk h.away ∷ [])
              (let e = thunk_size h.away in record {
                byte = λ a l u. code.byte a l (omega arith);
                protection = λ a l u. code.protection a l (omega arith);
              }) h.code;
          readable = λ a l u. ap (λ (x : Protection). is_readable x.rights) (slot.protection a l u)
              ∙ h.readable a l u;
          fixed = λ a l u. ap (λ (x : Protection). is_writable x.rights) (slot.protection a l u)
              ∙ h.fixed a l u;
          bound = same_number m'.byte m.byte 8 (at + 6 + h.away) (omega arith) slot.byte ∙ h.bound;
        }

    service_there : (m m' : Memory) (at : ℕ) (service : Service) → KeepsImage program.globals m m'
        → HasService t fs program p q m at service → HasService t fs program p q m' at service
    unfolding thunk_there
    service_there m m' at service keeps h = record {
      thunk = thunk_there m m' at (address_of service) h.thunk
          (there m m' at (at + 6) keeps h.inside)
          (there m m' (at + 6 + h.thunk.away) (at + 6 + h.thunk.away + 8) keeps h.slot);
      inside = h.inside;
      slot = h.slot;
    }

    built_in_there : (m m' : Memory) (f : BuiltIn) → KeepsImage program.globals m m'
        → HasBuiltIn t fs program p q m f → HasBuiltIn t fs program p q m' f
    built_in_there m m' f keeps h = record {
      stub = has_code_there m m' (q.thunk f) (stub_code p f (q.thunk f))
          (there m m' (q.thunk f) (q.thunk f + sizes (stub_code p f (q.thunk f))) keeps h.inside)
          h.stub;
      names = h.names;
      service = service_there m m' (q.thunk f + sizes (stub_code p f (q.thunk f)))
          (host_service_of f)
          keeps h.service;
      inside = h.inside;
    }

    name_there : (m m' : Memory) (f : ℕ) → KeepsImage program.globals m m'
        → HasName t fs program p q m f → HasName t fs program p q m' f
    name_there m m' f keeps h =
        let code = name_thunk (p.handler f) (q.function f) in
        let n : sizes code ≡ 15 = name_size (p.handler f) (q.function f) in
        record {
          code = has_code_there m m' (p.handler f) code
              (subst (λ k. SameThere m m' (p.handler f) (p.handler f + k)) (sym n)
              (there m m' (p.handler f) (p.handler f + 15) keeps h.inside)) h.code;
          inside = h.inside;
        }

    module _ (image : IsProgramImage t fs program p q) where
      code_size : (name : BodyName) (b : LinearBody) → body_of program name ≡ Some b
          → begin_of p q name + sizes (code_of program p q name b)
          ≡ p.address name 0 + body_size (p.layout name) (hot_code b)
      code_size name b e =
          let a = image.addresses name b e in
          omega (
            arith,
            a.first,
            sizes_append (entry_code program p q name)
                (code_from (links_of p q name) (p.layout name) (p.address name 0) (hot_code b)),
            body_sizes (links_of p q name) (p.layout name) (p.address name 0) (hot_code b),
          )

      pub program_stays : (m m' : Memory) → KeepsImage program.globals m m'
          → HasProgram t fs program p q m → HasProgram t fs program p q m'
      program_stays m m' keeps h = record {
        code = λ name b e.
            let inside = there m m' (begin_of p q name)
            (p.address name 0 + body_size (p.layout name) (hot_code b)) keeps
            (image.addresses name b e).inside in
            has_code_there m m' (begin_of p q name) (code_of program p q name b)
            (subst (SameThere m m' (begin_of p q name)) (sym (code_size name b e)) inside)
            (h.code name b e);
        cold_code = λ name b e.
            let size = body_sizes (links_of p q name) (p.layout name) (q.cold name) (cold_code b) in
            let inside = there m m' (q.cold name)
            (q.cold name + body_size (p.layout name) (cold_code b)) keeps
            (image.addresses name b e).cold_inside in
            has_code_there m m' (q.cold name) (cold_code_of p q name b)
            (subst (λ n. SameThere m m' (q.cold name) (q.cold name + n)) (sym size) inside)
            (h.cold_code name b e);
        built_in = λ f called. built_in_there m m' f keeps (h.built_in f called);
        names = λ f lt adds. name_there m m' f keeps (h.names f lt adds);
        local_unwind = service_there m m' q.local_unwind services.LocalUnwind keeps h.local_unwind;
        check_stack = has_code_there m m' q.check_stack check_stack
            (there m m' q.check_stack (q.check_stack + sizes check_stack) keeps image.check_stack)
            h.check_stack;
      }
