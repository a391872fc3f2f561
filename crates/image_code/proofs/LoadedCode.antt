-- The loaded image has the bytes of its code at its base.
use Rattle.std.proofs.Common.{◌≡◌, ℕ, zero, suc, ◌+◌, ◌-◌, ◌/◌, ◌%◌, ◌^◌, ◌<◌, ◌≤◌, Bool, true, false, ◌||◌, ltb, leb, List, [], ◌∷◌, drop, Option, Some, None, refl, sym, ap, ◌∙◌, arith, inl, inr}
use Rattle.std.specs.List.{AllByRecursion}
use Rattle.std.proofs.lemmas.Bool.{cases_lt, lt-ltb, le-ltb, le-leb, lt-leb}
use Rattle.host_layout.specs.Ranges.{pages, in_stack, in_data_stack}
use Rattle.host_layout.specs.declared.service.Service.{Service}
use Rattle.host_layout.specs.Services.{address_of}
use Rattle.flat_memory.specs.Memory.{next, executable, distance, with_number}
use Rattle.flat_memory.proofs.Stores.{among, beyond}
use Rattle.pe_image.specs.Image.{Section, Image}
use Rattle.pe_image.specs.Imports.{Import, imports_of}
use Rattle.pe_image.specs.declared.layout.TheConstants.{SIZE_OF_IMAGE}
use Rattle.pe_image.specs.Reading.{optional_at, image_size}
use Rattle.host_model.specs.Loading.{covers, or_else, section_of, stack_mode, mode_in, byte_in, stored_byte, with_address, with_slots, service_named, mapped}
use Rattle.image_code.specs.Code.{code_of, LoadedCodeIsCode}
use Rattle.image_code.proofs.ImageBounds.{IsBounded, bounded_low}
use Rattle.image_code.proofs.Octets.{AreOctets, dropped, number_below}

-- ---- sections

leb_shifted : (base a b : ℕ) → leb (base + a) (base + b) ≡ leb (0 + a) b
leb_shifted base a b = elim (cases_lt b a) [
  | inl lt ↦ lt-leb (base + a) (base + b) (omega arith) ∙ sym (lt-leb (0 + a) b (omega arith))
  | inr le ↦ le-leb (base + a) (base + b) (omega arith) ∙ sym (le-leb (0 + a) b (omega arith))
]

ltb_shifted : (base a b n : ℕ) → ltb (base + a) (base + b + n) ≡ ltb a (0 + b + n)
ltb_shifted base a b n = elim (cases_lt a (b + n)) [
  | inl lt ↦ lt-ltb (base + a) (base + b + n) (omega arith)
      ∙ sym (lt-ltb a (0 + b + n) (omega arith))
  | inr le ↦ le-ltb (base + a) (base + b + n) (omega arith)
      ∙ sym (le-ltb a (0 + b + n) (omega arith))
]

covers_shifted : (base a : ℕ) (s : Section) → covers base (base + a) s ≡ covers 0 a s
covers_shifted base a s = rw (
  leb_shifted base s.address a,
  ltb_shifted base a s.address (pages s.size),
) refl

section_shifted : (base a : ℕ) (ss : List Section)
    → section_of base (base + a) ss ≡ section_of 0 a ss
section_shifted base a [] = refl
section_shifted base a (s ∷ ss) =
    ap (λ o. or_else o s (covers base (base + a) s)) (section_shifted base a ss)
    ∙ ap (or_else (section_of 0 a ss) s) (covers_shifted base a s)

not_stack : (b : Bool) → (stack_mode b).execute ≡ false
not_stack true = refl
not_stack false = refl

execute_shifted : (a b : ℕ) (o : Option Section) → (mode_in o a).execute ≡ (mode_in o b).execute
execute_shifted a b None = not_stack (in_stack a || in_data_stack a)
    ∙ sym (not_stack (in_stack b || in_data_stack b))
execute_shifted a b (Some s) = refl

-- outside all sections nothing is executed
byte_shifted : (base a : ℕ) (o : Option Section) → (mode_in o a).execute ≡ true
    → byte_in base o (base + a) ≡ byte_in 0 o a
byte_shifted base a None e = absurd
    (not_both (sym (not_stack (in_stack a || in_data_stack a)) ∙ e))
  where
    not_both : false ≡ true → ⊥
    not_both h = cc
byte_shifted base a (Some s) e =
    let at : base + a - (base + s.address) ≡ a - (0 + s.address) = omega arith in
    rw at refl

stored_shifted : (image : Image) (a : ℕ)
    → (mode_in (section_of 0 a image.sections) a).execute ≡ true
    → stored_byte image (image.base + a) ≡ stored_byte (record image { base = 0 }) a
stored_shifted image a e =
    ap (λ o. byte_in image.base o (image.base + a)) (section_shifted image.base a image.sections)
    ∙ byte_shifted image.base a (section_of 0 a image.sections) e

-- ---- slots

module _ (base : ℕ) (low : base < 2 ^ 63) where
  number_shifted : (f g : ℕ → ℕ) (at v a : ℕ) → at ≤ 2 ^ 47 → a < 2 ^ 63 → f (base + a) ≡ g a
      → with_number f 8 (base + at) v (base + a) ≡ with_number g 8 (0 + at) v a
  number_shifted f g at v a near small same =
      let d : distance (base + at) (base + a) ≡ distance (0 + at) a = omega (arith, low) in
      elim (cases_lt (distance (0 + at) a) 8) [
        | inl lt ↦ among f 8 (base + at) v (base + a) (omega (arith, low)) (omega (arith, d, lt))
            ∙ ap (λ k. v / 256 ^ k % 256) d
            ∙ sym (among g 8 (0 + at) v a (omega arith) lt)
        | inr ge ↦ beyond f 8 (base + at) v (base + a) (omega (arith, low)) (omega (arith, d, ge))
            ∙ same ∙ sym (beyond g 8 (0 + at) v a (omega arith) ge)
      ]

  address_shifted : (f g : ℕ → ℕ) (at a : ℕ) (o : Option Service) → at ≤ 2 ^ 47 → a < 2 ^ 63
      → f (base + a) ≡ g a → with_address f (base + at) o (base + a) ≡ with_address g (0 + at) o a
  address_shifted f g at a None near small same = same
  address_shifted f g at a (Some s) near small same = number_shifted f g at (address_of s) a near
      small same

  slots_shifted : (is : List Import) (f g : ℕ → ℕ)
      → AllByRecursion (λ i. i.slot + 8 ≤ 2 ^ 47) is → (a : ℕ) → a < 2 ^ 63
      → f (base + a) ≡ g a → with_slots base f is (base + a) ≡ with_slots 0 g is a
  slots_shifted [] f g near a small same = same
  slots_shifted (i ∷ is) f g near a small same = slots_shifted is
      (with_address f (base + i.slot) (service_named i.name))
      (with_address g (0 + i.slot) (service_named i.name)) near.1 a small
      (address_shifted f g i.slot a (service_named i.name)
      (let first = near.0 in omega arith) small same)

-- ---- what is executed

module _ (image : Image) (b : IsBounded image) where
  pub execute_at : (a : ℕ) → ((mapped image).protection (image.base + a)).execute
      ≡ ((code_of image).protection a).execute
  unfolding mapped
  execute_at a =
      ap (λ o. (mode_in o (image.base + a)).execute) (section_shifted image.base a image.sections)
      ∙ execute_shifted (image.base + a) a (section_of 0 a image.sections)

  pub byte_at : (a : ℕ) → ((code_of image).protection a).execute ≡ true → a < 2 ^ 63
      → (mapped image).byte (image.base + a) ≡ (code_of image).byte a
  unfolding mapped
  byte_at a e small = slots_shifted image.base b.base (imports_of image) (stored_byte image)
      (stored_byte (record image { base = 0 })) b.slots a small (stored_shifted image a e)

  pub code_at : (n a : ℕ) → a + n ≤ 2 ^ 63
      → executable (mapped image) n (image.base + a) ≡ executable (code_of image) n a
  unfolding executable
  code_at zero a le = refl
  code_at (suc n) a le =
      let low = b.base in
      let on : next (image.base + a) ≡ image.base + (a + 1) = omega arith in
      let here : next a ≡ a + 1 = omega arith in
      let rest = ap (executable (mapped image) n) on ∙ code_at n (a + 1) (omega arith)
      ∙ ap (executable (code_of image) n) (sym here) in
      go ((code_of image).protection a).execute refl rest
    where
      go : (b : Bool) → ((code_of image).protection a).execute ≡ b
          → executable (mapped image) n (next (image.base + a))
          ≡ executable (code_of image) n (next a)
          → executable (mapped image) (suc n) (image.base + a)
          ≡ executable (code_of image) (suc n) a
      go true is rest = rw (execute_at a, is, byte_at a is (omega arith), rest) refl
      go false is rest = rw (execute_at a, is) refl

pub size_read : (bytes : List ℕ) → AreOctets bytes → image_size bytes < 2 ^ 32
size_read bytes octets = number_below 4 (drop (optional_at bytes + SIZE_OF_IMAGE) bytes)
    (dropped (optional_at bytes + SIZE_OF_IMAGE) bytes octets)

pub loaded_code : LoadedCodeIsCode
loaded_code bytes image n at octets read low le =
    code_at image (bounded_low bytes image read (omega (arith, low)) (size_read bytes octets)) n at
    le
