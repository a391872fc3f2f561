-- What lies from an address on in a snapshot.
use Rattle.std.proofs.Common.{◌≡◌, ℕ, ◌+◌, ◌^◌, ◌<◌, ◌≤◌, List, [], ◌∷◌, length, take, drop, get_or, refl, sym, ap, ◌∙◌, inl, inr, arith, length-drop}
use Rattle.std.specs.Prelude.{◌⊎◌}
use Rattle.std.proofs.lemmas.List.{get_or-drop, get_or-take, length-take-le}
use Rattle.flat_memory.specs.Memory.{distance}
use Rattle.pe_image.specs.Image.{Image, AreAscending, section_at, stored_in}
use Rattle.pe_image.proofs.Stored.{stored_after}
use Rattle.x64_memory.specs.Pages.{IsRestOfPage}
use Rattle.seh_views.specs.declared.c_types.SehRange.{SehRange}
use Rattle.seh_views.specs.declared.snapshot.TheConstants.{DATA, CODE}
use Rattle.seh_views.specs.Ranges.{AreInOrder, held}
use Rattle.seh_views.specs.Snapshot.{code_from, protection_by, byte_by, snapshot}
use Rattle.seh_views.proofs.RangesHeld.{are_placed, held_after, held_inside, none_until}

-- ---- where some bytes are held, and where none are

some_protection : (xs code : List ℕ) → 0 < length xs → protection_by xs code ≡ DATA
some_protection [] code lt = absurd (omega arith)
some_protection (x ∷ xs) code lt = refl

some_byte : (xs code : List ℕ) → 0 < length xs → byte_by xs code ≡ get_or xs 0 0
some_byte [] code lt = absurd (omega arith)
some_byte (x ∷ xs) code lt = refl

code_protection : (xs code : List ℕ) → length xs ≡ 0 → 0 < length code
    → protection_by xs code ≡ CODE
code_protection [] [] e lt = absurd (omega arith)
code_protection [] (c ∷ cs) e lt = refl
code_protection (x ∷ xs) code e lt = absurd (omega arith)

code_byte : (xs code : List ℕ) → length xs ≡ 0 → 0 < length code → byte_by xs code ≡ get_or code 0 0
code_byte [] [] e lt = absurd (omega arith)
code_byte [] (c ∷ cs) e lt = refl
code_byte (x ∷ xs) code e lt = absurd (omega arith)

module _ (image : Image) (base : ℕ) (rs : List SehRange) (a : ℕ) where
  module _ (up : AreInOrder rs) (some : 0 < length (held a rs))
      (small : (i : ℕ) → get_or (held a rs) i 0 < 256) where
    some_after : (i : ℕ) → i < length (held a rs) → 0 < length (held (a + i) rs)
    some_after i lt =
        let same = ap length (held_after a i rs (are_placed 0 rs up) lt) in
        omega (arith, same, length-drop i (held a rs))

    pub rest_of_range : IsRestOfPage (snapshot image base rs) a DATA (held a rs)
    rest_of_range = record {
      mode_is = some_protection (held a rs) (code_from image base a) some;
      modes = λ i lt. some_protection (held (a + i) rs) (code_from image base (a + i))
          (some_after i lt);
      bytes_are = λ i lt. some_byte (held (a + i) rs) (code_from image base (a + i))
          (some_after i lt)
          ∙ ap (λ (xs : List ℕ). get_or xs 0 0) (held_after a i rs (are_placed 0 rs up) lt)
          ∙ get_or-drop i (held a rs) 0 0
          ∙ (let e : i + 0 ≡ i = omega arith in ap (λ n. get_or (held a rs) n 0) e);
      inside = held_inside a rs (are_placed 0 rs up) some;
      small = small;
      unmapped = λ z. absurd (omega (arith, some));
    }

  -- the first bytes of the code, before the next range begins
  module _ (up : AreInOrder rs) (ascend : AreAscending 0 image.sections) (low : a < 2 ^ 64)
      (none : length (held a rs) ≡ 0) (n room : ℕ) (some : 0 < n)
      (within : n ≤ length (code_from image base a)) (few : n ≤ 1 ⊎ n ≤ room)
      (next : (k : ℕ) (d : SehRange) → k < length rs
      → (get_or rs k d).at ≤ a ⊎ a + room ≤ (get_or rs k d).at)
      (inside : a + room < 2 ^ 64) (far : distance base a + room < 2 ^ 64) where
    step_in : (i : ℕ) → i < n → i ≡ 0 ⊎ i < room
    step_in i lt = elim few [
      | inl one ↦ inl (omega arith)
      | inr most ↦ inr (omega arith)
    ]

    none_there : (i : ℕ) → i < n → length (held (a + i) rs) ≡ 0
    none_there i lt = elim (step_in i lt) [
      | inl z ↦ (let e : a + i ≡ a = omega arith in ap (λ x. length (held x rs)) e ∙ none)
      | inr before ↦ none_until 0 a i rs (are_placed 0 rs up) none (λ k d l. elim (next k d l) [
        | inl below ↦ inl below
        | inr above ↦ inr (omega arith)
      ])
    ]

    place : (i : ℕ) → i < n → distance base (a + i) ≡ distance base a + i
    place i lt = elim (step_in i lt) [
      | inl z ↦ (let e : a + i ≡ a = omega arith in ap (distance base) e
          ∙ (let f : distance base a ≡ distance base a + i = omega arith in f))
      | inr before ↦ omega arith
    ]

    code_after : (i : ℕ) → i < n → code_from image base (a + i) ≡ drop i (code_from image base a)
    code_after i lt = ap (λ d. stored_in d (section_at d image.sections)) (place i lt)
        ∙ stored_after (distance base a) i image.sections ascend (omega arith)

    code_left : (i : ℕ) → i < n → 0 < length (code_from image base (a + i))
    code_left i lt =
        let same = ap length (code_after i lt) in
        omega (arith, same, length-drop i (code_from image base a))

    abbrev bytes : List ℕ
    bytes = take n (code_from image base a)

    len : length bytes ≡ n
    len = length-take-le n (code_from image base a) within

    end : a + n ≤ 2 ^ 64
    end = elim few [
      | inl one ↦ omega arith
      | inr most ↦ omega arith
    ]

    byte_at : (i : ℕ) → i < n → (snapshot image base rs).byte (a + i) ≡ get_or bytes i 0
    byte_at i lt =
        code_byte (held (a + i) rs) (code_from image base (a + i)) (none_there i lt)
        (code_left i lt)
        ∙ ap (λ (xs : List ℕ). get_or xs 0 0) (code_after i lt)
        ∙ get_or-drop i (code_from image base a) 0 0
        ∙ (let e : i + 0 ≡ i = omega arith in ap (λ k. get_or (code_from image base a) k 0) e)
        ∙ sym (get_or-take n (code_from image base a) i 0 lt)

    mode_at : (i : ℕ) → i < n → (snapshot image base rs).protection (a + i) ≡ CODE
    mode_at i lt = code_protection (held (a + i) rs) (code_from image base (a + i))
        (none_there i lt) (code_left i lt)

    pub rest_of_code : (xs : List ℕ) → xs ≡ bytes → ((i : ℕ) → get_or xs i 0 < 256)
        → IsRestOfPage (snapshot image base rs) a CODE xs
    rest_of_code xs is fits =
        let same : length xs ≡ n = ap length is ∙ len in
        record {
          mode_is = (let e : a ≡ a + 0 = omega arith in
              ap (snapshot image base rs).protection e ∙ mode_at 0 some);
          modes = λ i lt. mode_at i (omega arith);
          bytes_are = λ i lt. byte_at i (omega arith)
              ∙ ap (λ (ys : List ℕ). get_or ys i 0) (sym is);
          inside = omega (arith, end);
          small = fits;
          unmapped = λ z. absurd (omega arith);
        }
