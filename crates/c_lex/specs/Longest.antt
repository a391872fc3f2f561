-- The longest word at the front of a text.
--
-- The main definition: `IsLongest`.
use Rattle.std.specs.Prelude.{◌≡◌, ℕ, Bool, ◌&&◌, true, if◌then◌else◌, List, [], ◌∷◌, ◌++◌, Option}
use Rattle.std.specs.Prelude.{Some, None}

-- The text is a word and a rest: the word is an x, and with more of the rest it is nothing.
pub record IsLongest {A : Type 0} (of : List ℕ → Option A) (text word rest : List ℕ)
    (x : A) : Type 0 where
  pub split : text ≡ word ++ rest
  pub is : of word ≡ Some x
  pub longest : (more after : List ℕ) (y : A) → rest ≡ more ++ after → of (word ++ more) ≡ Some y
      → more ≡ []

abbrev pub every : (ℕ → Bool) → List ℕ → Bool
every p [] = true
every p (b ∷ bs) = p b && every p bs

-- bytes that all pass a test
abbrev pub each : {A : Type 0} → (ℕ → Bool) → (List ℕ → A) → List ℕ → Option A
each p f bs = if every p bs then Some (f bs) else None

abbrev pub more : ℕ → List ℕ × List ℕ → List ℕ × List ℕ
more b r = (b ∷ r.0, r.1)

-- the bytes at the front that pass a test, and the rest
abbrev pub span : (ℕ → Bool) → List ℕ → List ℕ × List ℕ
span p [] = ([], [])
span p (b ∷ bs) = if p b then more b (span p bs) else ([], b ∷ bs)
