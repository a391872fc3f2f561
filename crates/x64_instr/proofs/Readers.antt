-- Readers: each takes a front of the bytes, and what it reads there doesn't depend on what follows.
use Rattle.std.proofs.Common.{◌≡◌, ℕ, zero, suc, ◌+◌, ◌*◌, Bool, true, false, cond, List, [], ◌∷◌, ◌++◌, Option, Some, None, refl, sym, ap, ◌∙◌, append_assoc}
use Rattle.seh_num.specs.declared.width.Width.{Width}
use Rattle.seh_num.specs.Widths.{bytes_of}
use Rattle.x64_instr.specs.Reading.{Read, ◌>>=◌, byte, number, signed, extended}
use Rattle.x64_instr.specs.Spelling.{given}

-- what a reader took
pub record Takes {A : Type 0} (read : List ℕ → Read A) (bytes : List ℕ) (x : A)
    (rest : List ℕ) : Type 0 where
  pub front : List ℕ
  pub whole : bytes ≡ front ++ rest
  pub alike : (more : List ℕ) → read (front ++ more) ≡ Some (x, more)

pub record IsReader {A : Type 0} (read : List ℕ → Read A) : Type 0 where
  pub takes : (bytes : List ℕ) (x : A) (rest : List ℕ) → read bytes ≡ Some (x, rest)
      → Takes read bytes x rest

abbrev pub read_as : {A : Type 0} → A → List ℕ → Read A
read_as x rest = Some (x, rest)

pub pair : {A : Type 0} (x y : A) (u v : List ℕ) → read_as x u ≡ read_as y v → (x ≡ y) × (u ≡ v)
pair {A} x y u v e = let f : ◌≡◌ {A = A × List ℕ} (x, u) (y, v) = cc in
    (ap (λ (p : A × List ℕ). p.0) f, ap (λ (p : A × List ℕ). p.1) f)

pub byte-IsReader : IsReader byte
byte-IsReader = record { takes = go }
  where
    go : (bytes : List ℕ) (x : ℕ) (rest : List ℕ) → byte bytes ≡ Some (x, rest)
        → Takes byte bytes x rest
    go [] x rest e = absurd cc
    go (b ∷ bytes) x rest e =
        let p = pair b x bytes rest e in
        record {
          front = x ∷ [];
          whole = ap (λ c. c ∷ bytes) p.0 ∙ ap (λ r. x ∷ r) p.1;
          alike = λ more. refl;
        }

pub done-IsReader : {A : Type 0} (x : A) → IsReader (λ bytes. Some (x, bytes))
done-IsReader {A} x = record {
  takes = λ bytes y rest e. let p = pair x y bytes rest e in
      record { front = []; whole = p.1; alike = λ more. ap (λ (z : A). Some (z, more)) p.0 };
}

pub fail-IsReader : {A : Type 0} → IsReader {A = A} (λ bytes. None)
fail-IsReader = record { takes = λ bytes x rest e. absurd cc }

pub bind_some : {A B : Type 0} (r : Read A) (f : A × List ℕ → Read B) (y : B × List ℕ)
    → (r >>= f) ≡ Some y → (x : A × List ℕ) × (r ≡ Some x) × (f x ≡ Some y)
bind_some None f y e = absurd cc
bind_some (Some x) f y e = (x, refl, e)

pub bind-IsReader : {A B : Type 0} (read : List ℕ → Read A) (next : A → List ℕ → Read B)
    → IsReader read → ((x : A) → IsReader (next x))
    → IsReader (λ bytes. read bytes >>= λ p. next p.0 p.1)
bind-IsReader {A} {B} read next r n = record { takes = go }
  where
    go : (bytes : List ℕ) (y : B) (rest : List ℕ)
        → (read bytes >>= λ p. next p.0 p.1) ≡ Some (y, rest)
        → Takes (λ bs. read bs >>= λ p. next p.0 p.1) bytes y rest
    go bytes y rest e =
        let b = bind_some (read bytes) (λ p. next p.0 p.1) (y, rest) e in
        let first = r.takes bytes b.0.0 b.0.1 b.1 in
        let second = (n b.0.0).takes b.0.1 y rest b.2 in
        record {
          front = first.front ++ second.front;
          whole = first.whole ∙ ap (λ (t : List ℕ). first.front ++ t) second.whole
              ∙ sym (append_assoc first.front second.front rest);
          alike = λ more. ap (λ bs. read bs >>= λ p. next p.0 p.1)
              (append_assoc first.front second.front more)
              ∙ ap (λ (o : Read A). o >>= λ p. next p.0 p.1) (first.alike (second.front ++ more))
              ∙ second.alike more;
        }

pub map-IsReader : {A B : Type 0} (read : List ℕ → Read A) (f : A → B) → IsReader read
    → IsReader (λ bytes. read bytes >>= λ p. Some (f p.0, p.1))
map-IsReader read f r = bind-IsReader read (λ x bytes. Some (f x, bytes)) r
    (λ x. done-IsReader (f x))

pub if-IsReader : {A : Type 0} (b : Bool) (yes no : List ℕ → Read A) → IsReader yes → IsReader no
    → IsReader (λ bytes. cond b (yes bytes) (no bytes))
if-IsReader {A} b f g y n = elim b as (λ v. IsReader (λ bytes. cond v (f bytes) (g bytes)))
    [ true ↦ y | false ↦ n ]

pub given-IsReader : {A : Type 0} (o : Option A) → IsReader (given o)
given-IsReader None = fail-IsReader
given-IsReader (Some x) = done-IsReader x

pub number-IsReader : (n : ℕ) → IsReader (number n)
number-IsReader zero = done-IsReader 0
number-IsReader (suc n) = bind-IsReader byte (λ b bytes. number n bytes
    >>= λ v. Some (b + 256 * v.0, v.1)) byte-IsReader
    (λ b. bind-IsReader (number n) (λ v bytes. Some (b + 256 * v, bytes)) (number-IsReader n)
    (λ v. done-IsReader (b + 256 * v)))

pub signed-IsReader : (from to : Width) → IsReader (signed from to)
signed-IsReader from to = map-IsReader (number (bytes_of from)) (extended from to)
    (number-IsReader (bytes_of from))
