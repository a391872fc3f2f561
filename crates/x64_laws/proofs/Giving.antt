-- What readers give of bytes: values that are such, after at most so many bytes.
use Rattle.std.proofs.Common.{◌≡◌, ℕ, zero, suc, ◌+◌, ◌-◌, ◌*◌, ◌^◌, ◌<◌, ◌≤◌, Bool, true, false, cond, ltb, leb, List, [], ◌∷◌, length, Option, Some, None, refl, ap, subst, ◌∙◌, arith, inl, inr}
use Rattle.std.specs.Prelude.{◌&&◌, ◌||◌}
use Rattle.std.proofs.Math.Nat.{pow-suc}
use Rattle.std.proofs.lemmas.Bool.{cases_lt, lt-ltb, le-ltb, le-leb}
use Rattle.x64_laws.specs.Words.{Width, W8, W16, W32, W64, bytes_of, limit, half, Read, ◌>>=◌, byte, extended, given, AreByteValues}
use Rattle.x64_instr.specs.Reading.{number, signed}
use Rattle.x64_instr.proofs.Readers.{pair, bind_some}
use Rattle.x64_encode.specs.Chosen.{is_signed}
use Rattle.x64_laws.proofs.Lemmas.{limits}
use Rattle.x64_laws.proofs.Numbers.{half_at_most}

-- what was given of these bytes
pub record Given {A : Type 0} (P : A → Type 0) (most : ℕ) (bytes : List ℕ) (x : A)
    (rest : List ℕ) : Type 0 where
  pub value : P x
  pub few : length bytes ≤ most + length rest
  pub others : AreByteValues rest

pub record Gives {A : Type 0} (P : A → Type 0) (most : ℕ) (read : List ℕ → Read A) : Type 0 where
  pub gives : (bytes : List ℕ) (x : A) (rest : List ℕ) → AreByteValues bytes
      → read bytes ≡ Some (x, rest) → Given P most bytes x rest

pub at_most : {A : Type 0} (P : A → Type 0) (n m : ℕ) (read : List ℕ → Read A) → n ≤ m
    → Gives P n read → Gives P m read
at_most P n m read le g = record {
  gives = λ bytes x rest h e. let r = g.gives bytes x rest h e in
      record { value = r.value; few = (let f = r.few in omega arith); others = r.others };
}

pub byte-Gives : Gives (λ b. b < 256) 1 byte
byte-Gives = record { gives = go }
  where
    go : (bytes : List ℕ) (x : ℕ) (rest : List ℕ) → AreByteValues bytes
        → byte bytes ≡ Some (x, rest) → Given (λ b. b < 256) 1 bytes x rest
    go [] x rest h e = absurd cc
    go (b ∷ bytes) x rest h e =
        let p = pair b x bytes rest e in
        record {
          value = subst (λ (n : ℕ). n < 256) p.0 h.0;
          few = (let l = ap (λ (xs : List ℕ). length xs) p.1 in omega arith);
          others = subst AreByteValues p.1 h.1;
        }

pub done-Gives : {A : Type 0} (P : A → Type 0) (x : A) → P x → Gives P 0 (λ bytes. Some (x, bytes))
done-Gives {A} P x is = record {
  gives = λ bytes y rest h e.
      let p = pair x y bytes rest e in
      record {
        value = subst P p.0 is;
        few = (let l = ap (λ (xs : List ℕ). length xs) p.1 in omega arith);
        others = subst AreByteValues p.1 h;
      };
}

pub fail-Gives : {A : Type 0} (P : A → Type 0) (n : ℕ) → Gives P n (λ bytes. None)
fail-Gives P n = record { gives = λ bytes x rest h e. absurd cc }

pub bind-Gives : {A B : Type 0} (P : A → Type 0) (Q : B → Type 0) (n m : ℕ) (read : List ℕ → Read A)
    (next : A → List ℕ → Read B)
    → Gives P n read → ((x : A) → P x → Gives Q m (next x))
    → Gives Q (n + m) (λ bytes. read bytes >>= λ p. next p.0 p.1)
bind-Gives {A} {B} P Q n m read next r g = record { gives = go }
  where
    go : (bytes : List ℕ) (y : B) (rest : List ℕ) → AreByteValues bytes
        → (read bytes >>= λ p. next p.0 p.1) ≡ Some (y, rest) → Given Q (n + m) bytes y rest
    go bytes y rest h e =
        let b = bind_some (read bytes) (λ p. next p.0 p.1) (y, rest) e in
        let first = r.gives bytes b.0.0 b.0.1 h b.1 in
        let second = (g b.0.0 first.value).gives b.0.1 y rest first.others b.2 in
        record {
          value = second.value;
          few = (let f = first.few in let s = second.few in
              omega arith);
          others = second.others;
        }

pub map-Gives : {A B : Type 0} (P : A → Type 0) (Q : B → Type 0) (n : ℕ) (read : List ℕ → Read A)
    (f : A → B)
    → Gives P n read → ((x : A) → P x → Q (f x))
    → Gives Q n (λ bytes. read bytes >>= λ p. Some (f p.0, p.1))
map-Gives P Q n read f r q =
    at_most Q (n + 0) n (λ bytes. read bytes >>= λ p. Some (f p.0, p.1)) (omega arith)
    (bind-Gives P Q n 0 read (λ x bytes. Some (f x, bytes)) r (λ x is. done-Gives Q (f x) (q x is)))

pub if-Gives : {A : Type 0} (P : A → Type 0) (n : ℕ) (b : Bool) (first second : List ℕ → Read A)
    → (b ≡ true → Gives P n first) → (b ≡ false → Gives P n second)
    → Gives P n (λ bytes. cond b (first bytes) (second bytes))
if-Gives {A} P n b first second y f =
    let chosen : (v : Bool) → (v ≡ true → Gives P n first) → (v ≡ false → Gives P n second)
    → Gives P n (λ bytes. cond v (first bytes) (second bytes)) =
    λ v. elim v as (λ u. (u ≡ true → Gives P n first) → (u ≡ false → Gives P n second)
    → Gives P n (λ bytes. cond u (first bytes) (second bytes)))
    [ true ↦ λ g h. g refl | false ↦ λ g h. h refl ] in
    chosen b y f

pub given-Gives : {A : Type 0} (o : Option A) → Gives (λ x. Unit {0}) 0 (given o)
given-Gives None = fail-Gives (λ x. Unit {0}) 0
given-Gives (Some x) = done-Gives (λ x. Unit {0}) x tt

-- ---- numbers

one_more : (n b v : ℕ) → b < 256 → v < 256 ^ n → b + 256 * v < 256 ^ suc n
one_more n b v lt h = let p : 256 ^ suc n ≡ 256 ^ n * 256 = pow-suc 256 n in omega arith

pub number-Gives : (n : ℕ) → Gives (λ v. v < 256 ^ n) n (number n)
number-Gives zero = done-Gives (λ v. v < 256 ^ 0) 0 (omega arith)
number-Gives (suc n) =
    at_most (λ v. v < 256 ^ suc n) (1 + n) (suc n) (number (suc n)) (omega arith)
    (bind-Gives (λ b. b < 256) (λ v. v < 256 ^ suc n) 1 n byte
    (λ b bytes. number n bytes >>= λ v. Some (b + 256 * v.0, v.1)) byte-Gives
    (λ b lt. map-Gives (λ v. v < 256 ^ n) (λ v. v < 256 ^ suc n) n (number n) (λ v. b + 256 * v)
    (number-Gives n) (λ v h. one_more n b v lt h)))

pub limit_is : (w : Width) → 256 ^ bytes_of w ≡ limit w
limit_is W8 = refl
limit_is W16 = refl
limit_is W32 = refl
limit_is W64 = refl

or_true : (b c : Bool) → c ≡ true → (b || c) ≡ true
or_true true c e = refl
or_true false c e = e

pub both_true : (b c : Bool) → b ≡ true → c ≡ true → (b && c) ≡ true
both_true true c p q = q
both_true false c p q = p

-- what is extended from a width is extended from a wider one
pub extended_signed : (from over to : Width) (n : ℕ) → bytes_of from ≤ bytes_of over
    → bytes_of over ≤ bytes_of to → n < limit from → is_signed over to (extended from to n) ≡ true
extended_signed from over to n p q lt =
    let h = half_at_most from over p in
    let k = half_at_most over to q in
    let two = limits from in
    let twice = limits over in
    let all = limits to in
    elim (cases_lt n (half from)) [
      | inl l ↦
          ap (λ (b : Bool). is_signed over to (cond b n (n + (limit to - limit from))))
          (lt-ltb n (half from) l)
          ∙ ap (λ (b : Bool). b || (leb (limit to - half over) n && ltb n (limit to)))
          (lt-ltb n (half over) (omega arith))
      | inr g ↦
          let v : ℕ = n + (limit to - limit from) in
          ap (λ (b : Bool). is_signed over to (cond b n v)) (le-ltb n (half from) g)
          ∙ or_true (ltb v (half over)) (leb (limit to - half over) v && ltb v (limit to))
          (both_true (leb (limit to - half over) v) (ltb v (limit to))
          (le-leb (limit to - half over) v (omega arith)) (lt-ltb v (limit to) (omega arith)))
    ]

pub signed-Gives : (from over to : Width) → bytes_of from ≤ bytes_of over
    → bytes_of over ≤ bytes_of to → Gives (λ v. is_signed over to v ≡ true) (bytes_of from)
    (signed from to)
signed-Gives from over to p q =
    map-Gives (λ v. v < 256 ^ bytes_of from) (λ v. is_signed over to v ≡ true) (bytes_of from)
    (number (bytes_of from)) (extended from to) (number-Gives (bytes_of from))
    (λ v h. extended_signed from over to v p q (subst (λ (l : ℕ). v < l) (limit_is from) h))
