-- What is lost and taken in one call after another.
use Rattle.std.proofs.Common.{◌≡◌, ℕ, ◌+◌, ◌-◌, ◌≤◌, ◌<◌, List, [], ◌++◌, take, drop, length, arith, refl, sym, ap, ◌∙◌, append_assoc, append-nil, subst, length-append, length-drop}
use Rattle.std.specs.Prelude.{Option, Some}
use Rattle.std.specs.Option.{ForSome}
use Rattle.std.proofs.lemmas.List.{take_all, take-append-drop, length-take-le, drop-drop}
use Rattle.std.proofs.Math.Seq.{take-add, take-append_seam}
use Rattle.seh_io.specs.Streams.{Lost, Grew}
use Rattle.seh_io.specs.Successive.{grew_more}

pub lost_more : (a b c : Option (List ℕ)) (xs ys : List ℕ) → Lost a xs b → Lost b ys c
    → Lost a (xs ++ ys) c
lost_more a b c xs ys p q all known =
    let first = p all known in
    let second = q first.0 first.2 in
    (second.0, first.1 ∙ ap (λ t. xs ++ t) second.1 ∙ sym (append_assoc xs ys second.0), second.2)

pub grew_nothing : (a : Option (List ℕ)) → Grew a [] a
grew_nothing a before known = known ∙ ap Some (sym (append-nil before))

-- the next n bytes of a piece, as a slice of what follows the first i
pub next_bytes : (i n : ℕ) (xs : List ℕ) → take i xs ++ take n (take (length xs - i) (drop i xs))
    ≡ take (i + n) xs
next_bytes i n xs =
    let all : length (drop i xs) ≤ length xs - i = omega (arith, length-drop i xs) in
    ap (λ ys. take i xs ++ take n ys) (take_all (length xs - i) (drop i xs) all)
    ∙ sym (take-add i n xs)

pub grew_next : (a b c : Option (List ℕ)) (xs : List ℕ) (i n : ℕ) → Grew a (take i xs) b
    → Grew b (take n (take (length xs - i) (drop i xs))) c → Grew a (take (i + n) xs) c
grew_next a b c xs i n p q =
    subst (λ ys. Grew a ys c) (next_bytes i n xs)
    (grew_more a b c (take i xs) (take n (take (length xs - i) (drop i xs))) p q)

-- a source that has lost more than so many bytes held more
pub held_more : (a b : Option (List ℕ)) (xs : List ℕ) (most : ℕ) → Lost a xs b → most < length xs
    → ForSome a (λ all. most < length all)
held_more a b xs most p h all known =
    let first = p all known in
    omega (arith, ap length first.1, length-append xs first.0)

-- n bytes from a place on, moved over the front of a buffer
pub laid : (bytes got buf : List ℕ) (at n : ℕ) → at + n ≤ length bytes
    → got ≡ take n (drop at bytes) → Lost (Some (drop at bytes)) (take n (got ++ drop n buf))
    (Some (drop (at + n) bytes))
laid bytes got buf at n within copied all known =
    let rest = drop at bytes in
    let size : length got ≡ n = ap length copied
    ∙ length-take-le n rest (omega (arith, length-drop at bytes)) in
    let front : take n (got ++ drop n buf) ≡ take n rest = ap (λ k. take k (got ++ drop n buf))
    (sym size) ∙ take-append_seam got (drop n buf) ∙ copied in
    let all_is : all ≡ rest = cc in (
      drop (at + n) bytes,
      all_is ∙ sym (take-append-drop n rest) ∙ ap (λ t. t ++ drop n rest) (sym front)
          ∙ ap (λ t. take n (got ++ drop n buf) ++ t) (drop-drop n at bytes),
      refl,
    )
