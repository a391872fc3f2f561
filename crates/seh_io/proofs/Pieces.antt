-- What a sink took of a text that it was given in pieces.
use Rattle.std.proofs.Common.{◌≡◌, ℕ, ◌+◌, ◌-◌, ◌≤◌, List, ◌++◌, take, length, arith, sym, ap, ◌∙◌, subst}
use Rattle.std.specs.Prelude.{Option, Result, Ok, Err, OnOk, IfErr}
use Rattle.std.proofs.lemmas.List.{take-append-le}
use Rattle.std.proofs.Math.Seq.{take-append-add}
use Rattle.seh_io.specs.Streams.{Grew}
use Rattle.seh_io.specs.Successive.{grew_more}
use Rattle.seh_io.specs.declared.writing.WriteFault.{WriteFault}

-- a part of the first piece is a part of the text
pub grew_first : (a b : Option (List ℕ)) (xs ys : List ℕ) (t : ℕ) → t ≤ length xs
    → Grew a (take t xs) b → Grew a (take t (xs ++ ys)) b
grew_first a b xs ys t within p =
    subst (λ s. Grew a s b) (sym (take-append-le t xs ys within)) p

-- the first piece and a part of the second are a part of the text
pub grew_second : (a b c : Option (List ℕ)) (xs ys : List ℕ) (n t : ℕ) → length xs ≡ n → n ≤ t
    → Grew a xs b → Grew b (take (t - n) ys) c → Grew a (take t (xs ++ ys)) c
grew_second a b c xs ys n t size after p q =
    let sum : t ≡ length xs + (t - n) = omega arith in
    let whole : take t (xs ++ ys) ≡ xs ++ take (t - n) ys = ap (λ k. take k (xs ++ ys)) sum
    ∙ take-append-add xs ys (t - n) in
    subst (λ s. Grew a s c) (sym whole) (grew_more a b c xs (take (t - n) ys) p q)

-- the last piece, after which the text was taken whole or in part
pub whole_after : (r : Result (Unit {0}) WriteFault) (a b c : Option (List ℕ)) (xs ys : List ℕ)
    → Grew a xs b → OnOk r (Grew b ys c) → OnOk r (Grew a (xs ++ ys) c)
whole_after (Ok _) a b c xs ys p q = grew_more a b c xs ys p q
whole_after (Err e) a b c xs ys p q = tt

pub part_after : (r : Result (Unit {0}) WriteFault) (a b c : Option (List ℕ)) (xs ys : List ℕ)
    (n : ℕ) → length xs ≡ n → Grew a xs b → IfErr r (λ e. n ≤ e.taken)
    → IfErr r (λ e. Grew b (take (e.taken - n) ys) c)
    → IfErr r (λ e. Grew a (take e.taken (xs ++ ys)) c)
part_after (Ok _) a b c xs ys n size p after q = tt
part_after (Err e) a b c xs ys n size p after q = grew_second a b c xs ys n e.taken size after p q
