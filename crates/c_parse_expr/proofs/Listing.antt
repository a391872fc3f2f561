-- Arguments, one after another.
use Rattle.std.proofs.Common.{◌≡◌, ◌≢◌, ◌≤◌, ◌<◌, ◌+◌, ◌-◌, ℕ, zero, suc, max, List, [], ◌∷◌, ◌++◌, map, refl, sym, ap, subst, arith}
use Rattle.c_lex.specs.declared.punctuator.Punctuator.TheVariants as punctuators
use Rattle.c_parse_expr.specs.Words.{Token, Expression, Arguments, Done, Next, arguments, height, heights, SpellsExpression, SpellsArguments, SpellsMoreArguments, Derives, Stops, assignment, HasPunctuator, NoExpression, NoArguments, AreMoreExpressions, AreListed}
use Rattle.c_parse_expr.proofs.Lemmas.{has_same, punctuator_same, front, has_stops, one_expression, expression_front}

-- ---- one more argument

more_after : (text : List ℕ) (es : List Expression) (e : Expression) (ts rest b end : List Token)
    → AreMoreExpressions text es ts rest → HasPunctuator punctuators.Comma rest b
    → Derives text assignment e b end → AreMoreExpressions text (es ++ e ∷ []) ts end
more_after text [] e ts rest b end h c d = record {
  after_comma = b;
  after_element = end;
  comma = subst (λ (z : List Token). HasPunctuator punctuators.Comma z b) (sym h) c;
  element = d;
  others = refl;
}
more_after text (x ∷ es) e ts rest b end h c d = record {
  after_comma = h.after_comma;
  after_element = h.after_element;
  comma = h.comma;
  element = h.element;
  others = more_after text es e h.after_element rest b end h.others c d;
}

pub listed_after : (text : List ℕ) (es : List Expression) (e : Expression)
    (ts rest b end : List Token) → AreListed text es ts rest → HasPunctuator punctuators.Comma rest
    b → Derives text assignment e b end → AreListed text (es ++ e ∷ []) ts end
listed_after text [] e ts rest b end h c d = absurd h
listed_after text (x ∷ es) e ts rest b end h c d = record {
  after_first = h.after_first;
  first = h.first;
  others = more_after text es e h.after_first rest b end h.others c d;
}

pub heights_after : (es : List Expression) (e : Expression)
    → heights (arguments (es ++ e ∷ [])) ≡ max (heights (arguments es)) (height e + 1)
heights_after [] e = omega arith
heights_after (x ∷ es) e = let a = heights_after es e in omega arith

pub mapped_after : {A B : Type 0} (f : A → B) (xs : List A) (x : A)
    → map f (xs ++ x ∷ []) ≡ map f xs ++ f x ∷ []
mapped_after f [] x = refl
mapped_after f (y ∷ xs) x = ap (λ z. f y ∷ z) (mapped_after f xs x)

pub positive : (n : ℕ) → (n ≡ 0 → ⊥) → 1 ≤ n
positive zero h = absurd (h refl)
positive (suc n) h = omega arith

-- ---- the parenthesis after them

more_spelled : (text : List ℕ) (es : List Expression) (ts rest end : List Token)
    → AreMoreExpressions text es ts rest → HasPunctuator punctuators.CloseParenthesis rest end
    → SpellsMoreArguments text (arguments es) ts end
more_spelled text [] ts rest end h c = subst (λ (z : List Token). HasPunctuator
    punctuators.CloseParenthesis z end) (sym h) c
more_spelled text (e ∷ es) ts rest end h c = record {
  after_comma = h.after_comma;
  after_element = h.after_element;
  comma = h.comma;
  element = h.element;
  others = more_spelled text es h.after_element rest end h.others c;
}

pub listed_spelled : (text : List ℕ) (es : List Expression) (ts rest end : List Token)
    → AreListed text es ts rest → HasPunctuator punctuators.CloseParenthesis rest end
    → SpellsArguments text (arguments es) ts end
listed_spelled text [] ts rest end h c = absurd h
listed_spelled text (e ∷ es) ts rest end h c = record {
  after_first = h.after_first;
  first = h.first;
  others = more_spelled text es h.after_first rest end h.others c;
}

-- ---- what can be after what was read

comma_stops : (ts rest : List Token) → HasPunctuator punctuators.Comma ts rest → Stops assignment ts
comma_stops ts rest h = has_stops punctuators.Comma ts rest assignment h (omega arith)

close_stops : (ts rest : List Token) → HasPunctuator punctuators.CloseParenthesis ts rest
    → Stops assignment ts
close_stops ts rest h = has_stops punctuators.CloseParenthesis ts rest assignment h (omega arith)

spelled_stops : (text : List ℕ) (xs : Arguments) (ts end : List Token)
    → SpellsMoreArguments text xs ts end → Stops assignment ts
spelled_stops text Done ts end h = close_stops ts end h
spelled_stops text (Next x xs) ts end h = comma_stops ts h.after_comma h.comma

more_stops : (text : List ℕ) (es : List Expression) (ts rest : List Token)
    → AreMoreExpressions text es ts rest
    → Stops assignment rest → Stops assignment ts
more_stops text [] ts rest h s = subst (λ (z : List Token). Stops assignment z) (sym h) s
more_stops text (e ∷ es) ts rest h s = comma_stops ts h.after_comma h.comma

pub not_both : (ts rest end : List Token) → HasPunctuator punctuators.Comma ts rest
    → HasPunctuator punctuators.CloseParenthesis ts end → ⊥
not_both ts rest end h g = let q = (punctuator_same punctuators.Comma punctuators.CloseParenthesis
    h.0 g.0 ts ts rest end refl h.1 g.1).0 in
    let e : punctuators.Comma ≡ punctuators.CloseParenthesis = q in cc

not_begun : (text : List ℕ) (e : Expression) (ts rest end : List Token)
    → SpellsExpression text e ts rest → HasPunctuator punctuators.CloseParenthesis ts end → ⊥
not_begun text e ts rest end h g = let a = expression_front text e ts rest h in
    let b : front ts ≡ 6 = ap front g.1.1 in absurd (omega arith)

record Left (text : List ℕ) (w room : ℕ) (ts end : List Token) : Type 0 where
  others : Arguments
  spells : SpellsMoreArguments text others ts end
  low : 1 ≤ w → heights others ≤ room

same_next : (text : List ℕ) (e x : Expression) (ts us rest end : List Token) → ts ≡ us
    → Derives text assignment e ts rest → Stops assignment rest → Derives text assignment x us end
    → Stops assignment end → rest ≡ end
same_next text e x ts us rest end p d s g z =
    (one_expression text assignment e x ts rest end d
    (subst (λ (y : List Token). Derives text assignment x y end) (sym p) g) s z).1

more_back : (text : List ℕ) (w room : ℕ) (es : List Expression) (xs : Arguments)
    (ts rest end : List Token) → AreMoreExpressions text es ts rest → Stops assignment rest →
    SpellsMoreArguments text xs ts end → (1 ≤ w → heights xs ≤ room) → Left text w room rest end
more_back text w room [] xs ts rest end h s g
    low = record {
      others = xs;
      spells = subst
          (λ (z : List Token). SpellsMoreArguments text xs z end) h g;
      low = low;
    }
more_back text w room (e ∷ es) Done ts rest end h s g low =
    absurd (not_both ts h.after_comma end h.comma g)
more_back text w room (e ∷ es) (Next x xs) ts rest end h s g low =
    let p = has_same punctuators.Comma ts ts h.after_comma g.after_comma refl h.comma g.comma in
    let q = same_next text e x h.after_comma g.after_comma h.after_element g.after_element p
    h.element
    (more_stops text es h.after_element rest h.others s) g.element
    (spelled_stops text xs g.after_element end g.others) in
    more_back text w room es xs h.after_element rest end h.others s
    (subst (λ (z : List Token). SpellsMoreArguments text xs z end) (sym q) g.others)
    (λ k. let a = low k in omega arith)

listed_back : (text : List ℕ) (w room : ℕ) (es : List Expression) (xs : Arguments)
    (ts rest end : List Token) → AreListed text es ts rest → Stops assignment rest → SpellsArguments
    text xs ts end → (1 ≤ w → heights xs ≤ room) → Left text w room rest end
listed_back text w room [] xs ts rest end h s g low = absurd h
listed_back text w room (e ∷ es) Done ts rest end h s g low =
    absurd (not_begun text e ts h.after_first end h.first.spells g)
listed_back text w room (e ∷ es) (Next x xs) ts rest end h s g low =
    let q = same_next text e x ts ts h.after_first g.after_first refl h.first
    (more_stops text es h.after_first rest h.others s) g.first
    (spelled_stops text xs g.after_first end g.others) in
    more_back text w room es xs h.after_first rest end h.others s
    (subst (λ (z : List Token). SpellsMoreArguments text xs z end) (sym q) g.others)
    (λ k. let a = low k in omega arith)

-- ---- refusals

none_left : (text : List ℕ) (w room : ℕ) (xs : Arguments) (rest end : List Token)
    → SpellsMoreArguments text xs rest end → (1 ≤ w → heights xs ≤ room)
    → ((b : List Token) → HasPunctuator punctuators.CloseParenthesis rest b → ⊥)
    → ((x : Expression) (b c : List Token) → HasPunctuator punctuators.Comma rest b → Derives text
    assignment x b c → Stops assignment c → (1 ≤ w → height x < room) → ⊥)
    → ⊥
none_left text w room Done rest end h low n m = n end h
none_left text w room (Next x xs) rest end h low n m =
    m x h.after_comma h.after_element h.comma h.element
    (spelled_stops text xs h.after_element end h.others)
    (λ k. let a = low k in omega arith)

pub stuck : (text : List ℕ) (w room : ℕ) (es : List Expression) (ts rest : List Token)
    → AreListed text es ts rest → Stops assignment rest
    → ((b : List Token) → HasPunctuator punctuators.CloseParenthesis rest b → ⊥)
    → ((b : List Token) → HasPunctuator punctuators.Comma rest b → ⊥)
    → NoArguments room w text ts
stuck text w room es ts rest h s n m xs end g low =
    let l = listed_back text w room es xs ts rest end h s g low in
    none_left text w room l.others rest end l.spells l.low n (λ x b c k d z u. m b k)

pub no_next : (text : List ℕ) (w room : ℕ) (es : List Expression) (ts rest following : List Token)
    → AreListed text es ts rest → Stops assignment rest
    → HasPunctuator punctuators.Comma rest following
    → NoExpression assignment (room - 1) w text following → NoArguments room w text ts
no_next text w room es ts rest following h s k n xs end g low =
    let l = listed_back text w room es xs ts rest end h s g low in
    none_left text w room l.others rest end l.spells l.low (λ b c. not_both rest following b k c)
    (λ x b c j d z u. let q = has_same punctuators.Comma rest rest b following refl j k in n x c
    (subst (λ (y : List Token). Derives text assignment x y c) q d) z
    (λ k. let a = u k in omega arith))

pub no_first : (text : List ℕ) (w room : ℕ) (ts : List Token)
    → ((b : List Token) → HasPunctuator punctuators.CloseParenthesis ts b → ⊥)
    → NoExpression assignment (room - 1) w text ts → NoArguments room w text ts
no_first text w room ts n m Done end g low = n end g
no_first text w room ts n m (Next x xs) end g low =
    m x g.after_first g.first (spelled_stops text xs g.after_first end g.others)
    (λ k. let a = low k in omega arith)

pub no_place : (text : List ℕ) (ts : List Token)
    → ((b : List Token) → HasPunctuator punctuators.CloseParenthesis ts b → ⊥)
    → NoArguments 0 1 text ts
no_place text ts n Done end g low = n end g
no_place text ts n (Next x xs) end g low = let a = low (omega arith) in absurd (omega arith)

-- ---- the loop

-- Arguments were read up to the rest, and so many expressions are around a part of one.
pub record AreArgumentsRead (room over : ℕ) (text : List ℕ) (es : List Expression)
    (ts rest : List Token) : Type 0 where
  pub some_room : room ≢ 0
  pub low : over ≤ room
  pub exact : over ≡ heights (arguments es)
  pub listed : AreListed text es ts rest
  pub stops : Stops assignment rest
