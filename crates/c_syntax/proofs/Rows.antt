-- The rows' derivations.
use Rattle.std.proofs.Common.{◌≤◌, ◌<◌, ℕ, List, refl, arith, inl}
use Rattle.c_syntax.specs.Words.{Punctuator, Token, Expression, rank, OfLevel, TighterThan, IsApplied, IsContinued, IsEnclosed, Differences, Product, CastOfElement, Choices, Assignments, TwoArguments, NearestIf, NoOtherIf, Phrase, HasPunctuator}

-- ---- what derivations are made of

operand : {l : ℕ} {e : Expression} {R : Phrase} {ts rest : List Token} → rank e ≤ l → R ts rest
    → OfLevel l e R ts rest
operand f h = record { fits = f; spells = h }

tighter : {l : ℕ} {e : Expression} {R : Phrase} {ts rest : List Token} → rank e < l → R ts rest
    → TighterThan l e R ts rest
tighter f h = record { fits = f; spells = h }

enclosed : {O R : Phrase} {close : Punctuator} {ts rest : List Token} (a b : List Token)
    → O ts a → R a b → HasPunctuator close b rest → IsEnclosed O R close ts rest
enclosed a b h i j =
    record { after_opening = a; after_inner = b; opening = h; inner = i; closing = j }

applied : {R S : Phrase} {ts rest : List Token} (mid : List Token) → R ts mid → S mid rest
    → IsApplied R S ts rest
applied mid h i = record { after_operator = mid; operator = h; operand = i }

continued : {R S : Phrase} {ts rest : List Token} (mid : List Token) → R ts mid → S mid rest
    → IsContinued R S ts rest
continued mid h i = record { after_operand = mid; operand = h; step = i }

-- ---- the rows

pub differences : Differences
differences =
    operand (omega arith)
    (continued _
    (operand (omega arith)
    (continued _ (operand (omega arith) refl) (applied _ (2, refl) (tighter (omega arith) refl))))
    (applied _ (4, refl) (tighter (omega arith) refl)))

pub product : Product
product =
    operand (omega arith)
    (continued _ (operand (omega arith) refl)
    (applied _ (2, refl)
    (tighter (omega arith)
    (continued _ (operand (omega arith) refl) (applied _ (4, refl) (tighter (omega arith) refl))))))

pub cast_of_element : CastOfElement
cast_of_element =
    operand (omega arith)
    (applied _
    (enclosed _ _ (1, refl) (_, inl (_, (1, (4, refl)), refl), (_, (4, (5, refl)), refl))
    (5, (6, refl)))
    (operand (omega arith)
    (continued _ (operand (omega arith) refl) (enclosed _ _ (8, refl) refl (9, (10, refl))))))

pub choices : Choices
choices =
    operand (omega arith)
    (continued _ (operand (omega arith) refl)
    (applied _ (enclosed _ _ (2, refl) refl (3, (4, refl)))
    (operand (omega arith)
    (continued _ (operand (omega arith) refl)
    (applied _ (enclosed _ _ (6, refl) refl (7, (8, refl))) (operand (omega arith) refl))))))

pub assignments : Assignments
assignments =
    operand (omega arith)
    (continued _ (operand (omega arith) refl)
    (applied _ (2, refl)
    (operand (omega arith)
    (continued _ (operand (omega arith) refl) (applied _ (4, refl) (operand (omega arith) refl))))))

pub two_arguments : TwoArguments
two_arguments =
    operand (omega arith)
    (record {
      after_name = _;
      after_opening = _;
      called = refl;
      opening = (1, (2, refl));
      arguments = record {
        after_first = _;
        first = operand (omega arith) refl;
        others = record {
          after_comma = _;
          after_element = _;
          comma = (3, (4, refl));
          element = operand (omega arith) (applied _ (5, refl) (operand (omega arith) refl));
          others = (6, (7, refl));
        };
      };
    })

pub nearest_if : NearestIf
nearest_if = record {
  after_keyword = _;
  after_condition = _;
  keyword = (2, refl);
  condition = record {
    after_opening = _;
    after_inner = _;
    opening = (2, (3, refl));
    inner = record { fits = omega arith; spells = refl };
    closing = (4, (5, refl));
  };
  body = record {
    no_declaration = refl;
    item = record {
      after_if = _;
      after_condition = _;
      after_body = _;
      after_else = _;
      keyword = (7, refl);
      condition = record {
        after_opening = _;
        after_inner = _;
        opening = (7, (8, refl));
        inner = record { fits = omega arith; spells = refl };
        closing = (9, (10, refl));
      };
      complete = refl;
      body = record { no_declaration = refl; item = (_, refl, (10, (11, refl))) };
      else_keyword = (11, (15, refl));
      else_body = record { no_declaration = refl; item = (_, refl, (15, (16, refl))) };
    };
  };
}

pub no_other_if : NoOtherIf
no_other_if ts rest h = cc
