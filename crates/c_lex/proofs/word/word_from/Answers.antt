use Rattle.std.proofs.Common.{◌≡◌, true, sym, ◌∙◌, arith, refl}
use Rattle.std.proofs.lemmas.Bool.Decides.{nat_tests}
use Rattle.c_lex.specs.Vocabulary.{is_digit}
use Rattle.c_lex.proofs.FirstBytes.{name_first, zero_first, digit_first, quote_first, slash_first}
use Rattle.c_lex.proofs.FirstBytes.{space_first, punctuator_first}
use Rattle.c_lex.proofs.word.word_from.Goals as goal

pub overflow_sub-first : goal.overflow_sub-first
unfolding is_digit
overflow_sub-first c = let d : is_digit c.args.first ≡ true = sym c.is_digit.ensures
    ∙ c.if-is_digit.true in grind (arith, nat_tests, d)

pub returns-then-is_letter : goal.returns-then-is_letter
returns-then-is_letter c =
    name_first c.args.first c.args.rest.now c.args.text.now c.named.result.1.now c.named.result.0
    c.requires (sym c.is_letter.ensures ∙ c.if-is_letter.true) c.named.ensures.word
    c.named.ensures.rest

pub returns-then-first-eq48 : goal.returns-then-first-eq48
returns-then-first-eq48 c =
    zero_first c.args.first c.args.rest.now c.args.text.now c.zero.result.1.now c.zero.result.0
    c.requires (sym c.is_letter.ensures ∙ c.if-is_letter.false) c.if-first-eq48.true c.zero.ensures

pub returns-then-is_digit : goal.returns-then-is_digit
returns-then-is_digit c =
    digit_first c.args.first c.args.rest.now c.args.text.now c.digits.result.1.now c.digits.result.0
    c.requires (sym c.is_letter.ensures ∙ c.if-is_letter.false) c.if-first-eq48.false
    (sym c.is_digit.ensures ∙ c.if-is_digit.true) c.digits.ensures

pub returns-then-first-eq39 : goal.returns-then-first-eq39
returns-then-first-eq39 c =
    quote_first c.args.first c.args.rest.now c.args.text.now c.quoted.result.1.now c.quoted.result.0
    c.requires (sym c.is_letter.ensures ∙ c.if-is_letter.false) c.if-first-eq48.false
    (sym c.is_digit.ensures ∙ c.if-is_digit.false) c.if-first-eq39.true c.quoted.ensures

pub returns-then-first-eq47 : goal.returns-then-first-eq47
returns-then-first-eq47 c =
    slash_first c.args.first c.args.rest.now c.args.text.now c.slash.result.1.now c.slash.result.0
    c.requires (sym c.is_letter.ensures ∙ c.if-is_letter.false) c.if-first-eq48.false
    (sym c.is_digit.ensures ∙ c.if-is_digit.false) c.if-first-eq39.false c.if-first-eq47.true
    c.slash.ensures

pub returns-then-is_space : goal.returns-then-is_space
returns-then-is_space c = space_first c.args.first c.args.rest.now c.args.text.now c.args.rest.now _
    c.requires (sym c.is_letter.ensures ∙ c.if-is_letter.false) c.if-first-eq48.false
    (sym c.is_digit.ensures ∙ c.if-is_digit.false) c.if-first-eq39.false c.if-first-eq47.false
    (sym c.is_space.ensures ∙ c.if-is_space.true) refl refl

pub returns-else-is_space : goal.returns-else-is_space
returns-else-is_space c =
    punctuator_first c.args.first c.args.rest.now c.args.text.now c.longest_punctuator.result.1.now
    c.longest_punctuator.result.0 c.requires (sym c.is_letter.ensures ∙ c.if-is_letter.false)
    c.if-first-eq48.false (sym c.is_digit.ensures ∙ c.if-is_digit.false) c.if-first-eq39.false
    c.if-first-eq47.false (sym c.is_space.ensures ∙ c.if-is_space.false)
    c.longest_punctuator.ensures
