use Rattle.std.proofs.Common.{[], ◌∷◌}
use Rattle.c_lex.specs.declared.punctuator.Punctuator.TheVariants as punctuators
use Rattle.c_parse_expr.proofs.Lemmas.{wrapped}
use Rattle.c_parse_expr.proofs.Departing.{Mark, from_record, from_arrow, from_closing, keyword_gone, keyword_there, punctuator_gone, punctuator_there, record_gone, record_there, field_there}
use Rattle.c_parse_expr.proofs.fault.departure.Goals as goal

pub returns-in_default : goal.returns-in_default
returns-in_default c = keyword_gone c.args.text.now c.args.tokens.now c.in_default.ensures.none

pub returns-in_default-after : goal.returns-in_default-after
returns-in_default-after c =
    wrapped _ _ _ _ 0 _ _ _ _ (keyword_there c.args.text.now c.in-Some.field-0-0 c.args.tokens.now
    c.in-Some.open.now c.in-Some.ensures.found)
    (punctuator_gone punctuators.OpenParenthesis from_closing c.args.text.now c.in-Some.open.now
    c.in_default-after.ensures.none)

pub returns-in_default-after-2 : goal.returns-in_default-after-2
returns-in_default-after-2 c =
    wrapped _ _ _ _ 0 _ _ _ _ (keyword_there c.args.text.now c.in-Some.field-0-0 c.args.tokens.now
    c.in-Some.open.now c.in-Some.ensures.found)
    (wrapped _ _ _ _ 0 _ _ _ _
    (punctuator_there punctuators.OpenParenthesis from_closing c.args.text.now c.in-Some.open.now
    c.in-Some-after.close.now c.in-Some-after.ensures.found)
    (punctuator_gone punctuators.CloseParenthesis from_arrow c.args.text.now
    c.in-Some-after.close.now c.in_default-after-2.ensures.none))

pub returns-in_default-after-3 : goal.returns-in_default-after-3
returns-in_default-after-3 c =
    wrapped _ _ _ _ 0 _ _ _ _ (keyword_there c.args.text.now c.in-Some.field-0-0 c.args.tokens.now
    c.in-Some.open.now c.in-Some.ensures.found)
    (wrapped _ _ _ _ 0 _ _ _ _
    (punctuator_there punctuators.OpenParenthesis from_closing c.args.text.now c.in-Some.open.now
    c.in-Some-after.close.now c.in-Some-after.ensures.found)
    (wrapped _ _ _ _ 0 _ _ _ _
    (punctuator_there punctuators.CloseParenthesis from_arrow c.args.text.now
    c.in-Some-after.close.now c.in-Some-after-2.arrow.now c.in-Some-after-2.ensures.found)
    (punctuator_gone punctuators.Arrow from_record c.args.text.now c.in-Some-after-2.arrow.now
    c.in_default-after-3.ensures.none)))

pub returns-in_default-after_word : goal.returns-in_default-after_word
returns-in_default-after_word c =
    wrapped _ _ _ _ 0 _ _ _ _ (keyword_there c.args.text.now c.in-Some.field-0-0 c.args.tokens.now
    c.in-Some.open.now c.in-Some.ensures.found)
    (wrapped _ _ _ _ 0 _ _ _ _
    (punctuator_there punctuators.OpenParenthesis from_closing c.args.text.now c.in-Some.open.now
    c.in-Some-after.close.now c.in-Some-after.ensures.found)
    (wrapped _ _ _ _ 0 _ _ _ _
    (punctuator_there punctuators.CloseParenthesis from_arrow c.args.text.now
    c.in-Some-after.close.now c.in-Some-after-2.arrow.now c.in-Some-after-2.ensures.found)
    (wrapped _ _ _ _ 0 _ _ _ _
    (punctuator_there punctuators.Arrow from_record c.args.text.now c.in-Some-after-2.arrow.now
    c.in-Some-after-3.record.now c.in-Some-after-3.ensures.found)
    (record_gone (Mark punctuators.Arrow ∷ []) c.args.text.now c.in-Some-after-3.record.now
    c.in_default-after_word.ensures.none))))

pub returns-in-None : goal.returns-in-None
returns-in-None c =
    wrapped _ _ _ _ 0 _ _ _ _ (keyword_there c.args.text.now c.in-Some.field-0-0 c.args.tokens.now
    c.in-Some.open.now c.in-Some.ensures.found)
    (wrapped _ _ _ _ 0 _ _ _ _
    (punctuator_there punctuators.OpenParenthesis from_closing c.args.text.now c.in-Some.open.now
    c.in-Some-after.close.now c.in-Some-after.ensures.found)
    (wrapped _ _ _ _ 0 _ _ _ _
    (punctuator_there punctuators.CloseParenthesis from_arrow c.args.text.now
    c.in-Some-after.close.now c.in-Some-after-2.arrow.now c.in-Some-after-2.ensures.found)
    (wrapped _ _ _ _ 0 _ _ _ _
    (punctuator_there punctuators.Arrow from_record c.args.text.now c.in-Some-after-2.arrow.now
    c.in-Some-after-3.record.now c.in-Some-after-3.ensures.found)
    (wrapped _ _ _ _ 0 _ _ _ _ (record_there (Mark punctuators.Arrow ∷ []) c.args.text.now
    c.in-Some-after-3.record.now c.in-Some-after_word.following.now
    c.in-Some-after_word.ensures.found)
    (punctuator_gone punctuators.Arrow ([]) c.args.text.now c.in-Some-after_word.following.now
    c.in-None.ensures.none)))))

pub field_departure-requires : goal.field_departure-requires
field_departure-requires c = λ field end h. c.requires c.in-Some.field-0-0 field end
    (record {
      after_introduction = c.in-Some-after-4.field.now;
      introduction = record {
        after_keyword = c.in-Some.open.now;
        after_opening = c.in-Some-after.close.now;
        after_closing = c.in-Some-after-2.arrow.now;
        after_arrow = c.in-Some-after-3.record.now;
        after_record = c.in-Some-after_word.following.now;
        keyword = c.in-Some.ensures.found;
        opening = c.in-Some-after.ensures.found;
        closing = c.in-Some-after-2.ensures.found;
        arrow = c.in-Some-after-3.ensures.found;
        of_record = c.in-Some-after_word.ensures.found;
        last_arrow = c.in-Some-after-4.ensures.found;
      };
      field = h;
    })

pub returns-in-Some-after-4 : goal.returns-in-Some-after-4
returns-in-Some-after-4 c =
    wrapped _ _ _ _ 0 _ _ _ _ (keyword_there c.args.text.now c.in-Some.field-0-0 c.args.tokens.now
    c.in-Some.open.now c.in-Some.ensures.found)
    (wrapped _ _ _ _ 0 _ _ _ _
    (punctuator_there punctuators.OpenParenthesis from_closing c.args.text.now c.in-Some.open.now
    c.in-Some-after.close.now c.in-Some-after.ensures.found)
    (wrapped _ _ _ _ 0 _ _ _ _
    (punctuator_there punctuators.CloseParenthesis from_arrow c.args.text.now
    c.in-Some-after.close.now c.in-Some-after-2.arrow.now c.in-Some-after-2.ensures.found)
    (wrapped _ _ _ _ 0 _ _ _ _
    (punctuator_there punctuators.Arrow from_record c.args.text.now c.in-Some-after-2.arrow.now
    c.in-Some-after-3.record.now c.in-Some-after-3.ensures.found)
    (wrapped _ _ _ _ 0 _ _ _ _ (record_there (Mark punctuators.Arrow ∷ []) c.args.text.now
    c.in-Some-after-3.record.now c.in-Some-after_word.following.now
    c.in-Some-after_word.ensures.found)
    (wrapped _ _ _ _ 0 _ _ _ _ (punctuator_there punctuators.Arrow ([]) c.args.text.now
    c.in-Some-after_word.following.now c.in-Some-after-4.field.now
    c.in-Some-after-4.ensures.found)
    (wrapped _ _ _ _ 0 _ _ _ _ (field_there c.args.text.now c.in-Some-after-4.field.now)
    c.field_departure.ensures))))))
