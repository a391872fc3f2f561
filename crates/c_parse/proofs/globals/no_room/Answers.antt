use Rattle.std.proofs.Common.{inl, inr, ◌∙◌, ap}
use Rattle.std.specs.Prelude.{ℕ}
use Rattle.c_syntax.specs.declared.limit.Count.TheVariants.{Globals}
use Rattle.c_parse.specs.Words.{TooMany}
use Rattle.c_parse.proofs.Declarators.{no_ends}
use Rattle.c_parse.proofs.globals.no_room.Goals as goal

pub returns-in-Some : goal.returns-in-Some
returns-in-Some c = let h = c.in-Some.ensures.found in
    inl (
      c.too_many_bytes.ensures ∙ ap (λ (x : ℕ). TooMany x Globals) c.place.ensures,
      (c.in-Some.field-0.now, inl h),
    )

pub returns-in-Some-after : goal.returns-in-Some-after
returns-in-Some-after c = let h = c.in-Some-after.ensures.found in
    inl (
      c.too_many_bytes-in-Some-after.ensures
          ∙ ap (λ (x : ℕ). TooMany x Globals) c.place-in-Some-after.ensures,
      (c.in-Some-after.field-0.now, inr (inl h)),
    )

pub returns-in-Some-after-2 : goal.returns-in-Some-after-2
returns-in-Some-after-2 c = let h = c.in-Some-after-2.ensures.found in
    inl (
      c.too_many_bytes-in-Some-after-2.ensures
          ∙ ap (λ (x : ℕ). TooMany x Globals) c.place-in-Some-after-2.ensures,
      (c.in-Some-after-2.field-0.now, inr (inr h)),
    )

pub returns : goal.returns
returns c = inr (
  c.unexpected.ensures,
  no_ends c.args.tokens.now c.in_default.ensures.none
      c.in_default-after.ensures.none c.in_default-after-2.ensures.none,
)
