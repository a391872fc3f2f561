-- What is recorded around a part continues to be recorded in the parts of it.
use Rattle.std.proofs.Common.{◌≡◌, ◌⊎◌, inl, inr, ℕ, ◌+◌, ◌<◌, ◌≤◌, List, length, subst, arith}
use Rattle.std.proofs.lemmas.Bool.{cases_lt}
use Rattle.std.specs.Prelude.{true, Option, Some, None}
use Rattle.lowering_locals.specs.Words.{Inside, statement_sound, Statement, Declare, Block, Statements, LinearProgram, BodyName, statements_size, Names, Way, Nowhere, Jumps, filter_names, finally_names, unwound, SeenNames, with_local, IsPart, after_statement, statements_sets, set_in}
use Rattle.lowering_expressions.specs.declared.scope.Way.TheVariants.{Unwinds}
use Rattle.lowering_locals.proofs.Lemmas.{IsSegmentAt, sees_own, sees_before, itself, within}
use Rattle.lowering_locals.proofs.StraightCode.{is_same_back}
use Rattle.lowering_locals.proofs.ExpressionSets.{IsAround}
use Rattle.lowering_locals.proofs.SetLists.{statements_long, statements_above, above_at}
use Rattle.lowering_locals.proofs.StatementPieces.{code_kept, base_kept, below_with, around_declared, declared_small, WayIn, LabelIn}

pub around_finally : (locals : ℕ) (names : Names) (before seen : SeenNames) → names.free < locals
    → IsAround locals names before seen → IsAround locals (finally_names names) before
    (with_local names.free seen)
around_finally locals names before seen lt a =
    let more = with_local names.free seen in
    let g = sees_before seen names.free in
    record {
      part = within before seen more a.part g;
      below = below_with locals names.free seen a.below lt;
      code = code_kept seen more names.exception g a.code;
      flag = sees_own seen names.free;
      base = base_kept seen more names.part g a.base;
    }

pub around_filter : (locals : ℕ) (names : Names) (before seen : SeenNames)
    → IsAround locals names before seen → IsAround locals (filter_names names) before seen
around_filter locals names before seen a = record {
  part = a.part;
  below = a.below;
  code = tt;
  flag = a.flag;
  base = a.base;
}

pub around_after : (s : Statement) (i : Inside) (locals : ℕ) (names : Names)
    (before seen : SeenNames) → length i.scope.sizes ≤ locals → statement_sound i s ≡ true
    → IsAround locals names before seen → IsAround locals names (after_statement before s)
    (after_statement seen s)
around_after (Declare d) i locals names before seen fits ok a = around_declared locals names before
    seen d (declared_small i.scope d locals fits ok) a
around_after (Block ss) i locals names before seen fits ok a = a
around_after s i locals names before seen fits ok a = a

module _ (linear : LinearProgram) (lists : BodyName → List SeenNames) where
  abbrev sets : BodyName → ℕ → SeenNames
  sets name label = set_in (lists name) label

  pub way_more : (name : BodyName) (seen more : SeenNames) (w : Way) → IsPart seen more
      → WayIn linear lists name seen w → WayIn linear lists name more w
  way_more name seen more Nowhere p h = tt
  way_more name seen more (Jumps label) p h = within (sets name label) seen more h p
  way_more name seen more (Unwinds label) p h = within (sets name label) seen more h p

  pub label_more : (name : BodyName) (seen more : SeenNames) (w : Option ℕ) → IsPart seen more
      → LabelIn linear lists name seen w → LabelIn linear lists name more w
  label_more name seen more None p h = tt
  label_more name seen more (Some label) p h = within (sets name label) seen more h p

  pub unwound_in : (name : BodyName) (seen : SeenNames) (w : Way) → WayIn linear lists name seen w
      → WayIn linear lists name seen (unwound w)
  unwound_in name seen Nowhere h = h
  unwound_in name seen (Jumps label) h = h
  unwound_in name seen (Unwinds label) h = h

  -- in the body of a `__try`, and at its end
  pub above_body : (name : BodyName) (body : Statements) (free : ℕ) (seen : SeenNames)
      (at label : ℕ) → IsSegmentAt (lists name) at (statements_sets free seen body)
      → sets name (at + statements_size body) ≡ seen → at ≤ label
      → label < at + statements_size body + 1
      → IsPart seen (sets name label)
  above_body name body free seen at label h e le lt = of (cases_lt label last)
    where
      last : ℕ
      last = at + statements_size body

      of : (label < last) ⊎ (last ≤ label) → IsPart seen (sets name label)
      of (inl less) = let l = statements_long body free seen in
          above_at (lists name) at (statements_sets free seen body) seen h
          (statements_above body free seen seen (itself seen)) label le (omega arith)
      of (inr more) = let same : last ≡ label = omega arith in
          subst (λ n. IsPart seen (sets name n)) same (is_same_back (sets name last) seen e)
