-- What the info of a fragment is.
use Rattle.std.proofs.Common.{◌≡◌, ◌&&◌, true, eqb, List, [], ◌∷◌, Option, Some, None, refl}
use Rattle.std.specs.Prelude.{is_none}
use Rattle.std.proofs.lemmas.Bool.{false≢true, and_parts, eqb-true}
use Rattle.eh_tables.specs.declared.code.UnwindCode.{UnwindCode}
use Rattle.eh_tables.specs.declared.range.RuntimeFunction.{RuntimeFunction}
use Rattle.eh_tables.specs.Infos.{Info}
use Rattle.unwind_check.specs.Chains.{has_no_codes, is_secondary}
use Rattle.unwind_check.specs.Fragments.{IsFragmentOf}

no_codes : (cs : List UnwindCode) → has_no_codes cs ≡ true → cs ≡ []
no_codes [] h = refl
no_codes (c ∷ cs) h = absurd (false≢true h)

no_parent : (o : Option RuntimeFunction) → is_none o ≡ true → o ≡ None
no_parent None h = refl
no_parent (Some r) h = absurd (false≢true h)

pub secondary : (i p : Info) → is_secondary i p ≡ true → IsFragmentOf i p
secondary i p h =
    let a = and_parts (is_none p.parent) (has_no_codes i.codes && (eqb i.prologue_size 0
    && (eqb i.frame_register p.frame_register && eqb i.frame_offset p.frame_offset))) h in
    let b = and_parts (has_no_codes i.codes) (eqb i.prologue_size 0
    && (eqb i.frame_register p.frame_register && eqb i.frame_offset p.frame_offset)) a.1 in
    let c = and_parts (eqb i.prologue_size 0)
    (eqb i.frame_register p.frame_register && eqb i.frame_offset p.frame_offset) b.1 in
    let d = and_parts (eqb i.frame_register p.frame_register) (eqb i.frame_offset p.frame_offset)
    c.1 in
    record {
      codes = no_codes i.codes b.0;
      prologue = eqb-true i.prologue_size 0 c.0;
      register = eqb-true i.frame_register p.frame_register d.0;
      offset = eqb-true i.frame_offset p.frame_offset d.1;
    }

-- that to which it is chained isn't chained itself
pub primary_alone : (i p : Info) → is_secondary i p ≡ true → p.parent ≡ None
primary_alone i p h = no_parent p.parent (and_parts (is_none p.parent)
    (has_no_codes i.codes && (eqb i.prologue_size 0
    && (eqb i.frame_register p.frame_register && eqb i.frame_offset p.frame_offset))) h).0
