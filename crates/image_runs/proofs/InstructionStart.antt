-- Where an instruction begins, a state is within it.
use Rattle.std.proofs.Common.{◌≡◌, ◌≤◌, Some, List, [], refl, sym, ap, subst, ◌∙◌, arith}
use Rattle.std.specs.Prelude.{slice_get}
use Rattle.image_runs.specs.Words.{State, Functions, Funclet, Instruction, LinearProgram, Configuration, instruction_in, instruction_at, sizes, template, IsReturn, ImagePlan, InCode, Sites, links_of, IsProgramImage, RepresentsAt, IsWithinInstruction, BeginningsAreWithin}
use Rattle.linear_code.specs.declared.instruction.Instruction.TheVariants as instructions
use Rattle.image_runs.proofs.Lemmas.{template_sizes, template_some, first_in_code, get_or_is, is_some}

module _ (t : Functions) (fs : List Funclet) (program : LinearProgram) (p : ImagePlan) (q : Sites)
    (image : IsProgramImage t fs program p q) (s : State) (c : Configuration) (i : Instruction)
    (b : RepresentsAt t fs program p q s c) (e : instruction_at program c ≡ Some i)
    (goes : IsReturn i → ⊥) where
  there : slice_get b.body.slots.code.code c.frame.next ≡ Some i
  there = sym (ap (λ o. instruction_in o c.frame.next) b.body.slots.body) ∙ e

  some : 1 ≤ sizes (template (links_of p q c.frame.body) (p.layout c.frame.body)
      (p.address c.frame.body c.frame.next) i)
  some =
      let n = template_sizes (links_of p q c.frame.body) (p.layout c.frame.body)
      (p.address c.frame.body c.frame.next) i in
      let k = template_some (p.layout c.frame.body) i in
      omega arith

  within : IsWithinInstruction t fs program p q s s c
  within =
      let x = is_some (template (links_of p q c.frame.body) (p.layout c.frame.body)
      (p.address c.frame.body c.frame.next) i) some in
      let here = b.rip in
      let g = get_or_is b.body.slots.code.code c.frame.next i instructions.Separator there in
      let first = first_in_code t fs program p q image c.frame.body b.body.slots.code c.frame.next
      b.body.slots.body g.1 in
      record {
        code = b.body.slots.code;
        body = b.body.slots.body;
        resumed = record {
          instruction = i;
          there = there;
          continues = goes;
          done = [];
          item = x.item;
          left = x.left;
          parts = x.parts;
          here = omega arith;
        };
        inside = subst (InCode p c.frame.body c.frame.next) (sym b.rip) first;
        small = b.body.slots.small;
        kept = refl;
        program_there = b.memory.code;
        stack = record {
          bytes = λ x l h. refl;
          protection = λ x l h. refl;
          code = λ x e. (refl, refl);
          no_more_code = λ x e. e;
        };
      }

pub beginnings_are_within : BeginningsAreWithin
beginnings_are_within t fs program p q image s c i b e goes = within t fs program p q image s c i b
    e goes
