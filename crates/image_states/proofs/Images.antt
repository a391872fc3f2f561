-- The image of a compiled program has its bodies where the plan says.
use Rattle.std.proofs.Common.{◌≡◌, ℕ, suc, ◌+◌, ◌<◌, Bool, true, false, length, take, get_or, Option, Some, refl, sym, ap, subst, ◌∙◌, arith}
use Rattle.std.specs.Prelude.{if◌then◌else◌, slice_get}
use Rattle.std.proofs.lemmas.Option.{get_or_from_slice_get}
use Rattle.std.proofs.lemmas.Bool.{lt-ltb, ltb-true}
use Rattle.linear_code.specs.declared.instruction.Instruction.TheVariants as instructions
use Rattle.template_code.specs.ColdParts.{HasLabelsApart, falls_through}
use Rattle.template_code.proofs.ColdParts.{label_next}
use Rattle.image_tables.proofs.CodeInMemory.{get_is}
use Rattle.image_tables.proofs.Labels.{within_get}
use Rattle.image_states.specs.Words.{Instruction, LinearBody, LinearProgram, BodyName, body_of, sizes, template_size, body_size, is_cold, side_from, hot_code, cold_code, label_at, cold_size, Placed, body_begin, end_of, image_base, template_at, begin_of, links_of, entry_code, size_of, end_of_label, functions_of, funclets_of, routine_of, address_of, plan_of, sites_of, HasWholeImage, HasAddresses, HasEnds, ImagesArePrograms, probe_begin}
use Rattle.image_states.proofs.Leaves.{all_apart}
use Rattle.image_states.proofs.StubsPlaced.{handlers_small, handlers_apart}
use Rattle.image_states.proofs.SparedLocals.{spared}
use Rattle.image_states.proofs.Lemmas.{entry_sizes}
use Rattle.image_states.proofs.ColdLabels.{same_side}
use Rattle.image_states.proofs.Addresses.{InImage, check_stack_inside, place, here, own_cold, body_first, label_rises, body_inside, cold_inside, not_first, no_funclet_inside}
use Rattle.image_states.proofs.Slots.{laid_out, parameters_arrive}
use Rattle.image_states.proofs.Entering.{entry_same}
use Rattle.image_states.proofs.Framed.{frames_are_at, leaves_are_at', planned, one_frame}
use Rattle.image_states.proofs.Funclets.{funclets_begin}
use Rattle.image_states.proofs.Giving.{gives}
use Rattle.image_states.proofs.Resuming.{resumptions}
use Rattle.image_states.proofs.Found.{callers, callers_outside}
use Rattle.image_states.proofs.FunctionNames.{called_is_named, names_are_functions}

module _ (program : LinearProgram) (c : HasWholeImage program) (name : BodyName) (b : LinearBody)
    (is : body_of program name ≡ Some b) where
  abbrev x : Placed
  x = routine_of program name

  first_is : address_of program name 0 ≡ begin_of (plan_of program) (sites_of program) name
      + sizes (entry_code program (plan_of program) (sites_of program) name)
  first_is =
      let p = place program c name b is in
      let first = body_first program c name b is in
      let size = ap sizes (entry_same program c name b is)
      ∙ entry_sizes x.begin (probe_begin program) x.routine
      (here program c name b is).near in
      let begin = p.begin in
      omega arith

  moved_by : (h k : ℕ) (label : ℕ) (s : Bool)
      → image_base + ((if s then k else h)
      + body_size x.routine.layout (side_from b.cold s 0 (take label b.code)))
      ≡ (if s then image_base + k else image_base + h)
      + body_size x.routine.layout (side_from b.cold s 0 (take label b.code))
  moved_by h k label true = omega arith
  moved_by h k label false = omega arith

  labels_are : HasLabelsApart (links_of (plan_of program) (sites_of program) name)
      x.routine.layout (address_of program name 0) ((sites_of program).cold name) b
  labels_are label =
      let first = body_first program c name b is in
      let at : image_base + body_begin x ≡ address_of program name 0 = omega arith in
      ap (λ (d : LinearBody). image_base
      + label_at x.routine.layout (body_begin x) x.cold d.cold d.code label)
      (place program c name b is).body
      ∙ moved_by (body_begin x) x.cold label (is_cold b.cold label)
      ∙ ap (λ (n : ℕ). label_at x.routine.layout n (image_base + x.cold) b.cold b.code label) at

  same_length : length x.routine.body.code ≡ length b.code
  same_length = ap (λ (d : LinearBody). length d.code) (place program c name b is).body

  -- the instruction of a label
  own_get : (label : ℕ) → slice_get x.routine.body.code label ≡ slice_get b.code label
  own_get label = ap (λ (d : LinearBody). slice_get d.code label) (place program c name b is).body

  rises : (label : ℕ) → label < length b.code
      → address_of program name label < end_of_label program name label
  rises label lt =
      let i = within_get x.routine.body.code label (let e = same_length in omega arith) in
      let size = ap (size_of x.routine.layout) i.1 in
      let r = label_rises program c name b is label i.0 in
      omega arith

  inside : InImage program c (begin_of (plan_of program) (sites_of program) name)
      (address_of program name 0 + body_size x.routine.layout (hot_code b))
  inside =
      let p = place program c name b is in
      let first = body_first program c name b is in
      let size = ap (λ (d : LinearBody). body_size x.routine.layout (hot_code d)) p.body in
      let end : image_base + end_of x ≡ address_of program name 0
      + body_size x.routine.layout (hot_code b) = omega arith in
      subst (λ (from : ℕ). InImage program c from
      (address_of program name 0 + body_size x.routine.layout (hot_code b))) (sym p.begin)
      (subst (InImage program c (image_base + x.begin)) end (body_inside program c name b is))

  colds_inside : InImage program c ((sites_of program).cold name)
      ((sites_of program).cold name + body_size x.routine.layout (cold_code b))
  colds_inside =
      let p = place program c name b is in
      let size = ap (λ (d : LinearBody). body_size x.routine.layout (cold_code d)) p.body in
      let end : image_base + (x.cold + cold_size x.routine) ≡ image_base + x.cold
      + body_size x.routine.layout (cold_code b) = omega arith in
      subst (InImage program c (image_base + x.cold)) end (cold_inside program c name b is)

  pub addresses : HasAddresses (functions_of program) (funclets_of program) program
      (plan_of program) (sites_of program) name b
  addresses = record {
    first = first_is;
    labels = labels_are;
    rises = rises;
    inside = inside;
    cold_inside = colds_inside;
    not_first = λ label k lt lt'. not_first program c name b is k lt' label lt;
    no_funclet = λ a k from to lt. (let own = place program c name b is in
        let first = body_first program c name b is in
        let size = ap (λ (d : LinearBody). body_size x.routine.layout (hot_code d)) own.body in
        let end : image_base + end_of x ≡ address_of program name 0
        + body_size x.routine.layout (hot_code b) = omega arith in
        no_funclet_inside program c name b is k lt a (omega (arith, own.begin, from))
        (omega (arith, end, to)));
  }

  -- ---- where code ends

  sized : (label : ℕ) → label < length b.code → end_of_label program name label
      ≡ address_of program name label
      + template_size x.routine.layout (get_or b.code label instructions.Separator)
  sized label lt =
      let i = within_get b.code label lt in
      let other = get_or_from_slice_get b.code label i.0 instructions.Separator i.1 in
      ap (λ (o : Option Instruction). address_of program name label + size_of x.routine.layout o)
      (own_get label ∙ i.1)
      ∙ ap (λ (j : Instruction). address_of program name label
      + template_size x.routine.layout j) (sym other)

  follows : (label : ℕ) (i : Instruction) → slice_get b.code label ≡ Some i
      → falls_through i ≡ true
      → end_of_label program name label ≡ address_of program name (label + 1)
  follows label i there falls =
      let r = x.routine in
      let at : slice_get r.body.code label ≡ Some i = own_get label ∙ there in
      let got = get_is r.body.code label i at in
      let one : suc label ≡ label + 1 = omega arith in
      let side = ap (is_cold r.body.cold) one
      ∙ same_side r.body label i (own_cold program c name b is) at falls in
      let next = label_next r.layout (body_begin x) x.cold r.body.cold r.body.code label i got.0
      side
      in
      let size = ap (template_size r.layout) got.1 in
      let own = ap (size_of r.layout) at in
      let to = ap (λ (n : ℕ). template_at x n) one in
      omega arith

  pub ends : HasEnds (functions_of program) (funclets_of program) program (plan_of program)
      (sites_of program) name b
  ends = record { sized = sized; ends = follows }

pub images_are_programs : ImagesArePrograms
images_are_programs program c = record {
  gives = gives program c;
  laid_out = laid_out program c;
  addresses = λ name b is. addresses program c name b is;
  ends = λ name b is. ends program c name b is;
  one_frame = λ name b is framed. one_frame program c name b is framed;
  check_stack = check_stack_inside program c;
  registers = λ f x. refl;
  arrivals = parameters_arrive program c;
  spares = spared program c;
  lands = λ name b label is lt. lt-ltb label (length (routine_of program name).routine.body.code)
      (let e = same_length program c name b is in omega arith);
  landings = λ name b label is l. (let lt = ltb-true label
      (length (routine_of program name).routine.body.code) l in
      let e = same_length program c name b is in omega arith);
  plans = planned program c;
  frames = frames_are_at program c;
  leaves = leaves_are_at' program c;
  funclets = funclets_begin program c;
  resumptions = λ resumption b values saved. resumptions program b values saved resumption;
  callers = λ name b is. callers program c name b is;
  callers_outside = callers_outside program c;
  names = λ called. names_are_functions program c (called_is_named program called);
  functions_apart = all_apart program c;
  handlers_small = handlers_small program c;
  handlers_apart = λ adds f g lt lt' e. handlers_apart program c adds f g lt lt' e;
}
