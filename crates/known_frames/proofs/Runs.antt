-- Codes undone one by one.
use Rattle.std.proofs.Common.{◌≡◌, ℕ, ap, sym, ◌∙◌, Option, Some}
use Rattle.eh_tables.specs.Infos.{Info}
use Rattle.eh_tables.specs.declared.code.UnwindOperation.TheVariants.{Push}
use Rattle.frame_known.specs.declared.known.Known.{Known}
use Rattle.frame_known.specs.declared.known.Reach.{Reach}
use Rattle.frame_known.specs.Knowledge.{with_known}
use Rattle.frame_known.specs.Known.{read, risen, undone_one, ◌>>=◌}

pub push_undone : (reach : Reach) (words : ℕ → Option ℕ) (base : Known) (i : Info)
    (now f g : ℕ → Known) (r : ℕ) (x : Known) → read reach words (now 4) ≡ Some x
    → f ≡ with_known now r x → g ≡ risen 8 f
    → undone_one reach words base i now (Push r) ≡ Some g
push_undone reach words base i now f g r x e h k =
    ap (λ o. o >>= λ x. Some (risen 8 (with_known now r x))) e
    ∙ ap Some (sym (k ∙ ap (risen 8) h))
